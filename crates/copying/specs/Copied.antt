-- The pairs of a run's records, copied to the start of areas of loads and of times. Assumes nothing.
use Rattle.std.specs.Prelude.{◌≡◌, refl, List, [], ◌∷◌, ◌++◌, map, ℕ, zero, suc, ◌+◌, ◌<◌, ℤ, pos, length, get_or, set, take, drop}
use Rattle.std.proofs.Common.{sym, ap, ◌∙◌, arith}
use Rattle.std.proofs.lemmas.List.{length-map}
use Rattle.rules.specs.declared.Cand.{Cand}
use Rattle.rules.specs.Areas.{zeros}
use Rattle.entries.specs.Words.{copy_more}

-- a start of one list copied over another's
abbrev pub copied : {A : Type 0} → ℕ → (from to : List A) → List A
copied i from to = take i from ++ drop i to

abbrev pub loads_of : List Cand → List ℕ
loads_of v = map (λ c. c.load.0) v

abbrev pub times_of : List Cand → List ℤ
times_of v = map (λ c. c.time.0) v

map_at : {A B : Type 0} (f : A → B) (l : List A) (i : ℕ) (a : A) (b : B) → i < length l → get_or (map f l) i b ≡ f (get_or l i a)
map_at f [] i a b h = absurd (omega arith)
map_at f (x ∷ l) zero a b h = refl
map_at f (x ∷ l) (suc i) a b h = map_at f l i a b (omega arith)

-- a record's load and time, written where they belong
pub load-more : (i : ℕ) (v : List Cand) (to l z : List ℕ) (c : Cand) → i < length v → i < length to → l ≡ copied i (loads_of v) to → c ≡ get_or v i zeros → z ≡ set l i c.load.0 → z ≡ copied (i + 1) (loads_of v) to
load-more i v to l z c h k l-is c-is z-is =
    let x : c.load.0 ≡ get_or (loads_of v) i 0 = ap (λ (y : Cand). y.load.0) c-is ∙ sym (map_at (λ (y : Cand). y.load.0) v i zeros 0 h) in
    z-is ∙ rw (l-is, x) (copy_more (loads_of v) to i 0 (rw length-map h) k)

pub time-more : (i : ℕ) (v : List Cand) (to l z : List ℤ) (c : Cand) → i < length v → i < length to → l ≡ copied i (times_of v) to → c ≡ get_or v i zeros → z ≡ set l i c.time.0 → z ≡ copied (i + 1) (times_of v) to
time-more i v to l z c h k l-is c-is z-is =
    let x : c.time.0 ≡ get_or (times_of v) i (pos 0) = ap (λ (y : Cand). y.time.0) c-is ∙ sym (map_at (λ (y : Cand). y.time.0) v i zeros (pos 0) h) in
    z-is ∙ rw (l-is, x) (copy_more (times_of v) to i (pos 0) (rw length-map h) k)
