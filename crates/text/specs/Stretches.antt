-- Stretches of a text by place: how many bytes stand before the next parting byte, the stretch that they are, and that a text parted
-- by a byte is its first stretch and the others. Assumes nothing.
use Rattle.std.specs.Prelude.{◌≡◌, refl, Bool, true, false, cond, List, [], ◌∷◌, ℕ, suc, ◌+◌, ◌≤◌, ◌<◌, eqb, length, take, drop, get_or}
use Prim.Native.Char.{code}
use Rattle.std.proofs.Common.{arith, add-one, drop_of_length-le, length-take-le, drop-cons, eq-eqb, ne_eqb}
use Rattle.rules.specs.Text.{parted}

abbrev pub tab : ℕ
tab = code "\t"

abbrev pub line_feed : ℕ
line_feed = code "\n"

-- how many bytes stand before the first such byte
unfoldable pub lead : (by : ℕ) → List ℕ → ℕ
lead by [] = 0
lead by (b ∷ s) = cond (eqb b by) 0 (suc (lead by s))

-- the bytes before it
abbrev pub stretch : (by : ℕ) → List ℕ → List ℕ
stretch by s = take (lead by s) s

-- ---- laws
-- a test is true or false
pub either : {P : Type 0} (t : Bool) → (t ≡ true → P) → (t ≡ false → P) → P
either true yes' no' = yes' refl
either false yes' no' = no' refl

pub absurd : {P : Type 0} → ⊥ → P
absurd h = elim h [ ]

pub lead-found : (by b : ℕ) (s : List ℕ) → eqb b by ≡ true → lead by (b ∷ s) ≡ 0
unfolding lead
lead-found by b s e = rw e

pub lead-passed : (by b : ℕ) (s : List ℕ) → eqb b by ≡ false → lead by (b ∷ s) ≡ suc (lead by s)
unfolding lead
lead-passed by b s e = rw e

parted-found : (by b : ℕ) (s : List ℕ) → eqb b by ≡ true → parted by (b ∷ s) ≡ [] ∷ parted by s
unfolding parted
parted-found by b s e = rw e

parted-passed : (by b : ℕ) (s t : List ℕ) (rest : List (List ℕ)) → eqb b by ≡ false → parted by s ≡ t ∷ rest → parted by (b ∷ s) ≡ (b ∷ t) ∷ rest
unfolding parted
parted-passed by b s t rest e h = rw (e, h)

pub lead-le : (by : ℕ) (s : List ℕ) → lead by s ≤ length s
unfolding lead
lead-le by [] = omega arith
lead-le by (b ∷ s) =
    either (eqb b by)
    (λ e. omega (arith, lead-found by b s e))
    (λ e. omega (arith, lead-passed by b s e, lead-le by s))

-- no such byte: the text is its one stretch
pub parted-last : (by : ℕ) (s : List ℕ) → lead by s ≡ length s → parted by s ≡ s ∷ []
unfolding parted lead
parted-last by [] h = refl
parted-last by (b ∷ s) h =
    either (eqb b by)
    (λ e. absurd (omega (arith, lead-found by b s e)))
    (λ e. parted-passed by b s s [] e (parted-last by s (omega (arith, lead-passed by b s e))))

-- the first stretch, and what is after the byte that ends it
pub parted-more : (by : ℕ) (s : List ℕ) → lead by s < length s → parted by s ≡ stretch by s ∷ parted by (drop (suc (lead by s)) s)
unfolding lead
parted-more by [] h = absurd (omega arith)
parted-more by (b ∷ s) h =
    either (eqb b by)
    (λ e. rw (lead-found by b s e) (parted-found by b s e))
    (λ e. rw (lead-passed by b s e) (parted-passed by b s (stretch by s) (parted by (drop (suc (lead by s)) s)) e (parted-more by s (omega (arith, lead-passed by b s e)))))

-- a stretch is as long as its lead
pub length-stretch : (by : ℕ) (s : List ℕ) → length (stretch by s) ≡ lead by s
length-stretch by s = length-take-le (lead by s) s (lead-le by s)

-- ---- the lead from a place on: at the end, at such a byte, at another
pub lead-end : (by : ℕ) (s : List ℕ) (i : ℕ) → length s ≤ i → lead by (drop i s) ≡ 0
unfolding lead
lead-end by s i h = rw (drop_of_length-le s h)

pub lead-here : (by : ℕ) (s : List ℕ) (i : ℕ) → i < length s → get_or s i 0 ≡ by → lead by (drop i s) ≡ 0
lead-here by s i h e = rw (drop-cons s i 0 h) (lead-found by (get_or s i 0) (drop (suc i) s) (eq-eqb (get_or s i 0) by e))

pub lead-there : (by : ℕ) (s : List ℕ) (i : ℕ) → i < length s → (get_or s i 0 ≡ by → ⊥) → lead by (drop i s) ≡ suc (lead by (drop (i + 1) s))
lead-there by s i h e = rw (drop-cons s i 0 h, add-one i) (lead-passed by (get_or s i 0) (drop (suc i) s) (ne_eqb (get_or s i 0) by e))

-- past the end of a text there is an empty stretch
pub stretch-past : (by : ℕ) (s : List ℕ) (i : ℕ) → length s ≤ i → [] ≡ stretch by (drop i s)
unfolding lead
stretch-past by s i h = rw (drop_of_length-le s h)
