-- What is true of work areas that stand alike: what a list has alike there, and what a step has to leave for that to stay so. Assumes
-- nothing.
use Rattle.std.specs.Prelude.{◌≡◌, List, [], ◌∷◌, ◌++◌, ℕ, zero, suc, ◌+◌, ◌≤◌, ◌<◌, length, get_or, set, take}
use Rattle.std.proofs.Common.{sym, ap, ap₂, ◌∙◌, arith, length-set, length-take, length-drop, get_or-set_same}
use Rattle.rules.specs.declared.Cand.{Cand}
use Rattle.rules.specs.Areas.{Columns}
use Rattle.rules.specs.Quantities.{work_room}
use Rattle.columns.specs.Parts.{part, part-snoc, part-over, part-split, part-less, part-part, part_at, part_length}
use Rattle.columns.specs.Run.{Candidate, blank}
use Rattle.columns.specs.Made.{Stand, Gives}
use Rattle.columns.specs.Moving.{Moved}
use Rattle.runs.specs.Cands.{cands-length}
use Rattle.stands.specs.Alike.{in_records, LongIn, Alike, in_columns, StandAlike, AlikeAfter}

-- ---- what a work area stands for
pub long-run : (r : List Cand) (n : ℕ) → LongIn r → n ≤ work_room → n ≤ length (in_records r)
long-run r n long h = rw (cands-length r) (omega arith)

-- ---- what stands alike
module _ {w v : List Candidate} where
  -- a list at a place is the same
  pub alike-list : (at e : ℕ) → Alike w v e → part at e w ≡ part at e v
  alike-list at e a = part-part at e v w a.same

  -- up to a lesser place
  pub alike-less : (d e : ℕ) → d ≤ e → Alike w v e → Alike w v d
  alike-less d e h a = record { same = part-less d e v w h a.same }

  -- one candidate
  pub alike_at : (e i : ℕ) → i < e → Alike w v e → get_or w i blank ≡ get_or v i blank
  alike_at e i h a = part_at e i v w blank h a.same

  -- candidates in their ranges
  pub alike-stand : (at n : ℕ) → Alike w v (at + n) → Stand w at n → Stand v at n
  alike-stand at n a s = record { some = s.some; place = s.place; fit = rw (alike-list at (at + n) a) at s.fit }

-- ---- what a step leaves
-- a part with something in it, as long as it is said to be, ends inside the run
pub part-long : {A : Type 0} (at n : ℕ) (w : List A) → length (part at (at + suc n) w) ≡ suc n → at + suc n ≤ length w
unfolding part
part-long at n w e = omega (arith, length-drop at (take (at + suc n) w), length-take (at + suc n) w)

-- the same start, and the same list after it
pub alike-join : {w v : List Candidate} (at n : ℕ) → Alike w v at → part at (at + n) w ≡ part at (at + n) v → length (part at (at + n) w) ≡ n → Alike w v (at + n)
alike-join at zero a l e = let z : at + 0 ≡ at = omega arith in rw z a
alike-join {w} {v} at (suc n) a l e =
    let h = part-long at n w e in
    let k = part-long at n v (rw l at e) in
    record { same = part-split 0 at (at + suc n) w blank (omega arith) (omega arith) h ∙ ap₂ ◌++◌ a.same l ∙ sym (part-split 0 at (at + suc n) v blank (omega arith) (omega arith) k) }

-- a list made at a place, the same on either side
pub gives-alike : (c c' : Columns) (r r' : List Cand) (at len len' : ℕ) (l m : List Candidate) → StandAlike c r at → l ≡ m → Gives (in_columns c) (in_columns c') at len l → Gives (in_records r) (in_records r') at len' m → AlikeAfter c' r' at len len'
gives-alike c c' r r' at len len' l m a e g k =
    let n : len ≡ len' = sym g.count_is ∙ ap length e ∙ k.count_is in
    let start : StandAlike c' r' at = record { same = g.before ∙ a.same ∙ sym k.before } in
    record { count = n; alike = alike-join at len start (g.list ∙ e ∙ sym (rw (← n) at k.list)) (ap length g.list ∙ g.count_is) }

-- one stored right after what stands alike
pub store-alike : {w v : List Candidate} (at : ℕ) (x : Candidate) → at < length w → at < length v → Alike w v at → Alike (set w at x) (set v at x) (at + 1)
store-alike {w} {v} at x h k a = record { same = put w h ∙ ap (λ (l : List Candidate). l ++ (x ∷ [])) a.same ∙ sym (put v k) }
  where
    put : (u : List Candidate) → at < length u → part 0 (at + 1) (set u at x) ≡ part 0 at u ++ (x ∷ [])
    put u l = part-snoc 0 at (set u at x) blank (omega arith) (rw length-set l) ∙ ap₂ (λ (f : List Candidate) (y : Candidate). f ++ (y ∷ [])) (part-over 0 at u at x (omega arith)) (get_or-set_same u at x blank l)

-- a list moved on both sides
pub moved-alike : {w w' v v' : List Candidate} (from to n : ℕ) → to ≤ from → from + n ≤ length w → Alike w v (from + n) → Moved w w' from to n → Moved v v' from to n → Alike w' v' (to + n)
moved-alike {w} {w'} {v} {v'} from to n h long a m k =
    let start : Alike w' v' to = record { same = m.before ∙ (alike-less to (from + n) (omega arith) a).same ∙ sym k.before } in
    alike-join to n start (m.list ∙ alike-list from (from + n) a ∙ sym k.list) (ap length m.list ∙ part_length from (from + n) w long ∙ omega arith)
