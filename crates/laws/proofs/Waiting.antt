-- The room, over all rows at once: while the rows are taken, whatever their order, the lists that wait hold at most 511 candidates and
-- the one being made 257. Assumes nothing.
use Rattle.std.specs.Prelude.{◌≡◌, List, length, drop}
use Rattle.std.proofs.Common.{subst, mul-le-mul, length-drop}
use Rattle.std.proofs.Math.Option.{Option, none, some}
use Prim.Native.Nat.{ℕ, zero, suc, ◌+◌, ◌*◌, ◌≤◌, ◌<◌, ◌-◌}
use native.Mathlib.Omega.{arith}
use Rattle.rules.specs.declared.Row.{Row}
use Rattle.rules.specs.Quantities.{list_room, work_room}
use Rattle.rules.specs.Entries.{Repeater, sites_of}
use Rattle.rules.specs.Placements.{Placement}
use Rattle.rules.specs.Net.{Tree, hangs, at_row}
use Rattle.rules.specs.Pairs.{sites_on}
use Rattle.laws.specs.Candidates.{Cand, Front}
use Rattle.laws.specs.Method.{Proper, Reaches}
use Rattle.laws.proofs.Bounds.{reached-length}
use Rattle.laws.specs.Accepted.{Accepted}
use Rattle.laws.specs.Rows.{sites-few-from}
use Rattle.laws.specs.Hanging.{ProperIf, hangs-parted, at-proper}
use Rattle.laws.specs.Sums.{sum_to, over, Measure, hangs-sum}
use Rattle.laws.specs.Within.{within-tree}
use Rattle.laws.specs.Waiting.{FrontIf, length_if}

-- ---- over all rows at once
-- one candidate, and one for each type at each site
abbrev most_long : (types : ℕ) → Tree → ℕ
most_long types t = 1 + types * sites_on t

measure-long : (types : ℕ) → Measure (most_long types) 0 1 types
unfolding sites_on
measure-long types = record { pin = λ pin due. omega arith; site = λ k t. omega arith; wire = λ w t. omega arith; both = λ a b. omega arith }

module _ (types : List Repeater) where
  one-length : (u : Option Tree) (l : Option (List (Cand Placement))) → ProperIf u → FrontIf types u l → length_if types l ≤ over (most_long (length types)) u
  one-length none none p F = omega arith
  one-length none (some l) p F = absurd F
  one-length (some t) none p F = absurd F
  one-length (some t) (some l) p F = reached-length types t l p F

  -- the lists that wait for the rows before i, when the rows from i on are taken: one candidate a row, and one for each type at each site
  pub waiting-length : (i k : ℕ) (rows : List Row) (lists : ℕ → Option (List (Cand Placement))) → ((r : ℕ) → r < i → FrontIf types (hangs i k rows r) (lists r)) → sum_to (λ r. length_if types (lists r)) i ≤ length rows + length types * sites_of rows
  unfolding sum_to
  waiting-length i k rows lists W = omega (arith, go i (omega arith), hangs-sum (measure-long (length types)) i k rows)
    where
      go : (n : ℕ) → n ≤ i → sum_to (λ r. length_if types (lists r)) n ≤ sum_to (λ r. over (most_long (length types)) (hangs i k rows r)) n
      go zero h = omega arith
      go (suc n) h = omega (arith, go n (omega arith), one-length (hangs i k rows n) (lists n) ((hangs-parted i k rows).proper n h) (W n h))

module _ {types : List Repeater} {rows : List Row} (ok : Accepted types rows) where
  -- at most 511 candidates wait
  pub accepted-waiting : (i k : ℕ) (lists : ℕ → Option (List (Cand Placement))) → 1 ≤ i → ((r : ℕ) → r < i → FrontIf types (hangs i k (drop i rows) r) (lists r)) → sum_to (λ r. length_if types (lists r)) i ≤ work_room - list_room
  accepted-waiting i k lists h W = omega (arith, waiting-length types i k (drop i rows) lists W, length-drop i rows, ok.rows_few, mul-le-mul ok.types_few (sites-few-from ok i))

  -- the list being made holds at most 257
  pub accepted-made : (r : ℕ) → r < length rows → (t : Tree) → at_row rows r ≡ some t → (l : List (Cand Placement)) → Front (Reaches types t) l → length l ≤ list_room
  accepted-made r h t e l F =
      let p : Proper t = subst (λ u. ProperIf u) e (at-proper rows r h) in
      let w = within-tree ok r h t e in
      omega (arith, reached-length types t l p F, mul-le-mul ok.types_few w.few)

  -- 768 are enough
  pub accepted-room : (i k : ℕ) (lists : ℕ → Option (List (Cand Placement))) → 1 ≤ i → ((r : ℕ) → r < i → FrontIf types (hangs i k (drop i rows) r) (lists r))
      → (r : ℕ) → r < length rows → (t : Tree) → at_row rows r ≡ some t → (l : List (Cand Placement)) → Front (Reaches types t) l → sum_to (λ r. length_if types (lists r)) i + length l ≤ work_room
  accepted-room i k lists h W r g t e l F = omega (arith, accepted-waiting i k lists h W, accepted-made r g t e l F)
