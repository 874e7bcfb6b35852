-- What is true of the method at every row of an accepted net: its list is the front of what legal placements reach there, and at the driver
-- there is a planned placement. Assumes nothing.
use Rattle.std.specs.Prelude.{◌≡◌, List, [], ◌∷◌, ℕ, ◌≤◌, ◌<◌, length}
use Rattle.std.proofs.Math.Option.{some}
use Rattle.std.proofs.Common.{arith, mul-le-mul}
use Rattle.rules.specs.declared.Row.{Row}
use Rattle.rules.specs.Lists.{Any, here, there}
use Rattle.rules.specs.Entries.{Repeater}
use Rattle.rules.specs.Placements.{Placement}
use Rattle.rules.specs.Net.{Tree, at_row, driver_ohms}
use Rattle.laws.specs.Candidates.{Cand, Front}
use Rattle.laws.specs.Method.{Reaches, cand_of, reaches, empty-legal, front_of, planned}
use Rattle.laws.proofs.Method.{method}
use Rattle.laws.proofs.Bounds.{reached-length}
use Rattle.laws.specs.Accepted.{Accepted}
use Rattle.laws.specs.Rows.{rows-two}
use Rattle.laws.specs.Whole.{tree-at}
use Rattle.laws.specs.Within.{within-tree}
use Rattle.laws.specs.MethodAt.{MethodAt, PlannedAt}

some-there : {A : Type 0} {P : A → Type 0} {l : List A} → Any P l → 1 ≤ length l
some-there (here h) = omega arith
some-there (there t) = omega arith

module _ {types : List Repeater} {rows : List Row} (ok : Accepted types rows) where
  -- at every row the list is the front of what is reached, of at most one and one for each type at each site, 257 in all
  pub method-at : (r : ℕ) → r < length rows → MethodAt types rows r
  method-at r h =
      let (t, e, p) = tree-at ok r h in
      let F = method types t p in
      let short = reached-length types t (front_of types t) p F in
      let w = within-tree ok r h t e in
      record { tree = t; tree_is = e; proper = p; front = F; short = short; room = omega (arith, short, mul-le-mul ok.types_few w.few) }

  -- a planned placement exists
  pub planned-at : PlannedAt types rows
  planned-at = let m = method-at 0 (omega (arith, rows-two ok)) in go m.tree m.tree_is (front_of types m.tree) m.front
    where
      go : (t : Tree) → at_row rows 0 ≡ some t → (l : List (Cand Placement)) → Front (Reaches types t) l → PlannedAt types rows
      go t e [] F = absurd (omega (arith, some-there (F.whole (cand_of types t (λ j. 0)) (reaches types (empty-legal types t)))))
      go t e (x ∷ l) F = record { tree = t; tree_is = e; placement = _; slack = _; on_driver = _; planned = planned types (driver_ohms rows) t F }
