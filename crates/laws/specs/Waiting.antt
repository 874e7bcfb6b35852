-- The lists that wait, over all rows at once: one for what hangs somewhere and none where nothing hangs, and how long it is. Assumes
-- nothing.
use Rattle.std.specs.Prelude.{List, length}
use Rattle.std.proofs.Math.Option.{Option, none, some}
use Prim.Native.Nat.{ℕ}
use Rattle.rules.specs.Entries.{Repeater}
use Rattle.rules.specs.Placements.{Placement}
use Rattle.rules.specs.Net.{Tree}
use Rattle.laws.specs.Candidates.{Cand, Front}
use Rattle.laws.specs.Method.{Reaches}

-- ---- over all rows at once
module _ (types : List Repeater) where
  -- a list for what hangs somewhere, and none where nothing hangs
  abbrev pub FrontIf : Option Tree → Option (List (Cand Placement)) → Type 0
  FrontIf none none = Unit {0}
  FrontIf none (some l) = ⊥
  FrontIf (some t) none = ⊥
  FrontIf (some t) (some l) = Front (Reaches types t) l

  -- how long it is
  abbrev pub length_if : Option (List (Cand Placement)) → ℕ
  length_if none = 0
  length_if (some l) = length l
