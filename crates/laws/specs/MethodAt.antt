-- What is said of the method at a row of an accepted net: its tree, with a list that is the front of what legal placements reach there; and
-- of the driver, that there is a planned placement. Assumes nothing.
use Rattle.std.specs.Prelude.{◌≡◌, List, ℕ, ◌+◌, ◌*◌, ◌≤◌, ℤ, length}
use Rattle.std.proofs.Math.Option.{some}
use Rattle.rules.specs.declared.Row.{Row}
use Rattle.rules.specs.Quantities.{list_room}
use Rattle.rules.specs.Entries.{Repeater}
use Rattle.rules.specs.Placements.{Placement}
use Rattle.rules.specs.Net.{Tree, at_row, driver_ohms}
use Rattle.rules.specs.Pairs.{sites_on, Planned}
use Rattle.laws.specs.Candidates.{Front}
use Rattle.laws.specs.Method.{Proper, Reaches, front_of}

-- the tree at a row, with its list
pub record MethodAt (types : List Repeater) (rows : List Row) (r : ℕ) : Type 0 where
  pub tree : Tree
  pub tree_is : at_row rows r ≡ some tree
  pub proper : Proper tree
  pub front : Front (Reaches types tree) (front_of types tree)
  pub short : length (front_of types tree) ≤ 1 + length types * sites_on tree
  pub room : length (front_of types tree) ≤ list_room

-- a placement of greatest slack at the driver
pub record PlannedAt (types : List Repeater) (rows : List Row) : Type 0 where
  pub tree : Tree
  pub tree_is : at_row rows 0 ≡ some tree
  pub placement : Placement
  pub slack : ℤ
  pub on_driver : ℕ
  pub planned : Planned types (driver_ohms rows) tree placement slack on_driver
