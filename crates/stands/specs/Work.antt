-- What is said of the work areas after a call of an entry: all zero over the room where nothing was refused, as they were where something
-- was. And a promise with the work area left out. Assumes nothing.
use Rattle.std.specs.Prelude.{◌≡◌, Bool, List, ℕ, ◌<◌}
use Rattle.rules.specs.declared.Cand.{Cand}
use Rattle.rules.specs.Areas.{Storage, Columns, columns, records}
use Rattle.rules.specs.Quantities.{work_room}
use Rattle.stands.specs.Alike.{StandAlike}

-- after two calls that told a number: where nothing was refused (0) both areas are all zero over their room, and so stand alike there; where
-- something was refused each is as it was
pub record WorkAlike (number : ℕ) (c c' : Columns) (r r' : List Cand) : Type 0 where
  pub columns_zero : number ≡ 0 → c' ≡ columns.cleared c
  pub records_zero : number ≡ 0 → r' ≡ records.cleared r
  pub alike : number ≡ 0 → StandAlike c' r' work_room
  pub columns_kept : 0 < number → c' ≡ c
  pub records_kept : 0 < number → r' ≡ r

-- one of them
pub record Left {W : Type 0} (s : Storage W) (number : ℕ) (before after : W) : Type 0 where
  pub zero : number ≡ 0 → after ≡ s.cleared before
  pub kept : 0 < number → after ≡ before

-- a storage of which nothing is told but whether it is short
abbrev pub untold : Bool → Storage (Unit {0})
untold b = record { short = λ w. b; cleared = λ w. w }
