-- What is said of the choice at the driver and of the area cleared: `picked::choose` and `clearing::clear` for the columns,
-- `records::choose` and `records::clear` for the records. Assumes nothing.
use Rattle.std.specs.Prelude.{◌≡◌, List, ◌++◌, ℕ, ◌*◌, ℤ, pos, drop, replicate}
use Rattle.rules.specs.declared.Cand.{Cand}
use Rattle.rules.specs.Areas.{Columns}
use Rattle.rules.specs.Quantities.{placement_room, work_room}
use Rattle.rules.specs.Placements.{marks}
use Rattle.picked.specs.Picked.{Ready, Choice}
use Rattle.turns.specs.declared.Pass.{Pass}
use Rattle.runs.specs.Passes.{Swept}
use Rattle.records.specs.Entries.{driver_pass, Chooses, cleared}
use Rattle.stands.specs.Alike.{in_columns, StandAlike, LongIn}

-- ---- the choice at the driver: `picked::choose`, and `records::choose`
-- one slack, one load on the driver and one placement; the run of records stays as it is
pub record SameChoice (slack : ℤ) (on_driver : ℕ) (words : List ℕ) (q : Pass) (r r' : List Cand) : Type 0 where
  pub slack_same : slack ≡ q.worth.0
  pub load_same : on_driver ≡ q.held.load.0
  pub place_same : marks words ≡ marks q.held.words
  pub run_same : r' ≡ r

abbrev pub DriverAlike : Type 0
DriverAlike =
    (rows : List ℕ) (due : List ℤ) (c : Columns) (r : List Cand) (len : ℕ) (before : List ℕ) → LongIn r → Ready rows due c.loads c.times c.words len before → StandAlike c r len
    → Chooses rows due len r
    × ((after : List ℕ) (slack : ℤ) (on_driver : ℕ) (C : Choice rows due (in_columns c) len before after slack on_driver) (q : Pass) (r' : List Cand)
    → Swept (driver_pass rows due len) r q r'
    → SameChoice slack on_driver C.words q r r')

-- ---- the area cleared: `clearing::clear` over the room, and `records::clear`
-- the words of all candidates that there is room for
abbrev pub words_room : ℕ
words_room = placement_room * work_room

abbrev pub ClearAlike : Type 0
ClearAlike =
    (c c' : Columns) (r r' : List Cand)
    → c'.loads ≡ replicate work_room 0 ++ drop work_room c.loads → c'.times ≡ replicate work_room (pos 0) ++ drop work_room c.times → c'.words ≡ replicate words_room 0 ++ drop words_room c.words
    → r' ≡ cleared r
    → StandAlike c' r' work_room
