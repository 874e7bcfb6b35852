-- What is said of the steps of the recursion: a row's list behind the row's wire, and joined with the list that waits under the same
-- parent, if one does. For the columns the premises are the `requires` and `ensures` of `walks::steps::wire_row` and `walks::steps::hang`,
-- for the records the `ensures` of `jobs::hang`. Assumes nothing.
use Rattle.std.specs.Prelude.{true, false, List, ℕ, ◌+◌, ◌*◌, ◌≤◌, length}
use Rattle.rules.specs.declared.Cand.{Cand}
use Rattle.rules.specs.declared.Row.{Row}
use Rattle.rules.specs.Areas.{Columns}
use Rattle.rules.specs.Net.{wire_of}
use Rattle.rules.specs.Quantities.{most_ohms, types_room}
use Rattle.rules.specs.Tables.{words_a_type}
use Rattle.laws.specs.Steps.{merge}
use Rattle.laws.specs.Joining.{join_marks}
use Rattle.laws.specs.Moves.{wire_step}
use Rattle.columns.specs.Parts.{part}
use Rattle.columns.specs.Made.{Gives}
use Rattle.walks.specs.Made.{Wired, Hang}
use Rattle.jobs.specs.Jobs.{Able, Worked, hang_job}
use Rattle.stands.specs.Alike.{in_columns, StandAlike, AlikeAfter, LongIn}

-- ---- a row x where no list waits: `walks::steps::wire_row`, and `jobs::hang` with no later row
abbrev pub AloneAlike : Type 0
AloneAlike =
    (types : List ℕ) (x : Row) (c : Columns) (r : List Cand) (at n : ℕ) → words_a_type * types_room ≤ length types → LongIn r → x.resistance.0 ≤ most_ohms
    → Wired (in_columns c) at n (wire_of x) → StandAlike c r (at + n)
    → Able types (hang_job x false at 0 n) r
    × ((c' : Columns) (r' : List Cand) (len len' : ℕ)
    → Gives (in_columns c) (in_columns c') at len (wire_step (wire_of x) (part at (at + n) (in_columns c)))
    → Worked types (hang_job x false at 0 n) r r' len'
    → AlikeAfter c' r' at len len')

-- ---- a row x where a list of m waits: `walks::steps::hang`, and `jobs::hang` with a later row
abbrev pub HangAlike : Type 0
HangAlike =
    (types : List ℕ) (x : Row) (c : Columns) (r : List Cand) (at m n : ℕ) → words_a_type * types_room ≤ length types → LongIn r → x.resistance.0 ≤ most_ohms
    → Hang (in_columns c) at m n (wire_of x) → StandAlike c r (at + m + n)
    → Able types (hang_job x true at m n) r
    × ((c' : Columns) (r' : List Cand) (len len' : ℕ)
    → Gives (in_columns c) (in_columns c') at len (merge join_marks (wire_step (wire_of x) (part (at + m) (at + m + n) (in_columns c))) (part at (at + m) (in_columns c)))
    → Worked types (hang_job x true at m n) r r' len'
    → AlikeAfter c' r' at len len')
