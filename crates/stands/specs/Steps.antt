-- What is said of the steps on whole lists: where columns and records stand alike and the columns may take a step, the records may take it,
-- and both stand alike after it. For the columns the premises are the `requires` and the `ensures` of the step's function, for the records
-- the `ensures` of `runs::passes::sweep` for the step's pass. Assumes nothing.
use Rattle.std.specs.Prelude.{◌≡◌, List, map, ℕ, ◌+◌, ◌-◌, ◌≤◌, ◌<◌, set}
use Rattle.rules.specs.declared.Cand.{Cand}
use Rattle.rules.specs.declared.Ohm.{Ohm}
use Rattle.rules.specs.declared.Femtofarad.{Femtofarad}
use Rattle.rules.specs.declared.Femtosecond.{Femtosecond}
use Rattle.rules.specs.Areas.{Columns}
use Rattle.rules.specs.Quantities.{most_ohms, work_room}
use Rattle.rules.specs.Lists.{All}
use Rattle.laws.specs.Steps.{merge}
use Rattle.laws.specs.Joining.{join_marks}
use Rattle.laws.specs.Moves.{behind, wire_step}
use Rattle.columns.specs.Parts.{part}
use Rattle.columns.specs.Run.{candidate}
use Rattle.columns.specs.Made.{Fit, Stand, Gives, wire_of}
use Rattle.columns.specs.Moving.{Moved}
use Rattle.branches.specs.Branching.{Pair}
use Rattle.turns.specs.declared.Step.TheVariants.{Put, Move, FirstWire, Branch}
use Rattle.turns.specs.declared.Pass.{Pass}
use Rattle.turns.specs.Turns.{pass_of}
use Rattle.values.specs.Records.{plain_of}
use Rattle.runs.specs.Passes.{Safe, Swept}
use Rattle.stands.specs.Alike.{in_columns, StandAlike, AlikeAfter, RoomIn, LongIn}

-- ---- a pin put down: `columns::cells::put_pin`, and a pass that puts one record
abbrev pub PinAlike : Type 0
PinAlike =
    (c : Columns) (r : List Cand) (at : ℕ) (load : Femtofarad) (due worth : Femtosecond) → RoomIn c → LongIn r → at < work_room → StandAlike c r at
    → Safe (pass_of Put 1 at at at (plain_of load due) worth) r
    × ((c' : Columns) (r' : List Cand) (q : Pass)
    → in_columns c' ≡ set (in_columns c) at (candidate load.0 due.0 (λ j. 0))
    → Swept (pass_of Put 1 at at at (plain_of load due) worth) r q r'
    → StandAlike c' r' (at + 1))

-- ---- a list behind a wire: `wires::wire_list`, and its pass
abbrev pub WireAlike : Type 0
WireAlike =
    (c : Columns) (r : List Cand) (at n : ℕ) (ohms : Ohm) (cap : Femtofarad) (held : Cand) (worth : Femtosecond) → LongIn r
    → Stand (in_columns c) at n → ohms.0 ≤ most_ohms → All Fit (map (behind (wire_of ohms.0 cap.0)) (part at (at + n) (in_columns c))) → StandAlike c r (at + n)
    → Safe (pass_of (FirstWire ohms cap) n at at at held worth) r
    × ((c' : Columns) (r' : List Cand) (q : Pass) (len : ℕ)
    → Gives (in_columns c) (in_columns c') at len (wire_step (wire_of ohms.0 cap.0) (part at (at + n) (in_columns c)))
    → Swept (pass_of (FirstWire ohms cap) n at at at held worth) r q r'
    → AlikeAfter c' r' at len (q.to - at))

-- ---- two lists joined where branches meet: `branches::join_lists`, and the passes that join them past both and move the joined list down
abbrev pub JoinAlike : Type 0
JoinAlike =
    (c : Columns) (r : List Cand) (at m n : ℕ) (held held₁ : Cand) (worth worth₁ : Femtosecond) → LongIn r → Pair (in_columns c) at m n → StandAlike c r (at + m + n)
    → Safe (pass_of (Branch (at + m + n) (at + m)) (m + n) (at + m) at (at + m + n) held worth) r
    × ((r₁ : List Cand) (q : Pass) → Swept (pass_of (Branch (at + m + n) (at + m)) (m + n) (at + m) at (at + m + n) held worth) r q r₁
    → Safe (pass_of Move (q.to - (at + m + n)) (at + m + n) at at held₁ worth₁) r₁
    × ((c' : Columns) (r₂ : List Cand) (q₁ : Pass) (len : ℕ)
    → Gives (in_columns c) (in_columns c') at len (merge join_marks (part (at + m) (at + m + n) (in_columns c)) (part at (at + m) (in_columns c)))
    → Swept (pass_of Move (q.to - (at + m + n)) (at + m + n) at at held₁ worth₁) r₁ q₁ r₂
    → AlikeAfter c' r₂ at len (q.to - (at + m + n))))

-- ---- a list moved to a lower place, or the same: `columns::moves::move_down` or `move_list`, and its pass. Over records no list is ever moved up:
-- what has to make way there is shifted by the pass that puts one in
abbrev pub MoveAlike : Type 0
MoveAlike =
    (c : Columns) (r : List Cand) (from to n with : ℕ) (held : Cand) (worth : Femtosecond) → RoomIn c → LongIn r → to ≤ from → from + n ≤ work_room → with < work_room → StandAlike c r (from + n)
    → Safe (pass_of Move n from with to held worth) r
    × ((c' : Columns) (r' : List Cand) (q : Pass)
    → Moved (in_columns c) (in_columns c') from to n
    → Swept (pass_of Move n from with to held worth) r q r'
    → StandAlike c' r' (to + n))
