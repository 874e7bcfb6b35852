-- What is said of one put in, the best behind a type, into the list that stands there; and of the list moved to its place at the end. Where
-- nothing is dropped the columns' list may start later than its place; the records' list stands at its place all the time. Assumes nothing.
use Rattle.std.specs.Prelude.{◌≡◌, List, ℕ, ◌+◌, ◌-◌, ◌≤◌, ◌<◌}
use Rattle.rules.specs.declared.Cand.{Cand}
use Rattle.rules.specs.Areas.{Columns}
use Rattle.rules.specs.Quantities.{work_room}
use Rattle.columns.specs.Moving.{Moved}
use Rattle.inserts.specs.Gaps.{Thins}
use Rattle.turns.specs.declared.Pass.{Pass}
use Rattle.runs.specs.Passes.{Safe, Swept}
use Rattle.stages.specs.declared.Job.{Job}
use Rattle.stages.specs.Stages.{own_at, begin_of, Ended}
use Rattle.stands.specs.Alike.{in_columns, AlikeAfter, RoomIn, LongIn}
use Rattle.stands.specs.Choices.{SiteAlike}

-- ---- one put in: `inserts::put_in`, and the pass of a job that puts the best behind type t in, with what `stages::ends::end` makes of the job
abbrev pub PutAlike : Type 0
PutAlike =
    (types : List ℕ) (c : Columns) (r : List Cand) (j : Job) (t start end by base upto : ℕ)
    → RoomIn c → LongIn r → own_at j ≤ start → start < end → 1 ≤ by → end + by + own_at j ≤ base + t + start → end ≤ base + t → base + upto ≤ work_room → t < upto
    → j.step ≡ j.count + t + 1 → t < j.count
    → SiteAlike c r j.best (own_at j) start end j.own base t upto
    → Safe (begin_of types j) r
    × ((c' : Columns) (r' : List Cand) (q : Pass) (j' : Job) (start' end' : ℕ)
    → Thins (in_columns c) (in_columns c') (base + t) (own_at j) start end by start' end'
    → Swept (begin_of types j) r q r' → Ended types j q j'
    → SiteAlike c' r' j'.best (own_at j) start' end' j'.own base (t + 1) upto)

-- ---- the columns' list moved to its place, at the end of `sites::put_types`; the records' stands there already
abbrev pub SettleAlike : Type 0
SettleAlike =
    (c c' : Columns) (r chosen : List Cand) (at start end n base from upto : ℕ) → RoomIn c → LongIn r → start < end → end ≤ work_room → at + n ≤ work_room
    → SiteAlike c r chosen at start end n base from upto
    → Moved (in_columns c) (in_columns c') start at (end - start)
    → AlikeAfter c' r at (end - start) n
