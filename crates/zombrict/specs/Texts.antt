-- What the calls on a text do with what was read: a refusal is handed on, or the entry is called on the tables. Assumes nothing.
use Rattle.std.specs.Prelude.{◌≡◌, List, ℕ, ◌*◌, ℤ, pos, replicate, Result, Ok, Err}
use Rattle.rules.specs.Quantities.{types_room, rows_room, placement_room, work_room}
use Rattle.rules.specs.Tables.{Tables, tables_of, counts_of, words_a_type, words_a_row, table_entries}
use Rattle.rules.specs.Areas.{Columns, columns_of, columns, Lent, lent_of, unseen_times, plan_areas, list_areas}
use Rattle.rules.specs.Answers.{refused, no_timing, slack_figures, plan_figures, list_figures}
use Rattle.rules.specs.Promises.{tabled, SlackPromise, PlanPromise, ListPromise}
use Rattle.rules.specs.declared.Counted.{Counted}
use Rattle.rules.specs.declared.Timed.{Timed}
use Rattle.rules.specs.declared.Refusal.{Refusal}
use Rattle.laws.specs.Picked.{Picks}

-- tables and a work area of exactly their room, all zero
abbrev pub no_tables : Tables
no_tables = tables_of (replicate (words_a_type * types_room) 0) (replicate (words_a_row * rows_room) 0) (replicate rows_room (pos 0))

abbrev pub no_work : Columns
no_work = columns_of (replicate work_room 0) (replicate work_room (pos 0)) (replicate (placement_room * work_room) 0)

abbrev pub SlackRead : Result Counted Refusal → (t : Tables) (words : List ℕ) → Result Timed Refusal → Type 0
SlackRead (Ok n) t words a = SlackPromise (tabled t (counts_of n.types n.rows)) words a
SlackRead (Err r) t words a = slack_figures a ≡ refused no_timing r

abbrev pub PlanRead : Result Counted Refusal → (t : Tables) (before : List ℕ) → Result Timed Refusal → (after : List ℕ) → Type 0
PlanRead (Ok n) t before a after = (work : Columns) × PlanPromise columns (tabled t (counts_of n.types n.rows)) (plan_areas before no_work) a (plan_areas after work)
PlanRead (Err r) t before a after = (plan_figures a ≡ refused no_timing r) × (after ≡ before)

-- which placement was returned, of a text that was read
abbrev pub PickRead : Result Counted Refusal → (t : Tables) (before after : List ℕ) → Result Timed Refusal → Type 0
PickRead (Ok n) t before after a = Picks (table_entries t (counts_of n.types n.rows)) before after (plan_figures a).number
PickRead (Err r) t before after a = Unit {0}

abbrev pub ListRead : Result Counted Refusal → (t : Tables) (row : ℕ) (before : Lent) → Result ℕ Refusal → (after : Lent) → Type 0
ListRead (Ok n) t row before a after = (work : Columns) × ListPromise columns (tabled t (counts_of n.types n.rows)) row (list_areas before no_work) a (list_areas after work)
ListRead (Err r) t row before a after = (list_figures a ≡ refused 0 r) × (after ≡ before)

-- the loads alone: with the times in an area that nobody sees
abbrev pub LoadsRead : Result Counted Refusal → (t : Tables) (row : ℕ) (before : List ℕ) → Result ℕ Refusal → (after : List ℕ) → Type 0
LoadsRead read t row before a after = (times : List ℤ) × ListRead read t row (lent_of before unseen_times) a (lent_of after times)
