-- What a promise says where nothing is refused, and nets lent as tables: a net's entries, as its text states them, written into blank
-- tables of full room. Assumes nothing.
use Rattle.std.specs.Prelude.{◌≡◌, refl, false, ◌||◌, List, [], ◌∷◌, ℕ, ◌*◌, leb, pos, length, replicate, Result}
use Rattle.std.proofs.Common.{ap}
use Rattle.std.proofs.Math.Option.{none, some, or_else}
use Prim.Native.String.{String}
use Rattle.rules.specs.Lists.{written}
use Rattle.rules.specs.Quantities.{types_room, rows_room}
use Rattle.rules.specs.Entries.{Repeater, types_of, rows_of, row_of, sites_of}
use Rattle.rules.specs.Text.{text_entries, lines_of, line_of, lettered, type_line, driver_line, point_line, sink_line, parted, number, more_digits, signed}
use Rattle.rules.specs.Tables.{Tables, Counts, words_a_type, words_a_row, short_tables, table_entries, counted, from, row_entry, row_by, is_zero, type_entry, type_table, row_table, due_table, filled}
use Rattle.rules.specs.Refusals.{refusal_of, first_refusal, line_refusal, last_refusal, misplaced, out_of_range, too_many, orphan, no_parent, childless, line_of_row}
use Rattle.examples.specs.Texts.{bytes, entries}
use Rattle.rules.specs.Answers.{Timing, done, slack_figures, plan_figures, list_figures}
use Rattle.rules.specs.Net.{Tree, wire_of, hangs, at, at_row, driver_ohms}
use Rattle.rules.specs.Placements.{marks, mark_in, marks_from, mark_refusal, placement_refusal}
use Rattle.rules.specs.Promises.{slack_refusal, SlackPromise, TimingOf, PlanPromise, PlanOf, list_refusal, ListPromise, ListOf, net_refusal, tabled, texted}
use Rattle.rules.specs.Areas.{Storage, short_placement, Lent, short_lent, list_areas, plan_areas}
use Rattle.rules.specs.declared.Timed.{Timed}
use Rattle.rules.specs.declared.Refusal.{Refusal}
use Rattle.examples.specs.Examples.{net_a, net_a-strong, net_b, types_by, wire_by, A₀, A₁}

-- ---- tables
unfoldable pub blank : Tables
blank = record { types = replicate (words_a_type * types_room) 0; rows = replicate (words_a_row * rows_room) 0; due = replicate rows_room (pos 0) }

-- a net's entries in blank tables, and how many there are
unfoldable pub tables_in : String → Tables
tables_in net = filled (entries net) blank

unfoldable pub counts_in : String → Counts
counts_in net = record { types = length (types_of (entries net)); rows = length (rows_of (entries net)) }

-- nothing of such tables is refused, and they have the net's entries
pub record Lends (net : String) : Type 0 where
  pub whole : table_entries (tables_in net) (counts_in net) ≡ entries net
  pub taken : net_refusal false (tabled (tables_in net) (counts_in net)) ≡ none

-- the types, the driver and the tree that a net's text states
pub record States (net : String) (types : List Repeater) (driver : ℕ) (tree : Tree) : Type 0 where
  pub types_are : types_of (entries net) ≡ types
  pub driver_is : driver_ohms (rows_of (entries net)) ≡ driver
  pub tree_is : at_row (rows_of (entries net)) 0 ≡ some tree

-- so are net A, net A with `D 0`, and net B
pub record Nets : Type 0 where
  pub lends_a : Lends net_a
  pub lends_a_strong : Lends net_a-strong
  pub lends_b : Lends net_b
  pub states_a : States net_a (types_by 10) 20 A₀
  pub states_a_strong : States net_a-strong (types_by 10) 0 A₀
  -- net A's text is read, and a placement without repeaters is taken
  pub text_a : net_refusal (short_tables blank) (texted (bytes net_a)) ≡ none
  pub none_a : slack_refusal (tabled (tables_in net_a) (counts_in net_a)) (0 ∷ 0 ∷ 0 ∷ 0 ∷ []) ≡ none
  -- both have a row 1, and at net A it is the site's
  pub rows_a : leb (counts_in net_a).rows 1 ≡ false
  pub rows_b : leb (counts_in net_b).rows 1 ≡ false
  pub under_a : at_row (rows_of (entries net_a)) 1 ≡ some A₁

-- each by computing it
pub nets : Nets
unfolding tables_in counts_in blank filled written type_table row_table due_table table_entries counted from row_entry row_by is_zero type_entry net_refusal short_tables bytes text_entries lines_of line_of lettered type_line driver_line point_line sink_line parted number more_digits signed types_of rows_of row_of refusal_of first_refusal line_refusal last_refusal misplaced out_of_range too_many sites_of orphan no_parent childless line_of_row slack_refusal placement_refusal marks_from mark_refusal marks mark_in wire_of hangs at at_row types_by wire_by A₀ A₁ or_else
nets = record {
  lends_a = record { whole = refl; taken = refl };
  lends_a_strong = record { whole = refl; taken = refl };
  lends_b = record { whole = refl; taken = refl };
  states_a = record { types_are = refl; driver_is = refl; tree_is = refl };
  states_a_strong = record { types_are = refl; driver_is = refl; tree_is = refl };
  text_a = refl;
  none_a = refl;
  rows_a = refl;
  rows_b = refl;
  under_a = refl;
}

-- ---- what a promise says of a success
-- a success has one value
pub done-same : {A : Type 0} (v w : A) → done v ≡ done w → v ≡ w
unfolding done
done-same v w e = ap (λ f. f.values) e

module _ (t : Tables) (n : Counts) where
  -- slack_of: a timing of the placement
  pub slack-given : (words : List ℕ) (a : Result Timed Refusal) → slack_refusal (tabled t n) words ≡ none → SlackPromise (tabled t n) words a → (v : Timing) × (slack_figures a ≡ done v) × TimingOf (table_entries t n) words v
  unfolding SlackPromise
  slack-given words a e p = rw e at p

  module _ {W : Type 0} (s : Storage W) (work : W) where
    -- plan_net: a planned placement, and the work area cleared
    pub plan-given : (before : List ℕ) (a : Result Timed Refusal) (after : List ℕ) (work' : W) → net_refusal (short_placement before || s.short work) (tabled t n) ≡ none → PlanPromise s (tabled t n) (plan_areas before work) a (plan_areas after work') → (v : Timing) × (plan_figures a ≡ done v) × PlanOf (table_entries t n) before after v × (work' ≡ s.cleared work)
    unfolding PlanPromise
    plan-given before a after work' e p = rw e at p

    -- list_at: the row's list, and the work area cleared
    pub list-given : (row : ℕ) (before : Lent) (a : Result ℕ Refusal) (after : Lent) (work' : W) → list_refusal (short_lent before || s.short work) (tabled t n) row ≡ none → ListPromise s (tabled t n) row (list_areas before work) a (list_areas after work') → (len : ℕ) × (list_figures a ≡ done len) × ListOf (table_entries t n) row before after len × (work' ≡ s.cleared work)
    unfolding ListPromise
    list-given row before a after work' e p = rw e at p

-- ---- of a net lent as tables, with room enough, nothing is refused
module _ {net : String} (lends : Lends net) {W : Type 0} (s : Storage W) (work : W) (room : s.short work ≡ false) where
  -- by plan_net
  pub plan-taken : (before : List ℕ) → short_placement before ≡ false → net_refusal (short_placement before || s.short work) (tabled (tables_in net) (counts_in net)) ≡ none
  plan-taken before e = rw (e, room) lends.taken

  -- by list_at, at a row that there is
  pub list-taken : (row : ℕ) (before : Lent) → short_lent before ≡ false → leb (counts_in net).rows row ≡ false → list_refusal (short_lent before || s.short work) (tabled (tables_in net) (counts_in net)) row ≡ none
  unfolding list_refusal or_else
  list-taken row before e h = rw (e, room, lends.taken, h)
