-- Stand-ins of the paper's last section, each ruled out by its promise at an input that shows it: one that refuses everything, a slack
-- the placement hasn't got, one fixed placement, and the net untouched. Those for a list are in StandInLists. Assumes nothing.
use Rattle.std.proofs.Math.Path.{◌≡◌, sym, ap}
use Rattle.std.proofs.Common.{◌∙◌, take_at, take_all}
use Rattle.std.specs.Prelude.{false, ◌||◌, List, [], ◌∷◌, ℕ, ◌/◌, ◌%◌, leb, ℤ, pos, length, take, drop, get_or, Result, Ok, Err}
use Rattle.std.proofs.Math.Option.{none, some}
use Prim.Native.String.{String}
use native.Mathlib.Omega.{arith}
use Rattle.rules.specs.declared.Refusal.{Refusal}
use Rattle.rules.specs.declared.Refusal.TheVariants.{Form, Range, Room, Parent, Childless, Mark, Short, NoRow}
use Rattle.rules.specs.declared.Femtofarad.{Femtofarad}
use Rattle.rules.specs.declared.Femtosecond.{Femtosecond}
use Rattle.rules.specs.Lists.{written}
use Rattle.rules.specs.Quantities.{placement_room}
use Rattle.rules.specs.Entries.{Repeater, types_of, rows_of}
use Rattle.rules.specs.Placements.{Placement, marks, mark_in}
use Rattle.rules.specs.Tables.{Tables, Counts, table_entries}
use Rattle.rules.specs.Net.{Tree, at_row, driver_ohms}
use Rattle.rules.specs.Slack.{seen_load, IsSlack}
use Rattle.rules.specs.Slack.{load_of}
use Rattle.rules.specs.Pairs.{Planned}
use Rattle.rules.specs.Refusals.{number_of}
use Rattle.examples.specs.Texts.{bytes}
use Rattle.rules.specs.Answers.{Timing, refused, done, no_counts, no_timing, read_figures, check_figures, slack_figures, plan_figures, list_figures}
use Rattle.rules.specs.Promises.{ReadPromise, CheckPromise, SlackPromise, slack_refusal, PlanPromise, PlanOf, ListPromise, net_refusal, tabled}
use Rattle.rules.specs.Areas.{Storage, short_placement, Lent, short_lent, list_areas, plan_areas}
use Rattle.laws.specs.Settled.{one-tree, slack-unique, slack-settled, planned-unique, plan-alike}
use Rattle.examples.proofs.Kept.{slack-kept, plan-kept}
use Rattle.examples.specs.Examples.{net_a, net_a-strong, types_by, wire_by, A₀, A₁, IsPlanned, examples}
use Rattle.rules.specs.declared.Timed.{Timed}
use Rattle.examples.specs.Given.{blank, tables_in, counts_in, Lends, States, done-same, slack-given, plan-given, list-given, plan-taken, list-taken, nets}
open nets use {text_a, none_a, lends_a, lends_a_strong, states_a, states_a_strong}

-- ---- one that refuses everything
not-zero : (r : Refusal) → ¬ (number_of r ≡ 0)
not-zero (Form line) e = omega arith
not-zero (Range line) e = omega arith
not-zero (Room line) e = omega arith
not-zero (Parent line) e = omega arith
not-zero (Childless line) e = omega arith
not-zero (Mark line) e = omega arith
not-zero Short e = omega arith
not-zero NoRow e = omega arith

refused-not-done : {A : Type 0} (zeros v : A) (r : Refusal) → ¬ (refused zeros r ≡ done v)
unfolding refused done
refused-not-done zeros v r e = not-zero r (ap (λ f. f.number) e)

-- net A's text is read
pub reading-refused : (r : Refusal) (after : Tables) → ¬ (ReadPromise (bytes net_a) blank (Err r) after)
unfolding ReadPromise read_figures
reading-refused r after p = refused-not-done no_counts _ r (rw text_a at p).0

-- net A's tables are accepted
pub checking-refused : (r : Refusal) → ¬ (CheckPromise (tabled (tables_in net_a) (counts_in net_a)) (Err r))
unfolding CheckPromise check_figures
checking-refused r p = refused-not-done tt tt r (rw lends_a.taken at p)

-- net A's slack without a repeater is given
pub slacking-refused : (r : Refusal) → ¬ (SlackPromise (tabled (tables_in net_a) (counts_in net_a)) (0 ∷ 0 ∷ 0 ∷ 0 ∷ []) (Err r))
unfolding slack_figures
slacking-refused r p = let (v, e, f) = slack-given (tables_in net_a) (counts_in net_a) (0 ∷ 0 ∷ 0 ∷ 0 ∷ []) (Err r) none_a p in refused-not-done no_timing v r e

module _ {W : Type 0} (s : Storage W) (work work' : W) (room : s.short work ≡ false) where
  -- a net lent as tables, as net A is, is planned
  pub planning-refused : {net : String} → Lends net → (r : Refusal) (before after : List ℕ) → short_placement before ≡ false → ¬ (PlanPromise s (tabled (tables_in net) (counts_in net)) (plan_areas before work) (Err r) (plan_areas after work'))
  unfolding plan_figures
  planning-refused {net} lends r before after long p = let (v, e, f, w) = plan-given (tables_in net) (counts_in net) s work before (Err r) after work' (plan-taken lends s work room before long) p in refused-not-done no_timing v r e

  -- and the list is given at each of its rows
  pub listing-refused : {net : String} → Lends net → (r : Refusal) (row : ℕ) (before after : Lent) → short_lent before ≡ false → leb (counts_in net).rows row ≡ false → ¬ (ListPromise s (tabled (tables_in net) (counts_in net)) row (list_areas before work) (Err r) (list_areas after work'))
  unfolding list_figures
  listing-refused {net} lends r row before after long inside p = let (v, e, f, w) = list-given (tables_in net) (counts_in net) s work row before (Err r) after work' (list-taken lends s work room row before long inside) p in refused-not-done 0 v r e

-- ---- a slack the placement hasn't got
-- slack_of claims no slack other than the placement's
pub slack-claimed : (t : Tables) (n : Counts) (words : List ℕ) (slack : Femtosecond) (load : Femtofarad) (tree : Tree) (other : ℤ) → slack_refusal (tabled t n) words ≡ none → at_row (rows_of (table_entries t n)) 0 ≡ some tree → IsSlack (types_of (table_entries t n)) (marks words) (driver_ohms (rows_of (table_entries t n))) tree other → SlackPromise (tabled t n) words (Ok (record { slack = slack; load = load })) → ¬ (slack.0 ≡ other) → ⊥
unfolding slack_figures
slack-claimed t n words slack load tree other taken tree_is had p differ =
    let (v, e, f) = slack-given t n words (Ok (record { slack = slack; load = load })) taken p in
    let d = done-same _ v e in
    differ (ap (λ x. x.slack) d ∙ slack-unique (types_of (table_entries t n)) (marks words) (driver_ohms (rows_of (table_entries t n))) tree (rw (one-tree f.tree_is tree_is) at f.slack) had)

-- at net A it answers 430 and 20 without a repeater, and nothing else
pub slack-claimed-A : (a : Result Timed Refusal) → SlackPromise (tabled (tables_in net_a) (counts_in net_a)) (0 ∷ 0 ∷ 0 ∷ 0 ∷ []) a → ¬ (a ≡ Ok (record { slack = (record { 0 = pos 430 }); load = (record { 0 = 20 }) })) → ⊥
slack-claimed-A a p differ = differ (slack-settled (tabled (tables_in net_a) (counts_in net_a)) (0 ∷ 0 ∷ 0 ∷ 0 ∷ []) a _ p slack-kept)

-- and plan_net 687 and 7
pub plan-claimed-A : {W : Type 0} (s : Storage W) (work work' : W) → s.short work ≡ false → (before after : List ℕ) → short_placement before ≡ false → (a : Result Timed Refusal) → PlanPromise s (tabled (tables_in net_a) (counts_in net_a)) (plan_areas before work) a (plan_areas after work') → ¬ (a ≡ Ok (record { slack = (record { 0 = pos 687 }); load = (record { 0 = 7 }) })) → ⊥
plan-claimed-A s work work' room before after long a p differ = differ (plan-alike s (tabled (tables_in net_a) (counts_in net_a)) (plan_areas before work) a _ (plan_areas after work') _ p (plan-kept s work room before long)).answer

-- the words handed back have the marks that are planned
pub written-marks : (words before after : List ℕ) → length words ≡ placement_room → after ≡ written words before → marks after ≡ marks words
unfolding written marks
written-marks words before after four e = λ i j. mark_in (get_or (same i) (j / 16) 0) (j % 16)
  where
    same : take placement_room after ≡ take placement_room words
    same = ap (take placement_room) e ∙ take_at words (drop (length words) before) placement_room four ∙ sym (take_all placement_room words (omega arith))

module _ (t : Tables) (n : Counts) {W : Type 0} (s : Storage W) (work work' : W) (before after : List ℕ) (taken : net_refusal (short_placement before || s.short work) (tabled t n) ≡ none) where
  -- what the promise says of the words handed back
  pub plan-marks : (slack : Femtosecond) (load : Femtofarad) (tree : Tree) → at_row (rows_of (table_entries t n)) 0 ≡ some tree → PlanPromise s (tabled t n) (plan_areas before work) (Ok (record { slack = slack; load = load })) (plan_areas after work') → Planned (types_of (table_entries t n)) (driver_ohms (rows_of (table_entries t n))) tree (marks after) slack.0 load.0
  unfolding plan_figures
  plan-marks slack load tree tree_is p = let (v, e, f, w) = plan-given t n s work before (Ok (record { slack = slack; load = load })) after work' taken p in of v (done-same _ v e) f
    where
      of : (v : Timing) → record { slack = slack.0; load = load.0 } ≡ v → PlanOf (table_entries t n) before after v → Planned (types_of (table_entries t n)) (driver_ohms (rows_of (table_entries t n))) tree (marks after) slack.0 load.0
      of v d f = rw (written-marks f.words before after f.four f.after_is, ap (λ (x : Timing). x.slack) d, ap (λ (x : Timing). x.load) d, ← one-tree f.tree_is tree_is) f.planned

  -- plan_net claims no slack other than that of the words handed back
  pub plan-claimed : (slack : Femtosecond) (load : Femtofarad) (tree : Tree) (other : ℤ) → at_row (rows_of (table_entries t n)) 0 ≡ some tree → IsSlack (types_of (table_entries t n)) (marks after) (driver_ohms (rows_of (table_entries t n))) tree other → PlanPromise s (tabled t n) (plan_areas before work) (Ok (record { slack = slack; load = load })) (plan_areas after work') → ¬ (slack.0 ≡ other) → ⊥
  plan-claimed slack load tree other tree_is had p differ = differ (slack-unique _ (marks after) _ tree (plan-marks slack load tree tree_is p).slack_is had)

-- ---- one fixed placement; the net untouched
module _ {net : String} {types : List Repeater} {driver : ℕ} {tree : Tree} (lends : Lends net) (states : States net types driver tree) where
  stated : {p : Placement} {slack : ℤ} {load : ℕ} → IsPlanned net p slack load → Planned types driver tree p slack load
  stated f = rw (← states.types_are, ← states.driver_is, ← one-tree f.tree_is states.tree_is) f.planned

  module _ {W : Type 0} (s : Storage W) (work work' : W) (room : s.short work ≡ false) (before after : List ℕ) (long : short_placement before ≡ false) where
    planned-words : (a : Result Timed Refusal) → PlanPromise s (tabled (tables_in net) (counts_in net)) (plan_areas before work) a (plan_areas after work') → (v : Timing) × Planned types driver tree (marks after) v.slack v.load
    planned-words (Ok v) p = (record { slack = v.slack.0; load = v.load.0 }, rw (← states.types_are, ← states.driver_is, ← lends.whole) (plan-marks (tables_in net) (counts_in net) s work work' before after (plan-taken lends s work room before long) v.slack v.load tree (rw lends.whole states.tree_is) p))
    planned-words (Err r) p = absurd (planning-refused s work work' room lends r before after long p)

    -- the words handed back load the driver as the planned placement does
    pub planned-load : {q : Placement} {slack : ℤ} {load : ℕ} (a : Result Timed Refusal) → IsPlanned net q slack load → PlanPromise s (tabled (tables_in net) (counts_in net)) (plan_areas before work) a (plan_areas after work') → load ≡ load_of types (marks after) tree
    planned-load {q} {slack} {load} a f p =
        let (v, g) = planned-words a p in
        ap (λ x. x.load) (planned-unique types driver tree q (marks after) (record { slack = slack; load = load }) v (stated f) g) ∙ g.load_is

module _ {W : Type 0} (s : Storage W) (work work' : W) (room : s.short work ≡ false) (before after : List ℕ) (long : short_placement before ≡ false) (a : Result Timed Refusal) (promise : PlanPromise s (tabled (tables_in net_a) (counts_in net_a)) (plan_areas before work) a (plan_areas after work')) where
  -- on net A the four words are not left without a repeater
  pub untouched : marks after 0 ≡ 0 → ⊥
  unfolding types_by wire_by A₀ A₁ load_of seen_load
  untouched z =
      let e : 7 ≡ load_of (types_by 10) (marks after) A₀ = planned-load lends_a states_a s work work' room before after long a examples.P2 promise in
      let f : ◌≡◌ {A = ℕ} 7 20 = rw z at e in
      omega arith

  -- and they are not those of net A with `D 0`: no one placement does for both
  pub fixed-placement : (work'' : W) (before' after' : List ℕ) (b : Result Timed Refusal) → short_placement before' ≡ false → PlanPromise s (tabled (tables_in net_a-strong) (counts_in net_a-strong)) (plan_areas before' work) b (plan_areas after' work'') → take placement_room after ≡ take placement_room after' → ⊥
  unfolding marks
  fixed-placement work'' before' after' b long' promise' same =
      let e : 7 ≡ load_of (types_by 10) (marks after) A₀ = planned-load lends_a states_a s work work' room before after long a examples.P2 promise in
      let f : 20 ≡ load_of (types_by 10) (marks after') A₀ = planned-load lends_a_strong states_a_strong s work work'' room before' after' long' b examples.P5 promise' in
      let m : marks after ≡ marks after' = λ i j. mark_in (get_or (same i) (j / 16) 0) (j % 16) in
      let g : ◌≡◌ {A = ℕ} 7 20 = e ∙ ap (λ p. load_of (types_by 10) p A₀) m ∙ sym f in
      omega arith
