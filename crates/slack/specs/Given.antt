-- Tables that are not refused, and a placement: what the code is given, and that what it answers is what is promised. Assumes nothing.
use Rattle.std.specs.Prelude.{◌≡◌, Bool, true, false, ◌||◌, List, ℕ, ◌*◌, ◌≤◌, ℤ, Result, Ok, Err}
use Rattle.std.proofs.Math.Path.{refl, ap}
use Rattle.std.proofs.Common.{sym, ◌∙◌, arith, ltb-false}
use Rattle.std.proofs.Math.Option.{Option, none, some, some-ne-none, or_else}
use Rattle.rules.specs.declared.Refusal.{Refusal}
use Rattle.rules.specs.declared.Refusal.TheVariants.{Short}
use Rattle.rules.specs.declared.Row.{Row}
use Rattle.rules.specs.Lists.{given_when}
use Rattle.rules.specs.Quantities.{◌⊖◌}
use Rattle.rules.specs.Entries.{Entry, types_of, rows_of}
use Rattle.rules.specs.Tables.{Tables, Counts, short_tables, table_entries, tables_of, counts_of}
use Rattle.rules.specs.Refusals.{refusal_of}
use Rattle.rules.specs.Placements.{marks, placement_refusal}
use Rattle.rules.specs.Net.{Tree, at_row, driver_ohms}
use Rattle.rules.specs.Slack.{load_of}
use Rattle.rules.specs.Answers.{slack_figures, Timing}
use Rattle.rules.specs.Promises.{slack_refusal, SlackPromise, net_refusal, tabled}
use Rattle.rules.specs.Areas.{short_placement}
use Rattle.laws.specs.Tests.{both_false}
use Rattle.laws.specs.Trees.{time, slack_is}
use Rattle.laws.specs.Accepted.{accepted}
use Rattle.laws.specs.Rows.{rows-two}
use Rattle.laws.specs.Whole.{tree-at}
use Rattle.laws.specs.Legality.{marks-legality}
use Rattle.laws.specs.Tabled.{row_at, rows_from, rows-length, repeaters_from, repeaters-length}
use Rattle.laws.specs.Walk.{seen_at, at_row-seen}
use Rattle.laws.specs.Checked.{Passed}
use Rattle.rows.specs.Given.{held, areas, net-accepted, standing, driver_is}
use Rattle.net.specs.TableSteps.{checking}
use Rattle.upward.specs.Hung.{seen_as, slack_hung}
use Rattle.slack.specs.Hung.{hung_of}
use Rattle.slack.specs.Ready.{Sound, hung_at}
use Rattle.slack.specs.Sound.{hung-same, sound}
use Rattle.rules.specs.declared.Timed.{Timed}
use Rattle.slack.specs.Marked.{NetOf, Marking}

-- no area is shorter than its room, and no entry is refused
pub record Given (types rows : List ℕ) (due : List ℤ) (count n : ℕ) (words : List ℕ) : Type 0 where
  pub tables_long : short_tables (tables_of types rows due) ≡ false
  pub words_long : short_placement words ≡ false
  pub accepted : refusal_of (table_entries (tables_of types rows due) (counts_of count n)) ≡ none

passed : (b : Bool) (rest : Option Refusal) → or_else (given_when b Short) rest ≡ none → (b ≡ false) × (rest ≡ none)
unfolding or_else
passed true rest e = absurd (some-ne-none Short e)
passed false rest e = (refl, e)

-- what a check that was made says of what is refused
stops-is : {r : Refusal} (o : Option Refusal) → Err r ≡ checking o → o ≡ some r
stops-is none e = absurd (let z : ◌≡◌ {A = ℕ} 0 1 = cc in omega arith)
stops-is (some q) e = cc

passes-is : (o : Option Refusal) → Ok tt ≡ checking o → o ≡ none
passes-is none e = refl
passes-is (some q) e = absurd (let z : ◌≡◌ {A = ℕ} 0 1 = cc in omega arith)

module _ {types rows : List ℕ} {due : List ℤ} {count n : ℕ} {words : List ℕ} (G : Given types rows due count n words) where
  abbrev es : List Entry
  es = table_entries (tables_of types rows due) (counts_of count n)

  abbrev net : List Row
  net = rows_from rows due 0 n

  pass : Passed (tables_of types rows due) (counts_of count n)
  pass = record { long = G.tables_long; accepted = G.accepted }

  -- what the check of the marks needs, and the net it is of
  pub marking : Marking rows due count n words
  marking = record { standing = standing pass; types_few = (held pass).types_few; sites_few = (net-accepted pass).sites_few; words_long = ltb-false _ _ G.words_long }

  pub net-of : NetOf rows due count n es
  net-of = record { types_are = rw (held pass).types_are (repeaters-length types 0 count); rows_are = (held pass).rows_are }

  -- the tree at the driver
  tree : (t : Tree) × (at_row (rows_of es) 0 ≡ some t)
  tree = let (t, e, q) = tree-at (accepted es G.accepted) 0 (omega (arith, rows-two (accepted es G.accepted))) in (t, e)

  -- a placement that is not refused marks with types that there are
  known : placement_refusal es (marks words) ≡ none → (j : ℕ) → marks words j ≤ count
  known h j = rw ((held pass).types_are, repeaters-length) at (((marks-legality es words (accepted es G.accepted) tree.0 tree.1).0 h).known j)

  -- what the walk over the tree stands on
  pub sound-of : placement_refusal es (marks words) ≡ none → Sound rows due types words n
  sound-of h = sound rows due types words count n (standing pass) (areas pass).types_fit (ltb-false _ _ G.words_long) (held pass).types_few (net-accepted pass) (known h)

  -- ---- what is answered
  -- only refusal 6 is left
  settles : slack_refusal (tabled (tables_of types rows due) (counts_of count n)) words ≡ placement_refusal es (marks words)
  unfolding slack_refusal net_refusal or_else
  settles = rw (G.tables_long, G.words_long, G.accepted)

  -- refusal 6
  pub promise-refused : {r : Refusal} → Err r ≡ checking (placement_refusal es (marks words)) → SlackPromise (tabled (tables_of types rows due) (counts_of count n)) words (Err r)
  unfolding SlackPromise slack_figures
  promise-refused e = rw (settles, stops-is (placement_refusal es (marks words)) e) refl

  -- no refusal 6
  pub passes : Ok tt ≡ checking (placement_refusal es (marks words)) → placement_refusal es (marks words) ≡ none
  passes e = passes-is (placement_refusal es (marks words)) e

  module _ (h : placement_refusal es (marks words) ≡ none) where
    ohms : (row_at rows due 0).resistance.0 ≡ driver_ohms (rows_of es)
    ohms = driver_is pass ∙ rw (held pass).rows_are

    hung : hung_at rows due types words n 0 ≡ seen_as (load_of (types_of es) (marks words) tree.0) (time (types_of es) (marks words) tree.0)
    unfolding hung_at hung_of
    hung =
        let l = rows-length rows due 0 n in
        hung-same types count (held pass).types_few (marks words) (known h) (seen_at net 0)
        ∙ ap (hung_of (repeaters_from types 0 count) (marks words)) (sym (at_row-seen net 0 (omega (arith, (standing pass).some))) ∙ rw (held pass).rows_are at tree.1)
        ∙ rw (held pass).types_are

    timing : Timing
    timing = record { slack = time (types_of es) (marks words) tree.0 ⊖ (driver_ohms (rows_of es) * load_of (types_of es) (marks words) tree.0); load = load_of (types_of es) (marks words) tree.0 }

    -- the slack, and the load on the driver
    pub promise-timed : {answer : Result Timed Refusal} → answer ≡ slack_hung (row_at rows due 0).resistance.0 (hung_at rows due types words n 0) → SlackPromise (tabled (tables_of types rows due) (counts_of count n)) words answer
    unfolding SlackPromise slack_figures slack_hung timing
    promise-timed e = rw (settles, h) (timing, rw (e, hung, ohms) refl, record { tree = tree.0; tree_is = tree.1; slack = slack_is (types_of es) (marks words) (driver_ohms (rows_of es)) tree.0; load = refl })

-- ---- from the check of the tables
-- what it refused
pub promise-checked : (t : Tables) (n : Counts) (words : List ℕ) {r : Refusal} → Err r ≡ checking (net_refusal (short_placement words) (tabled t n)) → SlackPromise (tabled t n) words (Err r)
unfolding SlackPromise slack_refusal slack_figures or_else
promise-checked t n words e = rw (stops-is (net_refusal (short_placement words) (tabled t n)) e) refl

-- what it accepted
pub given-of : {types rows : List ℕ} {due : List ℤ} {count n : ℕ} {words : List ℕ} → Ok tt ≡ checking (net_refusal (short_placement words) (tabled (tables_of types rows due) (counts_of count n))) → Given types rows due count n words
unfolding net_refusal or_else
given-of {types} {rows} {due} {count} {n} {words} e =
    let (b, a) = passed (short_tables (tables_of types rows due) || short_placement words) (refusal_of (table_entries (tables_of types rows due) (counts_of count n))) (passes-is _ e) in
    let (t, w) = both_false (short_tables (tables_of types rows due)) (short_placement words) b in
    record { tables_long = t; words_long = w; accepted = a }
