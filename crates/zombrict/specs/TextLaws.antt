-- A text that was read or refused, and what is given of it: the promise of the entry, said of the text. Assumes nothing.
use Rattle.std.specs.Prelude.{◌≡◌, refl, Bool, true, false, ◌||◌, List, ℕ, ltb, length, Result, Ok, Err}
use Rattle.std.proofs.Common.{sym, ap, subst, ◌∙◌}
use Rattle.std.proofs.Math.Option.{Option, none, some, or_else}
use Rattle.rules.specs.declared.Refusal.{Refusal}
use Rattle.rules.specs.declared.Refusal.TheVariants.{Short}
use Rattle.rules.specs.Quantities.{list_room}
use Rattle.rules.specs.Entries.{Entry}
use Rattle.rules.specs.Tables.{Tables, counts_of, short_tables, counts_in, filled, table_entries}
use Rattle.rules.specs.Text.{text_entries}
use Rattle.rules.specs.Areas.{Columns, columns, unlent, Lent, lent_of, PlanAreas, ListAreas, plan_areas, list_areas, loads_areas, short_placement, short_lent, unseen_times}
use Rattle.rules.specs.Answers.{Timing, refused, done, no_counts, no_timing, read_figures, slack_figures, plan_figures, list_figures}
use Rattle.rules.specs.Promises.{Handed, tabled, texted, net_refusal, Settled, ReadPromise, CountPromise, SlackPromise, slack_refusal, PlanPromise, PlanOf, ListPromise, list_refusal, ListOf, LoadsPromise}
use Rattle.laws.specs.Checked.{numbered}
use Rattle.laws.specs.Picked.{Picks}
use Rattle.laws.proofs.Picked.{numbered-picks}
use Rattle.laws.specs.Reading.{ReadAs, not_read, was_read, read_as, tables-as-text}
use Rattle.rules.specs.declared.Counted.{Counted}
use Rattle.rules.specs.declared.Timed.{Timed}
use Rattle.zombrict.specs.Texts.{no_tables, no_work, SlackRead, PlanRead, PickRead, ListRead, LoadsRead}

-- ---- what was read, as the entry is handed it
read_is : {b : Result Counted Refusal} {types rows m n : ℕ} → b ≡ Ok (record { types = types; rows = rows }) → m ≡ types → n ≡ rows → b ≡ Ok (record { types = m; rows = n })
read_is {b} {types} {rows} {m} {n} e p q = e ∙ ap (λ (k : ℕ). Ok (record { types = k; rows = rows })) (sym p) ∙ ap (λ (k : ℕ). Ok (record { types = m; rows = k })) (sym q)

pub slack-refused : {b : Result Counted Refusal} {r : Refusal} (t : Tables) (words : List ℕ) → b ≡ Err r → SlackRead b t words (Err r)
unfolding slack_figures
slack-refused {b} {r} t words e = subst (λ (x : Result Counted Refusal). SlackRead x t words (Err r)) (sym e) refl

pub slack-read : {b : Result Counted Refusal} {types rows m n : ℕ} (t : Tables) (words : List ℕ) (a : Result Timed Refusal) → b ≡ Ok (record { types = types; rows = rows }) → m ≡ types → n ≡ rows → SlackPromise (tabled t (counts_of m n)) words a → SlackRead b t words a
slack-read t words a e p q h = subst (λ (x : Result Counted Refusal). SlackRead x t words a) (sym (read_is e p q)) h

pub plan-refused : {b : Result Counted Refusal} {r : Refusal} (t : Tables) (before : List ℕ) → b ≡ Err r → PlanRead b t before (Err r) before
unfolding plan_figures
plan-refused {b} {r} t before e = subst (λ (x : Result Counted Refusal). PlanRead x t before (Err r) before) (sym e) (refl, refl)

pub plan-read : {b : Result Counted Refusal} {types rows m n : ℕ} (t : Tables) (before : List ℕ) (a : Result Timed Refusal) (after : List ℕ) (work : Columns) → b ≡ Ok (record { types = types; rows = rows }) → m ≡ types → n ≡ rows → PlanPromise columns (tabled t (counts_of m n)) (plan_areas before no_work) a (plan_areas after work) → PlanRead b t before a after
plan-read t before a after work e p q h = subst (λ (x : Result Counted Refusal). PlanRead x t before a after) (sym (read_is e p q)) (work, h)

pub pick-refused : {b : Result Counted Refusal} {r : Refusal} (t : Tables) (before after : List ℕ) (a : Result Timed Refusal) → b ≡ Err r → PickRead b t before after a
pick-refused {b} {r} t before after a e = subst (λ (x : Result Counted Refusal). PickRead x t before after a) (sym e) tt

pub pick-read : {b : Result Counted Refusal} {types rows m n : ℕ} (t : Tables) (before after : List ℕ) (a : Result Timed Refusal) → b ≡ Ok (record { types = types; rows = rows }) → m ≡ types → n ≡ rows → Picks (table_entries t (counts_of m n)) before after (plan_figures a).number → PickRead b t before after a
pick-read t before after a e p q h = subst (λ (x : Result Counted Refusal). PickRead x t before after a) (sym (read_is e p q)) h

pub list-refused : {b : Result Counted Refusal} {r : Refusal} (t : Tables) (row : ℕ) (before : Lent) → b ≡ Err r → ListRead b t row before (Err r) before
unfolding list_figures
list-refused {b} {r} t row before e = subst (λ (x : Result Counted Refusal). ListRead x t row before (Err r) before) (sym e) (refl, refl)

pub list_read : {b : Result Counted Refusal} {types rows m n : ℕ} (t : Tables) (row : ℕ) (before : Lent) (a : Result ℕ Refusal) (after : Lent) (work : Columns) → b ≡ Ok (record { types = types; rows = rows }) → m ≡ types → n ≡ rows → ListPromise columns (tabled t (counts_of m n)) row (list_areas before no_work) a (list_areas after work) → ListRead b t row before a after
list_read t row before a after work e p q h = subst (λ (x : Result Counted Refusal). ListRead x t row before a after) (sym (read_is e p q)) (work, h)

-- ---- a work area of the call's own
no-work : columns.short no_work ≡ false
unfolding columns
no-work = refl

own-work : (b : Bool) → b || columns.short no_work ≡ b || unlent.short tt
unfolding unlent
own-work b = ap (λ s. b || s) no-work

plan-unlent : (net : Handed) (before after : List ℕ) (a : Result Timed Refusal) (work : Columns) → PlanPromise columns net (plan_areas before no_work) a (plan_areas after work) → PlanPromise unlent net (plan_areas before tt) a (plan_areas after tt)
unfolding PlanPromise unlent
plan-unlent net before after a work p = go (net_refusal (short_placement before || false) net) (rw (own-work (short_placement before)) at p)
  where
    go : (o : Option Refusal) → Settled o (λ r. (plan_figures a ≡ refused no_timing r) × (plan_areas after work ≡ plan_areas before no_work)) ((v : Timing) × (plan_figures a ≡ done v) × PlanOf net.entries before after v × (work ≡ columns.cleared no_work)) → Settled o (λ r. (plan_figures a ≡ refused no_timing r) × (plan_areas {W = Unit {0}} after tt ≡ plan_areas before tt)) ((v : Timing) × (plan_figures a ≡ done v) × PlanOf net.entries before after v × (◌≡◌ {A = Unit {0}} tt tt))
    go (some r) (f, e) = (f, ap (λ (m : PlanAreas Columns). plan_areas {W = Unit {0}} m.placement tt) e)
    go none (v, f, q, w) = (v, f, q, refl)

list-unlent : (net : Handed) (row : ℕ) (before after : Lent) (a : Result ℕ Refusal) (work : Columns) → ListPromise columns net row (list_areas before no_work) a (list_areas after work) → ListPromise unlent net row (list_areas before tt) a (list_areas after tt)
unfolding ListPromise unlent
list-unlent net row before after a work p = go (list_refusal (short_lent before || false) net row) (rw (own-work (short_lent before)) at p)
  where
    go : (o : Option Refusal) → Settled o (λ r. (list_figures a ≡ refused 0 r) × (list_areas after work ≡ list_areas before no_work)) ((len : ℕ) × (list_figures a ≡ done len) × ListOf net.entries row before after len × (work ≡ columns.cleared no_work)) → Settled o (λ r. (list_figures a ≡ refused 0 r) × (list_areas {W = Unit {0}} after tt ≡ list_areas before tt)) ((len : ℕ) × (list_figures a ≡ done len) × ListOf net.entries row before after len × (◌≡◌ {A = Unit {0}} tt tt))
    go (some r) (f, e) = (f, ap (λ (m : ListAreas Columns). list_areas {W = Unit {0}} m.list tt) e)
    go none (len, f, q, w) = (len, f, q, refl)

-- ---- said of the text
-- tables of exactly their room are not short
no-tables : short_tables no_tables ≡ false
unfolding short_tables
no-tables = refl

-- a text that was refused is refused in the same way where nothing lent is short
stays-refused : (text : List ℕ) (short : Bool) (r : Refusal) → short ≡ false → net_refusal (short_tables no_tables) (texted text) ≡ some r → net_refusal short (texted text) ≡ some r
stays-refused text short r s e = ap (λ (b : Bool). net_refusal b (texted text)) (s ∙ sym no-tables) ∙ e

stays-taken : (text : List ℕ) → net_refusal (short_tables no_tables) (texted text) ≡ none → net_refusal false (texted text) ≡ none
stays-taken text e = ap (λ (b : Bool). net_refusal b (texted text)) (sym no-tables) ∙ e

-- 7 for what is lent comes first
short-text : (text : List ℕ) (short : Bool) → short ≡ true → net_refusal short (texted text) ≡ some Short
unfolding net_refusal or_else
short-text text short e = rw e

pub slack-short : (text words : List ℕ) → short_placement words ≡ true → SlackPromise (texted text) words (Err Short)
unfolding SlackPromise slack_refusal slack_figures or_else
slack-short text words e = rw (short-text text (short_placement words) e) refl

pub plan-short : (text before : List ℕ) → short_placement before ≡ true → PlanPromise unlent (texted text) (plan_areas before tt) (Err Short) (plan_areas before tt)
unfolding PlanPromise plan_figures unlent
plan-short text before e = rw (short-text text (short_placement before || false) (rw e)) (refl, refl)

pub list-short : (text : List ℕ) (row : ℕ) (before : Lent) → short_lent before ≡ true → ListPromise unlent (texted text) row (list_areas before tt) (Err Short) (list_areas before tt)
unfolding ListPromise list_refusal list_figures unlent or_else
list-short text row before e = rw (short-text text (short_lent before || false) (rw e)) (refl, refl)

pub slack-on-text : (text words : List ℕ) (b : Result Counted Refusal) (t : Tables) (a : Result Timed Refusal) → short_placement words ≡ false → ReadPromise text no_tables b t → SlackRead b t words a → SlackPromise (texted text) words a
unfolding SlackPromise slack_refusal or_else
slack-on-text text words b t a s p = go b (read_as text no_tables b t p)
  where
    refused-text : (r : Refusal) → net_refusal (short_tables no_tables) (texted text) ≡ some r → slack_figures a ≡ refused no_timing r → SlackPromise (texted text) words a
    refused-text r e h = rw (stays-refused text (short_placement words) r s e) h

    go : (b : Result Counted Refusal) → ReadAs text no_tables t b → SlackRead b t words a → SlackPromise (texted text) words a
    go _ (not_read r e m) h = refused-text r e h
    go _ (was_read n e c m) h = subst (λ (net : Handed). SlackPromise net words a) (tables-as-text text t n (stays-taken text e) c m) h

pub plan-on-text : (text before after : List ℕ) (b : Result Counted Refusal) (t : Tables) (a : Result Timed Refusal) → short_placement before ≡ false → ReadPromise text no_tables b t → PlanRead b t before a after → PlanPromise unlent (texted text) (plan_areas before tt) a (plan_areas after tt)
unfolding PlanPromise unlent
plan-on-text text before after b t a s p = go b (read_as text no_tables b t p)
  where
    refused-text : (r : Refusal) → net_refusal (short_tables no_tables) (texted text) ≡ some r → (plan_figures a ≡ refused no_timing r) × (after ≡ before) → PlanPromise unlent (texted text) (plan_areas before tt) a (plan_areas after tt)
    refused-text r e (f, m) = rw (stays-refused text (short_placement before || false) r (rw s) e) (f, ap (λ (l : List ℕ). plan_areas l tt) m)

    go : (b : Result Counted Refusal) → ReadAs text no_tables t b → PlanRead b t before a after → PlanPromise unlent (texted text) (plan_areas before tt) a (plan_areas after tt)
    go _ (not_read r e m) h = refused-text r e h
    go _ (was_read n e c m) (work, h) = subst (λ (net : Handed). PlanPromise unlent net (plan_areas before tt) a (plan_areas after tt)) (tables-as-text text t n (stays-taken text e) c m) (plan-unlent (tabled t n) before after a work h)

-- and the placement that it returns
pub pick-on-text : (text before after : List ℕ) (b : Result Counted Refusal) (t : Tables) (a : Result Timed Refusal) → ReadPromise text no_tables b t → PlanRead b t before a after → PickRead b t before after a → Picks (text_entries text) before after (plan_figures a).number
unfolding refused
pick-on-text text before after b t a p = go b (read_as text no_tables b t p)
  where
    go : (b : Result Counted Refusal) → ReadAs text no_tables t b → PlanRead b t before a after → PickRead b t before after a → Picks (text_entries text) before after (plan_figures a).number
    go _ (not_read r e m) h k = numbered-picks (text_entries text) before after (rw h.0 (numbered r))
    go _ (was_read n e c m) h k = subst (λ (es : List Entry). Picks es before after (plan_figures a).number) m.entries k

pub list-on-text : (text : List ℕ) (row : ℕ) (before after : Lent) (b : Result Counted Refusal) (t : Tables) (a : Result ℕ Refusal) → short_lent before ≡ false → ReadPromise text no_tables b t → ListRead b t row before a after → ListPromise unlent (texted text) row (list_areas before tt) a (list_areas after tt)
unfolding ListPromise list_refusal unlent or_else
list-on-text text row before after b t a s p = go b (read_as text no_tables b t p)
  where
    refused-text : (r : Refusal) → net_refusal (short_tables no_tables) (texted text) ≡ some r → (list_figures a ≡ refused 0 r) × (after ≡ before) → ListPromise unlent (texted text) row (list_areas before tt) a (list_areas after tt)
    refused-text r e (f, m) = rw (stays-refused text (short_lent before || false) r (rw s) e) (f, ap (λ (l : Lent). list_areas l tt) m)

    go : (b : Result Counted Refusal) → ReadAs text no_tables t b → ListRead b t row before a after → ListPromise unlent (texted text) row (list_areas before tt) a (list_areas after tt)
    go _ (not_read r e m) h = refused-text r e h
    go _ (was_read n e c m) (work, h) = subst (λ (net : Handed). ListPromise unlent net row (list_areas before tt) a (list_areas after tt)) (tables-as-text text t n (stays-taken text e) c m) (list-unlent (tabled t n) row before after a work h)

-- reading into tables that nobody sees answers the counts
pub count-on-text : (text : List ℕ) (a : Result Counted Refusal) (t : Tables) → ReadPromise text no_tables a t → CountPromise (texted text) a
unfolding ReadPromise CountPromise
count-on-text text a t p = subst (λ (b : Bool). Settled (net_refusal b (texted text)) (λ r. read_figures a ≡ refused no_counts r) (read_figures a ≡ done (counts_in (text_entries text)))) no-tables (go (net_refusal (short_tables no_tables) (texted text)) p)
  where
    go : (o : Option Refusal) → Settled o (λ r. (read_figures a ≡ refused no_counts r) × (t ≡ no_tables)) ((read_figures a ≡ done (counts_in (text_entries text))) × (t ≡ filled (text_entries text) no_tables)) → Settled o (λ r. read_figures a ≡ refused no_counts r) (read_figures a ≡ done (counts_in (text_entries text)))
    go none (f, m) = f
    go (some r) (f, m) = f

-- ---- the loads of a list alone
pub loads-refused : {b : Result Counted Refusal} {r : Refusal} (t : Tables) (row : ℕ) (before : List ℕ) → b ≡ Err r → LoadsRead b t row before (Err r) before
loads-refused t row before e = (unseen_times, list-refused t row (lent_of before unseen_times) e)

pub loads-read : {b : Result Counted Refusal} {types rows m n : ℕ} (t : Tables) (row : ℕ) (before : List ℕ) (a : Result ℕ Refusal) (after : List ℕ) (work : Columns) → b ≡ Ok (record { types = types; rows = rows }) → m ≡ types → n ≡ rows → LoadsPromise columns (tabled t (counts_of m n)) row (loads_areas before no_work) a (loads_areas after work) → LoadsRead b t row before a after
unfolding LoadsPromise
loads-read t row before a after work e p q (times, h) = (times, list_read t row (lent_of before unseen_times) a (lent_of after times) work e p q h)

pub loads-short : (text : List ℕ) (row : ℕ) (before : List ℕ) → ltb (length before) list_room ≡ true → LoadsPromise unlent (texted text) row (loads_areas before tt) (Err Short) (loads_areas before tt)
unfolding LoadsPromise short_lent
loads-short text row before e = (unseen_times, list-short text row (lent_of before unseen_times) (rw e refl))

pub loads-on-text : (text : List ℕ) (row : ℕ) (before after : List ℕ) (b : Result Counted Refusal) (t : Tables) (a : Result ℕ Refusal) → ltb (length before) list_room ≡ false → ReadPromise text no_tables b t → LoadsRead b t row before a after → LoadsPromise unlent (texted text) row (loads_areas before tt) a (loads_areas after tt)
unfolding LoadsPromise short_lent
loads-on-text text row before after b t a s p (times, h) = (times, list-on-text text row (lent_of before unseen_times) (lent_of after times) b t a (rw s refl) p h)
