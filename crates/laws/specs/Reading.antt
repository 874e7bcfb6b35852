-- Reading a text, by its promise alone: it was refused and the tables are as they were, or the tables read from it state the net that the
-- text states and are accepted as it is. Assumes nothing.
use Rattle.std.specs.Prelude.{◌≡◌, refl, false, List, ◌++◌, ℕ, ◌*◌, ltb, length, drop, Result, Ok, Err}
use Rattle.std.proofs.Common.{sym, ap, ◌∙◌, arith, length-append, length-drop, le-ltb, ltb-false}
use Rattle.std.proofs.Math.Option.{Option, none, some, or_else}
use Rattle.rules.specs.declared.Refusal.{Refusal}
use Rattle.rules.specs.declared.Refusal.TheVariants.{Room, Short}
use Rattle.rules.specs.Lists.{written}
use Rattle.rules.specs.Quantities.{types_room, rows_room, text_room}
use Rattle.rules.specs.Entries.{Entry, types_of, rows_of}
use Rattle.rules.specs.Text.{text_entries}
use Rattle.rules.specs.Tables.{Tables, Counts, words_a_type, words_a_row, short_tables, table_entries, filled, counts_in}
use Rattle.rules.specs.Refusals.{refusal_of}
use Rattle.rules.specs.Answers.{refused, done, no_counts, read_figures}
use Rattle.rules.specs.Promises.{Settled, ReadPromise, net_refusal, tabled, texted}
use Rattle.laws.specs.Tests.{is_false, both_false, passes}
use Rattle.laws.specs.Figures.{read-figures}
use Rattle.laws.specs.Checked.{Passed}
use Rattle.rules.specs.declared.Counted.{Counted}
use Rattle.laws.specs.Tabling.{tables-back}

-- ---- an area long enough stays so
still-long : {A : Type 0} (new area : List A) (room : ℕ) → ltb (length area) room ≡ false → ltb (length (written new area)) room ≡ false
unfolding written
still-long new area room e = le-ltb (length (new ++ drop (length new) area)) room (omega (arith, ltb-false (length area) room e, length-append new (drop (length new) area), length-drop (length new) area))

pub filled-long : (es : List Entry) (t : Tables) → short_tables t ≡ false → short_tables (filled es t) ≡ false
unfolding short_tables filled
filled-long es t e =
    let (a, e) = both_false (ltb (length t.types) (words_a_type * types_room)) _ e in
    let (b, c) = both_false (ltb (length t.rows) (words_a_row * rows_room)) _ e in
    rw (still-long _ t.types (words_a_type * types_room) a, still-long _ t.rows (words_a_row * rows_room) b, still-long _ t.due rows_room c)

-- what is accepted as entries is accepted as the tables that they are read into
pub tables-passed : (es : List Entry) (t : Tables) → refusal_of es ≡ none → short_tables t ≡ false → Passed (filled es t) (counts_in es)
tables-passed es t h e = record { long = filled-long es t e; accepted = ap refusal_of (tables-back es t h) ∙ h }

-- ---- what was read
-- the tables and counts state the net that the text states, and neither is refused
pub record StatedBy (text : List ℕ) (t : Tables) (n : Counts) : Type 0 where
  pub entries : table_entries t n ≡ text_entries text
  pub accepted : refusal_of (text_entries text) ≡ none
  pub passed : Passed t n

-- a text that is not refused is read into tables that state it
pub read-stated : (text : List ℕ) (before : Tables) → net_refusal (short_tables before) (texted text) ≡ none → StatedBy text (filled (text_entries text) before) (counts_in (text_entries text))
unfolding net_refusal
read-stated text before e =
    let es = text_entries text in
    let (a, e) = passes (short_tables before) Short _ e in
    let (b, h) = passes (ltb text_room (length text)) (Room 0) _ e in
    record { entries = tables-back es before h; accepted = h; passed = tables-passed es before h (is_false (short_tables before) a) }

-- the answers of a reading
pub data ReadAs (text : List ℕ) (before after : Tables) : Result Counted Refusal → Type 0 where
  not_read : (r : Refusal) → net_refusal (short_tables before) (texted text) ≡ some r → after ≡ before → ReadAs text before after (Err r)
  was_read : (n : Counts) → net_refusal (short_tables before) (texted text) ≡ none → n ≡ counts_in (text_entries text) → StatedBy text after n → ReadAs text before after (Ok (record { types = n.types; rows = n.rows }))

-- by the promise of read_net a text was refused, or read into tables that state it
pub read_as : (text : List ℕ) (before : Tables) (answer : Result Counted Refusal) (after : Tables) → ReadPromise text before answer after → ReadAs text before after answer
unfolding ReadPromise read_figures
read_as text before answer after p = go (net_refusal (short_tables before) (texted text)) refl p
  where
    es : List Entry
    es = text_entries text

    go : (o : Option Refusal) → net_refusal (short_tables before) (texted text) ≡ o → Settled o (λ r. (read_figures answer ≡ refused no_counts r) × (after ≡ before)) ((read_figures answer ≡ done (counts_in es)) × (after ≡ filled es before)) → ReadAs text before after answer
    go (some r) e (f, m) = rw (read-figures answer (Err r) f) (not_read r e m)
    go none e (f, m) = rw (read-figures answer (Ok (record { types = (length (types_of es)); rows = (length (rows_of es)) })) f, m) (was_read (counts_in es) e refl (read-stated text before e))

-- ---- the same net, as text and as tables
-- the tables read from a text that is not refused are handed over as the text is: no promise tells one from the other
pub tables-as-text : (text : List ℕ) (t : Tables) (n : Counts) → net_refusal false (texted text) ≡ none → n ≡ counts_in (text_entries text) → StatedBy text t n → tabled t n ≡ texted text
unfolding net_refusal or_else
tables-as-text text t n e c S =
    let short : short_tables t ≡ false = S.passed.long in
    let stopped : refusal_of (table_entries t n) ≡ (texted text).stopped = S.passed.accepted ∙ sym e in
    let rows : n.rows ≡ length (rows_of (text_entries text)) = ap (λ (m : Counts). m.rows) c in
    λ i. record { short = short i; stopped = stopped i; entries = S.entries i; rows = rows i }
