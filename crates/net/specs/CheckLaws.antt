-- A net given as tables, checked: the refusal of its types, of its rows after them, and the promise of check_net. Assumes nothing.
use Rattle.std.specs.Prelude.{◌≡◌, Bool, true, false, ◌||◌, ℕ, ◌*◌, ltb, ℤ, length, Result, Ok, Err}
use Rattle.std.proofs.Common.{sym, ◌∙◌}
use mathlib.Core.List.{List, [], ◌++◌}
use Rattle.std.proofs.Math.Option.{Option, none, some, or_else}
use Rattle.rules.specs.Quantities.{types_room, rows_room}
use Rattle.rules.specs.declared.Refusal.{Refusal}
use Rattle.rules.specs.declared.Refusal.TheVariants.{Short}
use Rattle.rules.specs.Entries.{Entry}
use Rattle.rules.specs.Tables.{Tables, Counts, short_tables, table_entries, words_a_type, words_a_row, tables_of, counts_of}
use Rattle.rules.specs.Refusals.{refusal_of, first_refusal}
use Rattle.rules.specs.Answers.{refused, done, check_figures}
use Rattle.rules.specs.Promises.{Settled, CheckPromise, net_refusal, tabled}
use Rattle.checks.specs.declared.Passed.{Passed}
use Rattle.checks.specs.Checks.{checking, FewPassed}
use Rattle.entries.specs.Held.{Holds}
use Rattle.net.specs.Steps.{AllAfter}
use Rattle.net.specs.TableSteps.{type_entries, row_entries, Through, FewTaken, TypesTaken, RowsTaken}

module _ (types rows : List ℕ) (due : List ℤ) (type-count row_count : ℕ) (r : Result Passed Refusal) (took : TypesTaken types type-count r) where
  pub types-refused : (x : Refusal) → r ≡ Err x → Err x ≡ checking (refusal_of (table_entries (tables_of types rows due) (counts_of type-count row_count)))
  unfolding refusal_of table_entries
  types-refused x e =
      let g : (rest : List Entry) → first_refusal [] (type_entries (tables_of types rows due) type-count ++ rest) ≡ some x = rw e at (took rows due) in
      rw (g (row_entries (tables_of types rows due) row_count))

  module _ (n : Passed) (r-is : r ≡ Ok n) (r' : Result Passed Refusal) (took' : RowsTaken rows due n row_count r') where
    through : Through (tables_of types rows due) [] (type_entries (tables_of types rows due) type-count) n
    through = rw r-is at (took rows due)

    afterwards : AllAfter (type_entries (tables_of types rows due) type-count) (row_entries (tables_of types rows due) row_count) r' types rows due
    afterwards = took' types (type_entries (tables_of types rows due) type-count) through.held

    all : refusal_of (table_entries (tables_of types rows due) (counts_of type-count row_count)) ≡ first_refusal (type_entries (tables_of types rows due) type-count) (row_entries (tables_of types rows due) row_count)
    unfolding refusal_of table_entries
    all = through.first (row_entries (tables_of types rows due) row_count)

    pub rows-refused : (x : Refusal) → r' ≡ Err x → Err x ≡ checking (refusal_of (table_entries (tables_of types rows due) (counts_of type-count row_count)))
    rows-refused x e =
        let g : first_refusal (type_entries (tables_of types rows due) type-count) (row_entries (tables_of types rows due) row_count) ≡ some x = rw e at afterwards in
        rw (all, g)

    pub rows-accepted : (m : Passed) → r' ≡ Ok m → (Ok tt) ≡ checking (refusal_of (table_entries (tables_of types rows due) (counts_of type-count row_count)))
    rows-accepted m e =
        let es = type_entries (tables_of types rows due) type-count in
        let more = row_entries (tables_of types rows due) row_count in
        let g : (first_refusal es more ≡ none) × Holds (es ++ more) types rows due m = rw e at afterwards in
        rw (all, g.0)

pub few-taken : (r : Result Passed Refusal) (n : Passed) → r ≡ Ok n → FewTaken r → FewPassed n × (n.rows ≡ 0)
few-taken r n e h = rw e at h

-- ---- 7 first
module _ (short : Bool) (types rows : List ℕ) (due : List ℤ) (n : Counts) (s : Bool) (s-is : s ≡ (ltb (length types) (words_a_type * types_room) || (ltb (length rows) (words_a_row * rows_room) || ltb (length due) rows_room))) where
  pub short-checked : s ≡ true → Err Short ≡ checking (net_refusal short (tabled (tables_of types rows due) n))
  unfolding net_refusal short_tables or_else
  short-checked t = rw (sym s-is ∙ t)

  pub own-checked : s ≡ false → short ≡ true → Err Short ≡ checking (net_refusal short (tabled (tables_of types rows due) n))
  unfolding net_refusal short_tables or_else
  own-checked f t = rw (sym s-is ∙ f, t)

  pub net-checked : (r : Result (Unit {0}) Refusal) → s ≡ false → short ≡ false → r ≡ checking (refusal_of (table_entries (tables_of types rows due) n)) → r ≡ checking (net_refusal short (tabled (tables_of types rows due) n))
  unfolding net_refusal short_tables or_else
  net-checked r f g e = rw (sym s-is ∙ f, g) e

-- ---- the promise
settled : (o : Option Refusal) (r : Result (Unit {0}) Refusal) → r ≡ checking o → Settled o (λ x. check_figures r ≡ refused tt x) (check_figures r ≡ done tt)
unfolding check_figures
settled none r e = rw e
settled (some x) r e = rw e

pub promise-kept : (t : Tables) (n : Counts) (r : Result (Unit {0}) Refusal) → r ≡ checking (net_refusal false (tabled t n)) → CheckPromise (tabled t n) r
unfolding CheckPromise
promise-kept t n r e = settled (net_refusal false (tabled t n)) r e
