-- Tables that were checked, as the walks over them need them. Assumes nothing.
use Rattle.std.specs.Prelude.{◌≡◌, refl, false, List, [], ◌∷◌, ℕ, ◌*◌, ◌≤◌, ltb, ℤ, length, get_or}
use Rattle.std.proofs.Common.{sym, ap, ◌∙◌, arith, ltb-false}
use Rattle.rules.specs.declared.Row.{Row}
use Rattle.rules.specs.Quantities.{types_room, rows_room}
use Rattle.rules.specs.Tables.{words_a_type, words_a_row, short_tables, table_entries, tables_of, counts_of}
use Rattle.rules.specs.Net.{driver_ohms}
use Rattle.laws.specs.Tests.{both_false}
use Rattle.laws.specs.Accepted.{Accepted, accepted}
use Rattle.laws.specs.Rows.{rows-two, later-at}
use Rattle.laws.specs.Tabled.{row_at, rows_from, rows-length, repeaters_from, Tabled, tabled}
use Rattle.laws.specs.Walk.{no_row}
use Rattle.laws.specs.Checked.{Passed}
use Rattle.rows.specs.Links.{Standing, Earlier, row_is}

-- the areas have their rooms
pub record Long (types rows : List ℕ) (due : List ℤ) : Type 0 where
  pub types_fit : words_a_type * types_room ≤ length types
  pub rows_fit : words_a_row * rows_room ≤ length rows
  pub due_fits : rows_room ≤ length due

pub long-tables : (types rows : List ℕ) (due : List ℤ) → short_tables (tables_of types rows due) ≡ false → Long types rows due
unfolding short_tables
long-tables types rows due e =
    let (a, b) = both_false (ltb (length types) (words_a_type * types_room)) _ e in
    let (b, c) = both_false (ltb (length rows) (words_a_row * rows_room)) _ b in
    record { types_fit = ltb-false _ _ a; rows_fit = ltb-false _ _ b; due_fits = ltb-false _ _ c }

pub driver-first : (net : List Row) → 1 ≤ length net → driver_ohms net ≡ (get_or net 0 no_row).resistance.0
driver-first [] h = absurd (omega arith)
driver-first (x ∷ net) h = refl

module _ {types rows : List ℕ} {due : List ℤ} {count n : ℕ} (P : Passed (tables_of types rows due) (counts_of count n)) where
  pub held : Tabled (tables_of types rows due) (counts_of count n)
  held = tabled (tables_of types rows due) (counts_of count n) P.accepted

  pub areas : Long types rows due
  areas = long-tables types rows due P.long

  -- the net of the words is accepted
  pub net-accepted : Accepted (repeaters_from types 0 count) (rows_from rows due 0 n)
  net-accepted = rw (held.types_are, held.rows_are) at (accepted (table_entries (tables_of types rows due) (counts_of count n)) P.accepted)

  pub standing : Standing rows due n
  standing = record {
    some = omega (arith, rows-two net-accepted, rows-length rows due 0 n);
    few = held.rows_few;
    rows_long = omega (arith, held.rows_few, areas.rows_fit);
    due_long = omega (arith, held.rows_few, areas.due_fits);
  }

  pub earlier : Earlier (rows_from rows due 0 n)
  earlier j h g = (later-at net-accepted no_row j h g).parent

  pub driver_is : (row_at rows due 0).resistance.0 ≡ driver_ohms (rows_from rows due 0 n)
  driver_is = ap (λ x. x.resistance.0) (sym (row_is rows due n 0 (row_at rows due 0) standing.some refl)) ∙ sym (driver-first (rows_from rows due 0 n) (rw rows-length standing.some))
