-- The entries of a table by value: what its words say of a row. Assumes nothing.
use Rattle.std.specs.Prelude.{◌≡◌, List, ℕ, ◌+◌, ◌*◌, ℤ, pos, get_or, Result}
use Rattle.rules.specs.Entries.{Entry}
use Rattle.rules.specs.Tables.{row_by, words_a_row, row_parent, row_resistance, row_capacitance, row_site, row_pin, driver_kind}
use Rattle.checks.specs.declared.Wire.{Wire}
use Rattle.checks.specs.declared.Passed.{Passed}
use Rattle.entries.specs.Lines.{line_for}
use Rattle.rules.specs.declared.Refusal.{Refusal}
use Rattle.checks.specs.Checks.{check_of, place_at}

-- the entry of row i
abbrev pub row_entry_of : (rows : List ℕ) (due : List ℤ) → ℕ → Entry
row_entry_of rows due i =
    row_by (get_or rows (words_a_row * i) 0) (get_or rows (words_a_row * i + row_parent) 0) (get_or rows (words_a_row * i + row_resistance) 0) (get_or rows (words_a_row * i + row_capacitance) 0) (get_or rows (words_a_row * i + row_site) 0) (get_or rows (words_a_row * i + row_pin) 0) (get_or due i (pos 0))

-- the words of a row, checked as the line that they state
abbrev pub words_check : (rows : List ℕ) → Passed → (kind : ℕ) → Wire → (pin : ℕ) (due : ℤ) → Result (Unit {0}) Refusal
words_check rows n kind w pin due = check_of rows n (line_for (place_at n) (row_by kind w.parent w.resistance.0 w.capacitance.0 w.site pin due))

-- those of a driver, whatever the rows
abbrev pub DriverChecked : Passed → Wire → (pin : ℕ) (due : ℤ) → Result (Unit {0}) Refusal → Type 0
DriverChecked n w pin due r = (rows : List ℕ) → r ≡ words_check rows n driver_kind w pin due

-- row i, checked as its line
abbrev pub row_check : (rows : List ℕ) (due : List ℤ) → Passed → ℕ → Result (Unit {0}) Refusal
row_check rows due n i = check_of rows n (line_for (place_at n) (row_entry_of rows due i))
