-- What the areas hold once some entries have passed, and how one line more is counted and stored. Assumes nothing.
use Rattle.std.specs.Prelude.{◌≡◌, List, [], ◌∷◌, ◌++◌, ℕ, ◌+◌, ◌*◌, ◌<◌, eqb, ℤ, pos, negsuc, length, take, Result, Ok, Err}
use Rattle.rules.specs.Tables.{words_a_type, words_a_row, type_table, row_table, due_table}
use Rattle.rules.specs.Quantities.{types_room, rows_room}
use Rattle.rules.specs.Entries.{Entry, types_of, rows_of, sites_of, site_count}
use Rattle.rooms.specs.Cap.{word_cap}
use Rattle.repeaters.specs.declared.Buffer.{Buffer}
use Rattle.checks.specs.declared.Wire.{Wire}
use Rattle.checks.specs.declared.Passed.{Passed}
use Rattle.checks.specs.declared.Line.{Line}
use Rattle.checks.specs.declared.Line.TheVariants.{Repeater as TypeLine, Driver as DriverLine, Point as PointLine, Sink as SinkLine}
use Rattle.entries.specs.Lines.{wire_of}
use Rattle.rules.specs.declared.Refusal.{Refusal}
use Rattle.checks.specs.Checks.{FewPassed}

-- the areas hold the entries that have passed, and nothing else was counted
pub record Holds (before : List Entry) (types rows : List ℕ) (due : List ℤ) (n : Passed) : Type 0 where
  pub few : FewPassed n
  pub types_counted : length (types_of before) ≡ n.types
  pub rows_counted : length (rows_of before) ≡ n.rows
  pub sites_counted : sites_of (rows_of before) ≡ n.sites
  pub lines_counted : length before ≡ n.types + n.rows
  pub type_words : type_table (types_of before) ≡ take (words_a_type * n.types) types
  pub row_words : row_table (rows_of before) ≡ take (words_a_row * n.rows) rows
  pub due_times : due_table (rows_of before) ≡ take n.rows due

-- ---- one line more
abbrev pub with_type : Passed → Passed
with_type n = record { types = n.types + 1; rows = n.rows; sites = n.sites }

abbrev pub with_row : Passed → (site : ℕ) → Passed
with_row n site = record { types = n.types; rows = n.rows + 1; sites = n.sites + site_count (eqb site 1) }

abbrev pub counted_with : Passed → Result Line Refusal → Passed
counted_with n (Ok (TypeLine t)) = with_type n
counted_with n (Ok (DriverLine o)) = with_row n 0
counted_with n (Ok (PointLine w)) = with_row n w.site
counted_with n (Ok (SinkLine w p)) = with_row n w.site
counted_with n (Err r) = n

-- an own delay as a word
abbrev pub own_word : ℤ → ℕ
own_word (pos n) = n
own_word (negsuc n) = 0

abbrev pub words_of_type : Buffer → List ℕ
words_of_type t = t.input.0 ∷ t.resistance.0 ∷ own_word t.own.0 ∷ []

abbrev pub words_of_row : (kind : ℕ) → Wire → (pin : ℕ) → List ℕ
words_of_row kind w pin = kind ∷ w.parent ∷ w.resistance.0 ∷ w.capacitance.0 ∷ w.site ∷ pin ∷ []

abbrev pub type_words_of : Result Line Refusal → List ℕ
type_words_of (Ok (TypeLine t)) = words_of_type t
type_words_of (Ok (DriverLine o)) = []
type_words_of (Ok (PointLine w)) = []
type_words_of (Ok (SinkLine w p)) = []
type_words_of (Err r) = []

abbrev pub row_words_of : Result Line Refusal → List ℕ
row_words_of (Ok (TypeLine t)) = []
row_words_of (Ok (DriverLine o)) = words_of_row 0 (wire_of 0 o.0 0 0) 0
row_words_of (Ok (PointLine w)) = words_of_row 1 w 0
row_words_of (Ok (SinkLine w p)) = words_of_row 2 w p.load.0
row_words_of (Err r) = []

abbrev pub due_times_of : Result Line Refusal → List ℤ
due_times_of (Ok (TypeLine t)) = []
due_times_of (Ok (DriverLine o)) = pos 0 ∷ []
due_times_of (Ok (PointLine w)) = pos 0 ∷ []
due_times_of (Ok (SinkLine w p)) = p.due.0 ∷ []
due_times_of (Err r) = []

-- there is room for the line's entry
abbrev pub Roomy : Passed → Result Line Refusal → Type 0
Roomy n (Ok (TypeLine t)) = (n.types < types_room) × (own_word t.own.0 < word_cap)
Roomy n (Ok (DriverLine o)) = n.rows < rows_room
Roomy n (Ok (PointLine w)) = n.rows < rows_room
Roomy n (Ok (SinkLine w p)) = n.rows < rows_room
Roomy n (Err r) = Unit {0}

-- the areas have grown by the line's entry
pub record Grown (n : Passed) (line : Result Line Refusal) (types types' rows rows' : List ℕ) (due due' : List ℤ) : Type 0 where
  pub types_grown : take (words_a_type * (counted_with n line).types) types' ≡ take (words_a_type * n.types) types ++ type_words_of line
  pub rows_grown : take (words_a_row * (counted_with n line).rows) rows' ≡ take (words_a_row * n.rows) rows ++ row_words_of line
  pub due_grown : take (counted_with n line).rows due' ≡ take n.rows due ++ due_times_of line
