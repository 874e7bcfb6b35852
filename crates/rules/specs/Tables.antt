-- The net as tables: three words a type, six words and a required time a row, and how many there are of each. It has the same entries
-- in the same order as a text. And the tables that a list of entries is written to. Assumes nothing.
use Rattle.std.specs.Prelude.{Bool, false, cond, ◌&&◌, ◌||◌, List, [], ◌∷◌, ◌++◌, map, ℕ, zero, suc, ◌+◌, ◌*◌, min, ltb, eqb, ℤ, pos, negsuc, length, get_or}
use Rattle.rules.specs.declared.Net.{Net}
use Rattle.rules.specs.declared.Kind.{Kind}
use Rattle.rules.specs.declared.Kind.TheVariants.{Driver, Point, Sink}
use Rattle.rules.specs.declared.Row.{Row}
use Rattle.rules.specs.Lists.{written}
use Rattle.rules.specs.Quantities.{types_room, rows_room}
use Rattle.rules.specs.Entries.{Entry, type, driver, point, sink, malformed, beyond, Repeater, types_of, rows_of}

-- the lent areas
pub record Tables : Type 0 where
  -- input load, resistance, own delay of each type
  pub types : List ℕ
  -- kind (0 driver, 1 point, 2 sink), parent, resistance, capacitance, site, pin load of each row
  pub rows : List ℕ
  -- required time of each row
  pub due : List ℤ

-- how many types and rows there are, the driver included
pub record Counts : Type 0 where
  pub types : ℕ
  pub rows : ℕ

-- three areas are tables, and two numbers are counts
abbrev pub tables_of : (types rows : List ℕ) (due : List ℤ) → Tables
tables_of types rows due = record { types = types; rows = rows; due = due }

abbrev pub counts_of : (types rows : ℕ) → Counts
counts_of types rows = record { types = types; rows = rows }

-- of a net as it is lent
abbrev pub net_tables : Net → Tables
net_tables net = tables_of net.types.now net.rows.now net.due.now

abbrev pub net_counts : Net → Counts
net_counts net = counts_of net.type_count net.row_count

-- ---- what tables state
-- how many words a type and a row have
abbrev pub words_a_type : ℕ
words_a_type = 3

abbrev pub words_a_row : ℕ
words_a_row = 6

-- where they stand, counted from the first, which is a type's input load and a row's kind; and the numbers of the kinds
abbrev pub type_resistance : ℕ
type_resistance = 1

abbrev pub type_own : ℕ
type_own = 2

abbrev pub row_parent : ℕ
row_parent = 1

abbrev pub row_resistance : ℕ
row_resistance = 2

abbrev pub row_capacitance : ℕ
row_capacitance = 3

abbrev pub row_site : ℕ
row_site = 4

abbrev pub row_pin : ℕ
row_pin = 5

abbrev pub driver_kind : ℕ
driver_kind = 0

abbrev pub point_kind : ℕ
point_kind = 1

abbrev pub sink_kind : ℕ
sink_kind = 2

-- an area is shorter than its room
unfoldable pub short_tables : Tables → Bool
short_tables t = ltb (length t.types) (words_a_type * types_room) || (ltb (length t.rows) (words_a_row * rows_room) || ltb (length t.due) rows_room)

unfoldable pub type_entry : Tables → ℕ → Entry
type_entry t i = type (get_or t.types (words_a_type * i) 0) (get_or t.types (words_a_type * i + type_resistance) 0) (get_or t.types (words_a_type * i + type_own) 0)

unfoldable pub is_zero : ℤ → Bool
is_zero (pos n) = eqb n 0
is_zero (negsuc n) = false

-- an entry of six words and a required time. A field not zero that its line would lack is malformed, and so is any other kind
unfoldable pub row_by : (kind parent resistance capacitance site pin : ℕ) (due : ℤ) → Entry
row_by kind parent resistance capacitance site pin due =
    cond (eqb kind driver_kind) (cond (eqb parent 0 && (eqb capacitance 0 && (eqb site 0 && (eqb pin 0 && is_zero due)))) (driver resistance) malformed)
    (cond (eqb kind point_kind) (cond (eqb pin 0 && is_zero due) (point parent resistance capacitance site) malformed)
    (cond (eqb kind sink_kind) (sink parent resistance capacitance site pin due) malformed))

unfoldable pub row_entry : Tables → ℕ → Entry
row_entry t i =
    let word : ℕ → ℕ = λ w. get_or t.rows (words_a_row * i + w) 0 in
    row_by (word 0) (word row_parent) (word row_resistance) (word row_capacitance) (word row_site) (word row_pin) (get_or t.due i (pos 0))

-- entries i, i + 1 and on, n of them
unfoldable pub from : (ℕ → Entry) → (i n : ℕ) → List Entry
from entry i zero = []
from entry i (suc n) = entry i ∷ from entry (i + 1) n

-- as many as are counted; the first past the room is there and unread
unfoldable pub counted : (ℕ → Entry) → (room count : ℕ) → List Entry
counted entry room count = from entry 0 (min count room) ++ cond (ltb room count) (beyond ∷ []) []

unfoldable pub table_entries : Tables → Counts → List Entry
table_entries t n = counted (type_entry t) types_room n.types ++ counted (row_entry t) rows_room n.rows

-- ---- what is written for entries
-- how many types and rows there are
abbrev pub counts_in : List Entry → Counts
counts_in es = counts_of (length (types_of es)) (length (rows_of es))

-- the words of types and of rows, and the required times: 0 where there is none
unfoldable pub type_table : List Repeater → List ℕ
type_table [] = []
type_table (x ∷ types) = x.input ∷ x.resistance ∷ x.own ∷ type_table types

abbrev pub kind_word : Kind → ℕ
kind_word Driver = driver_kind
kind_word Point = point_kind
kind_word (Sink pin) = sink_kind

abbrev pub pin_word : Kind → ℕ
pin_word Driver = 0
pin_word Point = 0
pin_word (Sink pin) = pin.load.0

abbrev pub due_of : Kind → ℤ
due_of Driver = pos 0
due_of Point = pos 0
due_of (Sink pin) = pin.due.0

unfoldable pub row_table : List Row → List ℕ
row_table [] = []
row_table (x ∷ rows) = kind_word x.kind ∷ x.parent ∷ x.resistance.0 ∷ x.capacitance.0 ∷ cond x.site 1 0 ∷ pin_word x.kind ∷ row_table rows

unfoldable pub due_table : List Row → List ℤ
due_table rows = map (λ x. due_of x.kind) rows

-- the areas with a net's entries written at their start
unfoldable pub filled : List Entry → Tables → Tables
filled es t = record { types = written (type_table (types_of es)) t.types; rows = written (row_table (rows_of es)) t.rows; due = written (due_table (rows_of es)) t.due }
