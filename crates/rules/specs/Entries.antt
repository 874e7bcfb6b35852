-- The entries of a net, one for each line of a text or each entry of a table, with the numbers as they stand there, of any size;
-- and the types and rows that they state. Assumes nothing.
use Rattle.std.specs.Prelude.{Bool, true, false, List, [], ◌∷◌, ℕ, ◌+◌, eqb, ℤ}
use Rattle.rules.specs.declared.Kind.{Kind}
use Rattle.rules.specs.declared.Kind.TheVariants.{Driver, Point, Sink}
use Rattle.rules.specs.declared.Row.{Row}

pub data Entry : Type 0 where
  -- `T` input load, resistance, own delay
  type : (input resistance own : ℕ) → Entry
  -- `D` resistance
  driver : (resistance : ℕ) → Entry
  -- `W` parent, wire resistance, wire capacitance, site
  point : (parent resistance capacitance site : ℕ) → Entry
  -- `S` parent, wire resistance, wire capacitance, site, pin load, required time
  sink : (parent resistance capacitance site pin : ℕ) (due : ℤ) → Entry
  -- not of the form of any line
  malformed : Entry
  -- counted in a table past its room, and unread
  beyond : Entry

-- a type of repeater
pub record Repeater : Type 0 where
  pub input : ℕ
  pub resistance : ℕ
  pub own : ℕ

-- the types, in their order
unfoldable pub types_of : List Entry → List Repeater
types_of [] = []
types_of (type input resistance own ∷ es) = record { input = input; resistance = resistance; own = own } ∷ types_of es
types_of (driver resistance ∷ es) = types_of es
types_of (point parent resistance capacitance site ∷ es) = types_of es
types_of (sink parent resistance capacitance site pin due ∷ es) = types_of es
types_of (malformed ∷ es) = types_of es
types_of (beyond ∷ es) = types_of es

-- how many sites a row has
abbrev pub site_count : Bool → ℕ
site_count true = 1
site_count false = 0

-- how many of the rows have a site
unfoldable pub sites_of : List Row → ℕ
sites_of [] = 0
sites_of (x ∷ rows) = site_count x.site + sites_of rows

-- one row. The driver has no wire above it
unfoldable pub row_of : (parent resistance capacitance site : ℕ) → Kind → Row
row_of parent resistance capacitance site kind = record { parent = parent; resistance = record { 0 = resistance }; capacitance = record { 0 = capacitance }; site = eqb site 1; kind = kind }

-- the rows, in their order: the driver is row 0
unfoldable pub rows_of : List Entry → List Row
rows_of [] = []
rows_of (type input resistance own ∷ es) = rows_of es
rows_of (driver resistance ∷ es) = row_of 0 resistance 0 0 Driver ∷ rows_of es
rows_of (point parent resistance capacitance site ∷ es) = row_of parent resistance capacitance site Point ∷ rows_of es
rows_of (sink parent resistance capacitance site pin due ∷ es) = row_of parent resistance capacitance site (Sink (record { load = record { 0 = pin }; due = record { 0 = due } })) ∷ rows_of es
rows_of (malformed ∷ es) = rows_of es
rows_of (beyond ∷ es) = rows_of es
