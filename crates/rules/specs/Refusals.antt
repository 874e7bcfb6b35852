-- The refusal list and its order, stated once for texts and tables: line by line, and in one line 1, 2, 3, 4; after the last line
-- the missing driver and 5. Assumes nothing.
use Rattle.std.specs.Prelude.{Bool, true, false, not, ◌&&◌, ◌||◌, List, [], ◌∷◌, ◌++◌, ℕ, zero, suc, ◌+◌, leb, ltb, eqb, length}
use Rattle.std.proofs.Math.Option.{Option, none, some, or_else}
use Rattle.std.specs.Int.Signed.{lt_z}
use Rattle.rules.specs.declared.Kind.{Kind}
use Rattle.rules.specs.declared.Kind.TheVariants.{Driver, Point, Sink}
use Rattle.rules.specs.declared.Refusal.{Refusal}
use Rattle.rules.specs.declared.Refusal.TheVariants.{Form, Range, Room, Parent, Childless, Mark, Short, NoRow}
use Rattle.rules.specs.declared.Row.{Row}
use Rattle.rules.specs.Lists.{given_when}
use Rattle.rules.specs.Quantities.{most_ohms, most_femtofarads, most_own, earliest_due, latest_due, most_parent, most_site, types_room, rows_room, sites_room}
use Rattle.rules.specs.Entries.{Entry, type, driver, point, sink, malformed, beyond, types_of, rows_of, sites_of}

-- the number that the paper gives each refusal, and its place
abbrev pub number_of : Refusal → ℕ
number_of (Form line) = 1
number_of (Range line) = 2
number_of (Room line) = 3
number_of (Parent line) = 4
number_of (Childless line) = 5
number_of (Mark line) = 6
number_of Short = 7
number_of NoRow = 8

abbrev pub place_of : Refusal → ℕ
place_of (Form line) = line
place_of (Range line) = line
place_of (Room line) = line
place_of (Parent line) = line
place_of (Childless line) = line
place_of (Mark line) = line
place_of Short = 0
place_of NoRow = 0

-- ---- what one line is refused for, after the lines before it
abbrev pub some? : {A : Type 0} → List A → Bool
some? [] = false
some? (x ∷ xs) = true

-- 1: not of the form, or out of order: first the types, then one driver, then the rows
unfoldable pub misplaced : (driven : Bool) → Entry → Bool
misplaced driven (type input resistance own) = driven
misplaced driven (driver resistance) = driven
misplaced driven (point parent resistance capacitance site) = not driven
misplaced driven (sink parent resistance capacitance site pin due) = not driven
misplaced driven malformed = true
misplaced driven beyond = false

-- 2: a number out of range
abbrev pub wire_out : (parent resistance capacitance site : ℕ) → Bool
wire_out parent resistance capacitance site = ltb most_parent parent || (ltb most_ohms resistance || (ltb most_femtofarads capacitance || ltb most_site site))

unfoldable pub out_of_range : Entry → Bool
out_of_range (type input resistance own) = ltb most_femtofarads input || (ltb most_ohms resistance || ltb most_own own)
out_of_range (driver resistance) = ltb most_ohms resistance
out_of_range (point parent resistance capacitance site) = wire_out parent resistance capacitance site
out_of_range (sink parent resistance capacitance site pin due) = wire_out parent resistance capacitance site || (ltb most_femtofarads pin || (lt_z due earliest_due || lt_z latest_due due))
out_of_range malformed = false
out_of_range beyond = false

-- 3: a fifth type, a 257th row, a 65th site
abbrev pub row_too_many : List Row → (site : ℕ) → Bool
row_too_many rows site = leb rows_room (length rows) || (eqb site 1 && leb sites_room (sites_of rows))

unfoldable pub too_many : List Entry → Entry → Bool
too_many before (type input resistance own) = leb types_room (length (types_of before))
too_many before (driver resistance) = false
too_many before (point parent resistance capacitance site) = row_too_many (rows_of before) site
too_many before (sink parent resistance capacitance site pin due) = row_too_many (rows_of before) site
too_many before malformed = false
too_many before beyond = true

-- 4: the parent is not an earlier row, or is a sink
abbrev pub is_sink : Kind → Bool
is_sink Driver = false
is_sink Point = false
is_sink (Sink pin) = true

unfoldable pub no_parent : List Row → (parent : ℕ) → Bool
no_parent [] parent = true
no_parent (x ∷ rows) zero = is_sink x.kind
no_parent (x ∷ rows) (suc parent) = no_parent rows parent

unfoldable pub orphan : List Entry → Entry → Bool
orphan before (type input resistance own) = false
orphan before (driver resistance) = false
orphan before (point parent resistance capacitance site) = no_parent (rows_of before) parent
orphan before (sink parent resistance capacitance site pin due) = no_parent (rows_of before) parent
orphan before malformed = false
orphan before beyond = false

unfoldable pub line_refusal : List Entry → Entry → Option Refusal
line_refusal before e =
    let line = length before + 1 in
    or_else (given_when (misplaced (some? (rows_of before)) e) (Form line))
    (or_else (given_when (out_of_range e) (Range line))
    (or_else (given_when (too_many before e) (Room line))
    (given_when (orphan before e) (Parent line))))

-- ---- after the last line
-- the line of row r is after those of the types and of the rows before it
unfoldable pub line_of_row : List Entry → ℕ → ℕ
line_of_row es r = length (types_of es) + r + 1

abbrev pub under : (r : ℕ) → List Row → Bool
under r [] = false
under r (x ∷ rows) = eqb x.parent r || under r rows

-- 5: the first row from number r on that is no sink and has no row below it. What lies below a row comes after it
unfoldable pub childless : (r : ℕ) → List Row → Option ℕ
childless r [] = none
childless r (x ∷ rows) = or_else (given_when (not (is_sink x.kind || under r rows)) r) (childless (r + 1) rows)

abbrev pub childless_at : List Entry → Option ℕ → Option Refusal
childless_at es none = none
childless_at es (some r) = some (Childless (line_of_row es r))

unfoldable pub last_refusal : List Entry → Option Refusal
last_refusal es = or_else (given_when (not (some? (rows_of es))) (Form (length es + 1))) (childless_at es (childless 0 (rows_of es)))

-- ---- the first refusal of all, if there is one: `before` has passed, and the others are still to come
unfoldable pub first_refusal : (before rest : List Entry) → Option Refusal
first_refusal before [] = last_refusal before
first_refusal before (e ∷ rest) = or_else (line_refusal before e) (first_refusal (before ++ (e ∷ [])) rest)

unfoldable pub refusal_of : List Entry → Option Refusal
refusal_of es = first_refusal [] es
