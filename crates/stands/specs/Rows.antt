-- What is said of the list at every row: the same over both storages, placements included. A slice is as long after a call as before it,
-- and these contracts do not repeat that: so the room of the areas after is a premise here, and in no other step. Assumes nothing.
use Rattle.std.specs.Prelude.{◌≡◌, List, ℕ, ◌+◌, ◌-◌, ◌≤◌, ◌<◌, ℤ, get_or}
use Rattle.rules.specs.declared.Cand.{Cand}
use Rattle.rules.specs.Areas.{Columns}
use Rattle.rules.specs.Quantities.{types_room}
use Rattle.rules.specs.Tables.{tables_of, counts_of}
use Rattle.laws.specs.Checked.{Passed}
use Rattle.laws.specs.Room.{HasRoom}
use Rattle.laws.specs.Walk.{under, seen_at}
use Rattle.laws.specs.Tabled.{rows_from, repeaters_from}
use Rattle.rows.specs.Links.{Links}
use Rattle.walks.specs.Made.{Given, Made}
use Rattle.jobs.specs.Jobs.{Able, Worked, RowIn, site_at}
use Rattle.sights.specs.Hanging.{Hangs, Hung, Sees, Seen, Makes, first_at}
use Rattle.stands.specs.Alike.{in_columns, StandAlike, AlikeAfter, RoomIn, LongIn}

-- ---- at a row: `walks::seen`, and `sights::seen`
abbrev pub SeenAlike : Type 0
SeenAlike =
    (rows : List ℕ) (due : List ℤ) (types links links' : List ℕ) (count n row at : ℕ) (c : Columns) (r : List Cand)
    → Given rows due types count n links → Links (rows_from rows due 0 n) links' → row < n → HasRoom count at (n - (row + 1)) (seen_at (rows_from rows due 0 n) row) → LongIn r → StandAlike c r at
    → Sees rows due types links' count n row at r
    × ((c' : Columns) (r' : List Cand) (len len' : ℕ) → RoomIn c' → LongIn r'
    → Made (repeaters_from types 0 count) (seen_at (rows_from rows due 0 n) row) (in_columns c) (in_columns c') at len
    → Seen rows due types count n row at r r' len'
    → AlikeAfter c' r' at len len')

-- ---- what hangs under row p: `walks::below`, and `sights::below` from p's first row below on
abbrev pub BelowAlike : Type 0
BelowAlike =
    (rows : List ℕ) (due : List ℤ) (types links links' : List ℕ) (count n p at : ℕ) (c : Columns) (r : List Cand)
    → Given rows due types count n links → Links (rows_from rows due 0 n) links' → p < n → get_or links p 0 < n → HasRoom count at (n - (p + 1)) (seen_at (rows_from rows due 0 n) p) → LongIn r → StandAlike c r at
    → Hangs rows due types links' count n (first_at rows due links' n p) at r
    × ((c' : Columns) (r' : List Cand) (len len' : ℕ) → RoomIn c' → LongIn r'
    → Made (repeaters_from types 0 count) (under (rows_from rows due 0 n) p (p + 1)) (in_columns c) (in_columns c') at len
    → Hung rows due types count n (first_at rows due links' n p) at r r' len'
    → AlikeAfter c' r' at len len')

-- ---- from the start of the work areas, whatever stood there: `chosen::make`, and `sights::make`
abbrev pub MakeAlike : Type 0
MakeAlike =
    (rows : List ℕ) (due : List ℤ) (types : List ℕ) (count n row : ℕ) (c : Columns) (r : List Cand) → Passed (tables_of types rows due) (counts_of count n) → row < n → LongIn r
    → Makes rows due types count n row r
    × ((c' : Columns) (r' : List Cand) (len len' : ℕ) → RoomIn c' → LongIn r'
    → Made (repeaters_from types 0 count) (seen_at (rows_from rows due 0 n) row) (in_columns c) (in_columns c') 0 len
    → Seen rows due types count n row 0 r r' len'
    → AlikeAfter c' r' 0 len len')

-- ---- a sink's list, its pin and its site: `walks::steps::pin_list`, and `jobs::site` as one job
abbrev pub SinkListAlike : Type 0
SinkListAlike =
    (rows : List ℕ) (due : List ℤ) (types links links' : List ℕ) (count n row at : ℕ) (c : Columns) (r : List Cand)
    → Given rows due types count n links → Links (rows_from rows due 0 n) links' → row < n → get_or links row 0 ≡ n → HasRoom count at (n - (row + 1)) (seen_at (rows_from rows due 0 n) row) → LongIn r → StandAlike c r at
    → (RowIn rows due links' row × ((count ≤ types_room) × Able types (site_at rows due links' count row at 0) r))
    × ((c' : Columns) (r' : List Cand) (len len' : ℕ) → RoomIn c'
    → Made (repeaters_from types 0 count) (seen_at (rows_from rows due 0 n) row) (in_columns c) (in_columns c') at len
    → Worked types (site_at rows due links' count row at 0) r r' len'
    → AlikeAfter c' r' at len len')
