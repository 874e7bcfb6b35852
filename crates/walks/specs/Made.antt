-- What the functions of the planner ask and give. Assumes nothing.
use Rattle.std.specs.Prelude.{◌≡◌, Bool, true, List, map, ℕ, suc, ◌+◌, ◌-◌, ◌*◌, ◌≤◌, ◌<◌, ℤ, length, get_or, set}
use Rattle.std.proofs.Math.Option.{Option}
use Rattle.rules.specs.declared.Kind.{Kind}
use Rattle.rules.specs.declared.Kind.TheVariants.{Driver, Point, Sink}
use Rattle.rules.specs.declared.Row.{Row}
use Rattle.rules.specs.declared.Net.{Net}
use Rattle.rules.specs.Lists.{All}
use Rattle.rules.specs.Quantities.{types_room, rows_room, sites_room, work_room}
use Rattle.rules.specs.Entries.{Repeater}
use Rattle.rules.specs.Net.{Wire, Tree}
use Rattle.rules.specs.Tables.{words_a_type, words_a_row}
use Rattle.laws.specs.Lists.{EveryTwo}
use Rattle.laws.specs.Candidates.{Below}
use Rattle.laws.specs.Joining.{join_marks}
use Rattle.laws.specs.Steps.{merge}
use Rattle.laws.specs.Moves.{behind, wire_step}
use Rattle.laws.specs.Accepted.{Accepted}
use Rattle.laws.specs.Room.{HasRoom}
use Rattle.laws.specs.Walk.{no_row, sites_before, under, seen_at}
use Rattle.laws.specs.Tabled.{row_at, rows_from, repeater_at, repeaters_from}
use Rattle.laws.specs.Ranges.{RepeaterInRange}
use Rattle.rows.specs.Links.{Standing}
use Rattle.rows.specs.Backward.{Backward}
use Rattle.columns.specs.Parts.{part}
use Rattle.columns.specs.Run.{Candidate, candidate}
use Rattle.columns.specs.Made.{Fit}
use Rattle.walks.specs.Shown.{Shows, start_list}

-- an accepted net in its tables, with its links
pub record Given (rows : List ℕ) (due : List ℤ) (types : List ℕ) (count n : ℕ) (links : List ℕ) : Type 0 where
  pub standing : Standing rows due n
  pub types_long : words_a_type * types_room ≤ length types
  pub accepted : Accepted (repeaters_from types 0 count) (rows_from rows due 0 n)
  pub linked : Backward (rows_from rows due 0 n) links

-- ---- of a lent net: its rows, one row, its types, and what is given to a walk over it
abbrev pub rows_in : Net → List Row
rows_in net = rows_from net.rows.now net.due.now 0 net.row_count

abbrev pub row_of : Net → (i : ℕ) → Row
row_of net i = row_at net.rows.now net.due.now i

abbrev pub types_in : Net → List Repeater
types_in net = repeaters_from net.types.now 0 net.type_count

abbrev pub GivenIn : Net → (links : List ℕ) → Type 0
GivenIn net links = Given net.rows.now net.due.now net.types.now net.type_count net.row_count links

-- row i stands in the words
abbrev pub RowThere : (rows : List ℕ) (due : List ℤ) (i : ℕ) → Type 0
RowThere rows due i = (i < rows_room) × ((words_a_row * i + words_a_row ≤ length rows) × (i < length due))

abbrev pub RowThereIn : Net → (i : ℕ) → Type 0
RowThereIn net i = RowThere net.rows.now net.due.now i

-- `len` candidates at a place show u, and all before the place is as it was
pub record Made (types : List Repeater) (u : Option Tree) (w w' : List Candidate) (at len : ℕ) : Type 0 where
  pub before : part 0 at w' ≡ part 0 at w
  pub shows : Shows types u (part at (at + len) w')
  pub fits : at + len ≤ work_room

-- ---- of a lent net: room for the list at a row; that list made, and the list of what hangs under a row
abbrev pub RoomIn : Net → (row at : ℕ) → Type 0
RoomIn net row at = HasRoom net.type_count at (net.row_count - (row + 1)) (seen_at (rows_in net) row)

abbrev pub SeenIn : Net → (row : ℕ) (w w' : List Candidate) (at len : ℕ) → Type 0
SeenIn net row w w' at len = Made (types_in net) (seen_at (rows_in net) row) w w' at len

abbrev pub UnderIn : Net → (row : ℕ) (w w' : List Candidate) (at len : ℕ) → Type 0
UnderIn net row w w' at len = Made (types_in net) (under (rows_in net) row (row + 1)) w w' at len

-- a list of n at a place, to be put behind a wire
pub record Wired (w : List Candidate) (at n : ℕ) (link : Wire) : Type 0 where
  pub some : 1 ≤ n
  pub place : at + n ≤ work_room
  pub fit : All Fit (part at (at + n) w)
  pub behind_fit : All Fit (map (behind link) (part at (at + n) w))

-- a list of n to be put behind a wire, after a list of m that it is then joined with
pub record Hang (w : List Candidate) (at m n : ℕ) (link : Wire) : Type 0 where
  pub first : 1 ≤ m
  pub own : Wired w (at + m) n link
  pub kept : 1 ≤ length (wire_step link (part (at + m) (at + m + n) w))
  pub room : at + m + n + (m + n) ≤ suc work_room
  pub fit : All Fit (merge join_marks (wire_step link (part (at + m) (at + m + n) w)) (part at (at + m) w))

-- a list of n at a place, where site k is to be put on it, if it is a site
pub record Sited (w : List Candidate) (at n count : ℕ) (has_site : Bool) (k : ℕ) : Type 0 where
  pub some : 1 ≤ n
  pub place : at + n + count + count ≤ work_room
  pub fit : All Fit (part at (at + n) w)
  pub rising : EveryTwo Below (part at (at + n) w)
  pub number : has_site ≡ true → k < sites_room

-- a row's pin or what hangs under it, at a place, where the row's site is still to be put on it
pub record Driven (types : List Repeater) (rows : List Row) (r : ℕ) (w w' : List Candidate) (at m : ℕ) : Type 0 where
  pub before : part 0 at w' ≡ part 0 at w
  pub hung : List Candidate
  pub shows : Shows types (under rows r (r + 1)) hung
  pub list : part at (at + m) w' ≡ start_list (get_or rows r no_row).kind hung
  pub sited : Sited w' at m (length types) (get_or rows r no_row).site (sites_before rows r)

-- a sink's pin is put there, or nothing is done
abbrev pub Started : Kind → (w w' : List Candidate) (at : ℕ) → Type 0
Started Driver w w' at = w' ≡ w
Started Point w w' at = w' ≡ w
Started (Sink pin) w w' at = w' ≡ set w at (candidate pin.load.0 pin.due.0 (λ j. 0))

-- types in their ranges
pub record Typed (types : List ℕ) (count : ℕ) : Type 0 where
  pub few : count ≤ types_room
  pub long : words_a_type * types_room ≤ length types
  pub inside : (m : ℕ) → m < count → RepeaterInRange (repeater_at types m)
