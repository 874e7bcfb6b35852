-- The recursion over the rows on a run of records: what each call needs and gives. Assumes nothing.
use Rattle.std.specs.Prelude.{◌≡◌, cond, List, ℕ, ◌+◌, ◌-◌, ◌*◌, ◌≤◌, ◌<◌, ℤ, length, get_or, drop}
use Rattle.rules.specs.Quantities.{types_room, work_room}
use Rattle.rules.specs.Tables.{words_a_type, tables_of, counts_of}
use Rattle.rules.specs.Refusals.{is_sink}
use Rattle.laws.specs.Accepted.{Accepted}
use Rattle.laws.specs.Room.{HasRoom}
use Rattle.laws.specs.Walk.{seen_at}
use Rattle.laws.specs.Tabled.{row_at, rows_from, repeaters_from}
use Rattle.laws.specs.Checked.{Passed}
use Rattle.rows.specs.Links.{Standing, Links}
use Rattle.walks.specs.Made.{Made}
use Rattle.walks.specs.Links.{from}
use Rattle.rules.specs.declared.Cand.{Cand}
use Rattle.rules.specs.declared.Net.{Net as LentNet}
use Rattle.rooms.specs.Links.{next_at}
use Rattle.values.specs.Records.{cands}

-- an accepted net in its tables, with its links
pub record Net (rows : List ℕ) (due : List ℤ) (types links : List ℕ) (count n : ℕ) : Type 0 where
  pub standing : Standing rows due n
  pub types_long : words_a_type * types_room ≤ length types
  pub accepted : Accepted (repeaters_from types 0 count) (rows_from rows due 0 n)
  pub linked : Links (rows_from rows due 0 n) links

-- the first row below row c: a sink has none
abbrev pub first_at : (rows : List ℕ) (due : List ℤ) (links : List ℕ) (n c : ℕ) → ℕ
first_at rows due links n c = cond (is_sink (row_at rows due c).kind) n (get_or links c 0)

-- the next row beside row c
abbrev pub next_of : (links : List ℕ) (c : ℕ) → ℕ
next_of links c = get_or links (next_at + c) 0

-- ---- from row c on
pub record Hangs (rows : List ℕ) (due : List ℤ) (types links : List ℕ) (count n c at : ℕ) (w : List Cand) : Type 0 where
  pub net : Net rows due types links count n
  pub one : 1 ≤ c
  pub upto : c ≤ n
  pub long : work_room ≤ length w
  pub room : HasRoom count at (n - c) (from (rows_from rows due 0 n) c)

pub record Hung (rows : List ℕ) (due : List ℤ) (types : List ℕ) (count n c at : ℕ) (w w' : List Cand) (len : ℕ) : Type 0 where
  pub made : Made (repeaters_from types 0 count) (from (rows_from rows due 0 n) c) (cands w) (cands w') at len
  pub beyond : drop work_room w' ≡ drop work_room w

-- ---- from the row after row c on
pub record Follows (rows : List ℕ) (due : List ℤ) (types links : List ℕ) (count n c at : ℕ) (w : List Cand) : Type 0 where
  pub hangs : Hangs rows due types links count n c at w
  pub more : c < n

-- ---- at row c
pub record Sees (rows : List ℕ) (due : List ℤ) (types links : List ℕ) (count n c at : ℕ) (w : List Cand) : Type 0 where
  pub net : Net rows due types links count n
  pub inside : c < n
  pub long : work_room ≤ length w
  pub room : HasRoom count at (n - (c + 1)) (seen_at (rows_from rows due 0 n) c)

pub record Seen (rows : List ℕ) (due : List ℤ) (types : List ℕ) (count n c at : ℕ) (w w' : List Cand) (len : ℕ) : Type 0 where
  pub made : Made (repeaters_from types 0 count) (seen_at (rows_from rows due 0 n) c) (cands w) (cands w') at len
  pub beyond : drop work_room w' ≡ drop work_room w

-- ---- of a net that was accepted
pub record Makes (rows : List ℕ) (due : List ℤ) (types : List ℕ) (count n row : ℕ) (w : List Cand) : Type 0 where
  pub passed : Passed (tables_of types rows due) (counts_of count n)
  pub inside : row < n
  pub long : work_room ≤ length w

-- ---- of a net that is handed as one
abbrev pub first_in : LentNet → (links : List ℕ) (c : ℕ) → ℕ
first_in net links c = first_at net.rows.now net.due.now links net.row_count c

abbrev pub HangsIn : LentNet → (links : List ℕ) (c at : ℕ) (w : List Cand) → Type 0
HangsIn net links c at w = Hangs net.rows.now net.due.now net.types.now links net.type_count net.row_count c at w

abbrev pub HungIn : LentNet → (c at : ℕ) (w w' : List Cand) (len : ℕ) → Type 0
HungIn net c at w w' len = Hung net.rows.now net.due.now net.types.now net.type_count net.row_count c at w w' len

abbrev pub FollowsIn : LentNet → (links : List ℕ) (c at : ℕ) (w : List Cand) → Type 0
FollowsIn net links c at w = Follows net.rows.now net.due.now net.types.now links net.type_count net.row_count c at w

abbrev pub SeesIn : LentNet → (links : List ℕ) (c at : ℕ) (w : List Cand) → Type 0
SeesIn net links c at w = Sees net.rows.now net.due.now net.types.now links net.type_count net.row_count c at w

abbrev pub SeenIn : LentNet → (c at : ℕ) (w w' : List Cand) (len : ℕ) → Type 0
SeenIn net c at w w' len = Seen net.rows.now net.due.now net.types.now net.type_count net.row_count c at w w' len

abbrev pub MakesIn : LentNet → (row : ℕ) (w : List Cand) → Type 0
MakesIn net row w = Makes net.rows.now net.due.now net.types.now net.type_count net.row_count row w
