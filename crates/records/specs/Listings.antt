-- What the functions below `list_records` give. Assumes nothing.
use Rattle.std.specs.Prelude.{◌≡◌, cond, List, ℕ, ◌≤◌, ltb, leb, ℤ, length, Result, Ok, Err}
use Rattle.rules.specs.declared.Net.{Net}
use Rattle.rules.specs.declared.Refusal.{Refusal}
use Rattle.rules.specs.declared.Refusal.TheVariants.{Short, NoRow}
use Rattle.rules.specs.Quantities.{list_room, work_room}
use Rattle.rules.specs.Promises.{CheckPromise, tabled}
use Rattle.rules.specs.declared.Cand.{Cand}
use Rattle.rules.specs.Tables.{tables_of, counts_of}
use Rattle.turns.specs.declared.Pass.{Pass}
use Rattle.copying.specs.Copied.{copied, loads_of, times_of}
use Rattle.sights.specs.Hanging.{Makes, Seen}
use Rattle.records.specs.Entries.{clear_pass, idle_pass, cleared, is_accepted}

abbrev pub clear_of : Result (Unit {0}) Refusal → Pass
clear_of (Ok u) = clear_pass
clear_of (Err r) = idle_pass

abbrev pub answer_of : Result (Unit {0}) Refusal → ℕ → Result ℕ Refusal
answer_of (Ok u) len = Ok len
answer_of (Err r) len = Err r

-- what the check and the row asked for make of it
abbrev pub RowVerdict : (types rows : List ℕ) (due : List ℤ) (count n row : ℕ) → (checked : Result (Unit {0}) Refusal) → Result (Unit {0}) Refusal → Type 0
RowVerdict types rows due count n row (Err r) c = c ≡ Err r
RowVerdict types rows due count n row (Ok u) c = c ≡ cond (leb n row) (Err NoRow) (Ok tt)

abbrev pub ListVerdict : (types rows : List ℕ) (due : List ℤ) (count n row loads times work : ℕ) → Result (Unit {0}) Refusal → Type 0
ListVerdict types rows due count n row loads times work c =
    cond (ltb loads list_room) (c ≡ Err Short) (cond (ltb times list_room) (c ≡ Err Short) (cond (ltb work work_room) (c ≡ Err Short)
    ((checked : Result (Unit {0}) Refusal) × CheckPromise (tabled (tables_of types rows due) (counts_of count n)) checked × RowVerdict types rows due count n row checked c)))

abbrev pub MakesIf : (rows : List ℕ) (due : List ℤ) (types : List ℕ) (count n row : ℕ) (w : List Cand) → Result (Unit {0}) Refusal → Type 0
MakesIf rows due types count n row w c = cond (is_accepted c) (Makes rows due types count n row w) (Unit {0})

abbrev pub SeenIf : (rows : List ℕ) (due : List ℤ) (types : List ℕ) (count n row : ℕ) (w w' : List Cand) → Result (Unit {0}) Refusal → ℕ → Type 0
SeenIf rows due types count n row w w' c len = cond (is_accepted c) (Seen rows due types count n row 0 w w' len) ((w' ≡ w) × (len ≡ 0))

abbrev pub ClearsIf : List Cand → Result (Unit {0}) Refusal → Type 0
ClearsIf w c = cond (is_accepted c) (work_room ≤ length w) (Unit {0})

abbrev pub ClearedIf : (w w' : List Cand) → Result (Unit {0}) Refusal → Type 0
ClearedIf w w' c = cond (is_accepted c) (w' ≡ cleared w) (w' ≡ w)

-- the areas have their rooms, and the net and its row are there
pub record Lists (rows : List ℕ) (due : List ℤ) (types : List ℕ) (count n row : ℕ) (w : List Cand) (lls : List ℕ) (lts : List ℤ) : Type 0 where
  pub loads : list_room ≤ length lls
  pub times : list_room ≤ length lts
  pub makes : Makes rows due types count n row w

abbrev pub ListsIf : (rows : List ℕ) (due : List ℤ) (types : List ℕ) (count n row : ℕ) (w : List Cand) (lls : List ℕ) (lts : List ℤ) → Result (Unit {0}) Refusal → Type 0
ListsIf rows due types count n row w lls lts c = cond (is_accepted c) (Lists rows due types count n row w lls lts) (Unit {0})

-- the list as it stood in the run, its pairs in the areas, and the run cleared
pub record ListedIf (rows : List ℕ) (due : List ℤ) (types : List ℕ) (count n row : ℕ) (w w' : List Cand) (lls lls' : List ℕ) (lts lts' : List ℤ) (c : Result (Unit {0}) Refusal) (len : ℕ) : Type 0 where
  pub run : List Cand
  pub same : length run ≡ length w
  pub seen : SeenIf rows due types count n row w run c len
  pub few : len ≤ list_room
  pub loads : lls' ≡ copied len (loads_of run) lls
  pub times : lts' ≡ copied len (times_of run) lts
  pub cleared : ClearedIf run w' c

-- of a net that is handed as one
abbrev pub ListVerdictIn : Net → (row loads times work : ℕ) → Result (Unit {0}) Refusal → Type 0
ListVerdictIn net row loads times work c = ListVerdict net.types.now net.rows.now net.due.now net.type_count net.row_count row loads times work c

abbrev pub ListsIn : Net → (row : ℕ) (w : List Cand) (lls : List ℕ) (lts : List ℤ) → Type 0
ListsIn net row w lls lts = ListsIf net.rows.now net.due.now net.types.now net.type_count net.row_count row w lls lts (Ok tt)

abbrev pub ListedIn : Net → (row : ℕ) (w w' : List Cand) (lls lls' : List ℕ) (lts lts' : List ℤ) (len : ℕ) → Type 0
ListedIn net row w w' lls lls' lts lts' len = ListedIf net.rows.now net.due.now net.types.now net.type_count net.row_count row w w' lls lls' lts lts' (Ok tt) len
