-- The promise of the entries over a run of records: the storage, and what the functions below the entries give. Assumes nothing.
use Rattle.std.specs.Prelude.{◌≡◌, Bool, true, false, not, cond, List, [], ◌∷◌, ◌++◌, ℕ, ◌*◌, ◌≤◌, T, ltb, ℤ, pos, length, get_or, drop, replicate, Result, Ok, Err}
use Rattle.rules.specs.declared.Net.{Net}
use Rattle.rules.specs.declared.Refusal.{Refusal}
use Rattle.rules.specs.declared.Refusal.TheVariants.{Short}
use Rattle.rules.specs.declared.Timed.{Timed}
use Rattle.rules.specs.Lists.{written}
use Rattle.rules.specs.Quantities.{placement_room, work_room}
use Rattle.rules.specs.Tables.{words_a_row, tables_of, counts_of}
use Rattle.rules.specs.Promises.{CheckPromise, tabled}
use Rattle.laws.specs.Steps.{best, value}
use Rattle.laws.specs.Tabled.{row_at}
use Rattle.laws.specs.Checked.{Passed}
use Rattle.columns.specs.Parts.{part}
use Rattle.columns.specs.Run.{blank}
use Rattle.rules.specs.declared.Cand.{Cand}
use Rattle.rules.specs.Areas.{zeros}
use Rattle.turns.specs.declared.Step.TheVariants.{Put, FirstChoice}
use Rattle.turns.specs.declared.Pass.{Pass}
use Rattle.values.specs.Records.{cand_of, cands}
use Rattle.turns.specs.Turns.{pass_of}
use Rattle.runs.specs.Passes.{Safe, Swept}
use Rattle.sights.specs.Hanging.{Seen}

-- ---- the passes of the entry
abbrev pub driver_pass : (rows : List ℕ) (due : List ℤ) (len : ℕ) → Pass
driver_pass rows due len = pass_of (FirstChoice (record { 0 = pos 0 }) (row_at rows due 0).resistance) len 0 0 0 zeros (record { 0 = pos 0 })

abbrev pub clear_pass : Pass
clear_pass = pass_of Put work_room 0 0 0 zeros (record { 0 = pos 0 })

abbrev pub idle_pass : Pass
idle_pass = pass_of Put 0 0 0 0 zeros (record { 0 = pos 0 })

-- the driver's row is there, and its pass can be made
pub record Chooses (rows : List ℕ) (due : List ℤ) (len : ℕ) (w : List Cand) : Type 0 where
  pub words : words_a_row ≤ length rows
  pub times : 1 ≤ length due
  pub safe : Safe (driver_pass rows due len) w

-- the room all zero
abbrev pub cleared : List Cand → List Cand
cleared w = replicate work_room zeros ++ drop work_room w

-- a pass made as the code makes it
pub same-safe : {p q : Pass} {w : List Cand} → p ≡ q → Safe q w → Safe p w
same-safe e s = rw e s

pub same-swept : {p q e : Pass} {w v : List Cand} → p ≡ q → Swept p w e v → Swept q w e v
same-swept e s = rw e at s

pub record Plans (rows : List ℕ) (due : List ℤ) (types : List ℕ) (count n : ℕ) (w : List Cand) : Type 0 where
  pub passed : Passed (tables_of types rows due) (counts_of count n)
  pub long : work_room ≤ length w

-- the first greatest of the list at the driver is held, and the room is all zero
pub record Chose (rows : List ℕ) (due : List ℤ) (types : List ℕ) (count n : ℕ) (w w' : List Cand) (e : Pass) : Type 0 where
  pub run : List Cand
  pub len : ℕ
  pub long : work_room ≤ length run
  pub seen : Seen rows due types count n 0 0 w run len
  pub held : cand_of e.held ≡ best (λ m. (row_at rows due 0).resistance.0 * m) (get_or (cands run) 0 blank) (part 1 len (cands run))
  pub worth : e.worth.0 ≡ value (λ m. (row_at rows due 0).resistance.0 * m) (cand_of e.held)
  pub cleared : w' ≡ written (replicate work_room zeros) w

-- the four words of a record
abbrev pub four_of : List ℕ → List ℕ
four_of words = get_or words 0 0 ∷ get_or words 1 0 ∷ get_or words 2 0 ∷ get_or words 3 0 ∷ []

abbrev pub Told : Pass → (before after : List ℕ) → Result Timed Refusal → Type 0
Told e before after r = (after ≡ written (four_of e.held.words) before) × (r ≡ Ok (record { slack = e.worth; load = e.held.load }))

-- ---- refusals
abbrev pub Verdict : (types rows : List ℕ) (due : List ℤ) (count n placement work : ℕ) → Result (Unit {0}) Refusal → Type 0
Verdict types rows due count n placement work c =
    cond (ltb placement placement_room) (c ≡ Err Short) (cond (ltb work work_room) (c ≡ Err Short) (CheckPromise (tabled (tables_of types rows due) (counts_of count n)) c))

abbrev pub is_accepted : Result (Unit {0}) Refusal → Bool
is_accepted (Ok u) = true
is_accepted (Err r) = false

abbrev pub PlansIf : (rows : List ℕ) (due : List ℤ) (types : List ℕ) (count n : ℕ) (w : List Cand) → Result (Unit {0}) Refusal → Type 0
PlansIf rows due types count n w c = cond (is_accepted c) (Plans rows due types count n w) (Unit {0})

abbrev pub ChoseIf : (rows : List ℕ) (due : List ℤ) (types : List ℕ) (count n : ℕ) (w w' : List Cand) → Result (Unit {0}) Refusal → Pass → Type 0
ChoseIf rows due types count n w w' c e = cond (is_accepted c) (Chose rows due types count n w w' e) (w' ≡ w)

abbrev pub FourIf : List ℕ → Result (Unit {0}) Refusal → Type 0
FourIf placement c = cond (is_accepted c) (placement_room ≤ length placement) (Unit {0})

abbrev pub ToldIf : Result (Unit {0}) Refusal → Pass → (before after : List ℕ) → Result Timed Refusal → Type 0
ToldIf (Ok u) e before after r = Told e before after r
ToldIf (Err d) e before after r = (after ≡ before) × (r ≡ Err d)

-- ---- what is asked and given only where nothing is refused
module _ (A B : Type 0) (c : Result (Unit {0}) Refusal) where
  pub if-accepted : (b : Bool) → b ≡ is_accepted c → T b → cond (is_accepted c) A B → A
  if-accepted true e h x = rw (← e) at x
  if-accepted false e h x = absurd h

  pub accepted-if : (b : Bool) → b ≡ is_accepted c → T b → A → cond (is_accepted c) A B
  accepted-if true e h x = rw (← e) x
  accepted-if false e h x = absurd h

  pub refused-if : (b : Bool) → b ≡ is_accepted c → T (not b) → B → cond (is_accepted c) A B
  refused-if true e h x = absurd h
  refused-if false e h x = rw (← e) x

-- ---- of a net that is handed as one
abbrev pub driver_in : Net → (len : ℕ) → Pass
driver_in net len = driver_pass net.rows.now net.due.now len

abbrev pub ChoosesIn : Net → (len : ℕ) (w : List Cand) → Type 0
ChoosesIn net len w = Chooses net.rows.now net.due.now len w

abbrev pub PlansIn : Net → List Cand → Type 0
PlansIn net w = Plans net.rows.now net.due.now net.types.now net.type_count net.row_count w

abbrev pub ChoseIn : Net → (w w' : List Cand) → Pass → Type 0
ChoseIn net w w' e = Chose net.rows.now net.due.now net.types.now net.type_count net.row_count w w' e

abbrev pub VerdictIn : Net → (placement work : ℕ) → Result (Unit {0}) Refusal → Type 0
VerdictIn net placement work c = Verdict net.types.now net.rows.now net.due.now net.type_count net.row_count placement work c
