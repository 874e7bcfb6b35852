-- What taking the types of a table gives, and then its rows. Assumes nothing.
use Rattle.std.specs.Prelude.{◌≡◌, List, [], ◌++◌, ℕ, ℤ, Result, Ok, Err}
use Rattle.std.proofs.Math.Option.{some}
use Rattle.rules.specs.Quantities.{rows_room, types_room}
use Rattle.rules.specs.Entries.{Entry}
use Rattle.rules.specs.Tables.{Tables, type_entry, row_entry, counted, tables_of}
use Rattle.rules.specs.Refusals.{first_refusal}
pub use Rattle.checks.specs.Checks.{checking}
use Rattle.checks.specs.declared.Passed.{Passed}
use Rattle.checks.specs.Checks.{FewPassed}
use Rattle.entries.specs.Held.{Holds}
use Rattle.rules.specs.declared.Refusal.{Refusal}
use Rattle.net.specs.Steps.{AllAfter}

-- the entries of the types, and of the rows
abbrev pub type_entries : Tables → (count : ℕ) → List Entry
type_entries t count = counted (type_entry t) types_room count

abbrev pub row_entries : Tables → (count : ℕ) → List Entry
row_entries t count = counted (row_entry t) rows_room count

-- some entries have passed after others, and whatever comes next is refused after both
pub record Through (t : Tables) (before es : List Entry) (n : Passed) : Type 0 where
  pub held : Holds (before ++ es) t.types t.rows t.due n
  pub first : (rest : List Entry) → first_refusal before (es ++ rest) ≡ first_refusal (before ++ es) rest

abbrev pub Passes : Tables → (before es : List Entry) → Result Passed Refusal → Type 0
Passes t before es (Err x) = (rest : List Entry) → first_refusal before (es ++ rest) ≡ some x
Passes t before es (Ok m) = Through t before es m

-- types alone
abbrev pub FewTaken : Result Passed Refusal → Type 0
FewTaken (Err x) = Unit {0}
FewTaken (Ok m) = FewPassed m × (m.rows ≡ 0)

abbrev pub TypesTaken : (types : List ℕ) (count : ℕ) → Result Passed Refusal → Type 0
TypesTaken types count r = (rows : List ℕ) (due : List ℤ) → Passes (tables_of types rows due) [] (type_entries (tables_of types rows due) count) r

abbrev pub RowsTaken : (rows : List ℕ) (due : List ℤ) → Passed → (count : ℕ) → Result Passed Refusal → Type 0
RowsTaken rows due n count r =
    (types : List ℕ) (before : List Entry) → Holds before types rows due n → AllAfter before (row_entries (tables_of types rows due) count) r types rows due
