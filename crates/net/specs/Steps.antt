-- What taking one line gives, and all lines of a text. Assumes nothing.
use Rattle.std.specs.Prelude.{◌≡◌, List, [], ◌∷◌, ◌++◌, ℕ, ◌≤◌, ◌*◌, ℤ, length, drop, Result, Ok, Err}
use Rattle.std.proofs.Math.Option.{none, some}
use Rattle.std.proofs.Common.{arith}
use Rattle.rules.specs.Tables.{words_a_type, words_a_row}
use Rattle.rules.specs.Quantities.{types_room, rows_room}
use Rattle.rules.specs.Entries.{Entry}
use Rattle.rules.specs.Text.{parted, line_of, lines_of, text_entries}
use Rattle.rules.specs.Refusals.{line_refusal, first_refusal}
use Rattle.text.specs.Stretches.{tab, line_feed}
use Rattle.checks.specs.declared.Passed.{Passed}
use Rattle.rules.specs.declared.Refusal.{Refusal}
use Rattle.entries.specs.Held.{Holds}

-- the areas have their room
pub record Rooms (types rows : List ℕ) (due : List ℤ) : Type 0 where
  pub types_fit : words_a_type * types_room ≤ length types
  pub rows_fit : words_a_row * rows_room ≤ length rows
  pub due_fits : rows_room ≤ length due

-- an entry after those that have passed: refused, or held with them
abbrev pub EntryTaken : (before : List Entry) → Entry → Result Passed Refusal → (types rows : List ℕ) (due : List ℤ) → Type 0
EntryTaken before e (Err x) types rows due = line_refusal before e ≡ some x
EntryTaken before e (Ok m) types rows due = (line_refusal before e ≡ none) × Holds (before ++ (e ∷ [])) types rows due m

abbrev pub LineTaken : (line : List ℕ) (types rows : List ℕ) (due : List ℤ) → Passed → Result Passed Refusal → (types' rows' : List ℕ) (due' : List ℤ) → Type 0
LineTaken line types rows due n r types' rows' due' =
    (before : List Entry) → Holds before types rows due n → EntryTaken before (line_of (parted tab line)) r types' rows' due'

-- all entries, after those that have passed
abbrev pub AllAfter : (before rest : List Entry) → Result Passed Refusal → (types rows : List ℕ) (due : List ℤ) → Type 0
AllAfter before rest (Err x) types rows due = first_refusal before rest ≡ some x
AllAfter before rest (Ok m) types rows due = (first_refusal before rest ≡ none) × Holds (before ++ rest) types rows due m

abbrev pub AllTaken : (text : List ℕ) → Result Passed Refusal → (types rows : List ℕ) (due : List ℤ) → Type 0
AllTaken text r types rows due = AllAfter [] (text_entries text) r types rows due

-- the entries of the lines from a place on
abbrev pub lines_from : (text : List ℕ) → ℕ → List Entry
lines_from text at = lines_of (parted line_feed (drop at text))

-- the lines before a place have passed
pub record Reaches (text : List ℕ) (at : ℕ) (types rows : List ℕ) (due : List ℤ) (n : Passed) : Type 0 where
  pub before : List Entry
  pub held : Holds before types rows due n
  pub all : text_entries text ≡ before ++ lines_from text at
  pub first : first_refusal [] (text_entries text) ≡ first_refusal before (lines_from text at)

-- areas that keep their length keep their room
pub rooms-kept : (types types' rows rows' : List ℕ) (due due' : List ℤ) → Rooms types rows due
    → length types' ≡ length types → length rows' ≡ length rows → length due' ≡ length due → Rooms types' rows' due'
rooms-kept types types' rows rows' due due' r a b c =
    record { types_fit = omega (arith, r.types_fit); rows_fit = omega (arith, r.rows_fit); due_fits = omega (arith, r.due_fits) }
