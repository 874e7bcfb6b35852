-- After the last line: how the first childless row is found from the last row back, and what finishing gives. Assumes nothing.
use Rattle.std.specs.Prelude.{◌≡◌, cond, List, [], ◌∷◌, ℕ, ◌*◌, ◌<◌, eqb, ltb, ℤ, length, take, set, replicate, Result, Ok, Err, Option, Some, None}
use Rattle.std.proofs.Math.Option.{Option as Maybe, none, some}
use Rattle.rules.specs.Tables.{words_a_row, row_table}
use Rattle.rules.specs.Quantities.{rows_room}
use Rattle.rules.specs.declared.Row.{Row}
use Rattle.rules.specs.Entries.{Entry}
use Rattle.rules.specs.Refusals.{childless, last_refusal}
use Rattle.rules.specs.Promises.{Settled}
use Rattle.checks.specs.declared.Passed.{Passed}
use Rattle.rules.specs.declared.Refusal.{Refusal}
use Rattle.entries.specs.Held.{Holds}

abbrev pub found_of : Maybe ℕ → Option ℕ
found_of none = None
found_of (some i) = Some i

-- a row that is no sink and is not marked is found, else what was found after it
abbrev pub found_with : (kind below i : ℕ) → Option ℕ → Option ℕ
found_with kind below i found = cond (eqb kind 2) found (cond (eqb below 1) found (Some i))

-- the mark of the row above
abbrev pub marked_with : (parent : ℕ) → List ℕ → List ℕ
marked_with parent below = cond (ltb parent rows_room) (set below parent 1) below

-- the marks of the rows above some rows
unfoldable pub marks_of : List Row → List ℕ
marks_of [] = replicate rows_room 0
marks_of (x ∷ rows) = marked_with x.parent (marks_of rows)

-- the words of the rows say which is the first childless one
abbrev pub FirstChildless : (words : List ℕ) (count : ℕ) → Option ℕ → Type 0
FirstChildless words count r = (rows : List Row) → length rows ≡ count → row_table rows ≡ take (words_a_row * count) words → r ≡ found_of (childless 0 rows)

-- a row that was found is one of them
abbrev pub FoundIn : (count : ℕ) → Option ℕ → Type 0
FoundIn count (Some i) = i < count
FoundIn count None = Unit {0}

-- what the checks after the last line give
abbrev pub Finished : (words : List ℕ) → Passed → Result Passed Refusal → Type 0
Finished words n r =
    (before : List Entry) (types : List ℕ) (due : List ℤ) → Holds before types words due n → Settled (last_refusal before) (λ x. r ≡ Err x) (r ≡ Ok n)
