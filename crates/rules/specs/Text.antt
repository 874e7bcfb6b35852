-- The net as text: one record a line, fields parted by one tab, each line ended by a line feed. A text is the list of its bytes.
-- Assumes nothing.
use Rattle.std.specs.Prelude.{Bool, cond, ◌&&◌, List, [], ◌∷◌, ℕ, zero, suc, ◌+◌, ◌*◌, ◌-◌, leb, eqb, ℤ, pos, negsuc}
use Rattle.std.proofs.Math.Option.{Option, none, some}
use Prim.Native.Char.{code}
use Rattle.rules.specs.Entries.{Entry, type, driver, point, sink, malformed}

-- ---- stretches
abbrev longer : ℕ → List (List ℕ) → List (List ℕ)
longer b [] = (b ∷ []) ∷ []
longer b (s ∷ rest) = (b ∷ s) ∷ rest

-- the stretches of a text that a byte parts: one more than there are such bytes
unfoldable pub parted : (by : ℕ) → List ℕ → List (List ℕ)
parted by [] = [] ∷ []
parted by (b ∷ text) = cond (eqb b by) ([] ∷ parted by text) (longer b (parted by text))

-- ---- numbers: decimal, without leading zeros or plus sign, of any length
abbrev pub is_digit : (from : ℕ) → ℕ → Bool
is_digit from b = leb from b && leb b (code "9")

abbrev pub digit : ℕ → ℕ
digit b = b - code "0"

-- digits that follow the number n
unfoldable pub more_digits : (n : ℕ) → List ℕ → Option ℕ
more_digits n [] = some n
more_digits n (b ∷ s) = cond (is_digit (code "0") b) (more_digits (10 * n + digit b) s) none

-- `0`, or a digit from 1 to 9 and digits
unfoldable pub number : List ℕ → Option ℕ
number [] = none
number (b ∷ []) = cond (is_digit (code "0") b) (some (digit b)) none
number (b ∷ c ∷ s) = cond (is_digit (code "1") b) (more_digits (digit b) (c ∷ s)) none

abbrev pub positive : Option ℕ → Option ℤ
positive none = none
positive (some n) = some (pos n)

-- `-0` is malformed
abbrev pub negative : Option ℕ → Option ℤ
negative none = none
negative (some zero) = none
negative (some (suc n)) = some (negsuc n)

-- only a required time may have a minus
unfoldable pub signed : List ℕ → Option ℤ
signed [] = none
signed (b ∷ s) = cond (eqb b (code "-")) (negative (number s)) (positive (number (b ∷ s)))

-- ---- lines
-- what a field reads as, and then the fields after it
abbrev pub after : {A : Type 0} → Option A → (A → List (List ℕ) → Entry) → List (List ℕ) → Entry
after none next fields = malformed
after (some a) next fields = next a fields

-- one field read, and with what it reads as the line's other fields
abbrev pub next_field : {A : Type 0} → (read : List ℕ → Option A) (next : A → List (List ℕ) → Entry) → List (List ℕ) → Entry
next_field read next [] = malformed
next_field read next (f ∷ fields) = after (read f) next fields

-- no field more
abbrev pub end : Entry → List (List ℕ) → Entry
end e [] = e
end e (f ∷ fields) = malformed

unfoldable pub type_line : List (List ℕ) → Entry
type_line =
    next_field number (λ input.
    next_field number (λ resistance.
    next_field number (λ own.
    end (type input resistance own))))

unfoldable pub driver_line : List (List ℕ) → Entry
driver_line =
    next_field number (λ resistance.
    end (driver resistance))

unfoldable pub point_line : List (List ℕ) → Entry
point_line =
    next_field number (λ parent.
    next_field number (λ resistance.
    next_field number (λ capacitance.
    next_field number (λ site.
    end (point parent resistance capacitance site)))))

unfoldable pub sink_line : List (List ℕ) → Entry
sink_line =
    next_field number (λ parent.
    next_field number (λ resistance.
    next_field number (λ capacitance.
    next_field number (λ site.
    next_field number (λ pin.
    next_field signed (λ due.
    end (sink parent resistance capacitance site pin due)))))))

-- by the letter of a line
unfoldable pub lettered : ℕ → List (List ℕ) → Entry
lettered b fields =
    cond (eqb b (code "T")) (type_line fields)
    (cond (eqb b (code "D")) (driver_line fields)
    (cond (eqb b (code "W")) (point_line fields)
    (cond (eqb b (code "S")) (sink_line fields) malformed)))

-- the entry that a line's fields state; the first field is its letter
unfoldable pub line_of : List (List ℕ) → Entry
line_of [] = malformed
line_of ([] ∷ fields) = malformed
line_of ((b ∷ []) ∷ fields) = lettered b fields
line_of ((b ∷ c ∷ s) ∷ fields) = malformed

-- the entries that stretches parted by line feeds state. Past the last line feed there is nothing, or a line that is not ended
unfoldable pub lines_of : List (List ℕ) → List Entry
lines_of [] = []
lines_of ([] ∷ []) = []
lines_of ((b ∷ s) ∷ []) = malformed ∷ []
lines_of (line ∷ next ∷ rest) = line_of (parted (code "\t") line) ∷ lines_of (next ∷ rest)

unfoldable pub text_entries : List ℕ → List Entry
text_entries text = lines_of (parted (code "\n") text)
