-- What a line reader answers: the line that an entry states, with numbers past every range cut. Assumes nothing.
use Rattle.std.specs.Prelude.{◌≡◌, refl, List, [], ◌∷◌, ℕ, min, ℤ, length, get_or, Result, Ok, Err}
use Rattle.std.proofs.Common.{arith}
use Rattle.rules.specs.declared.Pin.{Pin}
use Rattle.rules.specs.declared.Refusal.TheVariants.{Form, Room}
use Rattle.rules.specs.Entries.{Entry, type, driver, point, sink, malformed, beyond}
use Rattle.rooms.specs.Cap.{word_cap}
use Rattle.text.specs.Stretches.{absurd}
use Rattle.text.specs.Numbers.{capped_time}
use Rattle.repeaters.specs.Repeaters.{buffer_of}
use Rattle.checks.specs.declared.Wire.{Wire}
use Rattle.checks.specs.declared.Line.{Line}
use Rattle.rules.specs.declared.Refusal.{Refusal}
use Rattle.checks.specs.declared.Line.TheVariants.{Repeater as TypeLine, Driver as DriverLine, Point as PointLine, Sink as SinkLine}

-- a word, cut above every range
abbrev pub word : ℕ → ℕ
word n = min n word_cap

unfoldable pub wire_of : (parent resistance capacitance site : ℕ) → Wire
wire_of parent resistance capacitance site = record { parent = parent; resistance = record { 0 = resistance }; capacitance = record { 0 = capacitance }; site = site }

unfoldable pub pin_of : (load : ℕ) (due : ℤ) → Pin
pin_of load due = record { load = record { 0 = load }; due = record { 0 = due } }

-- an entry with its numbers cut
abbrev pub capped : Entry → Entry
capped (type input resistance own) = type (word input) (word resistance) (word own)
capped (driver resistance) = driver (word resistance)
capped (point parent resistance capacitance site) = point (word parent) (word resistance) (word capacitance) (word site)
capped (sink parent resistance capacitance site pin due) = sink (word parent) (word resistance) (word capacitance) (word site) (word pin) (capped_time due)
capped malformed = malformed
capped beyond = beyond

-- the line that states an entry
abbrev pub line_for : (place : ℕ) → Entry → Result Line Refusal
line_for place (type input resistance own) = Ok (TypeLine (buffer_of input resistance own))
line_for place (driver resistance) = Ok (DriverLine (record { 0 = resistance }))
line_for place (point parent resistance capacitance site) = Ok (PointLine (wire_of parent resistance capacitance site))
line_for place (sink parent resistance capacitance site pin due) = Ok (SinkLine (wire_of parent resistance capacitance site) (pin_of pin due))
line_for place malformed = Err (Form place)
line_for place beyond = Err (Room place)

-- the letter of a line is a field of one byte; any other is none of the letters
abbrev pub letter_of : List ℕ → ℕ
letter_of [] = 0
letter_of (b ∷ []) = b
letter_of (b ∷ c ∷ s) = 0

pub letter-single : (s : List ℕ) → length s ≡ 1 → get_or s 0 0 ≡ letter_of s
letter-single [] h = absurd (omega arith)
letter-single (b ∷ []) h = refl
letter-single (b ∷ c ∷ s) h = absurd (omega arith)

pub letter-other : (s : List ℕ) → (length s ≡ 1 → ⊥) → 0 ≡ letter_of s
letter-other [] h = refl
letter-other (b ∷ []) h = absurd (h refl)
letter-other (b ∷ c ∷ s) h = refl
