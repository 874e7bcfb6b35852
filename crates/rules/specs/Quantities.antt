-- Ranges and rooms. Resistance is in ohms, load in femtofarads, time in femtoseconds; one ohm times one femtofarad is one
-- femtosecond, so a delay is a product of numbers, and a time less a delay is an integer. Assumes nothing.
use Rattle.std.specs.Prelude.{ℕ, ℤ, pos, negsuc, ◌-ℤ◌}

-- resistance of wire, type or driver; capacitance of wire, pin or type input
abbrev pub most_ohms : ℕ
most_ohms = 100_000

abbrev pub most_femtofarads : ℕ
most_femtofarads = 100_000

-- own delay of a type
abbrev pub most_own : ℕ
most_own = 1_000_000_000

-- required time of a sink, from -10^12 to 10^12 (`negsuc n` is -(n + 1))
abbrev pub earliest_due : ℤ
earliest_due = negsuc 999_999_999_999

abbrev pub latest_due : ℤ
latest_due = pos 1_000_000_000_000

-- the greatest parent field and the greatest site field
abbrev pub most_parent : ℕ
most_parent = 255

abbrev pub most_site : ℕ
most_site = 1

-- how many types, rows with the driver, sites, and bytes of a text there may be
abbrev pub types_room : ℕ
types_room = 4

abbrev pub rows_room : ℕ
rows_room = 256

abbrev pub sites_room : ℕ
sites_room = 64

abbrev pub text_room : ℕ
text_room = 32_768

-- lent areas: words of a placement, entries of a list, candidates of work
abbrev pub placement_room : ℕ
placement_room = 4

abbrev pub list_room : ℕ
list_room = 257

abbrev pub work_room : ℕ
work_room = 768

-- a time less a delay
infixl 65 ◌⊖◌
unfoldable pub ◌⊖◌ : ℤ → ℕ → ℤ
t ⊖ delay = t -ℤ pos delay
