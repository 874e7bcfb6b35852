-- A bound that the code cuts numbers to. Assumes nothing.
use Rattle.std.specs.Prelude.{ℕ}

-- above the range of every word: a number that is greater is cut to it, and is still out of range
abbrev pub word_cap : ℕ
word_cap = 2_000_000_000
