-- How far from zero a time may be that a delay is taken from. Assumes nothing.
use Rattle.std.specs.Prelude.{ℕ}

-- times are within reach of zero: a delay more, and they still fit
abbrev pub near : ℕ
near = 3_500_000_000_000_000
