-- How far from zero a delay, a slack and a time are, and an own delay. Assumes nothing.
use Rattle.std.specs.Prelude.{◌≡◌, ℕ, ◌≤◌, ℤ, pos}
use Rattle.std.specs.Int.Signed.{mag}
use Rattle.rules.specs.Quantities.{most_own}

-- the greatest resistance times the greatest load
abbrev pub most_delay : ℕ
most_delay = 5_120_000_000_000

-- no farther from zero than any slack, which lies between -3 × 10^15 and 10^12
abbrev pub far_time : ℕ
far_time = 3_000_000_000_000_000

-- farther still: the difference of two such times fits
abbrev pub farthest : ℕ
farthest = 4_000_000_000_000_000

-- an own delay: no negative time, and in its range
pub record Own (z : ℤ) : Type 0 where
  pub forward : z ≡ pos (mag z)
  pub range : mag z ≤ most_own
