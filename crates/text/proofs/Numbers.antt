-- The laws by which the check sees by itself what a number and a time are by their first byte. Assumes nothing.
use Rattle.text.specs.Numbers.{number-zeros, number-empty, number-single, number-plain, signed-empty, signed-plain, signed-rest}

pub ruleset leading = (number-zeros, number-empty, number-single, number-plain)

pub ruleset signs = (signed-empty, signed-plain, signed-rest)
