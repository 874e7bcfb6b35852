-- `repeaters::repeater` meets its contract: a word is the same number of femtoseconds. Assumes nothing.
use mathlib.Core.Path.{ap}
use lib.IntN.{ℤ}
use Rattle.repeaters.specs.Repeaters.{buffer_of}
use Rattle.repeaters.proofs.repeater.Goals as goal

pub returns : goal.returns
unfolding buffer_of
returns c = ap (λ (z : ℤ). record { input = record { 0 = c.args.input }; resistance = record { 0 = c.args.resistance }; own = record { 0 = z } }) c.time_of.ensures.value
