-- `repeaters::type_at` meets its contract. Assumes nothing.
use Rattle.repeaters.specs.Repeaters.{buffer_at}
use Rattle.repeaters.proofs.type_at.Goals as goal

pub returns : goal.returns
unfolding buffer_at
returns c = c.repeater.ensures
