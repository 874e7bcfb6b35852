-- `units::earlier` meets its contract: the one that is no later than the other is the lesser of two times. Assumes nothing.
use Rattle.std.proofs.Common.{rules}
use Rattle.units.proofs.Times.{minℤ-later, minℤ-no-later}
use Rattle.units.proofs.earlier.Goals as goal

pub returns-then-is_later-clause-value : goal.returns-then-is_later-clause-value
returns-then-is_later-clause-value c = search (rules, minℤ-later)

pub returns-else-is_later-clause-value : goal.returns-else-is_later-clause-value
returns-else-is_later-clause-value c = search (rules, minℤ-no-later)
