-- `pairs::time_before` meets its contract. Assumes nothing.
use Rattle.std.proofs.Common.{◌∙◌}
use Rattle.units.proofs.Times.{less-⊖}
use Rattle.pairs.proofs.time_before.Goals as goal

pub returns : goal.returns
returns c = c.less.ensures.value ∙ less-⊖ c.args.time.0 c.delay.result.0 _ c.delay.ensures.value
