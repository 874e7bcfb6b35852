-- `pairs::time_before_repeater` meets its contract. Assumes nothing.
use Rattle.std.proofs.Common.{◌∙◌}
use Rattle.std.specs.Int.Signed.{mag}
use Rattle.laws.specs.Integers.{⊖-⊖}
use Rattle.units.proofs.Times.{less-⊖}
use Rattle.pairs.proofs.time_before_repeater.Goals as goal

pub returns : goal.returns
returns c =
    let a = c.args in
    rw (c.less.ensures.value, less-⊖ a.time.0 a.own.0 (mag a.own.0) c.requires.most_own_bound.1.forward) at c.time_before.ensures ∙ ⊖-⊖ a.time.0 (mag a.own.0) _
