-- `upward::beside` meets its contract. Assumes nothing.
use Rattle.std.proofs.Common.{sym, ◌∙◌}
use Rattle.upward.specs.Hung.{beside_hung, within-at, beside-seen, seen-is}
use Rattle.upward.proofs.beside.Goals as goal

pub returns-in_default : goal.returns-in_default
unfolding beside_hung
returns-in_default c = rw c.in_default.is

pub returns-in_default-b : goal.returns-in_default-b
unfolding beside_hung
returns-in_default-b c = rw (c.in-Some.is, c.in_default-b.is)

pub together-load-requires : goal.together-load-requires
together-load-requires c = (within-at (beside-seen c.in-Some.is c.in-Some-b.is) c.requires).0

pub returns : goal.returns
returns c = seen-is _ _ _ _ c.together-load.ensures c.earlier-time.ensures.value ∙ sym (beside-seen c.in-Some.is c.in-Some-b.is)
