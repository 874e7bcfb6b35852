-- `inserts::grow` meets its contract. Assumes nothing.
use Rattle.std.proofs.Common.{arith}
use Rattle.inserts.specs.Gaps.{grows-by}
use Rattle.inserts.proofs.grow.Goals as goal

pub returns : goal.returns
returns c =
    let a = c.args in
    grows-by _ _ a.at a.list.start a.gap.from a.gap.past a.list.end a.by (omega arith) (omega arith) (omega arith) (omega arith) (omega arith) c.move_up.ensures
