-- `branches::join_lists` meets its contract. Assumes nothing.
use Rattle.branches.specs.Branching.{join-gives}
use Rattle.branches.proofs.join_lists.Goals as goal

pub returns : goal.returns
returns c =
    let a = c.args in join-gives _ _ _ a.at a.m a.n c.merge_lists-o.result c.merge_lists-o.ensures c.move_down.ensures
