-- `slack::tree::Walk::at_driver` meets its contract. Assumes nothing.
use Rattle.std.proofs.Common.{arith}
use Rattle.laws.specs.Tabled.{rows-length}
use Rattle.slack.specs.Ready.{first-child}
use Rattle.slack.proofs.tree.Walk.at_driver.Goals as goal

pub below-under-requires-clause-le_c : goal.below-under-requires-clause-le_c
below-under-requires-clause-le_c c =
    let k = first-child c.requires 0 c.requires.sound.standing.some c.first_below-first.ensures in
    let l = rows-length c.args.self.now.net.now.rows.now c.args.self.now.net.now.due.now 0 c.args.self.now.net.now.row_count in
    (omega (arith, k.from), omega (arith, k.upto))
