-- `slack::tree::Walk::below` meets its contract. It calls itself for the rows under row c and for those beside it. Assumes nothing.
use Rattle.std.proofs.Common.{◌<◌, arith}
use Rattle.laws.specs.Tabled.{rows-length}
use Rattle.slack.specs.Ready.{below_end, next-child, first-child, below_step, beside-needs}
use Rattle.slack.proofs.tree.Walk.+below.Goals as goal

pub returns-then-self-c : goal.returns-then-self-c
returns-then-self-c t c =
    below_end c.requires.ready c.args.c c.if-self-c.true

pub below-under-requires : goal.below-under-requires
below-under-requires t c =
    let r = c.requires.ready in
    let more : c.args.c < c.args.self.now.net.now.row_count = omega (arith, c.if-self-c.false) in
    let k = first-child r c.args.c more c.first_below-first.ensures in
    let l = rows-length c.args.self.now.net.now.rows.now c.args.self.now.net.now.due.now 0 c.args.self.now.net.now.row_count in
    (omega (arith, k.from, r.sound.standing.few), (r, (omega (arith, k.from), omega (arith, k.upto))))

pub below-later-requires : goal.below-later-requires
below-later-requires t c =
    let r = c.requires.ready in
    let more : c.args.c < c.args.self.now.net.now.row_count = omega (arith, c.if-self-c.false) in
    let k = next-child r c.args.c c.requires.le_c.0 more c.next_beside-next.ensures in
    let l = rows-length c.args.self.now.net.now.rows.now c.args.self.now.net.now.due.now 0 c.args.self.now.net.now.row_count in
    (omega (arith, k.from, r.sound.standing.few), (r, (omega (arith, k.from), omega (arith, k.upto))))

pub beside-requires : goal.beside-requires
beside-requires t c =
    let more : c.args.c < c.args.self.now.net.now.row_count = omega (arith, c.if-self-c.false) in
    beside-needs c.requires.ready c.args.c c.requires.le_c.0 more c.wired-own.ensures c.next_beside-next.ensures c.below-later.ensures

pub returns : goal.returns
returns t c =
    let more : c.args.c < c.args.self.now.net.now.row_count = omega (arith, c.if-self-c.false) in
    below_step c.requires.ready c.args.c c.requires.le_c.0 more c.wired-own.ensures c.next_beside-next.ensures c.below-later.ensures c.beside.ensures
