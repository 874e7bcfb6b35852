-- `branches::merge_lists` meets its contract. Assumes nothing.
use Rattle.std.proofs.Common.{arith}
use Rattle.branches.specs.Branching.{joining-start, pair-room, joining-fit, joining-again, joining-end}
use Rattle.columns.specs.Run.{run}
use Rattle.branches.proofs.merge_lists.Goals as goal

pub loop-i-init : goal.loop-i-init
loop-i-init c =
    let a = c.args in
    joining-start (run a.loads.now a.times.now a.words.now) a.at a.m a.n c.requires.pair (pair-room c.requires.room c.requires.pair)

pub turn_at-requires-clause-fit : goal.turn_at-requires-clause-fit
turn_at-requires-clause-fit c = joining-fit _ _ _ _ _ _ _ _ c.loop-i.invariant (omega arith) (omega arith)

pub loop-i-preserved : goal.loop-i-preserved
loop-i-preserved c =
    let a = c.args in
    let l = c.loop-i in
    let first = c.later_at-first in
    let second = c.later_at-second in
    joining-again _ _ c.turn_at.new.loads c.turn_at.new.times c.turn_at.new.words a.at a.m a.n l.i l.j l.o first.result second.result l.invariant (omega arith) (omega arith) (omega arith) (omega arith) c.turn_at.ensures first.ensures.value second.ensures.value

pub returns-else-j-mid : goal.returns-else-j-mid
returns-else-j-mid c =
    let p = c.requires.pair in
    joining-end _ _ _ _ _ c.loop-i.i c.loop-i.j c.loop-i.o c.loop-i.invariant (λ h. omega arith) p.first p.second

pub returns-after-loop-i : goal.returns-after-loop-i
returns-after-loop-i c =
    let p = c.requires.pair in
    joining-end _ _ _ _ _ c.loop-i.i c.loop-i.j c.loop-i.o c.loop-i.invariant (λ h. omega arith) p.first p.second
