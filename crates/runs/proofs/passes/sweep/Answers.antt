-- `runs::passes::sweep` meets its contract. Assumes nothing.
use Rattle.std.proofs.Common.{arith}
use Rattle.runs.specs.Passes.{none}
use Rattle.runs.specs.Sweeps.{took-less, safe-ready, safe-took, swept-took}
use Rattle.runs.proofs.passes.sweep.Goals as goal

pub turn_at-p-requires : goal.turn_at-p-requires
turn_at-p-requires c = safe-ready c.loop-p.invariant.0 c.loop-p-test.true

pub loop-p-smaller : goal.loop-p-smaller
loop-p-smaller c = took-less c.turn_at-p.ensures c.loop-p-test.true

pub loop-p-preserved : goal.loop-p-preserved
loop-p-preserved c =
    (safe-took c.loop-p.invariant.0 c.loop-p-test.true c.turn_at-p.ensures, λ q w s. c.loop-p.invariant.1 q w (swept-took c.loop-p-test.true c.turn_at-p.ensures s))

pub returns : goal.returns
returns c = c.loop-p.invariant.1 c.loop-p.p c.loop-p.run (none (omega arith))
