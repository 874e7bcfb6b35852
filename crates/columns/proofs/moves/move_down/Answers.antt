-- `columns::moves::move_down` meets its contract. Assumes nothing.
use Rattle.std.proofs.Common.{◌+◌, arith}
use Rattle.columns.specs.Moving.{lowering-start, lowering-step, lowering-end}
use Rattle.columns.specs.Made.{room-run}
use Rattle.columns.specs.Run.{run}
use Rattle.columns.proofs.moves.move_down.Goals as goal

pub loop-p-init : goal.loop-p-init
loop-p-init c =
    let a = c.args in
    lowering-start (run a.loads.now a.times.now a.words.now) a.from a.to a.k (room-run (a.from + a.k) c.requires.room (omega arith))

pub loop-p-preserved : goal.loop-p-preserved
loop-p-preserved c =
    let a = c.args in
    lowering-step _ _ _ a.from a.to a.k c.loop-p.p (omega arith) (omega arith) c.loop-p.invariant c.copy_at.ensures

pub returns : goal.returns
returns c = lowering-end _ _ _ _ _ c.loop-p.p c.loop-p.invariant (omega arith)
