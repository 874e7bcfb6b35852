-- `columns::choices::best_from` meets its contract. Assumes nothing.
use Rattle.std.proofs.Common.{arith}
use Rattle.std.specs.Int.Signed.{mag}
use Rattle.columns.specs.Choosing.{delay_of, choosing-start, choosing-step, choosing-end}
use Rattle.columns.proofs.choices.best_from.Goals as goal

pub loop-i-init : goal.loop-i-init
loop-i-init c =
    let a = c.args in choosing-start (delay_of (mag a.own.0) a.r.0) a.loads.now a.times.now a.at a.n c.requires.columns _ c.value_at-value.ensures

pub loop-i-preserved : goal.loop-i-preserved
loop-i-preserved c =
    let a = c.args in
    let l = c.loop-i in
    choosing-step (delay_of (mag a.own.0) a.r.0) a.loads.now a.times.now a.at a.n c.requires.columns l.best.at l.i _ l.best.value.0 _ _ (omega arith) l.invariant c.value_at-value-in-loop-i.ensures c.better-best.ensures.place c.better-best.ensures.value

pub returns : goal.returns
returns c =
    let a = c.args in
    let l = c.loop-i in
    choosing-end (delay_of (mag a.own.0) a.r.0) a.loads.now a.times.now a.at a.n c.requires.columns l.best.at l.i l.best.value.0 l.invariant (omega arith)
