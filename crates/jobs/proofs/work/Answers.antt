-- `jobs::work` meets its contract. Assumes nothing.
use Rattle.std.proofs.Common.{arith}
use Rattle.jobs.specs.Jobs.{stop, pass}
use Rattle.jobs.specs.Working.{able-inside, able-ends, able-next, begun-safe, begun-swept, ended-less}
use Rattle.jobs.proofs.work.Goals as goal

pub begin-p-requires : goal.begin-p-requires
begin-p-requires c = able-inside c.loop-j.invariant.0 c.loop-j-test.true

pub sweep-e-requires : goal.sweep-e-requires
sweep-e-requires c = begun-safe c.begin-p.ensures c.loop-j.invariant.0 c.loop-j-test.true

pub end-j-requires : goal.end-j-requires
end-j-requires c =
    let s = begun-swept c.args.types.now c.loop-j.j c.begin-p.ensures c.sweep-e.ensures in
    (able-inside c.loop-j.invariant.0 c.loop-j-test.true, able-ends c.loop-j.invariant.0 c.loop-j-test.true s)

pub loop-j-smaller : goal.loop-j-smaller
loop-j-smaller c = ended-less c.args.types.now c.loop-j.j c.end-j.result c.sweep-e.result c.end-j.ensures c.loop-j-test.true

pub loop-j-preserved : goal.loop-j-preserved
loop-j-preserved c =
    let s = begun-swept c.args.types.now c.loop-j.j c.begin-p.ensures c.sweep-e.ensures in
    (able-next c.loop-j.invariant.0 c.loop-j-test.true s c.end-j.ensures, λ w n h. c.loop-j.invariant.1 w n (pass c.sweep-e.result c.loop-j-test.true s c.end-j.ensures h))

pub returns : goal.returns
returns c = c.loop-j.invariant.1 c.loop-j.run c.loop-j.j.own (stop (omega arith))
