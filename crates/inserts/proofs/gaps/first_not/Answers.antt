-- `inserts::gaps::first_not` meets its contract. Assumes nothing.
use Rattle.std.proofs.Common.{◌≡◌, sym, ◌∙◌, arith}
use Rattle.inserts.specs.Gaps.{passing-start, passing_step, passing-end}
use Rattle.inserts.proofs.gaps.first_not.Goals as goal

pub loop-p-init : goal.loop-p-init
loop-p-init g c = λ test law. passing-start test c.args.start c.args.end (omega arith)

pub loop-p-preserved : goal.loop-p-preserved
loop-p-preserved g c = λ test law.
    passing_step test c.args.start c.args.end c.loop-p.p (c.loop-p.invariant test law) (omega arith) (sym (law c.loop-p.p c.passes.result (rw c.pair_at.ensures at c.passes.ensures)) ∙ c.if-not-passes.false)

pub returns-then-not-passes-clause-stops : goal.returns-then-not-passes-clause-stops
returns-then-not-passes-clause-stops g c = λ test law.
    passing-end test c.args.start c.args.end c.loop-p.p (c.loop-p.invariant test law) (λ h. sym (law c.loop-p.p c.passes.result (rw c.pair_at.ensures at c.passes.ensures)) ∙ c.if-not-passes.true)

pub returns-clause-stops : goal.returns-clause-stops
returns-clause-stops g c = λ test law.
    let e : c.loop-p.p ≡ c.args.end = omega arith in
    passing-end test c.args.start c.args.end c.args.end (rw e at (c.loop-p.invariant test law)) (λ h. absurd (omega arith))
