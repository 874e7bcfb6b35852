-- `slack::legal::check_past` meets its contract. The loop's invariant: the marks before j have passed. Assumes nothing.
use Rattle.std.proofs.Common.{arith}
use Rattle.slack.specs.Marked.{past_stop, past-pass, past_end}
use Rattle.slack.proofs.legal.check_past.Goals as goal

pub returns-then-mark_of-gt0 : goal.returns-then-mark_of-gt0
returns-then-mark_of-gt0 c = past_stop c.loop-j.invariant c.mark_of.ensures.value (omega arith) (omega arith)

pub loop-j-preserved : goal.loop-j-preserved
loop-j-preserved c = past-pass c.loop-j.invariant c.mark_of.ensures.value (omega arith) (omega arith)

pub returns : goal.returns
returns c = past_end c.loop-j.invariant (omega arith)
