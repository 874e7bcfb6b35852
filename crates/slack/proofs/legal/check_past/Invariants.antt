-- `slack::legal::check_past` meets its contract. The loop's invariant: the marks before j have passed. Assumes nothing.
use Rattle.slack.specs.Marked.{PastFrom}
use Rattle.slack.proofs.legal.check_past.Given as goal

abbrev pub invariant-loop-j : goal.invariant-loop-j
invariant-loop-j l = PastFrom l.words l.from l.j
