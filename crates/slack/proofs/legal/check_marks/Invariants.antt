-- `slack::legal::check_marks` meets its contract. The loop's invariant: the rows before i have passed, with the sites on them. Assumes nothing.
use Rattle.slack.specs.Marked.{Passed}
use Rattle.slack.proofs.legal.check_marks.Given as goal

abbrev pub invariant-loop-i : goal.invariant-loop-i
invariant-loop-i l = Passed l.net.rows.now l.net.due.now l.net.type_count l.net.row_count l.words l.i l.k
