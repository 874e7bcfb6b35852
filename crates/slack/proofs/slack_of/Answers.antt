-- `slack::slack_of` keeps its promise: what the tables are refused for, then refusal 6, and else the walk is sound. Assumes nothing.
use Rattle.std.proofs.Common.{sym, ◌∙◌}
use Rattle.std.proofs.lemmas.Result.{err_from_is_err_and}
use Rattle.slack.specs.Given.{given-of, promise-checked, marking, net-of, sound-of, passes, promise-refused, promise-timed}
use Rattle.slack.proofs.slack_of.Goals as goal

pub returns-in_err-check_tables : goal.returns-in_err-check_tables
returns-in_err-check_tables c =
    let p = err_from_is_err_and c.from_residual.result c.from_residual.ensures.1 in
    rw (p.1, p.2) (promise-checked _ _ _ (sym c.in_err-check_tables.was ∙ c.check_tables.ensures))

pub check_marks-requires : goal.check_marks-requires
check_marks-requires c = marking (given-of (sym c.in_ok-check_tables.was ∙ c.check_tables.ensures))

pub returns-in_err-check_marks : goal.returns-in_err-check_marks
returns-in_err-check_marks c =
    let g = given-of (sym c.in_ok-check_tables.was ∙ c.check_tables.ensures) in
    let r = c.from_residual-in_err-check_marks in
    let p = err_from_is_err_and r.result r.ensures.1 in
    rw (p.1, p.2) (promise-refused g (sym c.in_err-check_marks.was ∙ c.check_marks.ensures _ (net-of g)))

pub timing-requires : goal.timing-requires
timing-requires c =
    let g = given-of (sym c.in_ok-check_tables.was ∙ c.check_tables.ensures) in
    sound-of g (passes g (sym c.in_ok-check_marks.was ∙ c.check_marks.ensures _ (net-of g)))

pub returns : goal.returns
returns c =
    let g = given-of (sym c.in_ok-check_tables.was ∙ c.check_tables.ensures) in
    promise-timed g (passes g (sym c.in_ok-check_marks.was ∙ c.check_marks.ensures _ (net-of g))) c.timing.ensures
