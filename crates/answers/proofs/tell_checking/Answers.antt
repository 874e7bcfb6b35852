-- `answers::tell_checking` meets its contract: an answer told as it crosses. Assumes nothing.
use Rattle.std.proofs.Common.{refl, ap}
use Rattle.rules.specs.Answers.{check_figures}
use Rattle.answers.specs.Crossing.{words_are, crossed-done, crossed-refused}
use Rattle.answers.proofs.tell_checking.Goals as goal

pub returns-in-Ok : goal.returns-in-Ok
unfolding check_figures
returns-in-Ok c = crossed-done _ _ _ (ap check_figures c.in-Ok.is) refl c.tell.ensures.0 (words_are _ refl refl refl c.tell.ensures.1)

pub returns-in-Err : goal.returns-in-Err
unfolding check_figures
returns-in-Err c = crossed-refused tt _ (ap check_figures c.in-Err.is) refl c.tell_refusal.ensures
