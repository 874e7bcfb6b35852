-- `answers::tell_reading` meets its contract: an answer told as it crosses. Assumes nothing.
use Rattle.std.proofs.Common.{refl, ap, ◌∙◌}
use Rattle.units.proofs.Bits.{bits_back}
use Rattle.rules.specs.Answers.{read_figures, no_counts}
use Rattle.answers.specs.Crossing.{words_are, crossed-done, crossed-refused}
use Rattle.answers.proofs.tell_reading.Goals as goal

pub returns-in-Ok : goal.returns-in-Ok
unfolding read_figures no_counts
returns-in-Ok c = crossed-done _ _ _ (ap read_figures c.in-Ok.is) refl c.tell.ensures.0 (words_are _ refl (bits_back _ c.from.type_inv ∙ c.from.ensures) (bits_back _ c.from-in-Ok.type_inv ∙ c.from-in-Ok.ensures) c.tell.ensures.1)

pub returns-in-Err : goal.returns-in-Err
unfolding read_figures no_counts
returns-in-Err c = crossed-refused no_counts _ (ap read_figures c.in-Err.is) refl c.tell_refusal.ensures
