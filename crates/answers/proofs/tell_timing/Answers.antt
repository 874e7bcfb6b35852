-- `answers::tell_timing` meets its contract: an answer told as it crosses. Assumes nothing.
use Rattle.std.proofs.Common.{refl, ap, ◌∙◌, arith}
use Rattle.units.proofs.Bits.{bits_back}
use Rattle.rules.specs.Answers.{slack_figures, plan_figures, no_timing}
use Rattle.answers.specs.Crossing.{words_are, crossed-done, crossed-refused}
use Rattle.answers.proofs.tell_timing.Goals as goal

pub returns-in-Ok-clause-given : goal.returns-in-Ok-clause-given
unfolding slack_figures no_timing
returns-in-Ok-clause-given c = crossed-done _ _ _ (ap slack_figures c.in-Ok.is) refl c.tell.ensures.0 (words_are _ refl (bits_back _ (omega arith)) (bits_back _ c.from.type_inv ∙ c.from.ensures) c.tell.ensures.1)

pub returns-in-Ok-clause-planned : goal.returns-in-Ok-clause-planned
unfolding plan_figures no_timing
returns-in-Ok-clause-planned c = crossed-done _ _ _ (ap plan_figures c.in-Ok.is) refl c.tell.ensures.0 (words_are _ refl (bits_back _ (omega arith)) (bits_back _ c.from.type_inv ∙ c.from.ensures) c.tell.ensures.1)

pub returns-in-Err-clause-given : goal.returns-in-Err-clause-given
unfolding slack_figures no_timing
returns-in-Err-clause-given c = crossed-refused no_timing _ (ap slack_figures c.in-Err.is) refl c.tell_refusal.ensures

pub returns-in-Err-clause-planned : goal.returns-in-Err-clause-planned
unfolding plan_figures no_timing
returns-in-Err-clause-planned c = crossed-refused no_timing _ (ap plan_figures c.in-Err.is) refl c.tell_refusal.ensures
