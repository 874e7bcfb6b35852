-- `answers::tell_listing` meets its contract: an answer told as it crosses. Assumes nothing.
use Rattle.std.proofs.Common.{refl, ap, ◌∙◌}
use Rattle.units.proofs.Bits.{bits_back}
use Rattle.rules.specs.Answers.{list_figures}
use Rattle.answers.specs.Crossing.{words_are, crossed-done, crossed-refused}
use Rattle.answers.proofs.tell_listing.Goals as goal

pub returns-in-Ok : goal.returns-in-Ok
unfolding list_figures
returns-in-Ok c = crossed-done _ _ _ (ap list_figures c.in-Ok.is) refl c.tell.ensures.0 (words_are _ refl (bits_back _ c.from.type_inv ∙ c.from.ensures) refl c.tell.ensures.1)

pub returns-in-Err : goal.returns-in-Err
unfolding list_figures
returns-in-Err c = crossed-refused 0 _ (ap list_figures c.in-Err.is) refl c.tell_refusal.ensures
