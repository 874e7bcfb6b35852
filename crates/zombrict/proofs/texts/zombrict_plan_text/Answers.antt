-- `zombrict::texts::zombrict_plan_text` meets its contract: 7 for the answer, then for what is lent, then the text as it was read. Assumes nothing.
use Rattle.std.specs.Prelude.{Err}
use mathlib.Core.Path.{refl, sym, ◌∙◌}
use native.Mathlib.Omega.{arith}
use borrow.Author.Tests.{lt-ltb, le-ltb}
use Rattle.rules.specs.Answers.{no_timing, plan_figures}
use Rattle.rules.specs.declared.Refusal.TheVariants.{Short}
use Rattle.laws.proofs.Picked.{numbered-picks}
use Rattle.answers.specs.Crossing.{area-short, area-long, called-short, called, crossed-refused}
use Rattle.zombrict.specs.TextLaws.{plan-short, plan-on-text, pick-on-text}
use Rattle.zombrict.proofs.texts.zombrict_plan_text.Goals as goal

pub returns-then-answer-room : goal.returns-then-answer-room
returns-then-answer-room c = record { planned = called-short (area-short c.room.ensures c.if-answer-room.true) (c.short.ensures, refl); picked = numbered-picks _ _ _ (omega (arith, c.short.ensures)) }

pub returns-then-placement-lt-PLACEMENT_ROOM : goal.returns-then-placement-lt-PLACEMENT_ROOM
unfolding no_timing plan_figures
returns-then-placement-lt-PLACEMENT_ROOM c = record { planned = called (area-long c.room.ensures c.if-answer-room.false) (Err Short, plan-short c.args.text.now c.args.placement.now (lt-ltb _ _ c.if-placement-lt-PLACEMENT_ROOM.true), crossed-refused no_timing Short refl refl c.tell_refusal.ensures); picked = numbered-picks _ _ _ (omega (arith, c.tell_refusal.ensures.0)) }

pub returns : goal.returns
returns c = record { planned = called (area-long c.room.ensures c.if-answer-room.false) (c.plan_read-planned.result, plan-on-text _ _ _ _ _ _ (le-ltb _ _ c.if-placement-lt-PLACEMENT_ROOM.false) c.read_net-read.ensures c.plan_read-planned.ensures.planned, c.tell_timing.ensures.planned); picked = λ z. pick-on-text _ _ _ _ _ _ c.read_net-read.ensures c.plan_read-planned.ensures.planned c.plan_read-planned.ensures.picked (sym c.tell_timing.ensures.planned.number_is ∙ z) }
