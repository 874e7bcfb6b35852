-- `zombrict::zombrict_plan` meets its contract: 7 for the answer, else the promise of the entry and the answer as it crosses. Assumes nothing.
use mathlib.Core.Path.{refl, sym, ◌∙◌}
use native.Mathlib.Omega.{arith}
use Rattle.laws.proofs.Picked.{numbered-picks}
use Rattle.answers.specs.Crossing.{area-short, area-long, called-short, called}
use Rattle.zombrict.proofs.zombrict_plan.Goals as goal

pub returns-then-answer-room : goal.returns-then-answer-room
returns-then-answer-room c = record { planned = called-short (area-short c.room.ensures c.if-answer-room.true) (c.short.ensures, refl); picked = numbered-picks _ _ _ (omega (arith, c.short.ensures)) }

pub returns : goal.returns
returns c = record { planned = called (area-long c.room.ensures c.if-answer-room.false) (c.plan_net-planned.result, c.plan_net-planned.ensures.planned, c.tell_timing.ensures.planned); picked = λ z. c.plan_net-planned.ensures.picked (sym c.tell_timing.ensures.planned.number_is ∙ z) }
