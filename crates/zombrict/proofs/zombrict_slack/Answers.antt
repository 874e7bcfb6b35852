-- `zombrict::zombrict_slack` meets its contract: 7 for the answer, else the promise of the entry and the answer as it crosses. Assumes nothing.
use mathlib.Core.Path.{refl}
use Rattle.answers.specs.Crossing.{area-short, area-long, called-short, called}
use Rattle.zombrict.proofs.zombrict_slack.Goals as goal

pub returns-then-answer-room : goal.returns-then-answer-room
returns-then-answer-room c = called-short (area-short c.room.ensures c.if-answer-room.true) (c.short.ensures, refl)

pub returns : goal.returns
returns c = called (area-long c.room.ensures c.if-answer-room.false) (c.slack_of.result, c.slack_of.ensures, c.tell_timing.ensures.given)
