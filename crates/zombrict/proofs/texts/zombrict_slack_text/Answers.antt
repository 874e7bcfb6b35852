-- `zombrict::texts::zombrict_slack_text` meets its contract: 7 for the answer, then for what is lent, then the text as it was read. Assumes nothing.
use Rattle.std.specs.Prelude.{Err}
use mathlib.Core.Path.{refl}
use borrow.Author.Tests.{lt-ltb, le-ltb}
use Rattle.rules.specs.Answers.{no_timing, slack_figures}
use Rattle.rules.specs.declared.Refusal.TheVariants.{Short}
use Rattle.answers.specs.Crossing.{area-short, area-long, called-short, called, crossed-refused}
use Rattle.zombrict.specs.TextLaws.{slack-short, slack-on-text}
use Rattle.zombrict.proofs.texts.zombrict_slack_text.Goals as goal

pub returns-then-answer-room : goal.returns-then-answer-room
returns-then-answer-room c = called-short (area-short c.room.ensures c.if-answer-room.true) (c.short.ensures, refl)

pub returns-then-placement-lt-PLACEMENT_ROOM : goal.returns-then-placement-lt-PLACEMENT_ROOM
unfolding no_timing slack_figures
returns-then-placement-lt-PLACEMENT_ROOM c = called (area-long c.room.ensures c.if-answer-room.false) (Err Short, slack-short c.args.text.now c.args.placement.now (lt-ltb _ _ c.if-placement-lt-PLACEMENT_ROOM.true), crossed-refused no_timing Short refl refl c.tell_refusal.ensures)

pub returns : goal.returns
returns c = called (area-long c.room.ensures c.if-answer-room.false) (c.slack_read-slack.result, slack-on-text _ _ _ _ _ (le-ltb _ _ c.if-placement-lt-PLACEMENT_ROOM.false) c.read_net-read.ensures c.slack_read-slack.ensures, c.tell_timing.ensures.given)
