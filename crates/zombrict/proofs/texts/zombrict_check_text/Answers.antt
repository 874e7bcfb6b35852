-- `zombrict::texts::zombrict_check_text` meets its contract: 7 for the answer, then for what is lent, then the text as it was read. Assumes nothing.
use mathlib.Core.Path.{refl}
use Rattle.answers.specs.Crossing.{area-short, area-long, called-short, called}
use Rattle.zombrict.specs.TextLaws.{count-on-text}
use Rattle.zombrict.proofs.texts.zombrict_check_text.Goals as goal

pub returns-then-answer-room : goal.returns-then-answer-room
returns-then-answer-room c = called-short (area-short c.room.ensures c.if-answer-room.true) (c.short.ensures, refl)

pub returns : goal.returns
returns c = called (area-long c.room.ensures c.if-answer-room.false) (c.read_net-read.result, count-on-text _ _ _ c.read_net-read.ensures, c.tell_reading.ensures)
