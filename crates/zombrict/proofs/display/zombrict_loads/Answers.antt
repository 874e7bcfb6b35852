-- `zombrict::display::zombrict_loads` meets its contract: 7 for the answer, else the promise of the entry and the answer as it crosses. Assumes nothing.
use mathlib.Core.Path.{refl}
use Rattle.answers.specs.Crossing.{area-short, area-long, called-short, called}
use Rattle.zombrict.proofs.display.zombrict_loads.Goals as goal

pub returns-then-answer-room : goal.returns-then-answer-room
returns-then-answer-room c = called-short (area-short c.room.ensures c.if-answer-room.true) (c.short.ensures, refl)

pub returns : goal.returns
returns c = called (area-long c.room.ensures c.if-answer-room.false) (c.loads_at-listed.result, c.loads_at-listed.ensures, c.tell_listing.ensures)
