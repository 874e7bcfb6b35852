-- `zombrict::display::zombrict_loads_text` meets its contract: 7 for the answer, then for what is lent, then the text as it was read. Assumes nothing.
use Rattle.std.specs.Prelude.{Err}
use mathlib.Core.Path.{refl, sym, ◌∙◌}
use Rattle.rules.specs.Answers.{list_figures}
use Rattle.rules.specs.declared.Refusal.TheVariants.{Short}
use Rattle.answers.specs.Crossing.{area-short, area-long, called-short, called, crossed-refused}
use Rattle.zombrict.specs.TextLaws.{loads-short, loads-on-text}
use Rattle.zombrict.proofs.display.zombrict_loads_text.Goals as goal

pub returns-then-answer-room : goal.returns-then-answer-room
returns-then-answer-room c = called-short (area-short c.room.ensures c.if-answer-room.true) (c.short.ensures, refl)

pub returns-then-short_area : goal.returns-then-short_area
unfolding list_figures
returns-then-short_area c = called (area-long c.room.ensures c.if-answer-room.false) (Err Short, loads-short c.args.text.now c.args.row c.args.list_loads.now (sym c.short_area.ensures ∙ c.if-short_area.true), crossed-refused 0 Short refl refl c.tell_refusal.ensures)

pub returns : goal.returns
returns c = called (area-long c.room.ensures c.if-answer-room.false) (c.loads_read-listed.result, loads-on-text _ _ _ _ _ _ _ (sym c.short_area.ensures ∙ c.if-short_area.false) c.read_net-read.ensures c.loads_read-listed.ensures, c.tell_listing.ensures)
