-- `zombrict::texts::zombrict_list_text` meets its contract: 7 for the answer, then for what is lent, then the text as it was read. Assumes nothing.
use Rattle.std.specs.Prelude.{Err}
use mathlib.Core.Path.{refl, sym, ◌∙◌}
use Rattle.rules.specs.Answers.{list_figures}
use Rattle.rules.specs.declared.Refusal.TheVariants.{Short}
use Rattle.rules.specs.Areas.{lent_of, short_lent}
use Rattle.answers.specs.Crossing.{area-short, area-long, called-short, called, crossed-refused}
use Rattle.zombrict.specs.TextLaws.{list-short, list-on-text}
use Rattle.zombrict.proofs.texts.zombrict_list_text.Goals as goal

pub returns-then-answer-room : goal.returns-then-answer-room
returns-then-answer-room c = called-short (area-short c.room.ensures c.if-answer-room.true) (c.short.ensures, refl)

pub returns-then-short_list : goal.returns-then-short_list
unfolding list_figures short_lent
returns-then-short_list c = called (area-long c.room.ensures c.if-answer-room.false) (Err Short, list-short c.args.text.now c.args.row (lent_of c.args.list_loads.now c.args.list_times.now) (sym c.short_list.ensures ∙ c.if-short_list.true), crossed-refused 0 Short refl refl c.tell_refusal.ensures)

pub returns : goal.returns
unfolding short_lent
returns c = called (area-long c.room.ensures c.if-answer-room.false) (c.list_read-listed.result, list-on-text _ _ _ _ _ _ _ (sym c.short_list.ensures ∙ c.if-short_list.false) c.read_net-read.ensures c.list_read-listed.ensures, c.tell_listing.ensures)
