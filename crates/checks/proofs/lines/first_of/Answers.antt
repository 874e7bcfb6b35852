-- `checks::lines::first_of` meets its contract: the first test that holds decides. Assumes nothing.
use Rattle.std.proofs.Math.Option.{or_else}
use Rattle.checks.proofs.lines.first_of.Goals as goal

pub returns-then-form : goal.returns-then-form
unfolding or_else
returns-then-form c = simp c.if-form.true

pub returns-then-range : goal.returns-then-range
unfolding or_else
returns-then-range c = simp (c.if-form.false, c.if-range.true)

pub returns-then-room : goal.returns-then-room
unfolding or_else
returns-then-room c = simp (c.if-form.false, c.if-range.false, c.if-room.true)

pub returns-then-parent : goal.returns-then-parent
unfolding or_else
returns-then-parent c = simp (c.if-form.false, c.if-range.false, c.if-room.false, c.if-parent.true)

pub returns : goal.returns
unfolding or_else
returns c = simp (c.if-form.false, c.if-range.false, c.if-room.false, c.if-parent.false)
