-- `text::digits_of` meets its contract. The loop's invariant: the digits passed and those to come state the part's number, capped.
-- Assumes nothing.
use Rattle.std.proofs.Common.{sym, ◌∙◌, arith}
use Rattle.text.specs.Numbers.{digits-none, digits-past, digits-done}
use Rattle.text.proofs.digits_of.Goals as goal

pub returns-then-not-is_ascii_digit : goal.returns-then-not-is_ascii_digit
returns-then-not-is_ascii_digit c =
    let a = c.args in
    sym (digits-none c.loop-b.n a.next a.part.now c.loop-b.b-index (omega arith) (sym c.is_ascii_digit.ensures.value ∙ c.if-not-is_ascii_digit.true)) ∙ c.loop-b.invariant.1

pub loop-b-preserved : goal.loop-b-preserved
loop-b-preserved c =
    let a = c.args in
    (omega arith, rw c.grow-n.ensures (sym (digits-past c.loop-b.n a.next a.part.now c.loop-b.b-index (omega arith) (sym c.is_ascii_digit.ensures.value ∙ c.if-not-is_ascii_digit.false)) ∙ c.loop-b.invariant.1))

pub returns : goal.returns
returns c =
    let a = c.args in
    sym (digits-done c.loop-b.n a.next a.part.now c.loop-b.b-index (omega arith) (omega arith)) ∙ c.loop-b.invariant.1
