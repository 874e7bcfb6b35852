-- `text::signed_of` meets its contract: the first byte says whether a minus stands before the number. Assumes nothing.
use Rattle.std.proofs.Common.{◌≤◌, arith, take, drop, length, ◌-◌}
use Rattle.rules.specs.Text.{number}
use Rattle.text.specs.Numbers.{cap, kept-is, negated-is, small_is, small-made, minus-made, plain-made}
use Rattle.text.proofs.signed_of.Goals as goal

pub returns-then-first-ne-MINUS : goal.returns-then-first-ne-MINUS
returns-then-first-ne-MINUS c =
    let a = c.args in
    let n = c.in-Number.n in
    let small : n ≤ cap = small_is _ n c.in-Number.next c.in-Number.is (small-made (number a.part.now) a.next c.number_of.result c.number_of.ensures) in
    plain-made a.part.now a.next c.number_of.result _ (omega arith) c.if-first-ne-MINUS.true c.number_of.ensures (kept-is c.number_of.result n c.in-Number.next c.in-Number.is small)

pub returns : goal.returns
returns c =
    let a = c.args in
    let n = c.in-Number-number_of.n in
    let small : n ≤ cap = small_is _ n c.in-Number-number_of.next c.in-Number-number_of.is (small-made (number (take (length a.part.now - 1) (drop 1 a.part.now))) a.next c.number_of-2.result c.number_of-2.ensures) in
    minus-made a.part.now a.next c.number_of-2.result _ (omega arith) (omega arith) c.number_of-2.ensures
    (negated-is c.number_of-2.result n c.in-Number-number_of.next c.in-Number-number_of.is small (λ e. omega arith))
