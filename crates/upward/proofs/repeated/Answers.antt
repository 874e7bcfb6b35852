-- `upward::repeated` meets its contract. Assumes nothing.
use Rattle.std.proofs.Common.{◌≡◌, ◌*◌, pos, refl, sym, ◌∙◌}
use Rattle.upward.specs.Hung.{repeat_hung, repeat-seen, seen-is}
use Rattle.upward.proofs.repeated.Goals as goal

pub returns-in_err-driven : goal.returns-in_err-driven
unfolding repeat_hung
returns-in_err-driven c = λ x i. rw c.in_err-driven.was c.from_residual.ensures

pub returns : goal.returns
returns c = λ x i.
    let a = c.args in
    let delay : c.delay.result.0 ≡ pos (a.b.resistance.0 * c.in_ok-driven.driven.load.0) = c.delay.ensures.value in
    seen-is _ _ _ _ refl (cc (c.less-time.ensures.value, delay, c.less-early.ensures.value)) ∙ sym (repeat-seen i c.in_ok-driven.was)
