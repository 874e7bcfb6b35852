-- `upward::behind_wire` meets its contract. Assumes nothing.
use Rattle.std.proofs.Common.{◌≡◌, ◌*◌, pos, sym, ap, ◌∙◌}
use Rattle.units.proofs.Times.{less-⊖}
use Rattle.upward.specs.Hung.{wire_hung, within-at, wire-seen, seen-is}
use Rattle.upward.proofs.behind_wire.Goals as goal

pub returns-in_err-far : goal.returns-in_err-far
unfolding wire_hung
returns-in_err-far c = rw c.in_err-far.was c.from_residual.ensures

pub together-load-requires : goal.together-load-requires
together-load-requires c = (within-at (wire-seen _ _ c.in_ok-far.was) c.requires.1.1).0

pub delay-requires : goal.delay-requires
delay-requires c =
    let w = (within-at (wire-seen _ _ c.in_ok-far.was) c.requires.1.1).0 in
    (c.requires.0, rw c.together-load.ensures w)

pub returns : goal.returns
returns c =
    let a = c.args in
    let q = c.together-load.ensures in
    let delay : c.delay.result.0 ≡ pos (a.r.0 * c.together-load.result.0) = c.delay.ensures.value in
    seen-is _ _ _ _ q (c.less-time.ensures.value ∙ less-⊖ c.in_ok-far.far.time.0 c.delay.result.0 _ (delay ∙ ap (λ z. pos (a.r.0 * z)) q)) ∙ sym (wire-seen _ _ c.in_ok-far.was)
