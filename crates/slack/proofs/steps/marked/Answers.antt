-- `slack::steps::marked` meets its contract. Assumes nothing.
use Rattle.std.proofs.Common.{◌≡◌, ◌<◌, ◌-◌, arith}
use Rattle.repeaters.specs.Repeaters.{is-buffer}
use Rattle.upward.specs.Hung.{buffer-in}
use Rattle.slack.specs.Hung.{mark_hung, mark-type}
use Rattle.slack.proofs.steps.marked.Goals as goal

pub returns-in-None : goal.returns-in-None
unfolding mark_hung
returns-in-None c =
    let z : c.mark_of.result ≡ 0 = omega (arith, c.in-None.ensures) in
    rw (← c.mark_of.ensures.value, z)

pub repeated-requires : goal.repeated-requires
repeated-requires c =
    let p = c.requires in
    (buffer-in (is-buffer _ _ c.type_at.ensures) (p.known c.in-Some.i (rw (← c.mark_of.ensures.value) (omega (arith, c.in-Some.ensures)))), p.inside)

pub returns-in-Some : goal.returns-in-Some
returns-in-Some c =
    let a = c.args in
    let i : c.mark_of.result - 1 ≡ c.in-Some.i = omega (arith, c.in-Some.ensures) in
    let some : 0 < c.mark_of.result = omega (arith, c.in-Some.ensures) in
    rw (← c.mark_of.ensures.value, mark-type a.net.now.types.now c.mark_of.result a.h some (rw c.mark_of.ensures.value c.requires.mark), i)
    (c.repeated.ensures _ (is-buffer _ _ c.type_at.ensures))
