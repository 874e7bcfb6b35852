-- `walks::steps::deepest` meets its contract. Assumes nothing.
use Rattle.std.proofs.Common.{refl, sym, ◌<◌, arith}
use Rattle.walks.specs.Spine.{here, down}
use Rattle.walks.proofs.steps.deepest.Goals as goal

pub loop-c-init : goal.loop-c-init
loop-c-init c = (omega arith, (here refl, c.first_below-c.ensures))

pub loop-c-preserved : goal.loop-c-preserved
loop-c-preserved c =
    let (inside, (way, next)) = c.loop-c.invariant in
    let h : c.loop-c.c < c.args.n = omega (arith, c.requires.rising c.loop-c.r inside) in
    (h, (down c.loop-c.r inside way (sym next) h, c.first_below-c-in-loop-c.ensures))
