-- `sites::put_choices` meets its contract. Assumes nothing.
use Rattle.std.proofs.Common.{◌+◌, arith}
use Rattle.sites.specs.Sites.{chosens-stand, chosens-step}
use Rattle.columns.specs.Made.{Room, room-run}
use Rattle.sites.proofs.put_choices.Goals as goal

pub put_choice-requires-clause-stand : goal.put_choice-requires-clause-stand
put_choice-requires-clause-stand c =
    let a = c.args in
    chosens-stand a.net.now.types.now _ _ a.at a.n a.k a.base c.loop-t.t (omega arith) c.loop-t.invariant c.requires.stand

pub loop-t-preserved : goal.loop-t-preserved
loop-t-preserved c =
    let a = c.args in
    let x : Room c.loop-t.loads c.loop-t.times c.loop-t.words = record { loads = omega arith; times = omega arith; words = omega arith } in
    let h = room-run (a.base + c.loop-t.t + 1) x (omega arith) in
    chosens-step a.net.now.types.now _ _ a.at a.n a.k a.base c.loop-t.t (omega arith) c.loop-t.invariant _ (omega (arith, h)) c.put_choice.ensures
