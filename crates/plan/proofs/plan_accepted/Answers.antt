-- `plan::plan_accepted` meets its contract. Assumes nothing.
use Rattle.std.proofs.Common.{refl}
use Rattle.chosen.specs.Promised.{plan-promise, cleared-is}
use Rattle.plan.proofs.plan_accepted.Goals as goal

pub returns-clause-planned : goal.returns-clause-planned
returns-clause-planned c =
    let a = c.args in
    let p = c.plan_in in
    plan-promise c.requires.passed c.requires.room a.placement.now p.new.placement p.result.slack p.result.load _ c.requires.placement_room_in_bounds p.ensures.planned (cleared-is a.loads.now a.times.now a.words.now p.ensures.cleared refl refl refl)
