-- `plan::loads_accepted` meets its contract. Assumes nothing.
use Rattle.std.proofs.Common.{refl}
use Rattle.chosen.specs.Promised.{loads-promise, cleared-is}
use Rattle.plan.proofs.loads_accepted.Goals as goal

pub returns : goal.returns
returns c =
    let a = c.args in
    let l = c.loads_in-length in
    let r = c.requires.row_lt_n in
    loads-promise c.requires.passed c.requires.room a.row a.list_loads.now l.new.list_loads l.result _ r.0 r.1 l.ensures.listed (cleared-is a.loads.now a.times.now a.words.now l.ensures.cleared refl refl refl)
