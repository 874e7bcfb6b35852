-- `plan::list_accepted` meets its contract. Assumes nothing.
use Rattle.std.proofs.Common.{refl}
use Rattle.rules.specs.Areas.{lent_of}
use Rattle.chosen.specs.Promised.{list-promise, cleared-is}
use Rattle.plan.proofs.list_accepted.Goals as goal

pub returns : goal.returns
returns c =
    let a = c.args in
    let l = c.list_in-length in
    let r = c.requires.row_lt_n in
    list-promise c.requires.passed c.requires.room a.row (lent_of a.list_loads.now a.list_times.now) (lent_of l.new.list_loads l.new.list_times) l.result _ r.0 r.1.0 r.1.1 l.ensures.listed (cleared-is a.loads.now a.times.now a.words.now l.ensures.cleared refl refl refl)
