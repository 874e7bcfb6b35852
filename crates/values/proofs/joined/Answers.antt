-- `values::joined` meets its contract. Assumes nothing.
use Rattle.values.specs.Values.{joined-load, joined_is}
use Rattle.values.proofs.joined.Goals as goal

pub joined-pair-requires : goal.joined-pair-requires
joined-pair-requires c = rw (c.pair_of.ensures, c.pair_of-2.ensures) (joined-load _ _ c.requires)

pub returns : goal.returns
returns c =
    let a = c.args in
    let e = rw (c.pair_of.ensures, c.pair_of-2.ensures) at c.joined-pair.ensures in
    joined_is a.x a.y _ _ _ e.load e.time c.joined.ensures
