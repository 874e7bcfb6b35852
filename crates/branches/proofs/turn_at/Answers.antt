-- `branches::turn_at` meets its contract. Assumes nothing.
use Rattle.std.proofs.Common.{arith}
use Rattle.branches.specs.Lent.{joined-load, turned}
use Rattle.branches.proofs.turn_at.Goals as goal

pub join_turn-requires-clause-load_bound : goal.join_turn-requires-clause-load_bound
join_turn-requires-clause-load_bound c =
    let a = c.args in
    rw (c.pair_at-x.ensures, c.pair_at-y.ensures) (joined-load a.loads.now a.times.now a.words.now a.i a.j (omega arith) (omega arith) (omega arith) (omega arith) c.requires.fit)

pub returns : goal.returns
returns c =
    let a = c.args in
    let e = rw (c.pair_at-x.ensures, c.pair_at-y.ensures) at c.join_turn.ensures in
    turned a.loads.now a.times.now a.words.now a.i a.j (omega arith) (omega arith) (omega arith) (omega arith) _ _ _ a.o e.loads e.times c.join_words.ensures
