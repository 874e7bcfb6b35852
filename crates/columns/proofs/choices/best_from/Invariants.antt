-- `columns::choices::best_from` meets its contract. Assumes nothing.
use Rattle.std.specs.Int.Signed.{mag}
use Rattle.columns.specs.Choosing.{delay_of, Choosing}
use Rattle.columns.proofs.choices.best_from.Given as goal

abbrev pub invariant-loop-i : goal.invariant-loop-i
invariant-loop-i l = Choosing (delay_of (mag l.own.0) l.r.0) l.loads l.times l.at l.n l.best.at l.best.value.0 l.i
