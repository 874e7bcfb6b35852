-- `columns::moves::move_up` meets its contract. Assumes nothing.
use Rattle.columns.specs.Moving.{Raising}
use Rattle.columns.specs.Run.{run}
use Rattle.columns.proofs.moves.move_up.Given as goal

abbrev pub invariant-loop-p : goal.invariant-loop-p
invariant-loop-p l = Raising (run l.initial.loads l.initial.times l.initial.words) (run l.loads l.times l.words) l.from l.to l.k l.p
