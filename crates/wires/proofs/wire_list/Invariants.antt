-- `wires::wire_list` meets its contract. Assumes nothing.
use Rattle.laws.specs.Moves.{behind}
use Rattle.wires.specs.Wiring.{Wiring}
use Rattle.columns.specs.Made.{wire_of}
use Rattle.columns.specs.Run.{run}
use Rattle.wires.proofs.wire_list.Given as goal

abbrev pub invariant-loop-i : goal.invariant-loop-i
invariant-loop-i l =
    Wiring (behind (wire_of l.r.0 l.c.0)) (run l.initial.loads l.initial.times l.initial.words) (run l.loads l.times l.words) l.at l.n l.last l.i
