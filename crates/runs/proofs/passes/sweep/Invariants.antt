-- What stays as `runs::passes::sweep` takes its turns: turns can be taken until nothing is left, and a pass that goes on from here is one
-- from where it began. Assumes nothing.
use Rattle.std.specs.Prelude.{List}
use Rattle.rules.specs.declared.Cand.{Cand}
use Rattle.turns.specs.declared.Pass.{Pass}
use Rattle.runs.specs.Passes.{Safe, Swept}
use Rattle.runs.proofs.passes.sweep.Given as goal

abbrev pub invariant-loop-p : goal.invariant-loop-p
invariant-loop-p l = Safe l.p l.run × ((q : Pass) (w : List Cand) → Swept l.p l.run q w → Swept l.fn.start l.fn.run q w)

abbrev pub decreases-loop-p : goal.decreases-loop-p
decreases-loop-p l = l.p.left
