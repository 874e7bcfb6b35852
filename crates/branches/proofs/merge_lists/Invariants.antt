-- `branches::merge_lists` meets its contract. Assumes nothing.
use Rattle.std.proofs.Common.{◌+◌, ◌-◌}
use Rattle.branches.specs.Branching.{Joining}
use Rattle.columns.specs.Run.{run}
use Rattle.branches.proofs.merge_lists.Given as goal

abbrev pub invariant-loop-i : goal.invariant-loop-i
invariant-loop-i l = Joining (run l.initial.loads l.initial.times l.initial.words) (run l.loads l.times l.words) l.at l.m l.n l.i l.j l.o

abbrev pub decreases-loop-i : goal.decreases-loop-i
decreases-loop-i l = l.at + l.m + l.n + l.at + l.m - (l.i + l.j)
