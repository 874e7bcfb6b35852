-- The loop's invariant: the first i are those of `from`, the others as they were. Assumes nothing.
use Rattle.std.proofs.Common.{◌≡◌, ◌++◌, take, drop}
use Rattle.entries.proofs.copies.copy_start.Given as goal

abbrev pub invariant-loop-i : goal.invariant-loop-i
invariant-loop-i g l = l.to ≡ take l.i l.from ++ drop l.i l.initial.to
