-- `vectors::run` is safe and ends: a request leaves less of the input. Assumes nothing.
use Rattle.std.proofs.Common.{length}
use Rattle.vectors.proofs.run.Given as goal

abbrev pub decreases-loop-name : goal.decreases-loop-name
decreases-loop-name l = length l.rest
