-- `signs::magnitude` meets its contract: its laws are in `Past`. Assumes nothing.
use native.Mathlib.Omega.{arith}
use Rattle.signs.proofs.Past.{past_fits, past-cast, past_more, past_is, positive-cast}
use Rattle.signs.proofs.magnitude.Goals as goal

pub overflow_sub-past : goal.overflow_sub-past
overflow_sub-past c = past_fits c.args.z c.ranges.z c.if-z-lt0.true

pub overflow_cast-result : goal.overflow_cast-result
overflow_cast-result c = past-cast c.args.z c.ranges.z c.if-z-lt0.true

pub overflow_add-result : goal.overflow_add-result
overflow_add-result c = past_more c.args.z c.ranges.z c.if-z-lt0.true _ (omega arith)

pub returns-then-z-lt0 : goal.returns-then-z-lt0
returns-then-z-lt0 c = past_is c.args.z c.ranges.z c.if-z-lt0.true

pub overflow_cast-result-2 : goal.overflow_cast-result-2
overflow_cast-result-2 c = positive-cast c.args.z c.ranges.z c.if-z-lt0.false
