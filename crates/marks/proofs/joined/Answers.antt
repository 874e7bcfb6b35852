-- `marks::joined` meets its contract. Assumes nothing.
use native.Mathlib.Omega.{arith}
use Rattle.marks.specs.Marks.{joined-marks}
use Rattle.marks.proofs.joined.Goals as goal

pub returns : goal.returns
returns c = joined-marks c.args.a c.args.b (omega arith) (omega arith)
