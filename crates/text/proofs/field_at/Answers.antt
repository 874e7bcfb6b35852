-- `text::field_at` meets its contract: the part ends in the line. Assumes nothing.
use Rattle.std.proofs.Common.{arith, length-drop}
use Rattle.text.specs.Stretches.{lead-le}
use Rattle.text.proofs.field_at.Goals as goal

pub slice_bounds-result-end-2 : goal.slice_bounds-result-end-2
slice_bounds-result-end-2 c = omega (arith, lead-le, length-drop c.args.at c.args.line.now)
