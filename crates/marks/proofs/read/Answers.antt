-- `marks::read` meets its contract. Assumes nothing.
use Rattle.marks.proofs.Words.{mark-mask}
use Rattle.marks.proofs.read.Goals as goal

pub returns-clause-value : goal.returns-clause-value
returns-clause-value c = mark-mask c.args.word c.args.i
