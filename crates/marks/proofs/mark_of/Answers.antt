-- `marks::mark_of` meets its contract. Assumes nothing.
use Rattle.std.proofs.Common.{sym, ◌∙◌, arith}
use Rattle.marks.specs.Marks.{marks-in}
use Rattle.marks.proofs.mark_of.Goals as goal

pub returns-clause-value : goal.returns-clause-value
returns-clause-value c = c.read.ensures.value ∙ sym (marks-in c.args.words.now c.args.j (omega arith))
