-- `text::number_at` meets its contract: the field at the place is handed to the reader. Assumes nothing.
use Rattle.text.specs.Fields.{number_is}
use Rattle.text.proofs.number_at.Goals as goal

pub returns : goal.returns
returns c = number_is c.args.line.now c.field_at-part.result.now c.args.at c.number_of.result c.field_at-part.ensures c.number_of.ensures
