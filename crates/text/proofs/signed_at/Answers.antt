-- `text::signed_at` meets its contract: the field at the place is handed to the reader. Assumes nothing.
use Rattle.text.specs.Fields.{time-is}
use Rattle.text.proofs.signed_at.Goals as goal

pub returns : goal.returns
returns c = time-is c.args.line.now c.field_at-part.result.now c.args.at c.signed_of.result c.field_at-part.ensures c.signed_of.ensures
