-- `columns::placements::put_words` meets its contract. Assumes nothing.
use Rattle.std.proofs.Common.{arith}
use Rattle.columns.specs.Run.{words-put}
use Rattle.columns.proofs.placements.put_words.Goals as goal

pub returns : goal.returns
returns c = words-put c.args.words.now c.args.new c.args.i (omega arith)
