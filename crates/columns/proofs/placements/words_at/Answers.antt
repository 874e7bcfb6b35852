-- `columns::placements::words_at` meets its contract. Assumes nothing.
use Rattle.columns.specs.Run.{words-read}
use Rattle.columns.proofs.placements.words_at.Goals as goal

pub returns : goal.returns
returns c = words-read c.args.words.now c.args.i
