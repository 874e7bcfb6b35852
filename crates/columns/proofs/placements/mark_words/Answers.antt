-- `columns::placements::mark_words` meets its contract. Assumes nothing.
use Rattle.std.proofs.Common.{arith}
use Rattle.columns.specs.Run.{word-put}
use Rattle.columns.proofs.placements.mark_words.Goals as goal

pub returns : goal.returns
returns c =
    let a = c.args in word-put a.words.now a.i a.k a.m c.with-word.result (omega arith) (omega arith) c.with-word.ensures
