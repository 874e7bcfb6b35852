-- `columns::cells::copy_at` meets its contract. Assumes nothing.
use Rattle.std.proofs.Common.{arith}
use Rattle.columns.specs.Stores.{copy-store}
use Rattle.columns.proofs.cells.copy_at.Goals as goal

pub returns : goal.returns
returns c =
    let a = c.args in
    let x = c.pair_at.ensures in
    rw (c.put_pair.ensures.loads, c.put_pair.ensures.times, x) (copy-store a.loads.now a.times.now a.words.now a.from (omega arith) (omega arith) _ a.to c.copy_words.ensures)
