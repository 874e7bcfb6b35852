-- `columns::cells::put_pin` meets its contract. Assumes nothing.
use Rattle.marks.specs.Marks.{marks-zero}
use Rattle.columns.specs.Stores.{puts-as}
use Rattle.columns.specs.Run.{run-put}
use Rattle.columns.proofs.cells.put_pin.Goals as goal

pub returns : goal.returns
returns c =
    let a = c.args in
    rw (c.put_pair.ensures.loads, c.put_pair.ensures.times) (run-put a.loads.now a.times.now a.words.now _ a.at a.load.0 a.due.0 (λ j. 0) (puts-as c.put_words.ensures marks-zero))
