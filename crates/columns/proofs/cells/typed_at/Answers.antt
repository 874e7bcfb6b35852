-- `columns::cells::typed_at` meets its contract. Assumes nothing.
use Rattle.std.proofs.Common.{ap, sym, ◌∙◌, arith}
use Rattle.laws.specs.Joining.{with_mark}
use Rattle.columns.specs.Stores.{puts-as, puts-again}
use Rattle.columns.specs.Run.{Candidate, run_at, run-put}
use Rattle.columns.proofs.cells.typed_at.Goals as goal

pub returns : goal.returns
returns c =
    let a = c.args in
    let p = ap (λ (x : Candidate). x.place) (run_at a.loads.now a.times.now a.words.now a.from (omega arith) (omega arith)) in
    let put = c.copy_words.ensures in
    rw (c.put_pair.ensures.loads, c.put_pair.ensures.times) (run-put a.loads.now a.times.now a.words.now _ a.to a.input.0 a.time.0 _ (puts-as (puts-again put c.mark_words.ensures) (ap (with_mark a.k a.m) (put.here ∙ sym p))))
