-- `columns::cells::wired_at` meets its contract. Assumes nothing.
use Rattle.std.proofs.Common.{arith}
use Rattle.columns.specs.Stores.{column-time, wired-load, wired-store}
use Rattle.columns.proofs.cells.wired_at.Goals as goal

pub together-load-requires : goal.together-load-requires
together-load-requires c =
    let a = c.args in rw c.pair_at-own.ensures (wired-load a.loads.now a.times.now a.words.now a.from (omega arith) (omega arith) a.r.0 a.c.0 c.requires.fit_2)

pub time_before-time-requires : goal.time_before-time-requires
time_before-time-requires c =
    let a = c.args in
    let x = c.pair_at-own.ensures in
    let f = column-time a.loads.now a.times.now a.words.now a.from (omega arith) (omega arith) c.requires.fit in
    let g = wired-load a.loads.now a.times.now a.words.now a.from (omega arith) (omega arith) a.r.0 a.c.0 c.requires.fit_2 in
    rw x (omega arith, (omega arith, rw (c.together-load.ensures, x) g))

pub returns : goal.returns
returns c =
    let a = c.args in
    let x = c.pair_at-own.ensures in
    rw (c.put_pair.ensures.loads, c.put_pair.ensures.times) (wired-store a.loads.now a.times.now a.words.now a.from (omega arith) (omega arith) _ a.to a.r.0 a.c.0 c.together-load.result.0 c.time_before-time.result.0 (rw x at c.together-load.ensures) (rw x at c.time_before-time.ensures) c.copy_words.ensures)
