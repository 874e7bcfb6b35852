-- `picked::choose` meets its contract. Assumes nothing.
use Rattle.std.proofs.Common.{arith}
use Rattle.columns.specs.Choosing.{stand-columns}
use Rattle.picked.specs.Picked.{chosen-inside, choice}
use Rattle.picked.proofs.choose.Goals as goal

pub row_at-driver-requires : goal.row_at-driver-requires
row_at-driver-requires c = omega (arith, c.requires.row_long, c.requires.due_long)

pub best_at-best-requires : goal.best_at-best-requires
best_at-best-requires c =
    let p = c.requires in
    record { columns = stand-columns p.room p.stand; r_le_most_ohms = rw c.row_at-driver.ensures p.ohms }

pub put_placement-requires : goal.put_placement-requires
put_placement-requires c =
    let p = c.requires in
    let a = c.args in
    let h = rw c.row_at-driver.ensures at c.best_at-best.ensures in
    (omega (arith, chosen-inside a.net.now.rows.now a.net.now.due.now a.loads.now a.times.now a.words.now a.len a.placement.now p c.best_at-best.result.at c.best_at-best.result.value.0 h, p.room.words), p.four)

pub bounds-loads-best : goal.bounds-loads-best
bounds-loads-best c =
    let p = c.requires in
    let a = c.args in
    let h = rw c.row_at-driver.ensures at c.best_at-best.ensures in
    omega (arith, chosen-inside a.net.now.rows.now a.net.now.due.now a.loads.now a.times.now a.words.now a.len a.placement.now p c.best_at-best.result.at c.best_at-best.result.value.0 h, p.room.loads)

pub returns : goal.returns
returns c =
    let p = c.requires in
    let a = c.args in
    let h = rw c.row_at-driver.ensures at c.best_at-best.ensures in
    choice a.net.now.rows.now a.net.now.due.now a.loads.now a.times.now a.words.now a.len a.placement.now p c.best_at-best.result.at c.best_at-best.result.value.0 h c.put_placement.new.placement c.put_placement.ensures
