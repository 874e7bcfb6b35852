-- `rows::link_rows` meets its contract. The loop's invariant: the rows passed are linked. Assumes nothing.
use Rattle.std.proofs.Common.{◌≡◌, refl, sym, ◌-◌, ◌<◌, arith, get_or}
use Rattle.laws.specs.Tabled.{rows_from, rows-length}
use Rattle.laws.specs.Walk.{no_row}
use Rattle.rows.specs.Links.{linking-start, linking-step, row_is, parent-early}
use Rattle.rows.proofs.link_rows.Goals as goal
use Rattle.rows.proofs.link_rows.Goals.{After-row_at-x}

pub loop-m-init : goal.loop-m-init
loop-m-init c =
    let a = c.args.net.now in
    let e = rows-length a.rows.now a.due.now 0 a.row_count in
    linking-start _ _ _ (rw e c.requires.standing.some) (rw e c.requires.standing.few) (sym e) c.requires.counted

-- the row's parent is an earlier row
early : (c : After-row_at-x) → c.row_at-x.result.parent < c.loop-m.m - 1
early c =
    let a = c.args.net.now in
    parent-early a.rows.now a.due.now a.row_count (c.loop-m.m - 1) c.row_at-x.result c.requires.earlier (omega arith) (omega arith) c.row_at-x.ensures

pub bounds-links-p : goal.bounds-links-p
bounds-links-p c = omega (arith, early (goal.at.bounds-links-p c).After-row_at-x)

pub bounds-links-p-in-loop-m : goal.bounds-links-p-in-loop-m
bounds-links-p-in-loop-m c = omega (arith, early (goal.at.bounds-links-p-in-loop-m c).After-row_at-x)

pub loop-m-preserved : goal.loop-m-preserved
loop-m-preserved c =
    let a = c.args.net.now in
    let h : c.loop-m.m - 1 < a.row_count = omega arith in
    let q : get_or (rows_from a.rows.now a.due.now 0 a.row_count) (c.loop-m.m - 1) no_row ≡ c.row_at-x.result = row_is a.rows.now a.due.now a.row_count (c.loop-m.m - 1) c.row_at-x.result h c.row_at-x.ensures in
    linking-step _ _ c.loop-m.m (c.loop-m.m - 1) c.row_at-x.result.parent c.requires.earlier c.loop-m.invariant (omega arith) (omega arith) (rw q) _ refl
