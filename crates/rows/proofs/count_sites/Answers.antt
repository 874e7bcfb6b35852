-- `rows::count_sites` meets its contract. The loop's invariant: the rows passed are counted. Assumes nothing.
use Rattle.std.proofs.Common.{arith}
use Rattle.laws.specs.Tabled.{rows_from, rows-length}
use Rattle.rows.specs.Links.{counting-start, counting-step, counted, count_next, sites_few}
use Rattle.rows.proofs.count_sites.Goals as goal

pub loop-i-init : goal.loop-i-init
loop-i-init c = counting-start _ _ (omega arith)

pub overflow_cast-links-in-loop-i : goal.overflow_cast-links-in-loop-i
overflow_cast-links-in-loop-i c =
    let a = c.args.net.now in
    omega (arith, sites_few (rows_from a.rows.now a.due.now 0 a.row_count) c.loop-i.i c.loop-i.invariant.inside, c.loop-i.invariant.count)

pub next_site-k-requires : goal.next_site-k-requires
next_site-k-requires c =
    let a = c.args.net.now in
    omega (arith, sites_few (rows_from a.rows.now a.due.now 0 a.row_count) c.loop-i.i c.loop-i.invariant.inside, c.loop-i.invariant.count)

pub loop-i-preserved : goal.loop-i-preserved
loop-i-preserved c =
    let a = c.args.net.now in
    let h = c.loop-i-test.true in
    let e = rows-length a.rows.now a.due.now 0 a.row_count in
    counting-step _ _ c.loop-i.i c.loop-i.k c.loop-i.invariant (rw e c.requires.standing.few) (rw e h) _ _ (rw e)
    (count_next a.rows.now a.due.now a.row_count c.loop-i.i c.loop-i.k c.row_at.result _ h c.loop-i.invariant.count c.row_at.ensures c.next_site-k.ensures)

pub returns : goal.returns
returns c =
    let a = c.args.net.now in
    counted _ _ _ _ (rw (rows-length a.rows.now a.due.now 0 a.row_count) (omega arith)) c.loop-i.invariant
