-- `rows::backward::link_back` meets its contract. The loop's invariant: the rows passed are linked. Assumes nothing.
use Rattle.std.proofs.Common.{◌≡◌, sym, ◌∙◌, arith, get_or}
use Rattle.laws.specs.Tabled.{rows_from, rows-length}
use Rattle.laws.specs.Walk.{no_row, sites_before-zero}
use Rattle.rows.specs.Links.{row_is, parent-early, count_next, sites_few}
use Rattle.rows.specs.Backward.{backing-start, backing-step, backing-end, slot-low}
use Rattle.rows.proofs.backward.link_back.Goals as goal

pub loop-i-init : goal.loop-i-init
loop-i-init c =
    let a = c.args.net.now in
    let e = rows-length a.rows.now a.due.now 0 a.row_count in
    let s = c.requires.standing.some in
    backing-start _ c.args.links.now _ _ (rw e s) (omega arith) (rw e)
    (count_next a.rows.now a.due.now a.row_count 0 0 c.row_at.result _ s (sym (sites_before-zero _)) c.row_at.ensures c.next_site-k.ensures)

pub slot-q-requires-clause-parent_lt_n : goal.slot-q-requires-clause-parent_lt_n
slot-q-requires-clause-parent_lt_n c =
    let a = c.args.net.now in
    let f = parent-early a.rows.now a.due.now a.row_count c.loop-i.i c.row_at-x.result c.requires.earlier c.loop-i.auto.i c.loop-i-test.true c.row_at-x.ensures in
    omega (arith, f)

pub put_row-requires-clause-q_lt_sites_at : goal.put_row-requires-clause-q_lt_sites_at
put_row-requires-clause-q_lt_sites_at c =
    let a = c.args.net.now in
    let h = c.loop-i-test.true in
    let e = rows-length a.rows.now a.due.now 0 a.row_count in
    let f = parent-early a.rows.now a.due.now a.row_count c.loop-i.i c.row_at-x.result c.requires.earlier c.loop-i.auto.i h c.row_at-x.ensures in
    (slot-low (rows_from a.rows.now a.due.now 0 a.row_count) _ c.loop-i.i c.loop-i.k c.row_at-x.result.parent c.slot-q.result c.loop-i.invariant (rw e c.requires.standing.few) f (rw e c.slot-q.ensures), (h, c.requires.standing.few))

pub put_row-requires-clause-k_le_rows_room : goal.put_row-requires-clause-k_le_rows_room
put_row-requires-clause-k_le_rows_room c =
    let a = c.args.net.now in
    omega (arith, sites_few (rows_from a.rows.now a.due.now 0 a.row_count) c.loop-i.i c.loop-i.invariant.inside, c.loop-i.invariant.count, c.requires.standing.few)

pub next_site-k-requires-in-loop-i : goal.next_site-k-requires-in-loop-i
next_site-k-requires-in-loop-i c =
    let a = c.args.net.now in
    omega (arith, sites_few (rows_from a.rows.now a.due.now 0 a.row_count) c.loop-i.i c.loop-i.invariant.inside, c.loop-i.invariant.count, c.requires.standing.few)

pub loop-i-preserved : goal.loop-i-preserved
loop-i-preserved c =
    let a = c.args.net.now in
    let h = c.loop-i-test.true in
    let e = rows-length a.rows.now a.due.now 0 a.row_count in
    let r : get_or (rows_from a.rows.now a.due.now 0 a.row_count) c.loop-i.i no_row ≡ c.row_at-x.result = row_is a.rows.now a.due.now a.row_count c.loop-i.i c.row_at-x.result h c.row_at-x.ensures in
    backing-step _ _ c.loop-i.i c.loop-i.k c.row_at-x.result.parent c.slot-q.result c.requires.earlier c.loop-i.invariant c.loop-i.auto.i (rw e c.requires.standing.few) (rw e h) (rw r) _ _ (rw e c.slot-q.ensures) (rw (e, c.put_row.ensures))
    (count_next a.rows.now a.due.now a.row_count c.loop-i.i c.loop-i.k c.row_at-x.result _ h c.loop-i.invariant.count c.row_at-x.ensures c.next_site-k-in-loop-i.ensures)

pub returns : goal.returns
returns c =
    let a = c.args.net.now in
    backing-end _ _ c.loop-i.i c.loop-i.k (rows-length a.rows.now a.due.now 0 a.row_count ∙ omega arith) c.loop-i.invariant
