-- `records::listing::list_records` meets its contract. Assumes nothing.
use Rattle.std.proofs.Common.{refl, arith, Ok, Err}
use Rattle.std.proofs.lemmas.Result.{err_from_is_err_and}
use Rattle.records.specs.Listed.{lists-in, list_done}
use Rattle.records.proofs.listing.list_records.Goals as goal

-- ---- where something is refused nothing is stored
pub returns-in_err-judge_list : goal.returns-in_err-judge_list
returns-in_err-judge_list c =
    let a = c.args in
    let n = a.net.now in
    let p = err_from_is_err_and c.from_residual.result c.from_residual.ensures.1 in
    rw (p.1, p.2)
    (list_done n.types.now n.rows.now n.due.now n.type_count n.row_count a.row a.list_loads.now a.list_times.now a.work.now (Err c.in_err-judge_list.field-0.0) c.in_err-judge_list.ensures a.work.now a.list_loads.now a.list_times.now 0
    (record { run = a.work.now; same = refl; seen = (refl, refl); few = omega arith; loads = refl; times = refl; cleared = refl }) (Err c.in_err-judge_list.field-0.0) refl)

-- ---- where nothing is
pub list_in-len-requires : goal.list_in-len-requires
list_in-len-requires c =
    let a = c.args in
    lists-in a.net.now a.row a.list_loads.now a.list_times.now a.work.now c.in_ok-judge_list.ensures

pub returns : goal.returns
returns c =
    let a = c.args in
    let n = a.net.now in
    let m = c.list_in-len in
    list_done n.types.now n.rows.now n.due.now n.type_count n.row_count a.row a.list_loads.now a.list_times.now a.work.now (Ok tt) c.in_ok-judge_list.ensures m.new.run m.new.loads m.new.times m.result m.ensures (Ok m.result) refl
