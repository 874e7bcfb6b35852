-- `records::plan_records` meets its contract. Assumes nothing.
use Rattle.std.proofs.Common.{refl, Ok, Err}
use Rattle.std.proofs.lemmas.Result.{err_from_is_err_and}
use Rattle.records.specs.Entries.{idle_pass}
use Rattle.records.specs.Planning.{verdict-plans, verdict-four, plan-told, records-picks}
use Rattle.records.proofs.plan_records.Goals as goal

-- ---- where something is refused nothing is stored
pub returns-in_err-judge-clause-planned : goal.returns-in_err-judge-clause-planned
returns-in_err-judge-clause-planned c =
    let a = c.args in
    let n = a.net.now in
    let p = err_from_is_err_and c.from_residual.result c.from_residual.ensures.1 in
    rw (p.1, p.2) (plan-told n.types.now n.rows.now n.due.now n.type_count n.row_count a.placement.now a.work.now (Err c.in_err-judge.field-0.0) c.in_err-judge.ensures a.work.now idle_pass refl a.placement.now (Err c.in_err-judge.field-0.0) (refl, refl))

pub returns-in_err-judge-clause-picked : goal.returns-in_err-judge-clause-picked
returns-in_err-judge-clause-picked c =
    let a = c.args in
    let n = a.net.now in
    let p = err_from_is_err_and c.from_residual.result c.from_residual.ensures.1 in
    rw (p.1, p.2) (records-picks n.types.now n.rows.now n.due.now n.type_count n.row_count a.placement.now a.placement.now a.work.now a.work.now (Err c.in_err-judge.field-0.0) idle_pass (Err c.in_err-judge.field-0.0) c.in_err-judge.ensures refl (refl, refl))

-- ---- where nothing is
pub plan_in-best-requires : goal.plan_in-best-requires
plan_in-best-requires c =
    let a = c.args in
    let n = a.net.now in
    verdict-plans n.types.now n.rows.now n.due.now n.type_count n.row_count a.placement.now a.work.now (Ok tt) c.in_ok-judge.ensures

pub tell-requires : goal.tell-requires
tell-requires c =
    let a = c.args in
    let n = a.net.now in
    verdict-four n.types.now n.rows.now n.due.now n.type_count n.row_count a.placement.now a.work.now (Ok tt) c.in_ok-judge.ensures

pub returns-clause-planned : goal.returns-clause-planned
returns-clause-planned c =
    let a = c.args in
    let n = a.net.now in
    plan-told n.types.now n.rows.now n.due.now n.type_count n.row_count a.placement.now a.work.now (Ok tt) c.in_ok-judge.ensures c.plan_in-best.new.run c.plan_in-best.result c.plan_in-best.ensures c.tell.new.placement _ c.tell.ensures

pub returns-clause-picked : goal.returns-clause-picked
returns-clause-picked c =
    let a = c.args in
    let n = a.net.now in
    records-picks n.types.now n.rows.now n.due.now n.type_count n.row_count a.placement.now c.tell.new.placement a.work.now c.plan_in-best.new.run (Ok tt) c.plan_in-best.result _ c.in_ok-judge.ensures c.plan_in-best.ensures c.tell.ensures
