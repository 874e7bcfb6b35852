-- `plan::plan_net` keeps its promise: refusal 7 for its own areas first. Assumes nothing.
use Rattle.std.proofs.Common.{sym, ◌∙◌, ltb-false}
use Rattle.std.proofs.lemmas.Result.{err_from_is_err_and}
use Rattle.rules.specs.Tables.{net_tables, net_counts}
use Rattle.rules.specs.Areas.{columns}
use Rattle.laws.specs.Tests.{both_false}
use Rattle.laws.proofs.Picked.{refused-picks}
use Rattle.chosen.specs.Promised.{work-room}
use Rattle.net.specs.Passing.{accepted-none, refused-some}
use Rattle.plan.specs.Refusing.{plan-refused, none-passed}
use Rattle.plan.proofs.plan_net.Goals as goal

pub returns-in_err-check_tables : goal.returns-in_err-check_tables
unfolding columns
returns-in_err-check_tables c =
    let a = c.args in
    let r = c.in_err-check_tables.field-0.0 in
    let p = err_from_is_err_and c.from_residual.result c.from_residual.ensures.1 in
    let e = refused-some _ r (sym c.check_tables.ensures ∙ c.in_err-check_tables.was) in
    rw (p.1, p.2)
    (record { planned = plan-refused (net_tables a.net.now) (net_counts a.net.now) a.loads.now a.times.now a.words.now a.placement.now r (rw (c.short_placement-own.ensures, c.short_work-work.ensures) at e); picked = refused-picks _ _ _ _ })

pub plan_accepted-requires : goal.plan_accepted-requires
plan_accepted-requires c =
    let net = c.args.net.now in
    let (short, passed) = none-passed (net_tables net) (net_counts net) _ (accepted-none _ (sym c.check_tables.ensures ∙ c.in_ok-check_tables.was)) in
    let (own, work) = both_false c.short_placement-own.result c.short_work-work.result short in
    record { passed = passed; placement_room_in_bounds = ltb-false _ _ (sym c.short_placement-own.ensures ∙ own); room = work-room (sym c.short_work-work.ensures ∙ work) }
