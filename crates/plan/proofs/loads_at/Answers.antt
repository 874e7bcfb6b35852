-- `plan::loads_at` keeps its promise: what is judged is refused, else the list is made. Assumes nothing.
use Rattle.std.proofs.Common.{sym, ◌∙◌, ltb-false}
use Rattle.std.proofs.lemmas.Result.{err_from_is_err_and}
use Rattle.rules.specs.Tables.{net_tables, net_counts}
use Rattle.chosen.specs.Promised.{work-room}
use Rattle.plan.specs.Refusing.{loads-refused, judged-stopped, judged-passed}
use Rattle.plan.proofs.loads_at.Goals as goal

pub returns-in_err-judged : goal.returns-in_err-judged
returns-in_err-judged c =
    let a = c.args in
    let t = net_tables a.net.now in
    let n = net_counts a.net.now in
    let r = c.in_err-judged.field-0.0 in
    let p = err_from_is_err_and c.from_residual.result c.from_residual.ensures.1 in
    let e = judged-stopped t n a.row c.short_area-own.result c.short_work-work.result c.check_net.result c.check_net.ensures r (sym c.judged.ensures ∙ c.in_err-judged.was) in
    rw (p.1, p.2) (loads-refused t n a.loads.now a.times.now a.words.now a.row a.list_loads.now r (rw (c.short_area-own.ensures, c.short_work-work.ensures) at e))

pub loads_accepted-requires : goal.loads_accepted-requires
loads_accepted-requires c =
    let a = c.args in
    let (own, (work, (passed, inside))) = judged-passed (net_tables a.net.now) (net_counts a.net.now) a.row c.short_area-own.result c.short_work-work.result c.check_net.result c.check_net.ensures (sym c.judged.ensures ∙ c.in_ok-judged.was) in
    record { passed = passed; row_lt_n = (inside, ltb-false _ _ (sym c.short_area-own.ensures ∙ own)); room = work-room (sym c.short_work-work.ensures ∙ work) }
