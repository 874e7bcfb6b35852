-- `plan::list_at` keeps its promise: what is judged is refused, else the list is made. Assumes nothing.
use Rattle.std.proofs.Common.{sym, ◌∙◌}
use Rattle.std.proofs.lemmas.Result.{err_from_is_err_and}
use Rattle.rules.specs.Tables.{net_tables, net_counts}
use Rattle.chosen.specs.Promised.{work-room, list-rooms}
use Rattle.plan.specs.Refusing.{list-refused, judged-stopped, judged-passed}
use Rattle.plan.proofs.list_at.Goals as goal

pub returns-in_err-judged : goal.returns-in_err-judged
returns-in_err-judged c =
    let a = c.args in
    let t = net_tables a.net.now in
    let n = net_counts a.net.now in
    let r = c.in_err-judged.field-0.0 in
    let p = err_from_is_err_and c.from_residual.result c.from_residual.ensures.1 in
    let e = judged-stopped t n a.row c.short_list-own.result c.short_work-work.result c.check_net.result c.check_net.ensures r (sym c.judged.ensures ∙ c.in_err-judged.was) in
    rw (p.1, p.2) (list-refused t n a.loads.now a.times.now a.words.now a.row a.list_loads.now a.list_times.now r (rw (c.short_list-own.ensures, c.short_work-work.ensures) at e))

pub list_accepted-requires : goal.list_accepted-requires
list_accepted-requires c =
    let a = c.args in
    let (own, (work, (passed, inside))) = judged-passed (net_tables a.net.now) (net_counts a.net.now) a.row c.short_list-own.result c.short_work-work.result c.check_net.result c.check_net.ensures (sym c.judged.ensures ∙ c.in_ok-judged.was) in
    record { passed = passed; row_lt_n = (inside, list-rooms a.list_loads.now a.list_times.now (sym c.short_list-own.ensures ∙ own)); room = work-room (sym c.short_work-work.ensures ∙ work) }
