-- `net::read_net` keeps its promise: 7, then the length of the text, then line by line. Assumes nothing.
use Rattle.std.proofs.lemmas.Result.{err_from_is_err_and}
use Rattle.net.specs.Filled.{not_read, to_read, lines-read, rooms-are}
use Rattle.net.proofs.read_net.Goals as goal

pub returns-in_err-check_text : goal.returns-in_err-check_text
returns-in_err-check_text c =
    let a = c.args in
    let p = err_from_is_err_and c.from_residual.result c.from_residual.ensures.1 in
    rw (p.1, p.2)
    (not_read a.text.now a.types.now a.rows.now a.due.now c.short_tables-short.result c.check_text.result c.in_err-check_text.field-0.0 c.short_tables-short.ensures c.check_text.ensures c.in_err-check_text.was)

pub read_through-requires : goal.read_through-requires
read_through-requires c =
    let a = c.args in
    let (s, l) = to_read a.text.now a.types.now a.rows.now a.due.now c.short_tables-short.result c.check_text.result c.check_text.ensures c.in_ok-check_text.was in
    rooms-are a.text.now a.types.now a.rows.now a.due.now c.short_tables-short.result c.short_tables-short.ensures s

pub returns : goal.returns
returns c =
    let a = c.args in
    let (s, l) = to_read a.text.now a.types.now a.rows.now a.due.now c.short_tables-short.result c.check_text.result c.check_text.ensures c.in_ok-check_text.was in
    lines-read a.text.now a.types.now a.rows.now a.due.now c.short_tables-short.result c.read_through.result _ c.short_tables-short.ensures s l c.read_through.ensures
