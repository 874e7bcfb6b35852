-- `net::tables::take_net` meets its contract: the types, then the rows after them. Assumes nothing.
use Rattle.std.proofs.lemmas.Result.{err_from_is_err_and}
use Rattle.net.specs.CheckLaws.{types-refused, rows-refused, rows-accepted}
use Rattle.net.proofs.tables.take_net.Goals as goal

pub returns-in_err-n : goal.returns-in_err-n
returns-in_err-n c =
    let net = c.args.net.now in
    let p = err_from_is_err_and c.from_residual.result c.from_residual.ensures.1 in
    rw (p.1, p.2)
    (types-refused net.types.now net.rows.now net.due.now net.type_count net.row_count c.take_types.result c.take_types.ensures.passes c.in_err-n.field-0.0 c.in_err-n.was)

pub returns-in_err-take_rows : goal.returns-in_err-take_rows
returns-in_err-take_rows c =
    let net = c.args.net.now in
    let p = err_from_is_err_and c.from_residual-in_err-take_rows.result c.from_residual-in_err-take_rows.ensures.1 in
    rw (p.1, p.2)
    (rows-refused net.types.now net.rows.now net.due.now net.type_count net.row_count c.take_types.result c.take_types.ensures.passes c.in_ok-n.n c.in_ok-n.was c.take_rows.result c.take_rows.ensures c.in_err-take_rows.field-0.0 c.in_err-take_rows.was)

pub returns : goal.returns
returns c =
    let net = c.args.net.now in
    rows-accepted net.types.now net.rows.now net.due.now net.type_count net.row_count c.take_types.result c.take_types.ensures.passes c.in_ok-n.n c.in_ok-n.was c.take_rows.result c.take_rows.ensures c.in_ok-take_rows.field-0 c.in_ok-take_rows.was
