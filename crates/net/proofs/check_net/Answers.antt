-- `net::check_net` keeps its promise. Assumes nothing.
use Rattle.rules.specs.Tables.{tables_of, counts_of}
use Rattle.net.specs.CheckLaws.{promise-kept}
use Rattle.net.proofs.check_net.Goals as goal

pub returns : goal.returns
returns c =
    let net = c.args.net.now in
    promise-kept (tables_of net.types.now net.rows.now net.due.now) (counts_of net.type_count net.row_count) c.check_tables.result c.check_tables.ensures
