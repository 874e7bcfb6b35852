-- `net::check_tables` meets its contract: 7, then entry by entry. Assumes nothing.
use Rattle.std.proofs.Common.{[], inl, inr}
use Rattle.rules.specs.Tables.{counts_of}
use Rattle.net.specs.Filled.{rooms-are}
use Rattle.net.specs.CheckLaws.{short-checked, own-checked, net-checked}
use Rattle.net.proofs.check_tables.Goals as goal

pub returns-then-short_tables : goal.returns-then-short_tables
returns-then-short_tables c =
    let net = c.args.net.now in
    let n = counts_of net.type_count net.row_count in
    elim c.then-short_tables.either [
      | inl t ↦ short-checked c.args.short net.types.now net.rows.now net.due.now n c.short_tables.result c.short_tables.ensures t
      | inr q ↦ own-checked c.args.short net.types.now net.rows.now net.due.now n c.short_tables.result c.short_tables.ensures q.0 q.1
    ]

pub take_net-requires : goal.take_net-requires
take_net-requires c =
    let net = c.args.net.now in
    rooms-are [] net.types.now net.rows.now net.due.now c.short_tables.result c.short_tables.ensures c.if-short_tables.false

pub returns : goal.returns
returns c =
    let net = c.args.net.now in
    net-checked c.args.short net.types.now net.rows.now net.due.now (counts_of net.type_count net.row_count) c.short_tables.result c.short_tables.ensures c.take_net.result c.if-short_tables.false c.if-short.false c.take_net.ensures
