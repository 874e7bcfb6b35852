-- `net::tables::take_rows` meets its contract. Assumes nothing.
use Rattle.std.proofs.Common.{refl, ◌≡◌, ◌∙◌, ap, min, arith}
use Rattle.std.proofs.lemmas.Result.{err_from_is_err_and}
use Rattle.rules.specs.Quantities.{rows_room}
use Rattle.rules.specs.Tables.{from, row_entry, tables_of}
use Rattle.entries.specs.Lines.{line_for}
use Rattle.checks.specs.Checks.{place_at}
use Rattle.entries.specs.Entries.{row_entry_of}
use Rattle.net.specs.Taking.{line-room}
use Rattle.entries.specs.RowLaws.{row-grown, row-entry-is, row-counted}
use Rattle.net.specs.TableLaws.{through-none, take-refused-all, take_more, take-beyond-all, take_done}
use Rattle.net.proofs.tables.take_rows.Goals as goal

pub loop-i-init : goal.loop-i-init
unfolding from
loop-i-init c = (c.requires.0.0, omega arith, λ types before h. through-none (tables_of types c.args.net.now.rows.now c.args.net.now.due.now) before _ h)

pub check_row_at-requires : goal.check_row_at-requires
check_row_at-requires c =
    let long = c.requires.1.0 in
    ((c.loop-i.invariant.0, omega (arith, c.loop-i.invariant.0.rows, long)), omega (arith, long))

pub returns-in_err-check_row_at : goal.returns-in_err-check_row_at
returns-in_err-check_row_at c =
    let net = c.args.net.now in
    let rs = net.rows.now in
    let ds = net.due.now in
    let line = line_for (place_at c.loop-i.m) (row_entry_of rs ds c.loop-i.i) in
    let p = err_from_is_err_and c.from_residual.result c.from_residual.ensures.1 in
    rw (p.1, p.2)
    (λ types before h. take-refused-all (tables_of types rs ds) (row_entry (tables_of types rs ds)) before c.loop-i.i c.loop-i.m (c.loop-i.invariant.2 types before h) (place_at c.loop-i.m) line c.check_row_at.result refl
    (ap (line_for (place_at c.loop-i.m)) (row-entry-is types rs ds c.loop-i.i)) c.check_row_at.ensures rows_room net.row_count c.in_err-check_row_at.field-0.0 (omega arith) c.in_err-check_row_at.was)

pub loop-i-preserved : goal.loop-i-preserved
loop-i-preserved c =
    let net = c.args.net.now in
    let rs = net.rows.now in
    let ds = net.due.now in
    let accepted = c.in_ok-check_row_at.was in
    let line = line_for (place_at c.loop-i.m) (row_entry_of rs ds c.loop-i.i) in
    let counted = row-counted rs ds c.loop-i.m c.loop-i.i c.check_row_at.result c.check_row_at.ensures accepted in
    let m-is = c.with_row-m.ensures ∙ counted.1 in
    let few = (line-room rs c.loop-i.m line c.check_row_at.result c.loop-i.invariant.0 c.check_row_at.ensures accepted).1 in (
      rw m-is few,
      rw m-is (omega (arith, counted.0, c.loop-i.invariant.1)),
      λ types before h. take_more (tables_of types rs ds) (row_entry (tables_of types rs ds)) before c.loop-i.i c.loop-i.m (c.loop-i.invariant.2 types before h) (place_at c.loop-i.m) line c.check_row_at.result refl
          (ap (line_for (place_at c.loop-i.m)) (row-entry-is types rs ds c.loop-i.i)) c.check_row_at.ensures c.with_row-m.result accepted
          (row-grown types rs ds c.loop-i.m c.loop-i.i (place_at c.loop-i.m) line c.check_row_at.result c.loop-i.invariant.1 refl c.check_row_at.ensures accepted (omega (arith, c.requires.1.0)) (omega (arith, c.requires.1.1))) m-is,
    )

pub returns-then-net-gt-ROWS_ROOM : goal.returns-then-net-gt-ROWS_ROOM
returns-then-net-gt-ROWS_ROOM c =
    let net = c.args.net.now in
    let rs = net.rows.now in
    let ds = net.due.now in
    let all : c.loop-i.i ≡ min net.row_count rows_room = omega arith in
    λ types before h. take-beyond-all (tables_of types rs ds) (row_entry (tables_of types rs ds)) before rows_room net.row_count c.loop-i.i c.loop-i.m (c.loop-i.invariant.2 types before h) all c.place_of.result c.place_of.ensures c.if-net-gt-ROWS_ROOM.true

pub returns : goal.returns
returns c =
    let net = c.args.net.now in
    let rs = net.rows.now in
    let ds = net.due.now in
    let all : c.loop-i.i ≡ min net.row_count rows_room = omega arith in
    λ types before h. take_done (tables_of types rs ds) (row_entry (tables_of types rs ds)) before rows_room net.row_count c.loop-i.i c.loop-i.m (c.loop-i.invariant.2 types before h) all c.if-net-gt-ROWS_ROOM.false c.finish.result c.finish.ensures
