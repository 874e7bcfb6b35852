-- `net::reads::read_through` meets its contract: refused, the lent areas are as they were; taken, what was held is copied to their start.
-- Assumes nothing.
use Rattle.std.proofs.Common.{arith}
use Rattle.std.proofs.lemmas.Result.{err_from_is_err_and}
use Rattle.rules.specs.Tables.{tables_of}
use Rattle.net.specs.Steps.{Rooms}
use Rattle.net.specs.Filled.{refused-after, taken-after}
use Rattle.net.proofs.reads.read_through.Goals as goal

pub returns-in_err-n : goal.returns-in_err-n
returns-in_err-n c =
    let a = c.args in
    let p = err_from_is_err_and c.from_residual.result c.from_residual.ensures.1 in
    rw (p.1, p.2)
    (refused-after a.text.now (tables_of a.types.now a.rows.now a.due.now) c.read_lines.result _ _ _ c.in_err-n.field-0.0 c.read_lines.ensures c.in_err-n.was)

pub returns : goal.returns
returns c =
    let a = c.args in
    let room : Rooms c.read_lines.new.types c.read_lines.new.rows c.read_lines.new.due = record { types_fit = omega arith; rows_fit = omega arith; due_fits = omega arith } in
    taken-after a.text.now c.read_lines.result c.read_lines.new.types c.read_lines.new.rows c.read_lines.new.due c.in_ok-n.n a.types.now _ a.rows.now _ a.due.now _ c.read_lines.ensures c.in_ok-n.was room c.copy_start.ensures c.copy_start-2.ensures c.copy_start-3.ensures
