-- `net::reads::take_line` meets its contract: a refused line is refused for what the list says, and an accepted one is stored and held.
-- Assumes nothing.
use Rattle.std.proofs.lemmas.Result.{err_from_is_err_and}
use Rattle.rules.specs.Text.{parted, line_of}
use Rattle.text.specs.Stretches.{tab}
use Rattle.net.specs.Taking.{line-room, line_refused, line-held}
use Rattle.net.proofs.reads.take_line.Goals as goal

pub returns-in_err-check_line : goal.returns-in_err-check_line
returns-in_err-check_line c =
    let p = err_from_is_err_and c.from_residual.result c.from_residual.ensures.1 in
    rw (p.1, p.2)
    (λ before h. line_refused before c.args.types.now c.args.rows.now c.args.due.now c.args.n h (line_of (parted tab c.args.line.now)) c.place_of.result c.read_line-read.result c.check_line.result c.place_of.ensures c.read_line-read.ensures c.check_line.ensures c.in_err-check_line.field-0.0 c.in_err-check_line.was)

pub store_line-requires : goal.store_line-requires
store_line-requires c =
    let r = c.requires.1 in
    ((line-room c.args.rows.now c.args.n c.read_line-read.result c.check_line.result c.requires.0 c.check_line.ensures c.in_ok-check_line.was).0, (r.types_fit, (r.rows_fit, r.due_fits)))

pub returns : goal.returns
returns c =
    λ before h. line-held before c.args.types.now c.args.rows.now c.args.due.now c.args.n h (line_of (parted tab c.args.line.now)) c.place_of.result c.read_line-read.result c.check_line.result c.place_of.ensures c.read_line-read.ensures c.check_line.ensures _ _ _ c.passed_with.result c.in_ok-check_line.was c.store_line.ensures c.passed_with.ensures
