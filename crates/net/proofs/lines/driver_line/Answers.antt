-- `net::lines::driver_line` meets its contract: its one field, then no field more. Assumes nothing.
use Rattle.rules.specs.Entries.{driver}
use Rattle.rules.specs.Text.{driver_line}
use Rattle.text.specs.Fields.{fields_from}
use Rattle.net.specs.LineLaws.{read_number, read-bad, read-over, read-end, bad-made, driver₁, driver_is, driver-made}
use Rattle.net.proofs.lines.driver_line.Goals as goal

pub returns-in_default : goal.returns-in_default
returns-in_default c =
    let line = c.args.line.now in
    let E = driver_line (fields_from line 2) in
    bad-made c.args.place E (read-bad E driver₁ line 2 c.number_at.result (driver_is (fields_from line 2)) c.number_at.ensures c.in_default.is)

pub returns-then-at-line : goal.returns-then-at-line
returns-then-at-line c =
    let line = c.args.line.now in
    let E = driver_line (fields_from line 2) in
    let s1 = read_number E driver₁ line 2 c.number_at.result c.in-Number.resistance c.in-Number.at (driver_is (fields_from line 2)) c.number_at.ensures c.in-Number.is in
    bad-made c.args.place E (read-over E (driver s1.0) line c.in-Number.at s1.2 c.if-at-line.true)

pub returns : goal.returns
returns c =
    let line = c.args.line.now in
    let E = driver_line (fields_from line 2) in
    let s1 = read_number E driver₁ line 2 c.number_at.result c.in-Number.resistance c.in-Number.at (driver_is (fields_from line 2)) c.number_at.ensures c.in-Number.is in
    driver-made c.args.place E s1.0 c.in-Number.resistance c.word_of.result (read-end E (driver s1.0) line c.in-Number.at s1.2 c.if-at-line.false) s1.1 c.word_of.ensures
