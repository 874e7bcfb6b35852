-- `net::lines::point_line` meets its contract: each field in turn, then no field more. Assumes nothing.
use native.Mathlib.Omega.{arith}
use Rattle.rules.specs.Entries.{point}
use Rattle.rules.specs.Text.{point_line}
use Rattle.text.specs.Fields.{fields_from}
use Rattle.net.specs.LineLaws.{read_number, read-bad, inside, read-over, read-end, bad-made, wire₁, wire₂, wire₃, point₄, point-is, wire-made, point-made}
use Rattle.net.proofs.lines.point_line.Goals as goal

pub returns-in_default : goal.returns-in_default
returns-in_default c =
    let line = c.args.line.now in
    let E = point_line (fields_from line 2) in
    bad-made c.args.place E (read-bad E (wire₁ point₄) line 2 c.number_at.result (point-is (fields_from line 2)) c.number_at.ensures c.in_default.is)

pub number_at-requires-2 : goal.number_at-requires-2
number_at-requires-2 c = omega (arith, inside c.args.line.now 2 c.number_at.result c.in-Number.parent c.in-Number.at c.number_at.ensures c.in-Number.is)

pub returns-in_default-number_at : goal.returns-in_default-number_at
returns-in_default-number_at c =
    let line = c.args.line.now in
    let E = point_line (fields_from line 2) in
    let s1 = read_number E (wire₁ point₄) line 2 c.number_at.result c.in-Number.parent c.in-Number.at (point-is (fields_from line 2)) c.number_at.ensures c.in-Number.is in
    bad-made c.args.place E (read-bad E (wire₂ point₄ s1.0) line c.in-Number.at c.number_at-2.result s1.2 c.number_at-2.ensures c.in_default-number_at.is)

pub number_at-requires-3 : goal.number_at-requires-3
number_at-requires-3 c = omega (arith, inside c.args.line.now c.in-Number.at c.number_at-2.result c.in-Number-number_at.resistance c.in-Number-number_at.at c.number_at-2.ensures c.in-Number-number_at.is)

pub returns-in_default-number_at-2 : goal.returns-in_default-number_at-2
returns-in_default-number_at-2 c =
    let line = c.args.line.now in
    let E = point_line (fields_from line 2) in
    let s1 = read_number E (wire₁ point₄) line 2 c.number_at.result c.in-Number.parent c.in-Number.at (point-is (fields_from line 2)) c.number_at.ensures c.in-Number.is in
    let s2 = read_number E (wire₂ point₄ s1.0) line c.in-Number.at c.number_at-2.result c.in-Number-number_at.resistance c.in-Number-number_at.at s1.2 c.number_at-2.ensures c.in-Number-number_at.is in
    bad-made c.args.place E (read-bad E (wire₃ point₄ s1.0 s2.0) line c.in-Number-number_at.at c.number_at-3.result s2.2 c.number_at-3.ensures c.in_default-number_at-2.is)

pub number_at-requires-4 : goal.number_at-requires-4
number_at-requires-4 c = omega (arith, inside c.args.line.now c.in-Number-number_at.at c.number_at-3.result c.in-Number-number_at-2.capacitance c.in-Number-number_at-2.at c.number_at-3.ensures c.in-Number-number_at-2.is)

pub returns-in_default-number_at-3 : goal.returns-in_default-number_at-3
returns-in_default-number_at-3 c =
    let line = c.args.line.now in
    let E = point_line (fields_from line 2) in
    let s1 = read_number E (wire₁ point₄) line 2 c.number_at.result c.in-Number.parent c.in-Number.at (point-is (fields_from line 2)) c.number_at.ensures c.in-Number.is in
    let s2 = read_number E (wire₂ point₄ s1.0) line c.in-Number.at c.number_at-2.result c.in-Number-number_at.resistance c.in-Number-number_at.at s1.2 c.number_at-2.ensures c.in-Number-number_at.is in
    let s3 = read_number E (wire₃ point₄ s1.0 s2.0) line c.in-Number-number_at.at c.number_at-3.result c.in-Number-number_at-2.capacitance c.in-Number-number_at-2.at s2.2 c.number_at-3.ensures c.in-Number-number_at-2.is in
    bad-made c.args.place E (read-bad E (point₄ s1.0 s2.0 s3.0) line c.in-Number-number_at-2.at c.number_at-4.result s3.2 c.number_at-4.ensures c.in_default-number_at-3.is)

pub returns-then-at-line : goal.returns-then-at-line
returns-then-at-line c =
    let line = c.args.line.now in
    let E = point_line (fields_from line 2) in
    let s1 = read_number E (wire₁ point₄) line 2 c.number_at.result c.in-Number.parent c.in-Number.at (point-is (fields_from line 2)) c.number_at.ensures c.in-Number.is in
    let s2 = read_number E (wire₂ point₄ s1.0) line c.in-Number.at c.number_at-2.result c.in-Number-number_at.resistance c.in-Number-number_at.at s1.2 c.number_at-2.ensures c.in-Number-number_at.is in
    let s3 = read_number E (wire₃ point₄ s1.0 s2.0) line c.in-Number-number_at.at c.number_at-3.result c.in-Number-number_at-2.capacitance c.in-Number-number_at-2.at s2.2 c.number_at-3.ensures c.in-Number-number_at-2.is in
    let s4 = read_number E (point₄ s1.0 s2.0 s3.0) line c.in-Number-number_at-2.at c.number_at-4.result c.in-Number-number_at-3.site c.in-Number-number_at-3.at s3.2 c.number_at-4.ensures c.in-Number-number_at-3.is in
    bad-made c.args.place E (read-over E (point s1.0 s2.0 s3.0 s4.0) line c.in-Number-number_at-3.at s4.2 c.if-at-line.true)

pub returns : goal.returns
returns c =
    let line = c.args.line.now in
    let E = point_line (fields_from line 2) in
    let s1 = read_number E (wire₁ point₄) line 2 c.number_at.result c.in-Number.parent c.in-Number.at (point-is (fields_from line 2)) c.number_at.ensures c.in-Number.is in
    let s2 = read_number E (wire₂ point₄ s1.0) line c.in-Number.at c.number_at-2.result c.in-Number-number_at.resistance c.in-Number-number_at.at s1.2 c.number_at-2.ensures c.in-Number-number_at.is in
    let s3 = read_number E (wire₃ point₄ s1.0 s2.0) line c.in-Number-number_at.at c.number_at-3.result c.in-Number-number_at-2.capacitance c.in-Number-number_at-2.at s2.2 c.number_at-3.ensures c.in-Number-number_at-2.is in
    let s4 = read_number E (point₄ s1.0 s2.0 s3.0) line c.in-Number-number_at-2.at c.number_at-4.result c.in-Number-number_at-3.site c.in-Number-number_at-3.at s3.2 c.number_at-4.ensures c.in-Number-number_at-3.is in
    point-made c.args.place E s1.0 s2.0 s3.0 s4.0 c.wire_read.result (read-end E (point s1.0 s2.0 s3.0 s4.0) line c.in-Number-number_at-3.at s4.2 c.if-at-line.false) (wire-made s1.0 s2.0 s3.0 s4.0 c.in-Number.parent c.in-Number-number_at.resistance c.in-Number-number_at-2.capacitance c.in-Number-number_at-3.site c.wire_read.result s1.1 s2.1 s3.1 s4.1 c.wire_read.ensures)
