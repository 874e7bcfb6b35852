-- `net::lines::type_line` meets its contract: each field in turn, then no field more. Assumes nothing.
use native.Mathlib.Omega.{arith}
use Rattle.rules.specs.Entries.{type}
use Rattle.rules.specs.Text.{type_line}
use Rattle.text.specs.Fields.{fields_from}
use Rattle.net.specs.LineLaws.{read_number, read-bad, inside, read-over, read-end, bad-made, type₁, type₂, type₃, type-is, type-made}
use Rattle.net.proofs.lines.type_line.Goals as goal

pub returns-in_default : goal.returns-in_default
returns-in_default c =
    let line = c.args.line.now in
    let E = type_line (fields_from line 2) in
    bad-made c.args.place E (read-bad E type₁ line 2 c.number_at.result (type-is (fields_from line 2)) c.number_at.ensures c.in_default.is)

pub number_at-requires-2 : goal.number_at-requires-2
number_at-requires-2 c = omega (arith, inside c.args.line.now 2 c.number_at.result c.in-Number.input c.in-Number.at c.number_at.ensures c.in-Number.is)

pub returns-in_default-number_at : goal.returns-in_default-number_at
returns-in_default-number_at c =
    let line = c.args.line.now in
    let E = type_line (fields_from line 2) in
    let s1 = read_number E type₁ line 2 c.number_at.result c.in-Number.input c.in-Number.at (type-is (fields_from line 2)) c.number_at.ensures c.in-Number.is in
    bad-made c.args.place E (read-bad E (type₂ s1.0) line c.in-Number.at c.number_at-2.result s1.2 c.number_at-2.ensures c.in_default-number_at.is)

pub number_at-requires-3 : goal.number_at-requires-3
number_at-requires-3 c = omega (arith, inside c.args.line.now c.in-Number.at c.number_at-2.result c.in-Number-number_at.resistance c.in-Number-number_at.at c.number_at-2.ensures c.in-Number-number_at.is)

pub returns-in_default-number_at-2 : goal.returns-in_default-number_at-2
returns-in_default-number_at-2 c =
    let line = c.args.line.now in
    let E = type_line (fields_from line 2) in
    let s1 = read_number E type₁ line 2 c.number_at.result c.in-Number.input c.in-Number.at (type-is (fields_from line 2)) c.number_at.ensures c.in-Number.is in
    let s2 = read_number E (type₂ s1.0) line c.in-Number.at c.number_at-2.result c.in-Number-number_at.resistance c.in-Number-number_at.at s1.2 c.number_at-2.ensures c.in-Number-number_at.is in
    bad-made c.args.place E (read-bad E (type₃ s1.0 s2.0) line c.in-Number-number_at.at c.number_at-3.result s2.2 c.number_at-3.ensures c.in_default-number_at-2.is)

pub returns-then-at-line : goal.returns-then-at-line
returns-then-at-line c =
    let line = c.args.line.now in
    let E = type_line (fields_from line 2) in
    let s1 = read_number E type₁ line 2 c.number_at.result c.in-Number.input c.in-Number.at (type-is (fields_from line 2)) c.number_at.ensures c.in-Number.is in
    let s2 = read_number E (type₂ s1.0) line c.in-Number.at c.number_at-2.result c.in-Number-number_at.resistance c.in-Number-number_at.at s1.2 c.number_at-2.ensures c.in-Number-number_at.is in
    let s3 = read_number E (type₃ s1.0 s2.0) line c.in-Number-number_at.at c.number_at-3.result c.in-Number-number_at-2.own c.in-Number-number_at-2.at s2.2 c.number_at-3.ensures c.in-Number-number_at-2.is in
    bad-made c.args.place E (read-over E (type s1.0 s2.0 s3.0) line c.in-Number-number_at-2.at s3.2 c.if-at-line.true)

pub returns : goal.returns
returns c =
    let line = c.args.line.now in
    let E = type_line (fields_from line 2) in
    let s1 = read_number E type₁ line 2 c.number_at.result c.in-Number.input c.in-Number.at (type-is (fields_from line 2)) c.number_at.ensures c.in-Number.is in
    let s2 = read_number E (type₂ s1.0) line c.in-Number.at c.number_at-2.result c.in-Number-number_at.resistance c.in-Number-number_at.at s1.2 c.number_at-2.ensures c.in-Number-number_at.is in
    let s3 = read_number E (type₃ s1.0 s2.0) line c.in-Number-number_at.at c.number_at-3.result c.in-Number-number_at-2.own c.in-Number-number_at-2.at s2.2 c.number_at-3.ensures c.in-Number-number_at-2.is in
    type-made c.args.place E s1.0 s2.0 s3.0 c.in-Number.input c.in-Number-number_at.resistance c.in-Number-number_at-2.own c.repeater_read.result (read-end E (type s1.0 s2.0 s3.0) line c.in-Number-number_at-2.at s3.2 c.if-at-line.false) s1.1 s2.1 s3.1 c.repeater_read.ensures
