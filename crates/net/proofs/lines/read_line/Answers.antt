-- `net::lines::read_line` meets its contract: the letter says which reader's answer it is. Assumes nothing.
use Rattle.std.proofs.Common.{refl, arith}
use Rattle.net.specs.LineLaws.{read-type, read-driver, read-point, read-sink, read_none}
use Rattle.net.proofs.lines.read_line.Goals as goal

pub returns-in-84 : goal.returns-in-84
returns-in-84 c = read-type c.args.place c.args.line.now c.letter_of.result c.type_line.result c.letter_of.ensures (omega arith) c.type_line.ensures

pub returns-in-68 : goal.returns-in-68
returns-in-68 c = read-driver c.args.place c.args.line.now c.letter_of.result c.driver_line.result c.letter_of.ensures (omega arith) c.driver_line.ensures

pub returns-in-87 : goal.returns-in-87
returns-in-87 c = read-point c.args.place c.args.line.now c.letter_of.result c.point_line.result c.letter_of.ensures (omega arith) c.point_line.ensures

pub returns-in-83 : goal.returns-in-83
returns-in-83 c = read-sink c.args.place c.args.line.now c.letter_of.result c.sink_line.result c.letter_of.ensures (omega arith) c.sink_line.ensures

pub returns-in_default : goal.returns-in_default
returns-in_default c = read_none c.args.place c.args.line.now c.letter_of.result _ c.letter_of.ensures (λ e. omega arith) (λ e. omega arith) (λ e. omega arith) (λ e. omega arith) refl
