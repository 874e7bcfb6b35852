-- `entries::areas::store_line` meets its contract: each kind of line is stored after those that have passed. Assumes nothing.
use Rattle.entries.specs.HeldLaws.{grown-driver, grown-point}
use Rattle.entries.proofs.areas.store_line.Goals as goal

pub returns-in-Ok-Driver : goal.returns-in-Ok-Driver
returns-in-Ok-Driver c = grown-driver c.args.n c.args.line c.in-Ok-Driver.o (rw (rw c.in-Ok-Driver.is at c.in-Ok-Driver.field-0-is) at c.in-Ok-Driver.is) c.args.types.now c.args.rows.now _ c.args.due.now _ c.no_wire.result c.no_pin.result c.no_wire.ensures c.no_pin.ensures c.store_row.ensures.words c.store_row.ensures.time

pub returns-in-Ok-Point : goal.returns-in-Ok-Point
returns-in-Ok-Point c = grown-point c.args.n c.args.line c.in-Ok-Point.w (rw (rw c.in-Ok-Point.is at c.in-Ok-Point.field-0-is) at c.in-Ok-Point.is) c.args.types.now c.args.rows.now _ c.args.due.now _ c.no_pin-in-Ok-Point.result c.no_pin-in-Ok-Point.ensures c.store_row-in-Ok-Point.ensures.words c.store_row-in-Ok-Point.ensures.time
