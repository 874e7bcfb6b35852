-- `entries::words::check_point_words` meets its contract: a plain point has no pin and no required time. Assumes nothing.
use Rattle.std.proofs.Common.{inl, inr}
use Rattle.rules.specs.Entries.{point}
use Rattle.entries.specs.Lines.{wire_of}
use Rattle.entries.specs.EntryLaws.{bits-zero, bits-some, point_pin, point-time, point-row, form-refused, stated-checked}
use Rattle.entries.proofs.words.check_point_words.Goals as goal

pub returns-then-pin-ne0 : goal.returns-then-pin-ne0
returns-then-pin-ne0 c =
    let a = c.args in
    let w = a.w in
    form-refused a.rows.now a.n _ c.place_of.result c.place_of.ensures
    (elim c.then-pin-ne0.either [
      | inl p ↦ point_pin w.parent w.resistance.0 w.capacitance.0 w.site a.pin a.due p
      | inr q ↦ point-time w.parent w.resistance.0 w.capacitance.0 w.site a.pin a.due q.0 (bits-some a.due q.1)
    ])

pub returns : goal.returns
unfolding wire_of
returns c =
    let a = c.args in
    let zero = bits-zero a.due c.ranges.due.sfits c.if-due-ne0.false in
    stated-checked a.rows.now a.n _ (point a.w.parent a.w.resistance.0 a.w.capacitance.0 a.w.site) c.check_row.result (rw c.wire_out.ensures at c.check_row.ensures) (point-row a.w.parent a.w.resistance.0 a.w.capacitance.0 a.w.site a.pin a.due c.if-pin-ne0.false zero)
