-- `entries::words::check_driver_words` meets its contract: a driver's line states none of the words that it lacks. Assumes nothing.
use Rattle.std.proofs.Common.{inl, inr}
use Rattle.rules.specs.Entries.{driver}
use Rattle.entries.specs.EntryLaws.{bits-zero, bits-some, driver_parent, driver_capacitance, driver_site, driver_pin, driver-time, driver-row, form-refused, stated-checked}
use Rattle.entries.proofs.words.check_driver_words.Goals as goal

pub returns-then-w-ne0 : goal.returns-then-w-ne0
returns-then-w-ne0 c =
    let a = c.args in
    let w = a.w in
    λ rows. form-refused rows a.n _ c.place_of.result c.place_of.ensures
    (elim c.then-w-ne0.either [
      | inl p ↦ driver_parent w.parent w.resistance.0 w.capacitance.0 w.site a.pin a.due p
      | inr x ↦ elim x [
        | inl q ↦ driver_capacitance w.parent w.resistance.0 w.capacitance.0 w.site a.pin a.due q.0 q.1
        | inr y ↦ elim y [
          | inl q ↦ driver_site w.parent w.resistance.0 w.capacitance.0 w.site a.pin a.due q.0 q.1 q.2
          | inr z ↦ elim z [
            | inl q ↦ driver_pin w.parent w.resistance.0 w.capacitance.0 w.site a.pin a.due q.0 q.1 q.2 q.3
            | inr q ↦ driver-time w.parent w.resistance.0 w.capacitance.0 w.site a.pin a.due q.0 q.1 q.2 q.3 (bits-some a.due q.4)
          ]
        ]
      ]
    ])

pub returns : goal.returns
returns c =
    let a = c.args in
    let zero = bits-zero a.due c.ranges.due.sfits c.if-due-ne0.false in
    λ rows. stated-checked rows a.n _ (driver a.w.resistance.0) c.check_driver.result c.check_driver.ensures (driver-row a.w.parent a.w.resistance.0 a.w.capacitance.0 a.w.site a.pin a.due c.if-w-ne0.false c.if-w-ne0-2.false c.if-w-ne0-3.false c.if-pin-ne0.false zero)
