-- `marks::with_mark` meets its contract. Assumes nothing.
use native.Mathlib.Omega.{arith}
use Rattle.marks.proofs.Words.{stored-marks}
use Rattle.marks.proofs.with_mark.Goals as goal

pub returns : goal.returns
returns c =
    let a = c.args in
    stored-marks a.words a.j a.m c.with.result (omega arith) (omega arith) c.with.ensures
