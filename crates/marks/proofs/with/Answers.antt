-- `marks::with` meets its contract. Assumes nothing.
use Prim.Native.Nat.{◌*◌}
use native.Mathlib.Omega.{arith}
use lib.Dec.{lit<}
use lib.Pow.{shl_exact}
use Rattle.marks.proofs.Words.{with-marks}
use Rattle.marks.proofs.with.Goals as goal

pub returns : goal.returns
returns c =
    let word = c.args.word in
    let i = c.args.i in
    let m = c.args.m in
    rw (shl_exact {a = 15} 4 (4 * i) 64 (lit< tt) (omega arith), shl_exact {a = m} 4 (4 * i) 64 (omega arith) (omega arith))
    (with-marks word i (omega arith) (omega arith) m (omega arith))
