-- `picked::put_placement` meets its contract. Assumes nothing.
use Rattle.picked.specs.Picked.{four-written}
use lib.ListN.{length-set}
use native.Mathlib.Omega.{arith}
use Rattle.picked.proofs.put_placement.Goals as goal

pub bounds-placement-1 : goal.bounds-placement-1
bounds-placement-1 c = simp length-set (omega (arith, c.requires.1))

pub bounds-placement-2 : goal.bounds-placement-2
bounds-placement-2 c = simp length-set (omega (arith, c.requires.1))

pub returns : goal.returns
returns c = four-written _ _ _ _ _ c.requires.1
