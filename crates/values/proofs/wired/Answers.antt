-- `values::wired` meets its contract. Assumes nothing.
use Rattle.values.specs.Values.{wired-load, wired-is}
use Rattle.columns.specs.Made.{fit-near}
use Rattle.std.proofs.Common.{arith}
use Rattle.values.proofs.wired.Goals as goal

pub together-load-requires : goal.together-load-requires
together-load-requires c = wired-load _ _ _ c.requires

pub time_before-time-requires : goal.time_before-time-requires
time_before-time-requires c = let f = fit-near _ c.requires.fit in (omega arith, (c.requires.ohms, rw c.together-load.ensures (wired-load _ _ _ c.requires)))

pub returns : goal.returns
returns c = wired-is c.args.x c.args.r c.args.c _ _ c.together-load.ensures c.time_before-time.ensures
