-- `inserts::fill` meets its contract. Assumes nothing.
use Rattle.std.proofs.Common.{◌+◌, arith}
use Rattle.inserts.specs.Gaps.{fills}
use Rattle.columns.specs.Made.{Room, room-run}
use Rattle.columns.specs.Run.{run}
use Rattle.inserts.proofs.fill.Goals as goal

pub returns : goal.returns
returns c =
    let a = c.args in
    let h = room-run (a.from + 1) c.requires.room (omega arith) in
    let x : Room c.move_list.new.loads c.move_list.new.times c.move_list.new.words = record { loads = omega arith; times = omega arith; words = omega arith } in
    let g = room-run (a.from + 1) x (omega arith) in
    fills (run a.loads.now a.times.now a.words.now) _ _ a.from a.start a.gap.from a.gap.past (omega arith) (omega arith) (omega arith) (omega arith) (omega arith) c.move_list.ensures c.copy_at.ensures
