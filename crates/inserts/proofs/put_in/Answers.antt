-- `inserts::put_in` meets its contract. Assumes nothing.
use Rattle.std.proofs.Common.{◌+◌, false, true, refl, arith}
use Rattle.rules.specs.Quantities.{work_room}
use Rattle.inserts.specs.Gaps.{thins-kept, thins-put}
use Rattle.columns.specs.Made.{Room, room-run}
use Rattle.inserts.proofs.put_in.Goals as goal

pub returns-in_default : goal.returns-in_default
returns-in_default c =
    let a = c.args in
    let g = rw c.pair_at-new.ensures at c.in_default.ensures in
    thins-kept a.loads.now a.times.now a.words.now a.from a.at a.list.start a.list.end a.by g.0 g.0 (omega arith) (omega arith) (omega arith) (omega arith) (omega arith) true g.1 refl

pub overflow_add-past : goal.overflow_add-past
overflow_add-past c =
    let g = c.in-Some.ensures in
    let h = c.grow-up.ensures.top c.args.from (omega arith) (omega arith) in
    omega (arith, g.high)

pub fill-start-requires-clause-start_le_p : goal.fill-start-requires-clause-start_le_p
fill-start-requires-clause-start_le_p c =
    let g = c.in-Some.ensures in
    let h = c.grow-up.ensures.top c.args.from (omega arith) (omega arith) in
    let f = c.grow-up.ensures.free in
    (g.low, (omega arith, (omega (arith, g.mid), (omega (arith, g.high), omega arith))))

pub overflow_add-result : goal.overflow_add-result
overflow_add-result c =
    let h = c.grow-up.ensures.top c.args.from (omega arith) (omega arith) in omega arith

pub returns : goal.returns
returns c =
    let a = c.args in
    let p = c.requires.at_le_start in
    let g = rw c.pair_at-new.ensures at c.in-Some.ensures in
    let rx : Room c.grow-up.new.loads c.grow-up.new.times c.grow-up.new.words = record { loads = omega arith; times = omega arith; words = omega arith } in
    let ry : Room c.fill-start.new.loads c.fill-start.new.times c.fill-start.new.words = record { loads = omega arith; times = omega arith; words = omega arith } in
    let h = room-run (a.from + 1) rx (omega (arith, p)) in
    thins-put a.loads.now a.times.now a.words.now a.from a.at a.list.start a.list.end a.by c.in-Some.gap.from c.in-Some.gap.past p.0 p.1.0 p.1.1.1.1.1 c.requires.room.loads c.requires.room.times _ _ c.grow-up.result c.fill-start.result false g refl c.requires.every_two p.1.1.1.0 p.1.1.1.1.0 (omega (arith, h)) (room-run work_room ry (omega arith)) c.grow-up.ensures c.fill-start.ensures
