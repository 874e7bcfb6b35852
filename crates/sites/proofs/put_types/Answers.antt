-- `sites::put_types` meets its contract. Assumes nothing.
use Rattle.std.proofs.Common.{arith}
use Rattle.rules.specs.Quantities.{work_room}
use Rattle.sites.specs.Sites.{typing-start, typing-step, typing-end}
use Rattle.columns.specs.Made.{Room, room-run}
use Rattle.columns.specs.Run.{run}
use Rattle.sites.proofs.put_types.Goals as goal

pub loop-t-init : goal.loop-t-init
loop-t-init c =
    let a = c.args in
    let net = a.net.now in
    typing-start net.types.now net.type_count a.k a.at a.n _ c.requires.stand.some (run a.loads.now a.times.now a.words.now) c.requires.every_two c.put_choices.ensures

pub loop-t-preserved : goal.loop-t-preserved
loop-t-preserved c =
    let a = c.args in
    let net = a.net.now in
    let l = c.loop-t in
    let put = c.put_choices.new in
    let into = c.put_in-list.new in
    let b = c.put_in-list.result in
    let first : Room put.loads put.times put.words = record { loads = omega arith; times = omega arith; words = omega arith } in
    let here : Room l.loads l.times l.words = record { loads = omega arith; times = omega arith; words = omega arith } in
    let next : Room into.loads into.times into.words = record { loads = omega arith; times = omega arith; words = omega arith } in
    typing-step net.types.now net.type_count a.k a.at a.n _ c.requires.stand.some _ _ l.t l.list.start l.list.end b.start b.end (room-run work_room first (omega arith)) (room-run work_room here (omega arith)) (room-run work_room next (omega arith)) c.requires.k_lt_sites_room.1 (omega arith) l.invariant c.put_in-list.ensures

pub returns : goal.returns
returns c =
    let a = c.args in
    let net = a.net.now in
    let l = c.loop-t in
    let here : Room l.loads l.times l.words = record { loads = omega arith; times = omega arith; words = omega arith } in
    typing-end net.types.now net.type_count a.k a.at a.n _ c.requires.stand.some (run a.loads.now a.times.now a.words.now) _ _ l.t l.list.start l.list.end (room-run l.list.end here (omega (arith, l.invariant.top))) c.put_choices.ensures (omega arith) l.invariant c.move_list.ensures
