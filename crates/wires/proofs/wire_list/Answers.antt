-- `wires::wire_list` meets its contract. Assumes nothing.
use Rattle.std.proofs.Common.{◌+◌, arith}
use Rattle.laws.specs.Moves.{behind, wire_step}
use Rattle.laws.specs.Lists.{all_head}
use Rattle.wires.specs.Wiring.{wiring-start, wiring-next, wiring-made, wiring-again, wiring-end}
use Rattle.columns.specs.Made.{room-run, wire_of}
use Rattle.columns.specs.Run.{blank, run}
use Rattle.columns.specs.Parts.{part-cons}
use Rattle.wires.proofs.wire_list.Goals as goal

pub wired_at-requires-clause-fit : goal.wired_at-requires-clause-fit
wired_at-requires-clause-fit c =
    let a = c.args in
    let p = c.requires.stand in
    let cut = part-cons a.at (a.at + a.n) (run a.loads.now a.times.now a.words.now) blank (omega arith) (room-run (a.at + a.n) c.requires.room p.place) in
    all_head (rw cut at p.fit)

pub wired_at-requires-clause-fit_2 : goal.wired_at-requires-clause-fit_2
wired_at-requires-clause-fit_2 c =
    let a = c.args in
    let cut = part-cons a.at (a.at + a.n) (run a.loads.now a.times.now a.words.now) blank (omega arith) (room-run (a.at + a.n) c.requires.room c.requires.stand.place) in
    all_head (rw cut at c.requires.all)

pub loop-i-init : goal.loop-i-init
loop-i-init c =
    let a = c.args in
    let p = c.requires.stand in
    wiring-start (behind (wire_of a.r.0 a.c.0)) (run a.loads.now a.times.now a.words.now) _ a.at a.n p.some (room-run (a.at + a.n) c.requires.room p.place) c.wired_at.ensures p.fit c.requires.all

pub wired_at-requires-in-loop-i-clause-fit : goal.wired_at-requires-in-loop-i-clause-fit
wired_at-requires-in-loop-i-clause-fit c = wiring-next _ _ _ _ _ _ _ c.loop-i.invariant (omega arith)

pub wired_at-requires-in-loop-i-clause-fit_2 : goal.wired_at-requires-in-loop-i-clause-fit_2
wired_at-requires-in-loop-i-clause-fit_2 c = wiring-made _ _ _ _ _ _ _ c.loop-i.invariant (omega arith)

pub loop-i-preserved : goal.loop-i-preserved
loop-i-preserved c =
    let a = c.args in
    let w = c.wired_at-in-loop-i in
    let l = c.later_at-last in
    wiring-again _ _ _ w.new.loads w.new.times w.new.words a.at a.n c.loop-i.last c.loop-i.i l.result c.loop-i.invariant (omega arith) (omega arith) (omega arith) w.ensures l.ensures.value

pub returns : goal.returns
unfolding wire_step
returns c =
    let a = c.args in
    let p = c.requires.stand in
    wiring-end (behind (wire_of a.r.0 a.c.0)) (run a.loads.now a.times.now a.words.now) _ a.at a.n p.some (room-run (a.at + a.n) c.requires.room p.place) c.wired_at.ensures _ c.loop-i.last c.loop-i.i c.loop-i.invariant (omega arith)
