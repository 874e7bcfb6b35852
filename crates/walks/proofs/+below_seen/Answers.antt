-- `walks::below` and `walks::seen` meet their contracts. Assumes nothing.
use Rattle.std.proofs.Common.{sym, ◌∙◌, ◌+◌, arith}
use Rattle.rules.specs.Quantities.{work_room}
use Rattle.columns.specs.Made.{Room, room-run}
use Rattle.columns.specs.Run.{run}
use Rattle.walks.specs.Made.{SeenIn}
use Rattle.walks.specs.Upward.{made-since, made-here, siblings-here, driven-here}
use Rattle.walks.specs.Code.{typed, row-there, ohms-in, rising, way-inside, way-after, way-room, started, driven-sited, site-made, above, under-made, wire-ready, wire-made, siblings-made, sibling-more, sibling-less, sibling-after, sibling-room, sibling-hang, sibling-made}
use Rattle.walks.proofs.+below_seen.Goals.{below-then-first_below-net, below-else-first_below-net}
use Rattle.walks.proofs.+below_seen.Goals as goal

pub below-wire_row-m-requires-clause-row_bound : goal.below-wire_row-m-requires-clause-row_bound
below-wire_row-m-requires-clause-row_bound t c =
    ohms-in _ _ _ _ _ _ c.requires.given c.first_below-c.result (rw c.first_below-c.ensures c.requires.p_lt_n.1)

pub below-wire_row-m-requires-clause-wired : goal.below-wire_row-m-requires-clause-wired
below-wire_row-m-requires-clause-wired t c =
    let a = c.args in
    let e = c.first_below-c.ensures in
    wire-ready _ _ _ _ _ _ c.requires.given a.p a.at c.requires.p_lt_n.0 c.requires.has_room c.first_below-c.result e (rw e c.requires.p_lt_n.1) _ (room-run work_room c.requires.room (omega arith)) a.len (rw e c.requires.made)

pub below-loop-c-init : goal.below-loop-c-init
below-loop-c-init t c =
    let a = c.args in
    let e = c.first_below-c.ensures in
    let w = run a.loads.now a.times.now a.words.now in
    siblings-here (wire-made _ _ _ _ _ _ c.requires.given a.p a.at c.requires.p_lt_n.0 c.requires.has_room c.first_below-c.result e (rw e c.requires.p_lt_n.1) w (room-run work_room c.requires.room (omega arith)) a.len (rw e c.requires.made) _ _ c.wire_row-m.ensures)

pub below-returns-then-c-net : goal.below-returns-then-c-net
below-returns-then-c-net t c =
    let a = c.args in
    made-since (run a.loads.now a.times.now a.words.now) c.wire_row-m.ensures.before (siblings-made _ _ _ _ _ _ c.requires.given a.p a.at c.requires.p_lt_n.0 c.requires.has_room _ _ _ _ c.loop-c.invariant c.next_beside-c.result c.next_beside-c.ensures c.if-c-net.true)

pub below-first_below-requires : goal.below-first_below-requires
below-first_below-requires t c =
    let a = c.args in
    let h = sibling-more _ _ _ _ _ _ c.requires.given a.p a.at c.requires.p_lt_n.0 c.requires.has_room _ _ _ _ c.loop-c.invariant c.next_beside-c.result c.next_beside-c.ensures c.if-c-net.false in
    omega (arith, h)

pub below-pin_list-own-requires-clause-row_lt_n : goal.below-pin_list-own-requires-clause-row_lt_n
below-pin_list-own-requires-clause-row_lt_n t c =
    let a = c.args in
    let h = sibling-more _ _ _ _ _ _ c.requires.given a.p a.at c.requires.p_lt_n.0 c.requires.has_room _ _ _ _ c.loop-c.invariant c.next_beside-c.result c.next_beside-c.ensures c.if-c-net.false in
    (h, sym c.first_below.ensures ∙ c.if-first_below-net.true)

pub below-pin_list-own-requires-clause-has_room : goal.below-pin_list-own-requires-clause-has_room
below-pin_list-own-requires-clause-has_room t c =
    let a = c.args in
    let r : Room c.loop-c.loads c.loop-c.times c.loop-c.words = record { loads = omega arith; times = omega arith; words = omega arith } in
    let long = room-run work_room r (omega arith) in
    sibling-room _ _ _ _ _ _ c.requires.given a.p a.at c.requires.p_lt_n.0 c.requires.has_room _ _ _ _ c.loop-c.invariant c.next_beside-c.result c.next_beside-c.ensures c.if-c-net.false long

pub below-seen-own-requires : goal.below-seen-own-requires
below-seen-own-requires t c =
    let a = c.args in
    let r : Room c.loop-c.loads c.loop-c.times c.loop-c.words = record { loads = omega arith; times = omega arith; words = omega arith } in
    let long = room-run work_room r (omega arith) in
    let h = sibling-more _ _ _ _ _ _ c.requires.given a.p a.at c.requires.p_lt_n.0 c.requires.has_room _ _ _ _ c.loop-c.invariant c.next_beside-c.result c.next_beside-c.ensures c.if-c-net.false in
    let f = sibling-after _ _ _ _ _ _ c.requires.given a.p a.at c.requires.p_lt_n.0 c.requires.has_room _ _ _ _ c.loop-c.invariant c.next_beside-c.result c.next_beside-c.ensures c.if-c-net.false long in
    (omega (arith, h, f), (c.requires.given, (h, (r, sibling-room _ _ _ _ _ _ c.requires.given a.p a.at c.requires.p_lt_n.0 c.requires.has_room _ _ _ _ c.loop-c.invariant c.next_beside-c.result c.next_beside-c.ensures c.if-c-net.false long))))

pub below-hang-m-requires-clause-row_there : goal.below-hang-m-requires-clause-row_there
below-hang-m-requires-clause-row_there t c =
    let a = c.args in
    let h = sibling-more _ _ _ _ _ _ c.requires.given a.p a.at c.requires.p_lt_n.0 c.requires.has_room _ _ _ _ c.loop-c.invariant c.next_beside-c.result c.next_beside-c.ensures c.if-c-net.false in
    row-there _ _ _ _ _ _ c.requires.given c.next_beside-c.result h

pub below-hang-m-requires-clause-row_bound : goal.below-hang-m-requires-clause-row_bound
below-hang-m-requires-clause-row_bound t c =
    let a = c.args in
    let h = sibling-more _ _ _ _ _ _ c.requires.given a.p a.at c.requires.p_lt_n.0 c.requires.has_room _ _ _ _ c.loop-c.invariant c.next_beside-c.result c.next_beside-c.ensures c.if-c-net.false in
    ohms-in _ _ _ _ _ _ c.requires.given c.next_beside-c.result h

pub below-hang-m-requires-clause-hang : goal.below-hang-m-requires-clause-hang
below-hang-m-requires-clause-hang t c =
    let a = c.args in
    let r : Room c.loop-c.loads c.loop-c.times c.loop-c.words = record { loads = omega arith; times = omega arith; words = omega arith } in
    let long = room-run work_room r (omega arith) in
    let l = c.loop-c in
    let j = c.if-first_below-net in
    let own : SeenIn a.net.now c.next_beside-c.result (run l.loads l.times l.words) (run j.loads j.times j.words) (a.at + l.m) j.own =
    elim j.branch [
      | below-then-first_below-net w ↦ rw (w.loads-is, w.times-is, w.words-is, w.own-is) w.pin_list-own.ensures
      | below-else-first_below-net w ↦ rw (w.loads-is, w.times-is, w.words-is, w.own-is) w.seen-own.ensures
    ] in
    let s : Room j.loads j.times j.words = record { loads = omega arith; times = omega arith; words = omega arith } in
    let long₂ = room-run work_room s (omega arith) in
    sibling-hang _ _ _ _ _ _ c.requires.given a.p a.at c.requires.p_lt_n.0 c.requires.has_room _ _ _ _ c.loop-c.invariant c.next_beside-c.result c.next_beside-c.ensures c.if-c-net.false long _ long₂ _ own

pub below-loop-c-smaller : goal.below-loop-c-smaller
below-loop-c-smaller t c =
    let a = c.args in
    let r : Room c.loop-c.loads c.loop-c.times c.loop-c.words = record { loads = omega arith; times = omega arith; words = omega arith } in
    let long = room-run work_room r (omega arith) in
    sibling-less _ _ _ _ _ _ c.requires.given a.p a.at c.requires.p_lt_n.0 c.requires.has_room _ _ _ _ c.loop-c.invariant c.next_beside-c.result c.next_beside-c.ensures c.if-c-net.false long

pub below-loop-c-preserved : goal.below-loop-c-preserved
below-loop-c-preserved t c =
    let a = c.args in
    let r : Room c.loop-c.loads c.loop-c.times c.loop-c.words = record { loads = omega arith; times = omega arith; words = omega arith } in
    let long = room-run work_room r (omega arith) in
    let l = c.loop-c in
    let j = c.if-first_below-net in
    let own : SeenIn a.net.now c.next_beside-c.result (run l.loads l.times l.words) (run j.loads j.times j.words) (a.at + l.m) j.own =
    elim j.branch [
      | below-then-first_below-net w ↦ rw (w.loads-is, w.times-is, w.words-is, w.own-is) w.pin_list-own.ensures
      | below-else-first_below-net w ↦ rw (w.loads-is, w.times-is, w.words-is, w.own-is) w.seen-own.ensures
    ] in
    let s : Room j.loads j.times j.words = record { loads = omega arith; times = omega arith; words = omega arith } in
    let long₂ = room-run work_room s (omega arith) in
    sibling-made _ _ _ _ _ _ c.requires.given a.p a.at c.requires.p_lt_n.0 c.requires.has_room _ _ _ _ c.loop-c.invariant c.next_beside-c.result c.next_beside-c.ensures c.if-c-net.false long _ long₂ _ own _ _ c.hang-m.ensures

pub seen-deepest-r-requires-clause-rising : goal.seen-deepest-r-requires-clause-rising
seen-deepest-r-requires-clause-rising t c =
    rising _ _ _ _ _ _ c.requires.given

pub seen-loop-r-init : goal.seen-loop-r-init
seen-loop-r-init t c =
    let a = c.args in
    let d = started _ _ _ _ _ _ c.requires.given a.row a.at c.requires.row_lt_n c.requires.has_room c.deepest-r.result c.deepest-r.ensures.along (run a.loads.now a.times.now a.words.now) _ (room-run work_room c.requires.room (omega arith)) c.deepest-r.ensures.end.1 c.start.ensures in
    record { way = c.deepest-r.ensures.along; driven = driven-here d }

pub seen-put_site-len-requires-clause-row_there : goal.seen-put_site-len-requires-clause-row_there
seen-put_site-len-requires-clause-row_there t c =
    let a = c.args in
    row-there _ _ _ _ _ _ c.requires.given c.loop-r.r (way-inside _ _ _ _ _ _ c.requires.given a.row a.at c.requires.row_lt_n c.requires.has_room c.loop-r.r c.loop-r.invariant.way)

pub seen-put_site-len-requires-clause-typed : goal.seen-put_site-len-requires-clause-typed
seen-put_site-len-requires-clause-typed t c =
    typed _ _ _ _ _ _ c.requires.given

pub seen-put_site-len-requires-clause-sited : goal.seen-put_site-len-requires-clause-sited
seen-put_site-len-requires-clause-sited t c =
    let a = c.args in
    driven-sited _ _ _ _ _ _ c.requires.given a.row a.at c.requires.row_lt_n c.requires.has_room c.loop-r.r c.loop-r.invariant.way _ _ _ c.loop-r.invariant.driven

pub seen-returns-then-r-row : goal.seen-returns-then-r-row
seen-returns-then-r-row t c =
    let a = c.args in
    let d = started _ _ _ _ _ _ c.requires.given a.row a.at c.requires.row_lt_n c.requires.has_room c.deepest-r.result c.deepest-r.ensures.along (run a.loads.now a.times.now a.words.now) _ (room-run work_room c.requires.room (omega arith)) c.deepest-r.ensures.end.1 c.start.ensures in
    let m = site-made _ _ _ _ _ _ c.requires.given a.row a.at c.requires.row_lt_n c.requires.has_room c.loop-r.r c.loop-r.invariant.way _ _ _ c.loop-r.invariant.driven _ _ c.put_site-len.ensures in
    made-since (run a.loads.now a.times.now a.words.now) d.before (rw c.if-r-row.true at m)

pub seen-row_at-r-requires : goal.seen-row_at-r-requires
seen-row_at-r-requires t c =
    let a = c.args in
    row-there _ _ _ _ _ _ c.requires.given c.loop-r.r (way-inside _ _ _ _ _ _ c.requires.given a.row a.at c.requires.row_lt_n c.requires.has_room c.loop-r.r c.loop-r.invariant.way)

pub seen-below-m-requires : goal.seen-below-m-requires
seen-below-m-requires t c =
    let a = c.args in
    let m = site-made _ _ _ _ _ _ c.requires.given a.row a.at c.requires.row_lt_n c.requires.has_room c.loop-r.r c.loop-r.invariant.way _ _ _ c.loop-r.invariant.driven _ _ c.put_site-len.ensures in
    let b = above _ _ _ _ _ _ c.requires.given a.row a.at c.requires.row_lt_n c.requires.has_room c.loop-r.r c.loop-r.invariant.way c.row_at-r.result c.row_at-r.ensures c.if-r-row.false in
    let h = way-inside _ _ _ _ _ _ c.requires.given a.row a.at c.requires.row_lt_n c.requires.has_room c.loop-r.r c.loop-r.invariant.way in
    let r₂ : Room c.put_site-len.new.loads c.put_site-len.new.times c.put_site-len.new.words = record { loads = omega arith; times = omega arith; words = omega arith } in
    let f = way-after _ _ _ _ _ _ c.requires.given a.row a.at c.requires.row_lt_n c.requires.has_room _ b.way in
    (omega (arith, f), (c.requires.given, ((b.inside, rw b.first h), (r₂, (way-room _ _ _ _ _ _ c.requires.given a.row a.at c.requires.row_lt_n c.requires.has_room _ b.way, rw b.first (made-here m))))))

pub seen-loop-r-smaller : goal.seen-loop-r-smaller
seen-loop-r-smaller t c =
    let a = c.args in
    let b = above _ _ _ _ _ _ c.requires.given a.row a.at c.requires.row_lt_n c.requires.has_room c.loop-r.r c.loop-r.invariant.way c.row_at-r.result c.row_at-r.ensures c.if-r-row.false in
    omega (arith, rising _ _ _ _ _ _ c.requires.given c.row_at-r.result.parent b.inside, b.first)

pub seen-loop-r-preserved : goal.seen-loop-r-preserved
seen-loop-r-preserved t c =
    let a = c.args in
    let m = site-made _ _ _ _ _ _ c.requires.given a.row a.at c.requires.row_lt_n c.requires.has_room c.loop-r.r c.loop-r.invariant.way _ _ _ c.loop-r.invariant.driven _ _ c.put_site-len.ensures in
    let b = above _ _ _ _ _ _ c.requires.given a.row a.at c.requires.row_lt_n c.requires.has_room c.loop-r.r c.loop-r.invariant.way c.row_at-r.result c.row_at-r.ensures c.if-r-row.false in
    let h = way-inside _ _ _ _ _ _ c.requires.given a.row a.at c.requires.row_lt_n c.requires.has_room c.loop-r.r c.loop-r.invariant.way in
    let r₃ : Room c.below-m.new.loads c.below-m.new.times c.below-m.new.words = record { loads = omega arith; times = omega arith; words = omega arith } in
    record { way = b.way; driven = under-made _ _ _ _ _ _ c.requires.given a.row a.at c.requires.row_lt_n c.requires.has_room _ b.way (rw b.first h) _ _ _ (room-run work_room r₃ (omega arith)) _ m.before c.below-m.ensures }
