-- `walks::steps::pin_list` meets its contract. Assumes nothing.
use Rattle.std.proofs.Common.{◌≡◌, refl, true, false, arith}
use Rattle.rules.specs.Quantities.{work_room}
use Rattle.columns.specs.Made.{Room, room-run}
use Rattle.columns.specs.Run.{run}
use Rattle.walks.specs.Made.{row_of}
use Rattle.walks.specs.Spine.{here}
use Rattle.walks.specs.Steps.{sited-types, sited-stand, site-put, site-none}
use Rattle.walks.specs.Code.{typed, started, driven-sited, site-made}
use Rattle.walks.proofs.steps.pin_list.Goals as goal

pub put_types-requires : goal.put_types-requires
put_types-requires c =
    let a = c.args in
    let net = a.net.now in
    let g = c.requires.given in
    let h = c.requires.row_lt_n in
    let room = c.requires.has_room in
    let d = started _ _ _ _ _ _ g a.row a.at h.0 room a.row (here refl) (run a.loads.now a.times.now a.words.now) _ (room-run work_room c.requires.room (omega arith)) h.1 c.start.ensures in
    let s = driven-sited _ _ _ _ _ _ g a.row a.at h.0 room a.row (here refl) _ _ 1 d in
    let e : (row_of net a.row).site ≡ true = rw (← c.row_at.ensures) c.if-row_at.true in
    record {
      types_in = sited-types (typed _ _ _ _ _ _ g);
      room = record { loads = omega arith; times = omega arith; words = omega arith };
      stand = sited-stand net.types.now _ _ _ _ _ _ s;
      every_two = s.rising;
      k_lt_sites_room = (rw c.sites_before-k.ensures (s.number e), s.place);
    }

pub returns-then-row_at : goal.returns-then-row_at
returns-then-row_at c =
    let a = c.args in
    let net = a.net.now in
    let g = c.requires.given in
    let h = c.requires.row_lt_n in
    let room = c.requires.has_room in
    let d = started _ _ _ _ _ _ g a.row a.at h.0 room a.row (here refl) (run a.loads.now a.times.now a.words.now) _ (room-run work_room c.requires.room (omega arith)) h.1 c.start.ensures in
    let s = driven-sited _ _ _ _ _ _ g a.row a.at h.0 room a.row (here refl) _ _ 1 d in
    let e : (row_of net a.row).site ≡ true = rw (← c.row_at.ensures) c.if-row_at.true in
    site-made _ _ _ _ _ _ g a.row a.at h.0 room a.row (here refl) _ _ 1 d _ _ (site-put net.types.now _ _ _ _ _ _ s _ _ e (rw c.sites_before-k.ensures at c.put_types.ensures))

pub returns-else-row_at : goal.returns-else-row_at
returns-else-row_at c =
    let a = c.args in
    let net = a.net.now in
    let g = c.requires.given in
    let h = c.requires.row_lt_n in
    let room = c.requires.has_room in
    let d = started _ _ _ _ _ _ g a.row a.at h.0 room a.row (here refl) (run a.loads.now a.times.now a.words.now) _ (room-run work_room c.requires.room (omega arith)) h.1 c.start.ensures in
    let s = driven-sited _ _ _ _ _ _ g a.row a.at h.0 room a.row (here refl) _ _ 1 d in
    let r : Room c.start.new.loads c.start.new.times c.start.new.words = record { loads = omega arith; times = omega arith; words = omega arith } in
    let e : (row_of net a.row).site ≡ false = rw (← c.row_at.ensures) c.if-row_at.false in
    site-made _ _ _ _ _ _ g a.row a.at h.0 room a.row (here refl) _ _ 1 d _ _ (site-none net.types.now _ _ _ _ _ _ s (room-run work_room r (omega arith)) e)
