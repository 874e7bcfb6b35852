-- `sights::below`, `sights::beside` and `sights::seen` meet their contracts. Assumes nothing.
use Rattle.std.proofs.Common.{arith}
use Rattle.sights.specs.Below.{later-hangs, later-less, own-sees, hang-asks, hung, hung-none}
use Rattle.sights.specs.AtRow.{row-hangs, row-less, row-site-asks, seen_by}
use Rattle.sights.proofs.+below_beside_seen.Goals as goal

-- ---- below
pub below-seen-own-requires : goal.below-seen-own-requires
below-seen-own-requires t c = (omega arith, own-sees _ _ _ _ _ _ _ _ _ c.requires c.if-c-net.true c.beside-later.new.run (omega arith) c.beside-later.result c.beside-later.ensures)

pub below-hang-requires : goal.below-hang-requires
below-hang-requires t c = hang-asks _ _ _ _ _ _ _ _ _ c.requires c.if-c-net.true c.beside-later.new.run (omega arith) c.beside-later.result c.beside-later.ensures c.seen-own.new.run (omega arith) c.seen-own.result c.seen-own.ensures

pub below-returns-then-c-net : goal.below-returns-then-c-net
below-returns-then-c-net t c = hung _ _ _ _ _ _ _ _ _ c.requires c.if-c-net.true c.beside-later.new.run (omega arith) c.beside-later.result c.beside-later.ensures c.seen-own.new.run (omega arith) c.seen-own.result c.seen-own.ensures c.hang.new.run c.hang.result c.hang.ensures

pub below-returns-else-c-net : goal.below-returns-else-c-net
below-returns-else-c-net t c = hung-none _ _ _ _ _ _ _ _ _ c.requires c.if-c-net.false

-- ---- beside
pub beside-below-requires : goal.beside-below-requires
beside-below-requires t c =
    (omega (arith, later-less _ _ _ _ _ _ _ _ _ c.requires.hangs c.requires.more c.next_beside-next.result c.next_beside-next.ensures), later-hangs _ _ _ _ _ _ _ _ _ c.requires.hangs c.requires.more c.next_beside-next.result c.next_beside-next.ensures)

-- ---- seen
pub seen-below-under-requires : goal.seen-below-under-requires
seen-below-under-requires t c =
    (omega (arith, row-less _ _ _ _ _ _ _ _ _ c.requires c.first_at-first.result c.first_at-first.ensures), row-hangs _ _ _ _ _ _ _ _ _ c.requires c.first_at-first.result c.first_at-first.ensures)

pub seen-site-requires : goal.seen-site-requires
seen-site-requires t c = row-site-asks _ _ _ _ _ _ _ _ _ c.requires c.first_at-first.result c.first_at-first.ensures c.below-under.new.run (omega arith) c.below-under.result c.below-under.ensures

pub seen-returns : goal.seen-returns
seen-returns t c = seen_by _ _ _ _ _ _ _ _ _ c.requires c.first_at-first.result c.first_at-first.ensures c.below-under.new.run (omega arith) c.below-under.result c.below-under.ensures c.site.new.run c.site.result c.site.ensures
