-- What falls as `sights::below`, `sights::beside` and `sights::seen` call each other: twice the rows left, and one for `below`. Assumes nothing.
use Rattle.std.specs.Prelude.{◌+◌, ◌*◌, ◌-◌}
use Rattle.sights.proofs.+below_beside_seen.Given as goal

abbrev pub decreases-below : goal.decreases-below
decreases-below l = 2 * (l.net.now.row_count - l.c) + 1

abbrev pub decreases-beside : goal.decreases-beside
decreases-beside l = 2 * (l.net.now.row_count - l.c)

abbrev pub decreases-seen : goal.decreases-seen
decreases-seen l = 2 * (l.net.now.row_count - l.c)
