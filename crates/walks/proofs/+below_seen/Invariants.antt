-- What falls as `walks::below` and `walks::seen` call each other: twice the rows left, and one for `seen`; in `below`'s loop the rows left
-- under the parent, in that of `seen` the row. And what their loops keep. Assumes nothing.
use Rattle.std.proofs.Common.{◌+◌, ◌*◌, ◌-◌, get_or}
use Rattle.rooms.specs.Links.{next_at}
use Rattle.rows.specs.Backward.{rows_left}
use Rattle.columns.specs.Run.{run}
use Rattle.walks.specs.Made.{Driven, rows_in, types_in}
use Rattle.walks.specs.Spine.{Spine}
use Rattle.walks.specs.Upward.{Siblings}
use Rattle.walks.proofs.+below_seen.Given as goal

abbrev pub decreases-below : goal.decreases-below
decreases-below l = 2 * (l.net.now.row_count - l.p)

abbrev pub decreases-seen : goal.decreases-seen
decreases-seen l = 2 * (l.net.now.row_count - l.row) + 1

abbrev pub invariant-below-loop-c : goal.invariant-below-loop-c
invariant-below-loop-c l =
    Siblings (types_in l.net) (rows_in l.net) l.links l.p l.c (run l.initial.loads l.initial.times l.initial.words) (run l.loads l.times l.words) l.at l.m

abbrev pub decreases-below-loop-c : goal.decreases-below-loop-c
decreases-below-loop-c l = rows_left l.links l.net.row_count l.net.row_count (get_or l.links (next_at + l.c) 0)

abbrev pub invariant-seen-loop-r : goal.invariant-seen-loop-r
invariant-seen-loop-r l = record {
  way : Spine l.links l.net.row_count l.row l.r;
  driven : Driven (types_in l.net) (rows_in l.net) l.r (run l.initial.loads l.initial.times l.initial.words) (run l.loads l.times l.words) l.at l.m;
}

abbrev pub decreases-seen-loop-r : goal.decreases-seen-loop-r
decreases-seen-loop-r l = l.r
