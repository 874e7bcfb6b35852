-- `walks::steps::deepest` meets its contract. The loop's invariant: the row is on the way down, and c is the last below it. The measure is the
-- rows after it. Assumes nothing.
use Rattle.std.proofs.Common.{◌≡◌, ◌-◌, ◌<◌, get_or}
use Rattle.walks.specs.Spine.{Spine}
use Rattle.walks.proofs.steps.deepest.Given as goal

abbrev pub invariant-loop-c : goal.invariant-loop-c
invariant-loop-c l = (l.r < l.n) × (Spine l.links l.n l.row l.r × (l.c ≡ get_or l.links l.r 0))

abbrev pub decreases-loop-c : goal.decreases-loop-c
decreases-loop-c l = l.n - l.r
