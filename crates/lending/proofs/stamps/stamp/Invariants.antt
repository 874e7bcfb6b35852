-- `lending::stamps::stamp` meets its contract: the places passed are stamped. Assumes nothing.
use Rattle.std.proofs.Common.{ℕ, ◌<◌, slice_index_or}
use Rattle.lending.specs.Stamps.{stamp}
use Rattle.lending.proofs.stamps.stamp.Given as goal

abbrev pub invariant-loop-i : goal.invariant-loop-i
invariant-loop-i g l = (k : ℕ) (d : _) → k < l.i → g.T.From.from_gives (stamp k) (slice_index_or l.area k d)
