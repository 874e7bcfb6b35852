-- `inserts::gaps::first_not` meets its contract. Assumes nothing.
use Rattle.std.proofs.Common.{◌≡◌, Bool, ℕ}
use Rattle.columns.specs.Run.{pair_of}
use Rattle.inserts.specs.Gaps.{Passing}
use Rattle.inserts.proofs.gaps.first_not.Given as goal

abbrev pub invariant-loop-p : goal.invariant-loop-p
invariant-loop-p g l =
    (test : ℕ → Bool) → ((j : ℕ) (b : Bool) → goal.F-post g l.passes (pair_of l.loads l.times j) b → b ≡ test j) → Passing test l.start l.end l.p
