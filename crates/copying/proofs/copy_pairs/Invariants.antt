-- What stays as `copying::copy_pairs` goes over the run: the pairs before i are copied. Assumes nothing.
use Rattle.std.specs.Prelude.{◌≡◌}
use Rattle.copying.specs.Copied.{copied, loads_of, times_of}
use Rattle.copying.proofs.copy_pairs.Given as goal

abbrev pub invariant-loop-i : goal.invariant-loop-i
invariant-loop-i l = (l.loads ≡ copied l.i (loads_of l.run) l.fn.loads) × (l.times ≡ copied l.i (times_of l.run) l.fn.times)
