-- `copying::copy_pairs` meets its contract. Assumes nothing.
use Rattle.std.proofs.Common.{refl, arith, rules}
use Rattle.copying.specs.Copied.{load-more, time-more}
use Rattle.copying.proofs.copy_pairs.Goals as goal

pub loop-i-preserved : goal.loop-i-preserved
loop-i-preserved c =
    let a = c.args in
    let l = c.loop-i in (
      load-more l.i a.run.now a.loads.now l.loads _ c.read_at-c.result (omega arith) (omega arith) l.invariant.0 c.read_at-c.ensures refl,
      time-more l.i a.run.now a.times.now l.times _ c.read_at-c.result (omega arith) (omega arith) l.invariant.1 c.read_at-c.ensures (search rules),
    )
