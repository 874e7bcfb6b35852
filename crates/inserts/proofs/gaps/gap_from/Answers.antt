-- `inserts::gaps::gap_from` meets its contract. Assumes nothing.
use Rattle.std.proofs.Common.{sym, ◌∙◌, arith, get_or, pos, rules}
use Rattle.pairs.specs.Stands.{is_below, is_covering}
use Rattle.inserts.specs.Gaps.{gap-kept, gap-open}
use Rattle.inserts.proofs.gaps.gap_from.Goals as goal

pub returns-then-covered_at : goal.returns-then-covered_at
returns-then-covered_at c =
    let a = c.args in
    let P = c.first_not-from.ensures.stops (λ j. is_below (get_or a.loads.now j 0) (get_or a.times.now j (pos 0)) a.new.load.0 a.new.time.0) (λ j b e. search rules) in
    (_, gap-kept a.loads.now a.times.now a.list.start a.list.end a.new.load.0 a.new.time.0 (omega arith) (omega arith) (omega arith) c.first_not-from.result P (sym c.covered_at.ensures ∙ c.if-covered_at.true))

pub returns : goal.returns
returns c =
    let a = c.args in
    let P = c.first_not-from.ensures.stops (λ j. is_below (get_or a.loads.now j 0) (get_or a.times.now j (pos 0)) a.new.load.0 a.new.time.0) (λ j b e. search rules) in
    let Q = c.first_not-past.ensures.stops (λ j. is_covering a.new.load.0 a.new.time.0 (get_or a.loads.now j 0) (get_or a.times.now j (pos 0))) (λ j b e. search rules) in
    gap-open a.loads.now a.times.now a.list.start a.list.end a.new.load.0 a.new.time.0 (omega arith) (omega arith) (omega arith) c.first_not-from.result P c.first_not-past.result Q (sym c.covered_at.ensures ∙ c.if-covered_at.false)
