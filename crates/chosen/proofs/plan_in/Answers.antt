-- `chosen::plan_in` meets its contract. Assumes nothing.
use Rattle.std.proofs.Common.{refl}
use Rattle.rows.specs.Given.{standing}
use Rattle.columns.specs.Run.{run}
use Rattle.chosen.specs.Promised.{exact-kept, exact-long, exact-room, ready, made-stand, plan-of, pick-of, zeroed}
use Rattle.chosen.proofs.plan_in.Goals as goal

pub make-len-requires-clause-row_lt_n : goal.make-len-requires-clause-row_lt_n
make-len-requires-clause-row_lt_n c = (standing c.requires.passed).some

pub choose-t-requires : goal.choose-t-requires
choose-t-requires c =
    let a = c.args in
    let p = c.requires.passed in
    let m = c.make-len in
    let e = exact-kept c.requires.placement_room_in_bounds.1 m.auto.loads m.auto.times m.auto.words in
    ready p _ _ _ m.result _ (exact-room e) (made-stand p 0 (standing p).some (run a.loads.now a.times.now a.words.now) (run m.new.loads m.new.times m.new.words) (exact-long e) m.result m.ensures) c.requires.placement_room_in_bounds.0

pub returns : goal.returns
returns c =
    let a = c.args in
    let p = c.requires.passed in
    let m = c.make-len in
    let t = c.choose-t in
    let e = exact-kept c.requires.placement_room_in_bounds.1 m.auto.loads m.auto.times m.auto.words in
    let w = run a.loads.now a.times.now a.words.now in
    let w₁ = run m.new.loads m.new.times m.new.words in
    record {
      planned = plan-of p 0 (standing p).some w w₁ (exact-long e) m.result m.ensures refl a.placement.now t.new.placement t.result.slack.0 t.result.load.0 t.ensures;
      cleared = zeroed _ _ _ c.clear.new.loads c.clear.new.times c.clear.new.words e c.clear.ensures.loads c.clear.ensures.times c.clear.ensures.words;
      picked = pick-of p 0 (standing p).some w w₁ (exact-long e) m.result m.ensures refl a.placement.now t.new.placement t.result.slack.0 t.result.load.0 t.ensures;
    }
