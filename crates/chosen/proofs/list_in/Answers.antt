-- `chosen::list_in` meets its contract. Assumes nothing.
use Rattle.std.proofs.Common.{refl, arith}
use Rattle.rules.specs.Areas.{lent_of}
use Rattle.columns.specs.Run.{run}
use Rattle.chosen.specs.Promised.{exact-kept, exact-long, exact-room, made-few, list_of, zeroed}
use Rattle.chosen.proofs.list_in.Goals as goal

pub copy_start-requires : goal.copy_start-requires
copy_start-requires c =
    let a = c.args in
    let m = c.make-long in
    let e = exact-kept c.requires.exact m.auto.loads m.auto.times m.auto.words in
    let f = made-few c.requires.passed a.row c.requires.row_lt_n.0 (run a.loads.now a.times.now a.words.now) (run m.new.loads m.new.times m.new.words) (exact-long e) m.result m.ensures in
    (omega (arith, f, e.loads), omega (arith, f, c.requires.row_lt_n.1.0))

pub copy_start-requires-2 : goal.copy_start-requires-2
copy_start-requires-2 c =
    let a = c.args in
    let m = c.make-long in
    let e = exact-kept c.requires.exact m.auto.loads m.auto.times m.auto.words in
    let f = made-few c.requires.passed a.row c.requires.row_lt_n.0 (run a.loads.now a.times.now a.words.now) (run m.new.loads m.new.times m.new.words) (exact-long e) m.result m.ensures in
    (omega (arith, f, e.times), omega (arith, f, c.requires.row_lt_n.1.1))

pub returns : goal.returns
returns c =
    let a = c.args in
    let m = c.make-long in
    let e = exact-kept c.requires.exact m.auto.loads m.auto.times m.auto.words in
    let w = run a.loads.now a.times.now a.words.now in
    let w₁ = run m.new.loads m.new.times m.new.words in
    record {
      listed = list_of c.requires.passed a.row c.requires.row_lt_n.0 w w₁ (exact-long e) m.result m.ensures m.new.loads m.new.times m.new.words refl (exact-room e) (lent_of a.list_loads.now a.list_times.now) (lent_of c.copy_start.new.to c.copy_start-2.new.to) c.copy_start.ensures c.copy_start-2.ensures;
      cleared = zeroed _ _ _ c.clear.new.loads c.clear.new.times c.clear.new.words e c.clear.ensures.loads c.clear.ensures.times c.clear.ensures.words;
      few = made-few c.requires.passed a.row c.requires.row_lt_n.0 w w₁ (exact-long e) m.result m.ensures;
    }
