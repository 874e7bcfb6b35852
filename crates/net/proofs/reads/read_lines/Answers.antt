-- `net::reads::read_lines` meets its contract. Assumes nothing.
use Rattle.std.proofs.Common.{refl, ◌∙◌, ◌<◌, arith, length, drop, length-drop}
use Rattle.std.proofs.lemmas.Result.{err_from_is_err_and}
use Rattle.text.specs.Stretches.{line_feed, lead-le}
use Rattle.net.specs.Steps.{rooms-kept}
use Rattle.net.specs.ReadLaws.{reach-start, reach-unended, reach-refused, reach-taken, reach-done}
use Rattle.net.proofs.reads.read_lines.Goals as goal

pub loop-at-init : goal.loop-at-init
loop-at-init c = (omega arith, c.requires, refl, refl, refl, reach-start c.args.text.now c.args.types.now c.args.rows.now c.args.due.now)

pub returns-then-end-text : goal.returns-then-end-text
returns-then-end-text c =
    reach-unended c.args.text.now c.loop-at.at c.stretch_end-end.result c.loop-at.types c.loop-at.rows c.loop-at.due c.loop-at.n c.loop-at.invariant.5 c.loop-at-test.true c.stretch_end-end.ensures c.place_of.result c.if-end-text.true c.place_of.ensures

pub slice_bounds-take_line-end : goal.slice_bounds-take_line-end
slice_bounds-take_line-end c = omega (arith, c.stretch_end-end.ensures, lead-le line_feed (drop c.loop-at.at c.args.text.now), length-drop c.loop-at.at c.args.text.now)

pub returns-in_err-n : goal.returns-in_err-n
returns-in_err-n c =
    let a = c.args in
    let to = c.stretch_end-end.result in
    let ended : to < length a.text.now = omega (arith, c.if-end-text.false, c.stretch_end-end.ensures, lead-le line_feed (drop c.loop-at.at a.text.now), length-drop c.loop-at.at a.text.now) in
    let p = err_from_is_err_and c.from_residual.result c.from_residual.ensures.1 in
    rw (p.1, p.2)
    (reach-refused a.text.now c.loop-at.at to c.loop-at.types c.loop-at.rows c.loop-at.due c.loop-at.n c.loop-at.invariant.5 c.loop-at-test.true c.stretch_end-end.ensures _ _ _ c.take_line.result c.take_line.ensures ended c.in_err-n.field-0.0 c.in_err-n.was)

pub loop-at-preserved : goal.loop-at-preserved
loop-at-preserved c =
    let a = c.args in
    let to = c.stretch_end-end.result in
    let ended : to < length a.text.now = omega (arith, c.if-end-text.false, c.stretch_end-end.ensures, lead-le line_feed (drop c.loop-at.at a.text.now), length-drop c.loop-at.at a.text.now) in (
      omega arith,
      rooms-kept c.loop-at.types _ c.loop-at.rows _ c.loop-at.due _ c.loop-at.invariant.1 c.take_line.auto.types c.take_line.auto.rows c.take_line.auto.due,
      c.take_line.auto.types ∙ c.loop-at.invariant.2,
      c.take_line.auto.rows ∙ c.loop-at.invariant.3,
      c.take_line.auto.due ∙ c.loop-at.invariant.4,
      reach-taken a.text.now c.loop-at.at to c.loop-at.types c.loop-at.rows c.loop-at.due c.loop-at.n c.loop-at.invariant.5 c.loop-at-test.true c.stretch_end-end.ensures _ _ _ c.take_line.result c.take_line.ensures ended c.in_ok-n.n c.in_ok-n.was,
    )

pub returns : goal.returns
returns c =
    reach-done c.args.text.now c.loop-at.at c.loop-at.types c.loop-at.rows c.loop-at.due c.loop-at.n c.finish.result c.loop-at.invariant.5 c.loop-at-test.false c.finish.ensures
