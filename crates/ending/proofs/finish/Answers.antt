-- `ending::finish` meets its contract: no driver, then the first childless row. Assumes nothing.
use Rattle.std.proofs.Common.{refl}
use Rattle.ending.specs.BelowLaws.{finish-none, finish-at, finish-through}
use Rattle.ending.proofs.finish.Goals as goal

pub returns-then-n-eq0 : goal.returns-then-n-eq0
returns-then-n-eq0 c = λ before types due h. rw (finish-none before types c.args.rows.now due c.args.n h c.place_of.result c.place_of.ensures c.if-n-eq0.true) refl

pub returns-in-Some : goal.returns-in-Some
returns-in-Some c = λ before types due h. rw (finish-at before types c.args.rows.now due c.args.n h c.first_childless.result c.in-Some.i _ c.if-n-eq0.false c.first_childless.ensures.first c.in-Some.is refl) refl

pub returns-in-None : goal.returns-in-None
returns-in-None c = λ before types due h. rw (finish-through before types c.args.rows.now due c.args.n h c.first_childless.result c.if-n-eq0.false c.first_childless.ensures.first c.in-None.is) refl
