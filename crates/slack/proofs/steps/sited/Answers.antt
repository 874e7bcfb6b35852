-- `slack::steps::sited` meets its contract. Assumes nothing.
use Rattle.slack.specs.Hung.{site_hung}
use Rattle.slack.proofs.steps.sited.Goals as goal

pub returns-then-site : goal.returns-then-site
unfolding site_hung
returns-then-site c = rw c.if-site.true c.marked.ensures

pub returns-else-site : goal.returns-else-site
unfolding site_hung
returns-else-site c = rw c.if-site.false
