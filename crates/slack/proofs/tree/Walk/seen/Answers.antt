-- `slack::tree::Walk::seen` meets its contract. Assumes nothing.
use Rattle.slack.specs.Ready.{site-needs, seen_step}
use Rattle.slack.proofs.tree.Walk.seen.Goals as goal

pub sited-requires : goal.sited-requires
sited-requires c =
    site-needs c.requires.ready c.args.row c.requires.row_lt_n c.row_at-x.ensures c.requires.under_value c.sites_before-k.ensures c.started-driven.ensures

pub returns : goal.returns
returns c =
    seen_step c.requires.ready c.args.row c.requires.row_lt_n c.row_at-x.ensures c.requires.under_value c.sites_before-k.ensures c.started-driven.ensures c.sited.ensures
