-- `slack::tree::Walk::wired` meets its contract. Assumes nothing.
use Rattle.slack.specs.Ready.{wire-needs, own_is}
use Rattle.slack.proofs.tree.Walk.wired.Goals as goal

pub behind_wire-requires : goal.behind_wire-requires
behind_wire-requires c =
    wire-needs c.requires.ready c.args.row c.requires.le_row.0 c.requires.le_row.1 c.row_at-x.ensures c.seen-h.ensures

pub returns : goal.returns
returns c =
    own_is c.requires.ready c.args.row c.requires.le_row.0 c.requires.le_row.1 c.row_at-x.ensures c.seen-h.ensures c.behind_wire.ensures
