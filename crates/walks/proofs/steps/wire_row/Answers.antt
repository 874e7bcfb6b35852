-- `walks::steps::wire_row` meets its contract. Assumes nothing.
use Rattle.rules.specs.Net.{wire_of}
use Rattle.walks.proofs.steps.wire_row.Goals as goal

pub wire_list-requires-clause-all : goal.wire_list-requires-clause-all
unfolding wire_of
wire_list-requires-clause-all c = rw c.row_at-x.ensures c.requires.wired.behind_fit

pub returns : goal.returns
unfolding wire_of
returns c = rw c.row_at-x.ensures at c.wire_list.ensures
