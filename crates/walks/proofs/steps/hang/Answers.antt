-- `walks::steps::hang` meets its contract. Assumes nothing.
use Rattle.std.proofs.Common.{arith}
use Rattle.rules.specs.Quantities.{work_room}
use Rattle.columns.specs.Made.{room-run}
use Rattle.walks.specs.Steps.{hang-pair, hang-gives}
use Rattle.walks.proofs.steps.hang.Goals as goal

pub join_lists-requires-clause-pair : goal.join_lists-requires-clause-pair
join_lists-requires-clause-pair c =
    hang-pair _ _ _ _ _ c.requires.hang (room-run work_room c.requires.room (omega arith)) _ _ c.wire_row-k.ensures

pub returns : goal.returns
returns c =
    hang-gives _ _ _ _ _ c.requires.hang (room-run work_room c.requires.room (omega arith)) _ _ c.wire_row-k.ensures _ _ c.join_lists.ensures
