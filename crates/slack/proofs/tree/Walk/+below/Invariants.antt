-- What falls as `slack::tree::Walk::below` calls itself: 256 less the row's number. Assumes nothing.
use Rattle.std.proofs.Common.{◌-◌}
use Rattle.rules.specs.Quantities.{rows_room}
use Rattle.slack.proofs.tree.Walk.+below.Given as goal

abbrev pub decreases-below : goal.decreases-below
decreases-below l = rows_room - l.c
