-- The loop's invariant: what was found among the rows from i on, and their marks. Assumes nothing.
use Rattle.std.proofs.Common.{◌≡◌, length}
use Rattle.rules.specs.Quantities.{rows_room}
use Rattle.ending.specs.Below.{FoundIn}
use Rattle.ending.specs.BelowLaws.{From}
use Rattle.ending.proofs.first_childless.Given as goal

abbrev pub invariant-loop-i : goal.invariant-loop-i
invariant-loop-i l = (length l.below ≡ rows_room) × From l.rows l.count l.i l.below l.found × FoundIn l.count l.found
