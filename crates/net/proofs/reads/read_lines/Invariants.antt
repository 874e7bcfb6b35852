-- The loop's invariant: the lines before `at` have passed, and the areas hold them. Assumes nothing.
use Rattle.std.proofs.Common.{◌≡◌, ◌≤◌, ◌-◌, length}
use Rattle.net.specs.Steps.{Rooms, Reaches}
use Rattle.net.proofs.reads.read_lines.Given as goal

abbrev pub invariant-loop-at : goal.invariant-loop-at
invariant-loop-at l = (l.at ≤ length l.text) × Rooms l.types l.rows l.due × (length l.types ≡ length l.initial.types) × (length l.rows ≡ length l.initial.rows) × (length l.due ≡ length l.initial.due) × Reaches l.text l.at l.types l.rows l.due l.n

abbrev pub decreases-loop-at : goal.decreases-loop-at
decreases-loop-at l = length l.text - l.at
