-- `cases::numbers::fill` meets its contract: each number takes a byte at least, and the byte that ends it. Assumes nothing.
use Rattle.std.proofs.Common.{◌≡◌, ◌+◌, ◌*◌, ◌≤◌, length}
use Rattle.cases.proofs.numbers.fill.Given as goal

abbrev pub invariant-loop-x : goal.invariant-loop-x
invariant-loop-x g l = length l.first ≡ l.count

abbrev pub invariant-loop-x-2 : goal.invariant-loop-x-2
invariant-loop-x-2 g l = (length l.rest + 2 * l.x-index ≤ length l.s) × (length l.x-items ≡ l.count)
