-- `cases::requests::numbers` meets its contract: what is left of the input never grows. Assumes nothing.
use Rattle.std.proofs.Common.{◌≤◌, length}
use Rattle.cases.proofs.requests.numbers.Given as goal

abbrev pub invariant-loop-i : goal.invariant-loop-i
invariant-loop-i l = length l.rest ≤ length l.s
