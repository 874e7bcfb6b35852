-- `text::digits_of` meets its contract. The loop's invariant: the digits passed and those to come state the part's number, capped.
-- Assumes nothing.
use Rattle.std.proofs.Common.{◌≡◌, ◌≤◌, drop}
use Rattle.rules.specs.Text.{more_digits}
use Rattle.text.specs.Numbers.{cap, field_of}
use Rattle.text.proofs.digits_of.Given as goal

abbrev pub invariant-loop-b : goal.invariant-loop-b
invariant-loop-b l = (l.n ≤ cap) × (field_of (more_digits l.n (drop l.b-index l.part)) l.next ≡ field_of (more_digits 0 l.part) l.next)
