-- What an area holds before it is lent.
use Rattle.std.specs.Prelude.{ℕ, ◌+◌, cond, ltb}

-- the stamp of a place: none is zero, and those of the first 4000 differ
abbrev pub stamp : ℕ → ℕ
stamp i = cond (ltb i 4000) (i + 1) 1
