-- What waits in a line to be handed on. Assumes nothing.
use Rattle.std.specs.Prelude.{ℕ, ◌+◌, leb, cond, List, [], ◌++◌, length}

-- after one piece more: it waits behind what waits already where a line has room for both, else alone, and does not wait where a line has no
-- room for it
abbrev pub waits_after : List ℕ → List ℕ → List ℕ
waits_after w s = cond (leb (length w + length s) 256) (w ++ s) (cond (leb (length s) 256) s [])
