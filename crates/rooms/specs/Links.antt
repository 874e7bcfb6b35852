-- The area of links: for each row the first row below it, then for each the next below the same parent, then how many sites come before each.
-- Assumes nothing.
use Rattle.std.specs.Prelude.{ℕ, ◌+◌}
use Rattle.rules.specs.Quantities.{rows_room}

abbrev pub next_at : ℕ
next_at = rows_room

abbrev pub sites_at : ℕ
sites_at = next_at + rows_room

abbrev pub links_room : ℕ
links_room = sites_at + rows_room
