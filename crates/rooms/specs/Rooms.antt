-- The tests of the rooms, by the lengths of the areas. Assumes nothing.
use Rattle.std.specs.Prelude.{Bool, cond, ◌||◌, ℕ, ◌*◌, ltb, Result, Ok, Err}
use Rattle.rules.specs.declared.Refusal.TheVariants.{Room, Short}
use Rattle.rules.specs.Quantities.{types_room, rows_room, text_room, placement_room, list_room, work_room}
use Rattle.rules.specs.declared.Refusal.{Refusal}
use Rattle.rules.specs.Tables.{words_a_type, words_a_row}

-- an area of the tables is shorter than its room
abbrev pub short_tables_by : (types rows due : ℕ) → Bool
short_tables_by types rows due = ltb types (words_a_type * types_room) || (ltb rows (words_a_row * rows_room) || ltb due rows_room)

-- before any line of a text is read: 7, then its length
abbrev pub unread : (short : Bool) (bytes : ℕ) → Result (Unit {0}) Refusal
unread short bytes = cond short (Err Short) (cond (ltb text_room bytes) (Err (Room 0)) (Ok tt))

-- an area of the work is shorter than its room
abbrev pub short_by : (loads times words : ℕ) → Bool
short_by loads times words = ltb loads work_room || (ltb times work_room || ltb words (placement_room * work_room))

-- an area of the list is shorter than its room
abbrev pub short_list_by : (loads times : ℕ) → Bool
short_list_by loads times = ltb loads list_room || ltb times list_room
