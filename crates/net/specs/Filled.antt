-- What reading leaves in the lent areas: the entries of the text at their start where nothing is refused, and else what was there.
-- Assumes nothing.
use Rattle.std.specs.Prelude.{◌≡◌, refl, Bool, true, false, cond, ◌||◌, List, [], ◌++◌, ℕ, ◌*◌, ◌≤◌, ◌<◌, ltb, ℤ, length, take, drop, Result, Ok, Err}
use Rattle.std.proofs.Common.{sym, ◌∙◌, arith, length-take-le}
use Rattle.std.proofs.Math.Option.{none, some, or_else}
use borrow.Author.Tests.{lt-ltb, le-ltb, ltb-true, ltb-false}
use Rattle.rules.specs.Quantities.{types_room, rows_room, text_room}
use Rattle.rules.specs.declared.Refusal.{Refusal}
use Rattle.rules.specs.declared.Refusal.TheVariants.{Room, Short}
use Rattle.rules.specs.Lists.{written}
use Rattle.rules.specs.Entries.{Entry, types_of, rows_of}
use Rattle.rules.specs.Text.{text_entries}
use Rattle.rules.specs.Tables.{Tables, short_tables, words_a_type, words_a_row, type_table, row_table, due_table, filled, tables_of}
use Rattle.rules.specs.Refusals.{refusal_of, first_refusal}
use Rattle.rules.specs.Answers.{refused, done, no_counts, read_figures}
use Rattle.rules.specs.Promises.{Settled, ReadPromise, net_refusal}
use Rattle.rooms.specs.Rooms.{unread}
use Rattle.checks.specs.declared.Passed.{Passed}
use Rattle.checks.specs.Checks.{FewPassed}
use Rattle.entries.specs.Held.{Holds}
use Rattle.net.specs.Steps.{Rooms, AllTaken}
use Rattle.rules.specs.declared.Counted.{Counted}
use Rattle.net.specs.Cut.{or_left, or_right}

-- the promise of reading once the areas and the text have their length
unfoldable pub ReadAfter : (text : List ℕ) (before : Tables) → Result Counted Refusal → (after : Tables) → Type 0
ReadAfter text before answer after =
    Settled (refusal_of (text_entries text))
    (λ r. (read_figures answer ≡ refused no_counts r) × (after ≡ before))
    ((read_figures answer ≡ done (record { types = length (types_of (text_entries text)); rows = length (rows_of (text_entries text)) })) × (after ≡ filled (text_entries text) before))

-- ---- laws
pub refused-after : (text : List ℕ) (t : Tables) (r : Result Passed Refusal) (types rows : List ℕ) (due : List ℤ) (x : Refusal) → AllTaken text r types rows due → r ≡ Err x
    → ReadAfter text t (Err x) t
unfolding ReadAfter refusal_of read_figures
refused-after text t r types rows due x g e =
    let f : first_refusal [] (text_entries text) ≡ some x = rw e at g in
    rw f (refl, refl)

-- an area with another's start copied to it
filled-area : {A : Type 0} (new area from area' : List A) (count : ℕ) → new ≡ take count from → count ≤ length from → area' ≡ take count from ++ drop count area → area' ≡ written new area
unfolding written
filled-area new area from area' count e h g = rw (g, e, length-take-le count from h)

module _ (es : List Entry) (tw rw' : List ℕ) (dw : List ℤ) (n : Passed) (h : Holds es tw rw' dw n) (room : Rooms tw rw' dw) where
  pub filled_is : (types types' rows rows' : List ℕ) (due due' : List ℤ)
      → types' ≡ take (words_a_type * n.types) tw ++ drop (words_a_type * n.types) types → rows' ≡ take (words_a_row * n.rows) rw' ++ drop (words_a_row * n.rows) rows → due' ≡ take n.rows dw ++ drop n.rows due
      → tables_of types' rows' due' ≡ filled es (tables_of types rows due)
  unfolding filled
  filled_is types types' rows rows' due due' a b c =
      rw (
        filled-area (type_table (types_of es)) types tw types' (words_a_type * n.types) h.type_words (omega (arith, h.few.types, room.types_fit)) a,
        filled-area (row_table (rows_of es)) rows rw' rows' (words_a_row * n.rows) h.row_words (omega (arith, h.few.rows, room.rows_fit)) b,
        filled-area (due_table (rows_of es)) due dw due' n.rows h.due_times (omega (arith, h.few.rows, room.due_fits)) c,
      )

pub taken-after : (text : List ℕ) (r : Result Passed Refusal) (tw rw' : List ℕ) (dw : List ℤ) (n : Passed) (types types' rows rows' : List ℕ) (due due' : List ℤ)
    → AllTaken text r tw rw' dw → r ≡ Ok n → Rooms tw rw' dw
    → types' ≡ take (words_a_type * n.types) tw ++ drop (words_a_type * n.types) types → rows' ≡ take (words_a_row * n.rows) rw' ++ drop (words_a_row * n.rows) rows → due' ≡ take n.rows dw ++ drop n.rows due
    → ReadAfter text (tables_of types rows due) (Ok (record { types = n.types; rows = n.rows })) (tables_of types' rows' due')
unfolding ReadAfter refusal_of read_figures
taken-after text r tw rw' dw n types types' rows rows' due due' g e room a b c =
    let f : (first_refusal [] (text_entries text) ≡ none) × Holds (text_entries text) tw rw' dw n = rw e at g in
    rw f.0 (rw (f.1.types_counted, f.1.rows_counted) refl, filled_is (text_entries text) tw rw' dw n f.1 room types types' rows rows' due due' a b c)

pub taken-few : (text : List ℕ) (r : Result Passed Refusal) (tw rw' : List ℕ) (dw : List ℤ) (n : Passed) → AllTaken text r tw rw' dw → r ≡ Ok n → FewPassed n
taken-few text r tw rw' dw n g e =
    let f : (first_refusal [] (text_entries text) ≡ none) × Holds (text_entries text) tw rw' dw n = rw e at g in
    f.1.few

-- ---- before any line is read
module _ (text types rows : List ℕ) (due : List ℤ) where
  short-read : (s : Bool) → s ≡ (ltb (length types) (words_a_type * types_room) || (ltb (length rows) (words_a_row * rows_room) || ltb (length due) rows_room)) → s ≡ true
      → ReadPromise text (tables_of types rows due) (Err Short) (tables_of types rows due)
  unfolding ReadPromise net_refusal short_tables read_figures or_else
  short-read s e t = rw (sym e ∙ t) (refl, refl)

  long-read : (s : Bool) → s ≡ (ltb (length types) (words_a_type * types_room) || (ltb (length rows) (words_a_row * rows_room) || ltb (length due) rows_room)) → s ≡ false → text_room < length text
      → ReadPromise text (tables_of types rows due) (Err (Room 0)) (tables_of types rows due)
  unfolding ReadPromise net_refusal short_tables read_figures or_else
  long-read s e t l = rw (sym e ∙ t, lt-ltb text_room (length text) l) (refl, refl)

  pub lines-read : (s : Bool) (r : Result Counted Refusal) (after : Tables) → s ≡ (ltb (length types) (words_a_type * types_room) || (ltb (length rows) (words_a_row * rows_room) || ltb (length due) rows_room)) → s ≡ false → length text ≤ text_room
      → ReadAfter text (tables_of types rows due) r after → ReadPromise text (tables_of types rows due) r after
  unfolding ReadPromise net_refusal short_tables ReadAfter or_else
  lines-read s r after e t l g = rw (sym e ∙ t, le-ltb text_room (length text) l) g

  -- what was refused before any line is what the promise says
  pub not_read : (s : Bool) (c : Result (Unit {0}) Refusal) (r : Refusal) → s ≡ (ltb (length types) (words_a_type * types_room) || (ltb (length rows) (words_a_row * rows_room) || ltb (length due) rows_room)) → c ≡ unread s (length text) → c ≡ Err r
      → ReadPromise text (tables_of types rows due) (Err r) (tables_of types rows due)
  not_read true c r e u f = let z : r ≡ Short = cc in rw z (short-read true e refl)
  not_read false c r e u f = go (ltb text_room (length text)) refl u
    where
      go : (b : Bool) → ltb text_room (length text) ≡ b → c ≡ cond b (Err (Room 0)) (Ok tt) → ReadPromise text (tables_of types rows due) (Err r) (tables_of types rows due)
      go true l u = let z : r ≡ Room 0 = cc in rw z (long-read false e refl (ltb-true text_room (length text) l))
      go false l u = absurd (let z : ◌≡◌ {A = ℕ} 0 1 = cc in omega arith)

  -- what was not has the room
  pub to_read : (s : Bool) (c : Result (Unit {0}) Refusal) → c ≡ unread s (length text) → c ≡ Ok tt → (s ≡ false) × (length text ≤ text_room)
  to_read true c u f = absurd (let z : ◌≡◌ {A = ℕ} 0 1 = cc in omega arith)
  to_read false c u f = (refl, go (ltb text_room (length text)) refl u)
    where
      go : (b : Bool) → ltb text_room (length text) ≡ b → c ≡ cond b (Err (Room 0)) (Ok tt) → length text ≤ text_room
      go true l u = absurd (let z : ◌≡◌ {A = ℕ} 0 1 = cc in omega arith)
      go false l u = ltb-false text_room (length text) l

  pub rooms-are : (s : Bool) → s ≡ (ltb (length types) (words_a_type * types_room) || (ltb (length rows) (words_a_row * rows_room) || ltb (length due) rows_room)) → s ≡ false → Rooms types rows due
  rooms-are s e t =
      let a = sym e ∙ t in
      let b = or_right (ltb (length types) (words_a_type * types_room)) (ltb (length rows) (words_a_row * rows_room) || ltb (length due) rows_room) a in
      record {
        types_fit = ltb-false (length types) (words_a_type * types_room) (or_left (ltb (length types) (words_a_type * types_room)) (ltb (length rows) (words_a_row * rows_room) || ltb (length due) rows_room) a);
        rows_fit = ltb-false (length rows) (words_a_row * rows_room) (or_left (ltb (length rows) (words_a_row * rows_room)) (ltb (length due) rows_room) b);
        due_fits = ltb-false (length due) rows_room (or_right (ltb (length rows) (words_a_row * rows_room)) (ltb (length due) rows_room) b);
      }
