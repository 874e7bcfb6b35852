-- The areas hold one entry more: what an entry adds to the types and rows, and that a line that was not refused and was stored is held.
-- Assumes nothing.
use Rattle.std.proofs.Math.Path.{◌≡◌, refl, ap}
use Rattle.std.proofs.Common.{sym, ◌∙◌, arith, length-append, ltb-false, leb-false, eqb-true}
use Rattle.std.specs.Prelude.{Bool, false, cond, ◌&&◌, ◌||◌, ℕ, ◌+◌, ◌*◌, ◌<◌, ltb, leb, eqb, ℤ, pos, negsuc, length, take, Ok, Result, Err}
use mathlib.Core.List.{List, [], ◌∷◌, ◌++◌}
use Rattle.std.proofs.Math.Option.{none, or_else}
use Rattle.std.specs.Int.Signed.{lt_z}
use Rattle.std.proofs.lemmas.Bool.{eqb-false}
use Rattle.rules.specs.Tables.{words_a_type, words_a_row, type_table, row_table, due_table, due_of}
use Rattle.rules.specs.declared.Kind.TheVariants.{Driver, Point, Sink}
use Rattle.rules.specs.declared.Row.{Row}
use Rattle.rules.specs.Quantities.{most_ohms, most_femtofarads, most_own, earliest_due, latest_due, rows_room, sites_room, types_room}
use Rattle.rules.specs.Entries.{Entry, Repeater, type, driver, point, sink, malformed, beyond, types_of, rows_of, row_of, sites_of}
use Rattle.rules.specs.Refusals.{wire_out, misplaced, out_of_range, too_many, line_refusal}
use Rattle.rooms.specs.Cap.{word_cap}
use Rattle.text.specs.Stretches.{either, absurd}
use Rattle.repeaters.specs.declared.Buffer.{Buffer}
use Rattle.repeaters.specs.Repeaters.{buffer_of}
use Rattle.checks.specs.declared.Passed.{Passed}
use Rattle.checks.specs.declared.Line.{Line}
use Rattle.checks.specs.declared.Line.TheVariants.{Repeater as TypeLine, Driver as DriverLine, Point as PointLine, Sink as SinkLine}
use Rattle.entries.specs.Lines.{wire_of, pin_of, line_for}
use Rattle.checks.specs.Checks.{checking, first_of, check_of, place_at, type_out, wire_out_of, pin_out, FewPassed, many_rows, no_parent_in}
use Rattle.entries.specs.Held.{Holds, Grown, Roomy, with_type, with_row, counted_with, own_word}
use Rattle.net.specs.Passing.{NoneOf, none_of, accepted-none, not-refused, check-same}
use Rattle.rules.specs.declared.Refusal.{Refusal}
use Rattle.net.specs.Cut.{or_left, or_right, wire-in}

-- ---- what is stated by entries, and then others
pub types-append : (a b : List Entry) → types_of (a ++ b) ≡ types_of a ++ types_of b
unfolding types_of
types-append [] b = refl
types-append (type i r o ∷ a) b = ap (λ (l : List Repeater). record { input = i; resistance = r; own = o } ∷ l) (types-append a b)
types-append (driver r ∷ a) b = types-append a b
types-append (point p r c s ∷ a) b = types-append a b
types-append (sink p r c s n z ∷ a) b = types-append a b
types-append (malformed ∷ a) b = types-append a b
types-append (beyond ∷ a) b = types-append a b

pub rows_append : (a b : List Entry) → rows_of (a ++ b) ≡ rows_of a ++ rows_of b
unfolding rows_of
rows_append [] b = refl
rows_append (type i r o ∷ a) b = rows_append a b
rows_append (driver r ∷ a) b = ap (λ (l : List Row). row_of 0 r 0 0 Driver ∷ l) (rows_append a b)
rows_append (point p r c s ∷ a) b = ap (λ (l : List Row). row_of p r c s Point ∷ l) (rows_append a b)
rows_append (sink p r c s n z ∷ a) b = ap (λ (l : List Row). row_of p r c s (Sink (record { load = record { 0 = n }; due = record { 0 = z } })) ∷ l) (rows_append a b)
rows_append (malformed ∷ a) b = rows_append a b
rows_append (beyond ∷ a) b = rows_append a b

sites-append : (a b : List Row) → sites_of (a ++ b) ≡ sites_of a + sites_of b
unfolding sites_of
sites-append [] b = omega arith
sites-append (x ∷ a) b = omega (arith, sites-append a b)

type-table-append : (a b : List Repeater) → type_table (a ++ b) ≡ type_table a ++ type_table b
unfolding type_table
type-table-append [] b = refl
type-table-append (x ∷ a) b = ap (λ (l : List ℕ). x.input ∷ x.resistance ∷ x.own ∷ l) (type-table-append a b)

row-table-append : (a b : List Row) → row_table (a ++ b) ≡ row_table a ++ row_table b
unfolding row_table
row-table-append [] b = refl
row-table-append (x ∷ a) b = rw (row-table-append a b)

due-table-append : (a b : List Row) → due_table (a ++ b) ≡ due_table a ++ due_table b
unfolding due_table
due-table-append [] b = refl
due-table-append (x ∷ a) b = ap (λ (l : List ℤ). due_of x.kind ∷ l) (due-table-append a b)

-- ---- one entry more is held
module _ (before : List Entry) (types types' rows rows' : List ℕ) (due due' : List ℤ) (n m : Passed) (h : Holds before types rows due n) (e : Entry)
    (ts : List Repeater) (rs : List Row) (ts-is : types_of (e ∷ []) ≡ ts) (rs-is : rows_of (e ∷ []) ≡ rs) (few : FewPassed m) where
  types_more : types_of (before ++ (e ∷ [])) ≡ types_of before ++ ts
  types_more = types-append before (e ∷ []) ∙ ap (λ (l : List Repeater). types_of before ++ l) ts-is

  rows_more : rows_of (before ++ (e ∷ [])) ≡ rows_of before ++ rs
  rows_more = rows_append before (e ∷ []) ∙ ap (λ (l : List Row). rows_of before ++ l) rs-is

  pub hold-more : n.types + length ts ≡ m.types → n.rows + length rs ≡ m.rows → n.sites + sites_of rs ≡ m.sites → length ts + length rs ≡ 1
      → take (words_a_type * m.types) types' ≡ take (words_a_type * n.types) types ++ type_table ts → take (words_a_row * m.rows) rows' ≡ take (words_a_row * n.rows) rows ++ row_table rs
      → take m.rows due' ≡ take n.rows due ++ due_table rs → Holds (before ++ (e ∷ [])) types' rows' due' m
  hold-more a b c d p q r =
      record {
        few = few;
        types_counted = rw (types_more, length-append (types_of before) ts) (omega (arith, h.types_counted));
        rows_counted = rw (rows_more, length-append (rows_of before) rs) (omega (arith, h.rows_counted));
        sites_counted = rw (rows_more, sites-append (rows_of before) rs) (omega (arith, h.sites_counted));
        lines_counted = rw (length-append before (e ∷ [])) (omega (arith, h.lines_counted));
        type_words = rw (types_more, type-table-append (types_of before) ts, h.type_words) (sym p);
        row_words = rw (rows_more, row-table-append (rows_of before) rs, h.row_words) (sym q);
        due_times = rw (rows_more, due-table-append (rows_of before) rs, h.due_times) (sym r);
      }

-- ---- a line that is accepted
-- there is room for it, and what has passed with it is few
many-room : (n : Passed) (site : ℕ) → many_rows n site ≡ false → FewPassed n → (n.rows < rows_room) × FewPassed (with_row n site)
many-room n site e f =
    let r = leb-false rows_room n.rows (or_left (leb rows_room n.rows) (eqb site 1 && leb sites_room n.sites) e) in
    let s = or_right (leb rows_room n.rows) (eqb site 1 && leb sites_room n.sites) e in
    either (eqb site 1)
    (λ t. (omega arith, rw t (record { types = f.types; rows = omega arith; sites = omega (arith, leb-false sites_room n.sites (rw t at s)) })))
    (λ g. (omega arith, rw g (record { types = f.types; rows = omega arith; sites = omega (arith, f.sites) })))

own_in : (z : ℤ) → lt_z (pos most_own) z ≡ false → own_word z < word_cap
own_in (pos k) e = omega (arith, ltb-false most_own k e)
own_in (negsuc k) e = omega arith

module _ (rows : List ℕ) (n : Passed) (f : FewPassed n) where
  room-type : (t : Buffer) → NoneOf (ltb 0 n.rows) (type_out t) (leb types_room n.types) false → Roomy n (Ok (TypeLine t)) × FewPassed (with_type n)
  room-type t g =
      let few = leb-false types_room n.types g.room_not in
      let out = or_right (ltb most_femtofarads t.input.0) (ltb most_ohms t.resistance.0 || lt_z (pos most_own) t.own.0) g.range_not in
      ((few, own_in t.own.0 (or_right (ltb most_ohms t.resistance.0) (lt_z (pos most_own) t.own.0) out)), record { types = omega arith; rows = f.rows; sites = f.sites })

  room-driver : (out : Bool) → NoneOf (ltb 0 n.rows) out false false → (n.rows < rows_room) × FewPassed (with_row n 0)
  room-driver out g =
      let first = ltb-false 0 n.rows g.form_not in
      (omega arith, record { types = f.types; rows = omega arith; sites = omega (arith, f.sites) })

  pub accepted-room : (line : Result Line Refusal) → check_of rows n line ≡ Ok tt → Roomy n line × FewPassed (counted_with n line)
  accepted-room (Ok (TypeLine t)) e =
      room-type t (none_of (ltb 0 n.rows) (type_out t) (leb types_room n.types) false (place_at n) (accepted-none (first_of (ltb 0 n.rows) (type_out t) (leb types_room n.types) false (place_at n)) e))
  accepted-room (Ok (DriverLine o)) e =
      room-driver (ltb most_ohms o.0) (none_of (ltb 0 n.rows) (ltb most_ohms o.0) false false (place_at n) (accepted-none (first_of (ltb 0 n.rows) (ltb most_ohms o.0) false false (place_at n)) e))
  accepted-room (Ok (PointLine w)) e =
      let orphan' = no_parent_in rows n.rows w.parent in
      many-room n w.site (none_of (eqb n.rows 0) (wire_out_of w) (many_rows n w.site) orphan' (place_at n) (accepted-none (first_of (eqb n.rows 0) (wire_out_of w) (many_rows n w.site) orphan' (place_at n)) e)).room_not f
  accepted-room (Ok (SinkLine w p)) e =
      let orphan' = no_parent_in rows n.rows w.parent in
      let out = wire_out_of w || pin_out p in
      many-room n w.site (none_of (eqb n.rows 0) out (many_rows n w.site) orphan' (place_at n) (accepted-none (first_of (eqb n.rows 0) out (many_rows n w.site) orphan' (place_at n)) e)).room_not f
  accepted-room (Err r) e = let z : ◌≡◌ {A = ℕ} 0 1 = cc in absurd (omega arith)

-- ---- a line that is not refused, and is stored, is held
site-word : (s : ℕ) → ltb 1 s ≡ false → s ≡ cond (eqb s 1) 1 0
site-word s e =
    either (eqb s 1)
    (λ t. rw t (eqb-true s 1 t))
    (λ f. rw f (omega (arith, ltb-false 1 s e, eqb-false s 1 f)))

-- a wire in range, of an entry that is not refused
point-in : (before : List Entry) (p r c s : ℕ) → line_refusal before (point p r c s) ≡ none → ltb 1 s ≡ false
unfolding out_of_range
point-in before p r c s e =
    (wire-in p r c s (not-refused before (point p r c s) e).range_not).site_in

sink-in : (before : List Entry) (p r c s k : ℕ) (z : ℤ) → line_refusal before (sink p r c s k z) ≡ none → ltb 1 s ≡ false
unfolding out_of_range
sink-in before p r c s k z e =
    (wire-in p r c s (or_left (wire_out p r c s) (ltb most_femtofarads k || (lt_z z earliest_due || lt_z latest_due z)) (not-refused before (sink p r c s k z) e).range_not)).site_in

module _ (before : List Entry) (types types' rows rows' : List ℕ) (due due' : List ℤ) (n : Passed) (h : Holds before types rows due n) where
  HeldWith : Entry → Type 0
  HeldWith e =
      line_refusal before e ≡ none → FewPassed (counted_with n (line_for (length before + 1) e)) → Grown n (line_for (length before + 1) e) types types' rows rows' due due'
      → Holds (before ++ (e ∷ [])) types' rows' due' (counted_with n (line_for (length before + 1) e))

  held_with : (e : Entry) → HeldWith e
  unfolding HeldWith types_of rows_of row_of sites_of type_table row_table due_table buffer_of wire_of pin_of line_refusal misplaced out_of_range too_many or_else
  held_with (type a b c) o f g =
      hold-more before types types' rows rows' due due' n (with_type n) h (type a b c) (record { input = a; resistance = b; own = c } ∷ []) [] refl refl f
      (omega arith) (omega arith) (omega arith) (omega arith) g.types_grown g.rows_grown g.due_grown
  held_with (driver a) o f g =
      hold-more before types types' rows rows' due due' n (with_row n 0) h (driver a) [] (row_of 0 a 0 0 Driver ∷ []) refl refl f
      (omega arith) (omega arith) (omega arith) (omega arith) g.types_grown g.rows_grown g.due_grown
  held_with (point p r c s) o f g =
      hold-more before types types' rows rows' due due' n (with_row n s) h (point p r c s) [] (row_of p r c s Point ∷ []) refl refl f
      (omega arith) (omega arith) (omega arith) (omega arith) g.types_grown
      (rw (← site-word s (point-in before p r c s o)) g.rows_grown) g.due_grown
  held_with (sink p r c s k z) o f g =
      hold-more before types types' rows rows' due due' n (with_row n s) h (sink p r c s k z) [] (row_of p r c s (Sink (record { load = record { 0 = k }; due = record { 0 = z } })) ∷ []) refl refl f
      (omega arith) (omega arith) (omega arith) (omega arith) g.types_grown
      (rw (← site-word s (sink-in before p r c s k z o)) g.rows_grown) g.due_grown
  held_with malformed o f g = let w : ◌≡◌ {A = ℕ} 0 1 = cc in absurd (omega arith)
  held_with beyond o f g = let w : ◌≡◌ {A = ℕ} 0 1 = cc in absurd (omega arith)

  pub held-line : (e : Entry) → line_refusal before e ≡ none → Grown n (line_for (length before + 1) e) types types' rows rows' due due'
      → Holds (before ++ (e ∷ [])) types' rows' due' (counted_with n (line_for (length before + 1) e))
  unfolding HeldWith
  held-line e o g = held_with e o (accepted-room rows n h.few (line_for (length before + 1) e) (check-same before types rows due n h e ∙ ap checking o)).1 g
