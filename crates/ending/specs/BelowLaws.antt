-- The first childless row from the last row back, and finishing. Assumes nothing.
use Rattle.std.proofs.Math.Path.{◌≡◌}
use Rattle.std.specs.Prelude.{refl, Bool, true, false, cond, not, ◌||◌, List, [], ◌∷◌, ℕ, zero, suc, ◌+◌, ◌*◌, ◌≤◌, ◌<◌, ltb, eqb, ℤ, take, drop, get_or, replicate, Option, Some, None}
use Rattle.std.proofs.Common.{sym, ap, ◌∙◌, arith, add-one, length-set, drop_of_length-le, drop-cons, get_or-set_same, get_or-set_other, get_or-take, lt-ltb, eqb-true}
use Rattle.std.proofs.Math.Option.{Option as Maybe, none, some, or_else}
use Rattle.std.proofs.Math.ListN.{length}
use Rattle.std.proofs.lemmas.List.{get_or-replicate, length-replicate}
use Rattle.std.proofs.lemmas.Bool.{eqb-false}
use Rattle.rules.specs.Tables.{words_a_row, row_table, kind_word, row_parent}
use Rattle.rules.specs.Quantities.{rows_room}
use Rattle.rules.specs.declared.Kind.{Kind}
use Rattle.rules.specs.declared.Kind.TheVariants.{Driver, Point, Sink}
use Rattle.rules.specs.declared.Row.{Row}
use Rattle.rules.specs.declared.Refusal.TheVariants.{Form, Childless}
use Rattle.rules.specs.Lists.{given_when}
use Rattle.rules.specs.Entries.{Entry, types_of, rows_of, row_of}
use Rattle.rules.specs.Refusals.{some?, is_sink, under, childless, childless_at, line_of_row, last_refusal}
use Rattle.text.specs.Stretches.{either, absurd}
use Rattle.checks.specs.declared.Passed.{Passed}
use Rattle.checks.specs.Checks.{place_at}
use Rattle.entries.specs.Held.{Holds}
use Rattle.ending.specs.Below.{found_of, found_with, marked_with, marks_of, FirstChildless, FoundIn}

-- ---- the marks
marked-length : (p : ℕ) (l : List ℕ) → length (marked_with p l) ≡ length l
marked-length p l = either (ltb p rows_room) (λ t. rw t (length-set l p 1)) (λ f. rw f)

pub length-marks : (rows : List Row) → length (marks_of rows) ≡ rows_room
unfolding marks_of
length-marks [] = length-replicate {A = ℕ} rows_room 0
length-marks (x ∷ rows) = marked-length x.parent (marks_of rows) ∙ length-marks rows

-- a row below 256 is marked where some row hangs under it
marked-at : (p i : ℕ) (l : List ℕ) (b : Bool) → i < rows_room → length l ≡ rows_room → get_or l i 0 ≡ cond b 1 0 → get_or (marked_with p l) i 0 ≡ cond (eqb p i || b) 1 0
marked-at p i l b h g e =
    either (eqb p i)
    (λ t. let s = eqb-true p i t in rw (t, s, lt-ltb i rows_room h) (get_or-set_same l i 1 0 (omega arith)))
    (λ f. rw f (either (ltb p rows_room)
    (λ u. rw u (get_or-set_other l p i 1 0 (λ s. eqb-false p i f (sym s)) ∙ e))
    (λ u. rw u e)))

pub marks-at : (rows : List Row) (i : ℕ) → i < rows_room → get_or (marks_of rows) i 0 ≡ cond (under i rows) 1 0
unfolding marks_of
marks-at [] i h = get_or-replicate rows_room i 0 0 h
marks-at (x ∷ rows) i h = marked-at x.parent i (marks_of rows) (under i rows) h (length-marks rows) (marks-at rows i h)

-- ---- a row's words
pub sink-word : (kind : Kind) → is_sink kind ≡ eqb (kind_word kind) 2
sink-word Driver = refl
sink-word Point = refl
sink-word (Sink pin) = refl

pub word_next : (p : ℕ) → words_a_row * suc p ≡ suc (suc (suc (suc (suc (suc (words_a_row * p))))))
word_next p = omega arith

pub row-kind : (rows : List Row) (i : ℕ) (d : Row) → i < length rows → get_or (row_table rows) (words_a_row * i) 0 ≡ kind_word (get_or rows i d).kind
unfolding row_table
row-kind [] i d h = absurd (omega arith)
row-kind (x ∷ rows) zero d h = refl
row-kind (x ∷ rows) (suc i) d h = rw (word_next i) (row-kind rows i d (omega arith))

pub row-parent : (rows : List Row) (i : ℕ) (d : Row) → i < length rows → get_or (row_table rows) (words_a_row * i + row_parent) 0 ≡ (get_or rows i d).parent
unfolding row_table
row-parent [] i d h = absurd (omega arith)
row-parent (x ∷ rows) zero d h = refl
row-parent (x ∷ rows) (suc i) d h =
    let e : words_a_row * suc i + 1 ≡ suc (suc (suc (suc (suc (suc (words_a_row * i + row_parent)))))) = omega arith in
    rw e (row-parent rows i d (omega arith))

-- ---- one row further back
found-more : (x : Row) (i : ℕ) (b : Bool) (found : Maybe ℕ)
    → found_with (kind_word x.kind) (cond b 1 0) i (found_of found) ≡ found_of (or_else (given_when (not (is_sink x.kind || b)) i) found)
unfolding or_else
found-more x i true found = rw (sink-word x.kind) (either (eqb (kind_word x.kind) 2) (λ t. rw t) (λ f. rw f))
found-more x i false found = rw (sink-word x.kind) (either (eqb (kind_word x.kind) 2) (λ t. rw t) (λ f. rw f))

-- the loop's state at row i: what was found among the rows from i on, and their marks
pub record From (words : List ℕ) (count i : ℕ) (below : List ℕ) (found : Option ℕ) : Type 0 where
  pub found_is : (rows : List Row) → length rows ≡ count → row_table rows ≡ take (words_a_row * count) words → found ≡ found_of (childless i (drop i rows))
  pub below_is : (rows : List Row) → length rows ≡ count → row_table rows ≡ take (words_a_row * count) words → below ≡ marks_of (drop i rows)

none_left : (rows : List Row) (count : ℕ) → length rows ≡ count → drop count rows ≡ []
none_left rows count l = drop_of_length-le rows {i = count} (omega arith)

pub from_end : (words : List ℕ) (count : ℕ) (below : List ℕ) → below ≡ replicate rows_room 0 → From words count count below None
unfolding childless marks_of
from_end words count below e =
    record {
      found_is = λ rows l g. rw (none_left rows count l);
      below_is = λ rows l g. rw (none_left rows count l) e;
    }

module _ (words : List ℕ) (count i : ℕ) (below : List ℕ) (found : Option ℕ) (s : From words count (i + 1) below found) (few : count ≤ rows_room) (more : i < count) where
  -- the words of the row
  kind_at : (rows : List Row) (d : Row) → length rows ≡ count → row_table rows ≡ take (words_a_row * count) words → get_or words (words_a_row * i) 0 ≡ kind_word (get_or rows i d).kind
  kind_at rows d l g = sym (get_or-take (words_a_row * count) words (words_a_row * i) 0 (omega arith)) ∙ ap (λ (w : List ℕ). get_or w (words_a_row * i) 0) (sym g) ∙ row-kind rows i d (omega arith)

  parent-at : (rows : List Row) (d : Row) → length rows ≡ count → row_table rows ≡ take (words_a_row * count) words → get_or words (words_a_row * i + row_parent) 0 ≡ (get_or rows i d).parent
  parent-at rows d l g = sym (get_or-take (words_a_row * count) words (words_a_row * i + row_parent) 0 (omega arith)) ∙ ap (λ (w : List ℕ). get_or w (words_a_row * i + row_parent) 0) (sym g) ∙ row-parent rows i d (omega arith)

  split : (rows : List Row) (d : Row) → length rows ≡ count → drop i rows ≡ get_or rows i d ∷ drop (i + 1) rows
  split rows d l = rw (add-one i) (drop-cons rows i d (omega arith))

  found_from : (rows : List Row) (d : Row) → length rows ≡ count → row_table rows ≡ take (words_a_row * count) words
      → found_with (get_or words (words_a_row * i) 0) (get_or below i 0) i found ≡ found_of (childless i (drop i rows))
  unfolding childless
  found_from rows d l g =
      rw (kind_at rows d l g, s.below_is rows l g, marks-at (drop (i + 1) rows) i (omega arith), s.found_is rows l g, split rows d l)
      (found-more (get_or rows i d) i (under i (drop (i + 1) rows)) (childless (i + 1) (drop (i + 1) rows)))

  marked_from : (rows : List Row) (d : Row) → length rows ≡ count → row_table rows ≡ take (words_a_row * count) words
      → marked_with (get_or words (words_a_row * i + row_parent) 0) below ≡ marks_of (drop i rows)
  unfolding marks_of
  marked_from rows d l g = rw (parent-at rows d l g, s.below_is rows l g, split rows d l)

any_row : Row
any_row = row_of 0 0 0 0 Driver

pub from_back : (words : List ℕ) (count k i : ℕ) (below : List ℕ) (found : Option ℕ) → k ≡ i + 1 → From words count k below found → count ≤ rows_room → i < count
    → From words count i (marked_with (get_or words (words_a_row * i + row_parent) 0) below) (found_with (get_or words (words_a_row * i) 0) (get_or below i 0) i found)
from_back words count k i below found e s few more =
    let t : From words count (i + 1) below found = rw e at s in
    record {
      found_is = λ rows l g. found_from words count i below found t few more rows any_row l g;
      below_is = λ rows l g. marked_from words count i below found t few more rows any_row l g;
    }

pub marked-room : (p : ℕ) (l : List ℕ) → length l ≡ rows_room → length (marked_with p l) ≡ rows_room
marked-room p l e = marked-length p l ∙ e

pub found_in : (kind below i count : ℕ) (found : Option ℕ) → i < count → FoundIn count found → FoundIn count (found_with kind below i found)
found_in kind below i count found h f =
    either (eqb kind 2)
    (λ t. rw t f)
    (λ g. rw g (either (eqb below 1) (λ u. rw u f) (λ u. rw u h)))

-- ---- after the last line
module _ (before : List Entry) (types words : List ℕ) (due : List ℤ) (n : Passed) (h : Holds before types words due n) where
  none-driven : (rows : List Row) → length rows ≡ n.rows → n.rows ≡ 0 → some? rows ≡ false
  none-driven [] l e = refl
  none-driven (x ∷ rows) l e = absurd (omega arith)

  some-driven : (rows : List Row) → length rows ≡ n.rows → (n.rows ≡ 0 → ⊥) → some? rows ≡ true
  some-driven [] l e = absurd (e (omega arith))
  some-driven (x ∷ rows) l e = refl

  pub finish-none : (place : ℕ) → place ≡ place_at n → n.rows ≡ 0 → last_refusal before ≡ some (Form place)
  unfolding last_refusal or_else
  finish-none place p e =
      let here : place ≡ length before + 1 = omega (arith, h.lines_counted) in
      rw (none-driven (rows_of before) h.rows_counted e, here)

  finish-some : (n.rows ≡ 0 → ⊥) → last_refusal before ≡ childless_at before (childless 0 (rows_of before))
  unfolding last_refusal or_else
  finish-some e = rw (some-driven (rows_of before) h.rows_counted e)

  pub finish-at : (r : Option ℕ) (i line : ℕ) → (n.rows ≡ 0 → ⊥) → FirstChildless words n.rows r → r ≡ Some i → line ≡ n.types + i + 1 → last_refusal before ≡ some (Childless line)
  unfolding line_of_row
  finish-at r i line e f g l = finish-some e ∙ by (childless 0 (rows_of before)) (sym (f (rows_of before) h.rows_counted h.row_words) ∙ g)
    where
      by : (o : Maybe ℕ) → found_of o ≡ Some i → childless_at before o ≡ some (Childless line)
      by none q = let z : ◌≡◌ {A = ℕ} 0 1 = cc in absurd (omega arith)
      by (some k) q =
          let w : k ≡ i = cc in
          let v : length (types_of before) + k + 1 ≡ line = omega (arith, h.types_counted) in
          rw v

  pub finish-through : (r : Option ℕ) → (n.rows ≡ 0 → ⊥) → FirstChildless words n.rows r → r ≡ None → last_refusal before ≡ none
  finish-through r e f g = finish-some e ∙ by (childless 0 (rows_of before)) (sym (f (rows_of before) h.rows_counted h.row_words) ∙ g)
    where
      by : (o : Maybe ℕ) → found_of o ≡ None → childless_at before o ≡ none
      by none q = refl
      by (some k) q = let z : ◌≡◌ {A = ℕ} 0 1 = cc in absurd (omega arith)

pub found_at : (count : ℕ) (r : Option ℕ) (i : ℕ) → r ≡ Some i → FoundIn count r → i < count
found_at count r i e h = rw e at h
