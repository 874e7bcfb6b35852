-- The checks of a line by number are those of the refusal list, after entries that the areas hold. Assumes nothing.
use Rattle.std.specs.Prelude.{◌≡◌, Bool, true, not, ◌&&◌, ◌||◌, List, [], ◌∷◌, ◌++◌, ℕ, zero, suc, ◌+◌, ◌*◌, ltb, leb, eqb, ℤ, length, take, Ok, Err}
use Rattle.std.proofs.Math.Path.{refl}
use Rattle.std.proofs.Common.{sym, ap, ◌∙◌, arith, get_or-take, lt-ltb, le-ltb, ne_eqb, ltb-true}
use Rattle.std.proofs.Math.Bool.{false}
use Rattle.std.proofs.Math.Option.{Option, none, some, or_else}
use Rattle.std.proofs.Math.Dec.{leb-suc-suc}
use Rattle.rules.specs.Tables.{words_a_row, row_table}
use Rattle.rules.specs.Quantities.{rows_room, sites_room}
use Rattle.rules.specs.declared.Row.{Row}
use Rattle.rules.specs.declared.Refusal.{Refusal}
use Rattle.rules.specs.Entries.{Entry, type, driver, point, sink, malformed, beyond, rows_of, sites_of}
use Rattle.rules.specs.Refusals.{some?, misplaced, out_of_range, too_many, orphan, no_parent, line_refusal, first_refusal}
use Rattle.text.specs.Stretches.{either, absurd}
use Rattle.checks.specs.declared.Passed.{Passed}
use Rattle.repeaters.specs.Repeaters.{buffer_of}
use Rattle.entries.specs.Lines.{wire_of, pin_of, line_for}
use Rattle.checks.specs.Checks.{checking, first_of, no_parent_in, place_at, check_of}
use Rattle.entries.specs.Held.{Holds}
use Rattle.ending.specs.BelowLaws.{sink-word, word_next}

-- ---- refused or accepted
pub accepted-none : (o : Option Refusal) → checking o ≡ Ok tt → o ≡ none
accepted-none none e = refl
accepted-none (some r) e = let z : ◌≡◌ {A = ℕ} 0 1 = cc in absurd (omega arith)

pub refused-some : (o : Option Refusal) (x : Refusal) → checking o ≡ Err x → o ≡ some x
refused-some none x e = let z : ◌≡◌ {A = ℕ} 0 1 = cc in absurd (omega arith)
refused-some (some r) x e = cc

-- nothing is refused: no test holds
pub record NoneOf (form range room parent : Bool) : Type 0 where
  pub form_not : form ≡ false
  pub range_not : range ≡ false
  pub room_not : room ≡ false
  pub parent_not : parent ≡ false

pub none_of : (f r m p : Bool) (place : ℕ) → first_of f r m p place ≡ none → NoneOf f r m p
unfolding or_else
none_of true r m p place e = let z : ◌≡◌ {A = ℕ} 0 1 = cc in absurd (omega arith)
none_of false true m p place e = let z : ◌≡◌ {A = ℕ} 0 1 = cc in absurd (omega arith)
none_of false false true p place e = let z : ◌≡◌ {A = ℕ} 0 1 = cc in absurd (omega arith)
none_of false false false true place e = let z : ◌≡◌ {A = ℕ} 0 1 = cc in absurd (omega arith)
none_of false false false false place e = record { form_not = refl; range_not = refl; room_not = refl; parent_not = refl }

pub line-refusal-is : (before : List Entry) (e : Entry)
    → line_refusal before e ≡ first_of (misplaced (some? (rows_of before)) e) (out_of_range e) (too_many before e) (orphan before e) (length before + 1)
unfolding line_refusal
line-refusal-is before e = refl

pub not-refused : (before : List Entry) (e : Entry) → line_refusal before e ≡ none → NoneOf (misplaced (some? (rows_of before)) e) (out_of_range e) (too_many before e) (orphan before e)
not-refused before e o =
    none_of (misplaced (some? (rows_of before)) e) (out_of_range e) (too_many before e) (orphan before e) (length before + 1) (sym (line-refusal-is before e) ∙ o)

-- ---- a driver stands among the rows
some-rows : (l : List Row) (k : ℕ) → length l ≡ k → ltb 0 k ≡ some? l
some-rows [] k e = rw (← e)
some-rows (x ∷ l) k e = lt-ltb 0 k (omega arith)

no_rows : (l : List Row) (k : ℕ) → length l ≡ k → eqb k 0 ≡ not (some? l)
no_rows [] k e = rw (← e)
no_rows (x ∷ l) k e = ne_eqb k 0 (λ z. omega arith)

-- ---- the parent, by the words of the rows
no-parent-words : (rows : List Row) (p : ℕ) → no_parent rows p ≡ no_parent_in (row_table rows) (length rows) p
unfolding no_parent row_table
no-parent-words [] p = rw (le-ltb p 0 (omega arith))
no-parent-words (x ∷ rows) zero = rw (lt-ltb 0 (suc (length rows)) (omega arith)) (sink-word x.kind)
no-parent-words (x ∷ rows) (suc p) = rw (word_next p, leb-suc-suc (suc p) (length rows)) (no-parent-words rows p)

-- the same words at the start of an area
pub no-parent-in : (rows : List Row) (words : List ℕ) (n p : ℕ) → length rows ≡ n → row_table rows ≡ take (words_a_row * n) words → no_parent_in words n p ≡ no_parent rows p
no-parent-in rows words n p e g =
    sym (no-parent-words rows p ∙ rw (g, e) (either (ltb p n)
    (λ t. rw (t, get_or-take (words_a_row * n) words (words_a_row * p) 0 (omega (arith, ltb-true))))
    (λ f. rw f)))

-- ---- the check of a line is the refusal list's
same_of : (f f' r r' m m' p p' : Bool) (k k' : ℕ) → f ≡ f' → r ≡ r' → m ≡ m' → p ≡ p' → k ≡ k' → checking (first_of f r m p k) ≡ checking (first_of f' r' m' p' k')
same_of f f' r r' m m' p p' k k' a b c d e = rw (a, b, c, d, e)

module _ (before : List Entry) (types rows : List ℕ) (due : List ℤ) (n : Passed) (h : Holds before types rows due n) where
  place_same : place_at n ≡ length before + 1
  place_same = omega (arith, h.lines_counted)

  many-same : (site : ℕ) → (leb rows_room n.rows || (eqb site 1 && leb sites_room n.sites)) ≡ (leb rows_room (length (rows_of before)) || (eqb site 1 && leb sites_room (sites_of (rows_of before))))
  many-same site = rw (h.rows_counted, h.sites_counted)

  pub check-same : (e : Entry) → check_of rows n (line_for (length before + 1) e) ≡ checking (line_refusal before e)
  unfolding line_refusal misplaced out_of_range too_many orphan buffer_of wire_of pin_of or_else
  check-same (type input resistance own) =
      same_of _ _ (out_of_range (type input resistance own)) (out_of_range (type input resistance own)) _ _ false false _ _ (some-rows (rows_of before) n.rows h.rows_counted) refl (ap (leb 4) (sym h.types_counted)) refl place_same
  check-same (driver resistance) = same_of _ _ (out_of_range (driver resistance)) (out_of_range (driver resistance)) false false false false _ _ (some-rows (rows_of before) n.rows h.rows_counted) refl refl refl place_same
  check-same (point parent resistance capacitance site) =
      same_of _ _ (out_of_range (point parent resistance capacitance site)) (out_of_range (point parent resistance capacitance site)) _ _ _ _ _ _ (no_rows (rows_of before) n.rows h.rows_counted) refl (many-same site) (no-parent-in (rows_of before) rows n.rows parent h.rows_counted h.row_words) place_same
  check-same (sink parent resistance capacitance site pin due') =
      same_of _ _ (out_of_range (sink parent resistance capacitance site pin due')) (out_of_range (sink parent resistance capacitance site pin due')) _ _ _ _ _ _ (no_rows (rows_of before) n.rows h.rows_counted) refl (many-same site) (no-parent-in (rows_of before) rows n.rows parent h.rows_counted h.row_words) place_same
  check-same malformed = refl
  check-same beyond = refl

-- ---- the first refusal, a line at a time
pub first-refused : (before : List Entry) (e : Entry) (rest : List Entry) (x : Refusal) → line_refusal before e ≡ some x → first_refusal before (e ∷ rest) ≡ some x
unfolding first_refusal or_else
first-refused before e rest x h = rw h

pub first-passed : (before : List Entry) (e : Entry) (rest : List Entry) → line_refusal before e ≡ none → first_refusal before (e ∷ rest) ≡ first_refusal (before ++ (e ∷ [])) rest
unfolding first_refusal or_else
first-passed before e rest h = rw h
