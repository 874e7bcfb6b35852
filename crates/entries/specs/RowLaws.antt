-- The words of a table's entry, where its line is accepted, are those that the line would store. Assumes nothing.
use Rattle.std.specs.Prelude.{◌≡◌, List, [], ◌∷◌, ℕ, zero, suc, ◌+◌, ◌*◌, ◌≤◌, ◌<◌, eqb, ℤ, pos, negsuc, length, take, get_or, Result, Ok}
use Rattle.std.proofs.Math.Path.{refl}
use Rattle.std.proofs.Common.{sym, ap, ◌∙◌, append-nil, arith, add-zero, eqb-true}
use Rattle.std.proofs.lemmas.Bool.{eqb-false}
use Rattle.rules.specs.Entries.{malformed}
use Rattle.rules.specs.Tables.{is_zero, row_by, row_entry, type_entry, words_a_type, words_a_row, row_parent, row_resistance, row_capacitance, row_site, row_pin}
use Rattle.text.specs.Stretches.{either, absurd}
use Rattle.repeaters.specs.declared.Buffer.{Buffer}
use Rattle.repeaters.specs.Repeaters.{buffer_of, buffer_at}
use Rattle.checks.specs.declared.Passed.{Passed}
use Rattle.checks.specs.declared.Line.{Line}
use Rattle.checks.specs.declared.Line.TheVariants.{Repeater as TypeLine}
use Rattle.entries.specs.Lines.{wire_of, pin_of, line_for}
use Rattle.checks.specs.Checks.{check_of, place_at}
use Rattle.entries.specs.Held.{Grown, with_row, counted_with, row_words_of, due_times_of, type_words_of}
use Rattle.entries.specs.Entries.{row_entry_of, row_check}
use Rattle.entries.specs.EntryLaws.{driver_parent, driver_capacitance, driver_site, driver_pin, driver-time, point_pin, point-time, other_row}
use Rattle.rules.specs.declared.Refusal.{Refusal}
use Rattle.entries.specs.Words.{one-read, three-read, six-read}

-- ---- decided
same_or : {P : Type 0} (a b : ℕ) → (a ≡ b → P) → ((a ≡ b → ⊥) → P) → P
same_or a b yes' no' = either (eqb a b) (λ t. yes' (eqb-true a b t)) (λ f. no' (eqb-false a b f))

zero_or : {P : Type 0} (z : ℤ) → (z ≡ pos 0 → P) → ((z ≡ pos 0 → ⊥) → P) → P
zero_or (pos zero) yes' no' = yes' refl
zero_or (pos (suc n)) yes' no' = no' (λ e. let w : suc n ≡ 0 = cc in omega arith)
zero_or (negsuc n) yes' no' = no' (λ e. let w : ◌≡◌ {A = ℕ} 0 1 = cc in omega arith)

-- ---- the words that a row's line stores
record Stated (n : Passed) (line : Result Line Refusal) (k p r c s pin : ℕ) (z : ℤ) : Type 0 where
  words : row_words_of line ≡ k ∷ p ∷ r ∷ c ∷ s ∷ pin ∷ []
  time : due_times_of line ≡ z ∷ []
  no_type : type_words_of line ≡ []
  one_row : (counted_with n line).rows ≡ n.rows + 1
  same_types : (counted_with n line).types ≡ n.types
  by_site : with_row n s ≡ counted_with n line

module _ (n : Passed) (place p r c s pin : ℕ) (z : ℤ) where
  driver-stated : (k : ℕ) → k ≡ 0 → p ≡ 0 → c ≡ 0 → s ≡ 0 → pin ≡ 0 → z ≡ pos 0 → Stated n (line_for place (row_by k p r c s pin z)) k p r c s pin z
  unfolding row_by is_zero wire_of
  driver-stated k a b d e f g = rw (a, b, d, e, f, g) (record { words = refl; time = refl; no_type = refl; one_row = refl; same_types = refl; by_site = refl })

  point-stated : (k : ℕ) → k ≡ 1 → pin ≡ 0 → z ≡ pos 0 → Stated n (line_for place (row_by k p r c s pin z)) k p r c s pin z
  unfolding row_by is_zero wire_of
  point-stated k a f g = rw (a, f, g) (record { words = refl; time = refl; no_type = refl; one_row = refl; same_types = refl; by_site = refl })

  sink-stated : (k : ℕ) → k ≡ 2 → Stated n (line_for place (row_by k p r c s pin z)) k p r c s pin z
  unfolding row_by is_zero wire_of pin_of
  sink-stated k a = rw a (record { words = refl; time = refl; no_type = refl; one_row = refl; same_types = refl; by_site = refl })

  row-stated : (k : ℕ) → (malformed ≡ row_by k p r c s pin z → ⊥) → Stated n (line_for place (row_by k p r c s pin z)) k p r c s pin z
  row-stated k good =
      same_or k 0
      (λ a. same_or p 0
      (λ b. same_or c 0
      (λ d. same_or s 0
      (λ e. same_or pin 0
      (λ f. zero_or z (driver-stated k a b d e f) (λ g. absurd (good (rw a (driver-time p r c s pin z b d e f g)))))
      (λ f. absurd (good (rw a (driver_pin p r c s pin z b d e f)))))
      (λ e. absurd (good (rw a (driver_site p r c s pin z b d e)))))
      (λ d. absurd (good (rw a (driver_capacitance p r c s pin z b d)))))
      (λ b. absurd (good (rw a (driver_parent p r c s pin z b)))))
      (λ a. same_or k 1
      (λ b. same_or pin 0
      (λ f. zero_or z (point-stated k b f) (λ g. absurd (good (rw b (point-time p r c s pin z f g)))))
      (λ f. absurd (good (rw b (point_pin p r c s pin z f)))))
      (λ b. same_or k 2 (sink-stated k) (λ d. absurd (good (other_row p r c s pin z k a b d)))))

-- ---- the areas as grown, since the words are there
not-malformed : (rows : List ℕ) (n : Passed) (line : Result Line Refusal) (r : Result (Unit {0}) Refusal) (place : ℕ) → line ≡ line_for place malformed → r ≡ check_of rows n line → r ≡ Ok tt → ⊥
not-malformed rows n line r place e f a =
    let g : r ≡ check_of rows n (line_for place malformed) = rw e at f in
    let w : ◌≡◌ {A = ℕ} 0 1 = cc in
    omega arith

pub row-grown : (types rows : List ℕ) (due : List ℤ) (n : Passed) (i place : ℕ) (line : Result Line Refusal) (r : Result (Unit {0}) Refusal) → n.rows ≡ i → line ≡ line_for place (row_entry_of rows due i)
    → r ≡ check_of rows n line → r ≡ Ok tt → words_a_row * i + words_a_row ≤ length rows → i < length due → Grown n line types types rows rows due due
row-grown types rows due n i place line r at line-is r-is a long timed =
    let k = get_or rows (words_a_row * i) 0 in
    let p = get_or rows (words_a_row * i + row_parent) 0 in
    let o = get_or rows (words_a_row * i + row_resistance) 0 in
    let c = get_or rows (words_a_row * i + row_capacitance) 0 in
    let s = get_or rows (words_a_row * i + row_site) 0 in
    let pin = get_or rows (words_a_row * i + row_pin) 0 in
    let z = get_or due i (pos 0) in
    let good : malformed ≡ row_by k p o c s pin z → ⊥ = λ m. not-malformed rows n line r place (line-is ∙ ap (line_for place) (sym m)) r-is a in
    let st : Stated n line k p o c s pin z = rw line-is (row-stated n place p o c s pin z k good) in
    record {
      types_grown = rw (st.same_types, st.no_type) (sym (append-nil (take (words_a_type * n.types) types)));
      rows_grown = rw (st.one_row, st.words, at) (six-read rows i long);
      due_grown = rw (st.one_row, st.time, at) (one-read due i (pos 0) timed);
    }

-- a row is counted, and by its site word
pub row-counted : (rows : List ℕ) (due : List ℤ) (n : Passed) (i : ℕ) (r : Result (Unit {0}) Refusal) → r ≡ row_check rows due n i → r ≡ Ok tt
    → ((counted_with n (line_for (place_at n) (row_entry_of rows due i))).rows ≡ n.rows + 1) × (with_row n (get_or rows (words_a_row * i + row_site) 0) ≡ counted_with n (line_for (place_at n) (row_entry_of rows due i)))
row-counted rows due n i r r-is a =
    let good : malformed ≡ row_entry_of rows due i → ⊥ = λ m. not-malformed rows n (line_for (place_at n) (row_entry_of rows due i)) r (place_at n) (ap (line_for (place_at n)) (sym m)) r-is a in
    let st = row-stated n (place_at n) (get_or rows (words_a_row * i + row_parent) 0) (get_or rows (words_a_row * i + row_resistance) 0) (get_or rows (words_a_row * i + row_capacitance) 0) (get_or rows (words_a_row * i + row_site) 0) (get_or rows (words_a_row * i + row_pin) 0) (get_or due i (pos 0)) (get_or rows (words_a_row * i) 0) good in
    (st.one_row, st.by_site)

pub type-grown : (types rows : List ℕ) (due : List ℤ) (n : Passed) (i : ℕ) (t : Buffer) → n.types ≡ i → t ≡ buffer_at types i → words_a_type * i + words_a_type ≤ length types
    → Grown n (Ok (TypeLine t)) types types rows rows due due
unfolding buffer_at buffer_of
type-grown types rows due n i t at e long =
    record {
      types_grown = rw (e, at) (three-read types i long);
      rows_grown = sym (append-nil (take (words_a_row * n.rows) rows));
      due_grown = sym (append-nil (take n.rows due));
    }

-- the line of a type and of a row is that of its entry
pub type-line-is : (types rows : List ℕ) (due : List ℤ) (i place : ℕ) (t : Buffer) → t ≡ buffer_at types i
    → Ok (TypeLine t) ≡ line_for place (type_entry (record { types = types; rows = rows; due = due }) i)
unfolding type_entry buffer_at
type-line-is types rows due i place t e = ap (λ (x : Buffer). Ok (TypeLine x)) e

pub row-entry-is : (types rows : List ℕ) (due : List ℤ) (i : ℕ) → row_entry_of rows due i ≡ row_entry (record { types = types; rows = rows; due = due }) i
unfolding row_entry
row-entry-is types rows due i = rw (add-zero (words_a_row * i))
