-- What a line reader has learnt, field by field: E is the entry of the line, and `next` what is done with a field's number and the
-- fields after it. Then the entry of each kind of line, and the line that states it. Assumes nothing.
use Rattle.std.specs.Prelude.{◌≡◌, refl, List, [], ◌∷◌, ℕ, suc, ◌+◌, ◌≤◌, ◌<◌, ◌^◌, min, ℤ, pos, negsuc, length, Result, Ok, Err}
use Rattle.std.proofs.Common.{sym, ap, ◌∙◌, arith, to_z, of_z}
use Rattle.std.proofs.Math.Option.{Option, none, some}
use Rattle.std.specs.Int.Signed.{mag}
use borrow.Author.Tests.{ne_eqb}
use Rattle.std.specs.Int.{w64}
use Rattle.rules.specs.declared.Pin.{Pin}
use Rattle.rules.specs.declared.Refusal.TheVariants.{Form}
use Rattle.rules.specs.Entries.{Entry, type, driver, point, sink, malformed}
use Rattle.rules.specs.Text.{parted, number, signed, after, end, next_field, type_line, driver_line, point_line, sink_line, lettered, line_of}
use Rattle.text.specs.declared.Field.{Field}
use Rattle.text.specs.declared.Field.TheVariants.{Number, Bad}
use Rattle.text.specs.Stretches.{tab, absurd}
use Rattle.text.specs.Numbers.{cap, capped_time, field_of, time_of, number-empty, signed-empty, mag-minus, bits_back}
use Rattle.text.specs.Fields.{field_at, next_at, fields_from, NumberAt, TimeAt, field-read, fields-start, fields-some, fields-end, fields-over}
use Rattle.repeaters.specs.declared.Buffer.{Buffer}
use Rattle.repeaters.specs.Repeaters.{buffer_of}
use Rattle.checks.specs.declared.Wire.{Wire}
use Rattle.checks.specs.declared.Line.{Line}
use Rattle.checks.specs.declared.Line.TheVariants.{Repeater as TypeLine, Driver as DriverLine, Point as PointLine, Sink as SinkLine}
use Rattle.rules.specs.declared.Refusal.{Refusal}
use Rattle.entries.specs.Lines.{word, wire_of, pin_of, capped, line_for, letter_of}

-- ---- one field
-- a malformed field, or one that is missing
pub read-bad : (E : Entry) (next : ℕ → List (List ℕ) → Entry) (line : List ℕ) (at : ℕ) (r : Field ℕ)
    → E ≡ next_field number next (fields_from line at) → NumberAt line at r → r ≡ Bad → E ≡ malformed
read-bad E next line at r e h b = e ∙ field-read number next line at (number-empty [] refl) ∙ by (number (field_at line at)) (sym h.value ∙ b)
  where
    by : (o : Option ℕ) → field_of o (next_at line at) ≡ Bad → after o next (fields_from line (next_at line at)) ≡ malformed
    by none f = refl
    by (some m) f = let z : ◌≡◌ {A = ℕ} 0 1 = cc in absurd (omega arith)

pub read-bad-time : (E : Entry) (next : ℤ → List (List ℕ) → Entry) (line : List ℕ) (at : ℕ) (r : Field ℤ)
    → E ≡ next_field signed next (fields_from line at) → TimeAt line at r → r ≡ Bad → E ≡ malformed
read-bad-time E next line at r e h b = e ∙ field-read signed next line at (signed-empty [] refl) ∙ by (signed (field_at line at)) (sym h.value ∙ b)
  where
    by : (o : Option ℤ) → time_of o (next_at line at) ≡ Bad → after o next (fields_from line (next_at line at)) ≡ malformed
    by none f = refl
    by (some m) f = let z : ◌≡◌ {A = ℕ} 0 1 = cc in absurd (omega arith)

-- a number stands in the line
pub inside : (line : List ℕ) (at : ℕ) (r : Field ℕ) (n to : ℕ) → NumberAt line at r → r ≡ Number n to → to ≤ length line + 1
inside line at r n to h b = rw b at h.within

-- what was read is the field's number, cut, and the fields after it are still to read
pub read_number : (E : Entry) (next : ℕ → List (List ℕ) → Entry) (line : List ℕ) (at : ℕ) (r : Field ℕ) (n to : ℕ)
    → E ≡ next_field number next (fields_from line at) → NumberAt line at r → r ≡ Number n to → (m : ℕ) × (n ≡ min m cap) × (E ≡ next m (fields_from line to))
read_number E next line at r n to e h b = by (number (field_at line at)) (sym h.value ∙ b) (e ∙ field-read number next line at (number-empty [] refl))
  where
    by : (o : Option ℕ) → field_of o (next_at line at) ≡ Number n to → E ≡ after o next (fields_from line (next_at line at))
        → (m : ℕ) × (n ≡ min m cap) × (E ≡ next m (fields_from line to))
    by none f g = let z : ◌≡◌ {A = ℕ} 0 1 = cc in absurd (omega arith)
    by (some m) f g =
        let i : next_at line at ≡ to = cc in
        (m, cc, g ∙ ap (λ (k : ℕ). next m (fields_from line k)) i)

pub read-time : (E : Entry) (next : ℤ → List (List ℕ) → Entry) (line : List ℕ) (at : ℕ) (r : Field ℤ) (n : ℤ) (to : ℕ)
    → E ≡ next_field signed next (fields_from line at) → TimeAt line at r → r ≡ Number n to → (m : ℤ) × (n ≡ capped_time m) × (E ≡ next m (fields_from line to))
read-time E next line at r n to e h b = by (signed (field_at line at)) (sym h.value ∙ b) (e ∙ field-read signed next line at (signed-empty [] refl))
  where
    by : (o : Option ℤ) → time_of o (next_at line at) ≡ Number n to → E ≡ after o next (fields_from line (next_at line at))
        → (m : ℤ) × (n ≡ capped_time m) × (E ≡ next m (fields_from line to))
    by none f g = let z : ◌≡◌ {A = ℕ} 0 1 = cc in absurd (omega arith)
    by (some m) f g =
        let i : next_at line at ≡ to = cc in
        (m, cc, g ∙ ap (λ (k : ℕ). next m (fields_from line k)) i)

-- a field more, and none
pub read-over : (E e : Entry) (line : List ℕ) (at : ℕ) → E ≡ end e (fields_from line at) → at ≤ length line → E ≡ malformed
read-over E e line at g h = g ∙ fields-over e line at h

pub read-end : (E e : Entry) (line : List ℕ) (at : ℕ) → E ≡ end e (fields_from line at) → length line < at → E ≡ e
read-end E e line at g h = g ∙ fields-end e line at h

-- ---- what is done after each field of a line
abbrev pub type₃ : ℕ → ℕ → ℕ → List (List ℕ) → Entry
type₃ input resistance own = end (type input resistance own)

abbrev pub type₂ : ℕ → ℕ → List (List ℕ) → Entry
type₂ input resistance = next_field number (type₃ input resistance)

abbrev pub type₁ : ℕ → List (List ℕ) → Entry
type₁ input = next_field number (type₂ input)

abbrev pub driver₁ : ℕ → List (List ℕ) → Entry
driver₁ resistance = end (driver resistance)

-- the wire of a row, and then `next`
abbrev pub Rest : Type 0
Rest = (parent resistance capacitance site : ℕ) → List (List ℕ) → Entry

abbrev pub wire₃ : Rest → ℕ → ℕ → ℕ → List (List ℕ) → Entry
wire₃ next parent resistance capacitance = next_field number (next parent resistance capacitance)

abbrev pub wire₂ : Rest → ℕ → ℕ → List (List ℕ) → Entry
wire₂ next parent resistance = next_field number (wire₃ next parent resistance)

abbrev pub wire₁ : Rest → ℕ → List (List ℕ) → Entry
wire₁ next parent = next_field number (wire₂ next parent)

abbrev pub point₄ : Rest
point₄ parent resistance capacitance site = end (point parent resistance capacitance site)

abbrev pub sink₆ : (parent resistance capacitance site pin : ℕ) → ℤ → List (List ℕ) → Entry
sink₆ parent resistance capacitance site pin due = end (sink parent resistance capacitance site pin due)

abbrev pub sink₅ : (parent resistance capacitance site pin : ℕ) → List (List ℕ) → Entry
sink₅ parent resistance capacitance site pin = next_field signed (sink₆ parent resistance capacitance site pin)

abbrev pub sink₄ : Rest
sink₄ parent resistance capacitance site = next_field number (sink₅ parent resistance capacitance site)

pub type-is : (fields : List (List ℕ)) → type_line fields ≡ next_field number type₁ fields
unfolding type_line
type-is fields = refl

pub driver_is : (fields : List (List ℕ)) → driver_line fields ≡ next_field number driver₁ fields
unfolding driver_line
driver_is fields = refl

pub point-is : (fields : List (List ℕ)) → point_line fields ≡ next_field number (wire₁ point₄) fields
unfolding point_line
point-is fields = refl

pub sink-is : (fields : List (List ℕ)) → sink_line fields ≡ next_field number (wire₁ sink₄) fields
unfolding sink_line
sink-is fields = refl

-- ---- the line that states the entry
pub bad-made : (place : ℕ) (E : Entry) → E ≡ malformed → Err (Form place) ≡ line_for place (capped E)
bad-made place E e = rw e

word_cut : (n m : ℕ) → n ≡ min m cap → word n ≡ word m
word_cut n m e = omega arith

pub type-made : (place : ℕ) (E : Entry) (a b c n₁ n₂ n₃ : ℕ) (r : Buffer) → E ≡ type a b c → n₁ ≡ min a cap → n₂ ≡ min b cap → n₃ ≡ min c cap
    → r ≡ buffer_of (word n₁) (word n₂) (word n₃) → Ok (TypeLine r) ≡ line_for place (capped E)
type-made place E a b c n₁ n₂ n₃ r e p q s g = rw (e, g, word_cut n₁ a p, word_cut n₂ b q, word_cut n₃ c s)

pub driver-made : (place : ℕ) (E : Entry) (a n w : ℕ) → E ≡ driver a → n ≡ min a cap → w ≡ word n → Ok (DriverLine (record { 0 = w })) ≡ line_for place (capped E)
driver-made place E a n w e p g = rw (e, g, word_cut n a p)

-- the wire of what was read is the wire of the fields
pub wire-made : (a b c d n₁ n₂ n₃ n₄ : ℕ) (w : Wire) → n₁ ≡ min a cap → n₂ ≡ min b cap → n₃ ≡ min c cap → n₄ ≡ min d cap
    → w ≡ wire_of (word n₁) (word n₂) (word n₃) (word n₄) → w ≡ wire_of (word a) (word b) (word c) (word d)
wire-made a b c d n₁ n₂ n₃ n₄ w p q s t g = rw (g, word_cut n₁ a p, word_cut n₂ b q, word_cut n₃ c s, word_cut n₄ d t)

pub point-made : (place : ℕ) (E : Entry) (a b c d : ℕ) (w : Wire) → E ≡ point a b c d → w ≡ wire_of (word a) (word b) (word c) (word d) → Ok (PointLine w) ≡ line_for place (capped E)
point-made place E a b c d w e g = rw (e, g)

cut_small : (z : ℤ) → mag (capped_time z) ≤ cap
cut_small (pos n) = omega arith
cut_small (negsuc n) = omega (arith, mag-minus (min (suc n) cap))

pub sink-made : (place : ℕ) (E : Entry) (a b c d f n : ℕ) (z y : ℤ) (w : Wire) (p : Pin) → E ≡ sink a b c d f z → w ≡ wire_of (word a) (word b) (word c) (word d)
    → n ≡ min f cap → y ≡ capped_time z → p ≡ pin_of (word n) (to_z w64 (of_z w64 y)) → Ok (SinkLine w p) ≡ line_for place (capped E)
sink-made place E a b c d f n z y w p e g h i j =
    let small : mag y < 2 ^ 63 = rw i (omega (arith, cut_small z)) in
    rw (e, g, j, word_cut n f h, bits_back y small, i)

-- ---- by the letter
lettered-first : (line first : List ℕ) → line_of (first ∷ fields_from line (0 + length first + 1)) ≡ lettered (letter_of first) (fields_from line 2)
unfolding line_of lettered
lettered-first line [] = refl
lettered-first line (b ∷ []) = refl
lettered-first line (b ∷ c ∷ s) = refl

-- the entry of a line is that of its letter
pub line-lettered : (line : List ℕ) → line_of (parted tab line) ≡ lettered (letter_of (field_at line 0)) (fields_from line 2)
line-lettered line =
    ap line_of (sym (fields-start line) ∙ fields-some line 0 (omega arith)) ∙ lettered-first line (field_at line 0)

module _ (place : ℕ) (line : List ℕ) (b : ℕ) (r : Result Line Refusal) (letter : b ≡ letter_of (field_at line 0)) where
  by-letter : (E : Entry) → lettered b (fields_from line 2) ≡ E → r ≡ line_for place (capped E) → r ≡ line_for place (capped (line_of (parted tab line)))
  by-letter E e g =
      g ∙ ap (λ (x : Entry). line_for place (capped x)) (sym (line-lettered line ∙ ap (λ (k : ℕ). lettered k (fields_from line 2)) (sym letter) ∙ e))

  pub read-type : b ≡ 84 → r ≡ line_for place (capped (type_line (fields_from line 2))) → r ≡ line_for place (capped (line_of (parted tab line)))
  unfolding lettered
  read-type e = by-letter (type_line (fields_from line 2)) (rw e)

  pub read-driver : b ≡ 68 → r ≡ line_for place (capped (driver_line (fields_from line 2))) → r ≡ line_for place (capped (line_of (parted tab line)))
  unfolding lettered
  read-driver e = by-letter (driver_line (fields_from line 2)) (rw e)

  pub read-point : b ≡ 87 → r ≡ line_for place (capped (point_line (fields_from line 2))) → r ≡ line_for place (capped (line_of (parted tab line)))
  unfolding lettered
  read-point e = by-letter (point_line (fields_from line 2)) (rw e)

  pub read-sink : b ≡ 83 → r ≡ line_for place (capped (sink_line (fields_from line 2))) → r ≡ line_for place (capped (line_of (parted tab line)))
  unfolding lettered
  read-sink e = by-letter (sink_line (fields_from line 2)) (rw e)

  pub read_none : (b ≡ 84 → ⊥) → (b ≡ 68 → ⊥) → (b ≡ 87 → ⊥) → (b ≡ 83 → ⊥) → r ≡ Err (Form place) → r ≡ line_for place (capped (line_of (parted tab line)))
  unfolding lettered
  read_none t d w s = by-letter malformed (rw (ne_eqb b 84 t, ne_eqb b 68 d, ne_eqb b 87 w, ne_eqb b 83 s))
