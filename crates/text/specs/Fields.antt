-- The fields of a line by place: those from a place on, the first of them, and what a reader of a line learns from it. After the
-- line there is no field, which reads as malformed, as an empty one does. Assumes nothing.
use Rattle.std.specs.Prelude.{◌≡◌, cond, List, [], ◌∷◌, ℕ, ℤ, suc, ◌+◌, ◌-◌, ◌≤◌, ◌<◌, leb, length, take, drop}
use Rattle.std.proofs.Common.{sym, ap, ◌∙◌, arith, length-drop, drop-drop, le-leb, leb-true, leb-false}
use Rattle.std.proofs.Math.Option.{Option, none}
use Rattle.std.proofs.Math.Seq.{take-length}
use Rattle.std.proofs.lemmas.Bool.{lt-leb}
use Rattle.rules.specs.Entries.{Entry, malformed}
use Rattle.rules.specs.Text.{parted, number, signed, after, end, next_field}
use Rattle.text.specs.declared.Field.{Field}
use Rattle.text.specs.Stretches.{tab, lead, stretch, lead-le, either, parted-last, parted-more, length-stretch, stretch-past}
use Rattle.text.specs.Numbers.{field_of, time_of, Within, within-number, within-time}

-- the field that starts at a place, and where the next one would
abbrev pub field_at : List ℕ → ℕ → List ℕ
field_at line at = stretch tab (drop at line)

abbrev pub next_at : List ℕ → ℕ → ℕ
next_at line at = at + length (field_at line at) + 1

-- the fields from a place on
unfoldable pub fields_from : List ℕ → ℕ → List (List ℕ)
fields_from line at = cond (leb at (length line)) (parted tab (drop at line)) []

pub record NumberAt (line : List ℕ) (at : ℕ) (r : Field ℕ) : Type 0 where
  pub value : r ≡ field_of (number (field_at line at)) (next_at line at)
  pub within : Within (length line) r

pub record TimeAt (line : List ℕ) (at : ℕ) (r : Field ℤ) : Type 0 where
  pub value : r ≡ time_of (signed (field_at line at)) (next_at line at)
  pub within : Within (length line) r

-- ---- laws
pub fields-none : (line : List ℕ) (at : ℕ) → length line < at → fields_from line at ≡ []
unfolding fields_from
fields-none line at h = rw (lt-leb at (length line) h)

pub fields-start : (line : List ℕ) → fields_from line 0 ≡ parted tab line
unfolding fields_from
fields-start line = rw (le-leb 0 (length line) (omega arith))

pub length-field_at : (line : List ℕ) (at : ℕ) → length (field_at line at) ≤ length line - at
length-field_at line at = omega (arith, length-stretch tab (drop at line), lead-le tab (drop at line), length-drop at line)

-- from a place in the line on, whose stretch ends at a tab or with the line
fields-more : (line : List ℕ) (at : ℕ) → next_at line at ≤ length line → parted tab (drop at line) ≡ field_at line at ∷ parted tab (drop (next_at line at) line)
fields-more line at h =
    let s = drop at line in
    let long = length-stretch tab s in
    let i : at + suc (lead tab s) ≡ next_at line at = omega arith in
    parted-more tab s (omega (arith, length-drop at line))
    ∙ ap (λ (rest : List ℕ). field_at line at ∷ parted tab rest) (drop-drop (suc (lead tab s)) at line ∙ ap (λ (k : ℕ). drop k line) i)

fields-last : (line : List ℕ) (at : ℕ) → at ≤ length line → length line < next_at line at → parted tab (drop at line) ≡ field_at line at ∷ []
fields-last line at h g =
    let s = drop at line in
    let whole : lead tab s ≡ length s = omega (arith, length-stretch tab s, lead-le tab s, length-drop at line) in
    parted-last tab s whole ∙ ap (λ (t : List ℕ). t ∷ []) (sym (ap (λ (k : ℕ). take k s) whole ∙ take-length s))

pub fields-some : (line : List ℕ) (at : ℕ) → at ≤ length line → fields_from line at ≡ field_at line at ∷ fields_from line (next_at line at)
unfolding fields_from
fields-some line at h =
    rw (le-leb at (length line) h)
    (either (leb (next_at line at) (length line))
    (λ e. rw e (fields-more line at (leb-true (next_at line at) (length line) e)))
    (λ e. rw e (fields-last line at h (leb-false (next_at line at) (length line) e))))

field-missing : {A : Type 0} (read : List ℕ → Option A) (next : A → List (List ℕ) → Entry) (line : List ℕ) (at : ℕ) → length line < at → read [] ≡ none
    → next_field read next (fields_from line at) ≡ after (read (field_at line at)) next (fields_from line (next_at line at))
field-missing read next line at h e = rw (fields-none line at h, ← stretch-past tab line at (omega arith), e)

-- a reader of a field that takes no empty one: the field at the place, or malformed where there is none
pub field-read : {A : Type 0} (read : List ℕ → Option A) (next : A → List (List ℕ) → Entry) (line : List ℕ) (at : ℕ) → read [] ≡ none
    → next_field read next (fields_from line at) ≡ after (read (field_at line at)) next (fields_from line (next_at line at))
field-read read next line at e =
    either (leb at (length line))
    (λ t. rw (fields-some line at (leb-true at (length line) t)))
    (λ f. field-missing read next line at (leb-false at (length line) f) e)

-- no field is left just past the last
pub fields-end : (e : Entry) (line : List ℕ) (at : ℕ) → length line < at → end e (fields_from line at) ≡ e
fields-end e line at h = rw (fields-none line at h)

pub fields-over : (e : Entry) (line : List ℕ) (at : ℕ) → at ≤ length line → end e (fields_from line at) ≡ malformed
fields-over e line at h = rw (fields-some line at h)

-- what the readers at a place answer
pub number_is : (line part : List ℕ) (at : ℕ) (r : Field ℕ) → part ≡ field_at line at → r ≡ field_of (number part) (at + length part + 1) → NumberAt line at r
number_is line part at r e g =
    record {
      value = rw e at g;
      within = rw g (within-number part at (length line) (rw e (length-field_at line at)));
    }

pub time-is : (line part : List ℕ) (at : ℕ) (r : Field ℤ) → part ≡ field_at line at → r ≡ time_of (signed part) (at + length part + 1) → TimeAt line at r
time-is line part at r e g =
    record {
      value = rw e at g;
      within = rw g (within-time part at (length line) (rw e (length-field_at line at)));
    }

pub next_fits : (line part : List ℕ) (at : ℕ) → at ≤ length line + 2 → part ≡ field_at line at → at + length part + 1 ≤ length line + 3
next_fits line part at h e = rw e (omega (arith, length-field_at line at))
