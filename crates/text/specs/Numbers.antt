-- What the number readers answer: the number of a part, capped above every range. Assumes nothing.
use Rattle.std.specs.Prelude.{◌≡◌, refl, Bool, true, false, cond, List, [], ◌∷◌, ℕ, zero, suc, ◌+◌, ◌*◌, ◌-◌, ◌≤◌, ◌<◌, ◌^◌, min, eqb, leb, ℤ, pos, negsuc, neg_ℤ, ◌-ℤ◌, length, get_or, take, drop}
use Rattle.std.proofs.Common.{ap, arith, add-one, SFits, to_z, of_z, to_z-of_z, length-drop, drop_of_length-le, drop-cons, take_all, le-leb, leb-true, leb-false, ne_eqb}
use Rattle.std.proofs.lemmas.Bool.{false≢true, lt-leb}
use Rattle.std.proofs.Math.Option.{Option, none, some}
use Rattle.std.proofs.Math.IntN.{+ℤ_idl}
use Rattle.std.specs.Int.Signed.{mag}
use Rattle.std.specs.Int.{w64}
use Rattle.std.proofs.Math.Facts.{to_z_pos}
use Rattle.rules.specs.Text.{is_digit, digit, more_digits, number, positive, negative, signed}
use Rattle.text.specs.declared.Field.{Field}
use Rattle.text.specs.declared.Field.TheVariants.{Number, Bad}
use Rattle.text.specs.Stretches.{either, absurd}

-- above every range
abbrev pub cap : ℕ
cap = 10_000_000_000_000

-- with one digit more, or the cap
abbrev pub grown : (n b : ℕ) → ℕ
grown n b = min (10 * n + digit b) cap

abbrev pub field_of : Option ℕ → (next : ℕ) → Field ℕ
field_of none next = Bad
field_of (some n) next = Number (min n cap) next

-- a time keeps its sign
abbrev pub capped_time : ℤ → ℤ
capped_time (pos n) = pos (min n cap)
capped_time (negsuc n) = neg_ℤ (pos (min (suc n) cap))

abbrev pub time_of : Option ℤ → (next : ℕ) → Field ℤ
time_of none next = Bad
time_of (some z) next = Number (capped_time z) next

-- a field that was read is at most the cap
abbrev pub Small : Field ℕ → Type 0
Small (Number n next) = n ≤ cap
Small Bad = Unit {0}

abbrev pub kept : Field ℕ → Field ℤ
kept (Number n next) = Number (pos n) next
kept Bad = Bad

-- `-0` is malformed
abbrev pub negated : Field ℕ → Field ℤ
negated (Number n next) = cond (eqb n 0) Bad (Number (neg_ℤ (pos n)) next)
negated Bad = Bad

-- where the next field starts is at most one past the line
abbrev pub Within : {N : Type 0} → (long : ℕ) → Field N → Type 0
Within long (Number n next) = next ≤ long + 1
Within long Bad = Unit {0}

-- ---- laws
pub small-field : (o : Option ℕ) (next : ℕ) → Small (field_of o next)
small-field none next = tt
small-field (some n) next = omega arith

-- a number past the cap reads as the cap, whatever digits follow
pub digits-capped : (m n next : ℕ) (s : List ℕ) → min m cap ≡ min n cap → field_of (more_digits m s) next ≡ field_of (more_digits n s) next
unfolding more_digits
digits-capped m n next [] h = ap (λ (k : ℕ). Number k next) h
digits-capped m n next (b ∷ s) h = by (is_digit 48 b) (digits-capped (10 * m + digit b) (10 * n + digit b) next s (omega arith))
  where
    by : (t : Bool) → field_of (more_digits (10 * m + digit b) s) next ≡ field_of (more_digits (10 * n + digit b) s) next
        → field_of (cond t (more_digits (10 * m + digit b) s) none) next ≡ field_of (cond t (more_digits (10 * n + digit b) s) none) next
    by true same = same
    by false same = refl

-- one digit more, and a byte that is none
pub digits-next : (n next b : ℕ) (s : List ℕ) → is_digit 48 b ≡ true → field_of (more_digits n (b ∷ s)) next ≡ field_of (more_digits (grown n b) s) next
unfolding more_digits
digits-next n next b s e = rw e (digits-capped (10 * n + digit b) (grown n b) next s (omega arith))

pub digits-stop : (n next b : ℕ) (s : List ℕ) → is_digit 48 b ≡ false → field_of (more_digits n (b ∷ s)) next ≡ Bad
unfolding more_digits
digits-stop n next b s e = rw e

pub digits-end : (n next : ℕ) → n ≤ cap → field_of (more_digits n []) next ≡ Number n next
unfolding more_digits
digits-end n next h = ap (λ (k : ℕ). Number k next) (omega arith)

-- what a number is by its first byte
pub number-empty : (s : List ℕ) → length s ≡ 0 → number s ≡ none
unfolding number
number-empty [] h = refl
number-empty (b ∷ s) h = absurd (omega arith)

from_nothing : (b : ℕ) → 10 * 0 + digit b ≡ digit b
from_nothing b = omega arith

digits-first : (b : ℕ) (s : List ℕ) → more_digits 0 (b ∷ s) ≡ cond (is_digit 48 b) (more_digits (digit b) s) none
unfolding more_digits
digits-first b s = rw (from_nothing b)

pub number-single : (s : List ℕ) → length s ≡ 1 → number s ≡ more_digits 0 s
unfolding number more_digits
number-single [] h = absurd (omega arith)
number-single (b ∷ []) h = rw (from_nothing b)
number-single (b ∷ c ∷ s) h = absurd (omega arith)

pub number-zeros : (s : List ℕ) → 1 < length s → get_or s 0 0 ≡ 48 → number s ≡ none
unfolding number
number-zeros [] h z = absurd (omega arith)
number-zeros (b ∷ []) h z = absurd (omega arith)
number-zeros (b ∷ c ∷ s) h z = rw z

first-digit : (b : ℕ) → (b ≡ 48 → ⊥) → is_digit 48 b ≡ is_digit 49 b
first-digit b z =
    either (leb 49 b)
    (λ e. rw (e, le-leb 48 b (omega (arith, leb-true))))
    (λ e. rw (e, lt-leb 48 b (omega (arith, leb-false))))

pub number_digits : (s : List ℕ) → 1 < length s → (get_or s 0 0 ≡ 48 → ⊥) → number s ≡ more_digits 0 s
unfolding number
number_digits [] h z = absurd (omega arith)
number_digits (b ∷ []) h z = absurd (omega arith)
number_digits (b ∷ c ∷ s) h z = rw (digits-first b (c ∷ s), first-digit b z)

-- what does not begin with 0 is what its digits state
pub number-plain : (s : List ℕ) → 0 < length s → (get_or s 0 0 ≡ 48 → ⊥) → number s ≡ more_digits 0 s
number-plain [] h z = absurd (omega arith)
number-plain (b ∷ []) h z = number-single (b ∷ []) refl
number-plain (b ∷ c ∷ s) h z = number_digits (b ∷ c ∷ s) (omega arith) z

-- a required time by its first byte
pub signed-empty : (s : List ℕ) → length s ≡ 0 → signed s ≡ none
unfolding signed
signed-empty [] h = refl
signed-empty (b ∷ s) h = absurd (omega arith)

negative-field : (o : Option ℕ) (next : ℕ) → time_of (negative o) next ≡ negated (field_of o next)
negative-field none next = refl
negative-field (some zero) next = refl
negative-field (some (suc n)) next = rw (ne_eqb (min (suc n) cap) 0 (λ e. omega arith))

pub signed-minus : (s : List ℕ) (next : ℕ) → 0 < length s → get_or s 0 0 ≡ 45 → time_of (signed s) next ≡ negated (field_of (number (drop 1 s)) next)
unfolding signed
signed-minus [] next h e = absurd (omega arith)
signed-minus (b ∷ s) next h e = rw e (negative-field (number s) next)

positive-field : (o : Option ℕ) (next : ℕ) → time_of (positive o) next ≡ kept (field_of o next)
positive-field none next = refl
positive-field (some n) next = refl

pub signed-plain : (s : List ℕ) (next : ℕ) → 0 < length s → (get_or s 0 0 ≡ 45 → ⊥) → time_of (signed s) next ≡ kept (field_of (number s) next)
unfolding signed
signed-plain [] next h e = absurd (omega arith)
signed-plain (b ∷ s) next h e = rw (ne_eqb b 45 e) (positive-field (number (b ∷ s)) next)

-- ---- the digits from a place on
pub digit-bounds : (b : ℕ) → is_digit 48 b ≡ true → (48 ≤ b) × (b ≤ 57)
digit-bounds b e =
    either (leb 48 b)
    (λ f. (omega (arith, leb-true), leb-true b 57 (rw f at e)))
    (λ f. absurd (false≢true (rw f at e)))

pub digits-past : (n next : ℕ) (s : List ℕ) (i : ℕ) → i < length s → is_digit 48 (get_or s i 0) ≡ true → field_of (more_digits n (drop i s)) next ≡ field_of (more_digits (grown n (get_or s i 0)) (drop (i + 1) s)) next
digits-past n next s i h e = rw (drop-cons s i 0 h, add-one i) (digits-next n next (get_or s i 0) (drop (suc i) s) e)

pub digits-none : (n next : ℕ) (s : List ℕ) (i : ℕ) → i < length s → is_digit 48 (get_or s i 0) ≡ false → field_of (more_digits n (drop i s)) next ≡ Bad
digits-none n next s i h e = rw (drop-cons s i 0 h) (digits-stop n next (get_or s i 0) (drop (suc i) s) e)

pub digits-done : (n next : ℕ) (s : List ℕ) (i : ℕ) → n ≤ cap → length s ≤ i → field_of (more_digits n (drop i s)) next ≡ Number n next
digits-done n next s i h g = rw (drop_of_length-le s g) (digits-end n next h)

-- ---- what was read, as a time
pub small_is : (f : Field ℕ) (n next : ℕ) → f ≡ Number n next → Small f → n ≤ cap
small_is f n next e h = rw e at h

-- a signed local holds bits: what is read back from them is the number, since it fits
pub bits_back : (z : ℤ) → mag z < 2 ^ 63 → to_z w64 (of_z w64 z) ≡ z
bits_back z h = to_z-of_z {w = w64} (record { sfits = h })

pub kept-is : (f : Field ℕ) (n next : ℕ) → f ≡ Number n next → n ≤ cap → Number (to_z w64 n) next ≡ kept f
kept-is f n next e h = rw (e, to_z_pos w64 {n = n} (omega arith))

minus : (n : ℕ) → pos 0 -ℤ pos n ≡ neg_ℤ (pos n)
minus n = +ℤ_idl (neg_ℤ (pos n))

pub mag-minus : (n : ℕ) → mag (neg_ℤ (pos n)) ≤ n
mag-minus zero = omega arith
mag-minus (suc n) = omega arith

pub minus-fits : (n : ℕ) → n ≤ cap → SFits w64 (pos 0 -ℤ to_z w64 n)
minus-fits n h = rw (to_z_pos w64 {n = n} (omega arith), minus n) (record { sfits = omega (arith, mag-minus n) })

pub negated-is : (f : Field ℕ) (n next : ℕ) → f ≡ Number n next → n ≤ cap → (n ≡ 0 → ⊥) → Number (to_z w64 (of_z w64 (pos 0 -ℤ to_z w64 n))) next ≡ negated f
negated-is f n next e h z = rw (e, to_z_pos w64 {n = n} (omega arith), minus n, bits_back (neg_ℤ (pos n)) (omega (arith, mag-minus n)), ne_eqb n 0 z)

-- ---- a field that reads as a number is not empty, so it stands in the line
pub within-number : (part : List ℕ) (at long : ℕ) → length part ≤ long - at → Within long (field_of (number part) (at + length part + 1))
unfolding number
within-number [] at long g = tt
within-number (b ∷ s) at long g = by (number (b ∷ s))
  where
    by : (o : Option ℕ) → Within long (field_of o (at + length (b ∷ s) + 1))
    by none = tt
    by (some n) = omega arith

pub within-time : (part : List ℕ) (at long : ℕ) → length part ≤ long - at → Within long (time_of (signed part) (at + length part + 1))
unfolding signed
within-time [] at long g = tt
within-time (b ∷ s) at long g = by (signed (b ∷ s))
  where
    by : (o : Option ℤ) → Within long (time_of o (at + length (b ∷ s) + 1))
    by none = tt
    by (some n) = omega arith

-- ---- a time from what a number reader answered
pub small-made : (o : Option ℕ) (next : ℕ) (f : Field ℕ) → f ≡ field_of o next → Small f
small-made o next f e = rw e (small-field o next)

-- what is after the minus, as a slice of the part
pub signed-rest : (s : List ℕ) (next : ℕ) → 0 < length s → get_or s 0 0 ≡ 45 → time_of (signed s) next ≡ negated (field_of (number (take (length s - 1) (drop 1 s))) next)
signed-rest s next h m =
    let whole : take (length s - 1) (drop 1 s) ≡ drop 1 s = take_all (length s - 1) (drop 1 s) (omega (arith, length-drop 1 s)) in
    rw whole (signed-minus s next h m)

pub minus-made : (s : List ℕ) (next : ℕ) (f : Field ℕ) (r : Field ℤ) → 0 < length s → get_or s 0 0 ≡ 45
    → f ≡ field_of (number (take (length s - 1) (drop 1 s))) next → r ≡ negated f → r ≡ time_of (signed s) next
minus-made s next f r h m e g = rw (signed-rest s next h m, ← e) g

pub plain-made : (s : List ℕ) (next : ℕ) (f : Field ℕ) (r : Field ℤ) → 0 < length s → (get_or s 0 0 ≡ 45 → ⊥)
    → f ≡ field_of (number s) next → r ≡ kept f → r ≡ time_of (signed s) next
plain-made s next f r h m e g = rw (signed-plain s next h m, ← e) g
