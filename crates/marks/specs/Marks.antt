-- What is true of the marks that words hold. Assumes nothing.
use Rattle.std.specs.Prelude.{◌≡◌, List, [], ◌∷◌, ℕ, zero, suc, ◌*◌, ◌/◌, ◌%◌, ◌^◌, ◌≤◌, ◌<◌, length, get_or, take}
use Rattle.std.proofs.Math.Path.{refl, fun_ext}
use Rattle.std.proofs.Common.{sym, ap, ◌∙◌, mod-lt, lt_of_lt_of_le, arith, length-take, pow_pos, pow_mono, get_or-take, take_all}
use Rattle.std.proofs.Math.Decide.{ℕ_discrete}
use Rattle.std.proofs.Math.Nat.{div-eq_of_lt}
use Rattle.std.specs.Int.Bits.{bit_or}
use Rattle.std.proofs.lemmas.Nat.{or_shr, or_mod}
use Rattle.std.proofs.Math.ListN.{get_or-eq_default}
use Rattle.rules.specs.Quantities.{placement_room, sites_room}
use Rattle.rules.specs.Placements.{Placement, mark_in, marks}
use Rattle.laws.specs.Joining.{with_mark, join_marks, with-mark-here, with-mark-there}

-- how many marks a word has, and the first number that four bits do not hold
abbrev pub marks_in_word : ℕ
marks_in_word = 16

abbrev pub marks_end : ℕ
marks_end = 16

-- what has m at j and agrees with p elsewhere is p with m at j
pub with-mark-unique : (j m : ℕ) (p q : Placement) → q j ≡ m → ((s : ℕ) → ¬ (s ≡ j) → q s ≡ p s) → q ≡ with_mark j m p
with-mark-unique j m p q there else = fun_ext (λ s. by s (ℕ_discrete s j))
  where
    by : (s : ℕ) → Dec (s ≡ j) → q s ≡ with_mark j m p s
    by s (yes e) = rw e (there ∙ sym (with-mark-here j m p))
    by s (no f) = else s f ∙ sym (with-mark-there j m p s f)

-- ---- the marks of a word
pub mark_in-size : (word i : ℕ) → mark_in word i < marks_end
unfolding mark_in
mark_in-size word i = mod-lt (word / 2 ^ (4 * i)) (pow_pos 4)

-- past the last place of a word there is none
pub mark_in-beyond : (word i : ℕ) → word < 2 ^ 64 → marks_in_word ≤ i → mark_in word i ≡ 0
unfolding mark_in
mark_in-beyond word i h l = rw (div-eq_of_lt {n = word} {m = 2 ^ (4 * i)} (lt_of_lt_of_le h (pow_mono {i = 64} {j = 4 * i} (omega arith))))

mark_in-zero : (i : ℕ) → mark_in 0 i ≡ 0
unfolding mark_in
mark_in-zero i = rw (div-eq_of_lt {n = 0} {m = 2 ^ (4 * i)} (pow_pos (4 * i)))

pub mark-or : (a b i : ℕ) → mark_in (bit_or a b) i ≡ bit_or (mark_in a i) (mark_in b i)
unfolding mark_in
mark-or a b i = ap (λ (x : ℕ). x % 2 ^ 4) (or_shr a b (4 * i)) ∙ or_mod (a / 2 ^ (4 * i)) (b / 2 ^ (4 * i)) 4

-- ---- the marks of a placement's words
-- of a site that a placement has room for, the mark is in one of the words as they stand
pub marks-in : (words : List ℕ) (j : ℕ) → j < sites_room → marks words j ≡ mark_in (get_or words (j / 16) 0) (j % 16)
unfolding marks
marks-in words j h = ap (λ (word : ℕ). mark_in word (j % 16)) (get_or-take placement_room words (j / 16) 0 (omega arith))

-- of four words, at every site
pub marks-whole : (words : List ℕ) (j : ℕ) → length words ≡ placement_room → marks words j ≡ mark_in (get_or words (j / 16) 0) (j % 16)
unfolding marks
marks-whole words j e = ap (λ (room : List ℕ). mark_in (get_or room (j / 16) 0) (j % 16)) (take_all placement_room words (omega arith))

-- past the last site there is none
pub marks-beyond : (words : List ℕ) (j : ℕ) → sites_room ≤ j → marks words j ≡ 0
unfolding marks
marks-beyond words j h = ap (λ (word : ℕ). mark_in word (j % 16)) (get_or-eq_default (take placement_room words) 0 {n = j / 16} (omega (arith, length-take placement_room words))) ∙ mark_in-zero (j % 16)

zero_word : (n : ℕ) → ◌≡◌ {A = ℕ} (get_or (0 ∷ 0 ∷ 0 ∷ 0 ∷ []) n 0) 0
zero_word zero = refl
zero_word (suc zero) = refl
zero_word (suc (suc zero)) = refl
zero_word (suc (suc (suc zero))) = refl
zero_word (suc (suc (suc (suc n)))) = refl

-- four zero words mark no site
pub marks-zero : marks (0 ∷ 0 ∷ 0 ∷ 0 ∷ []) ≡ (λ j. 0)
unfolding marks
marks-zero = fun_ext (λ j. ap (λ (word : ℕ). mark_in word (j % 16)) (zero_word (j / 16)) ∙ mark_in-zero (j % 16))

-- ---- four words joined with four
abbrev pub or_words : List ℕ → List ℕ → List ℕ
or_words a b = bit_or (get_or a 0 0) (get_or b 0 0) ∷ bit_or (get_or a 1 0) (get_or b 1 0) ∷ bit_or (get_or a 2 0) (get_or b 2 0) ∷ bit_or (get_or a 3 0) (get_or b 3 0) ∷ []

module _ (a b : List ℕ) (a-four : length a ≡ placement_room) (b-four : length b ≡ placement_room) where
  or_word : (n : ℕ) → get_or (or_words a b) n 0 ≡ bit_or (get_or a n 0) (get_or b n 0)
  or_word zero = refl
  or_word (suc zero) = refl
  or_word (suc (suc zero)) = refl
  or_word (suc (suc (suc zero))) = refl
  or_word (suc (suc (suc (suc n)))) = rw (get_or-eq_default a 0 {n = suc (suc (suc (suc n)))} (omega arith), get_or-eq_default b 0 {n = suc (suc (suc (suc n)))} (omega arith))

  pub joined-marks : marks (or_words a b) ≡ join_marks (marks a) (marks b)
  unfolding join_marks
  joined-marks = fun_ext (λ j. marks-whole (or_words a b) j refl ∙ rw (or_word (j / 16), marks-whole a j a-four, marks-whole b j b-four) (mark-or (get_or a (j / 16) 0) (get_or b (j / 16) 0) (j % 16)))
