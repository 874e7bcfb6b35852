-- What shifts and masks do to each mark of a word, and a word stored to the marks of four. Assumes nothing.
use mathlib.Core.Path.{◌≡◌, sym, ap, ◌∙◌}
use mathlib.Core.List.{List}
use Prim.Native.Nat.{ℕ, ◌+◌, ◌*◌, ◌-◌, ◌/◌, ◌%◌, ◌^◌, ◌<◌}
use native.Mathlib.Decide.{dec_lt, ℕ_discrete}
use native.Mathlib.Nat.{mod-eq_of_lt, div-eq_of_lt, mul-mod_left, mul_assoc, lt_of_lt_of_le, lt_of_le_of_lt}
use native.Mathlib.Omega.{arith}
use lib.Bits.{bit_and, bit_or, bit_xor, and_mask, xor_shr, xor_mod, and_shr, and_mod, or_zero_l, or_zero_r, and_zero_r, xor_add_and, and_le_l}
use lib.Dec.{lit<}
use lib.ListN.{length, get_or, set, length-set}
use lib.Pow.{pow-add, pow_mono, shl-shr, shl_lt, ones_split, ones_lt, high, low}
use lib.Seq.{get_or-set_same, get_or-set_other}
use Rattle.rules.specs.Quantities.{placement_room, sites_room}
use Rattle.rules.specs.Placements.{mark_in, marks}
use Rattle.marks.specs.Marks.{marks_in_word, marks_end, with-mark-unique, mark_in-size, mark_in-beyond, mark-or, marks-whole}
use Rattle.laws.specs.Joining.{with_mark, with-mark-here, with-mark-there}

-- ---- and, not, mark by mark
pub mark-mask : (word i : ℕ) → bit_and (word / 2 ^ (4 * i)) 15 ≡ mark_in word i
unfolding mark_in
mark-mask word i = and_mask (word / 2 ^ (4 * i)) 4

mark-and : (a b i : ℕ) → mark_in (bit_and a b) i ≡ bit_and (mark_in a i) (mark_in b i)
unfolding mark_in
mark-and a b i = ap (λ (x : ℕ). x % 2 ^ 4) (and_shr a b (4 * i)) ∙ and_mod (a / 2 ^ (4 * i)) (b / 2 ^ (4 * i)) 4

mark-xor : (a b i : ℕ) → mark_in (bit_xor a b) i ≡ bit_xor (mark_in a i) (mark_in b i)
unfolding mark_in
mark-xor a b i = ap (λ (x : ℕ). x % 2 ^ 4) (xor_shr a b (4 * i)) ∙ xor_mod (a / 2 ^ (4 * i)) (b / 2 ^ (4 * i)) 4

-- every mark of the greatest word is 15
mark-ones : (k : ℕ) → k < marks_in_word → mark_in (2 ^ 64 - 1) k ≡ 15
unfolding mark_in
mark-ones k h =
    let j = 60 - 4 * k in
    let e : 64 ≡ (j + 4) + 4 * k = omega arith in
    let whole : 2 ^ 64 - 1 ≡ ((2 ^ j - 1) * 2 ^ 4 + (2 ^ 4 - 1)) * 2 ^ (4 * k) + (2 ^ (4 * k) - 1) = ap (λ (n : ℕ). 2 ^ n - 1) e ∙ ones_split (j + 4) (4 * k) ∙ ap (λ (n : ℕ). n * 2 ^ (4 * k) + (2 ^ (4 * k) - 1)) (ones_split j 4) in
    ap (λ (n : ℕ). n / 2 ^ (4 * k) % 2 ^ 4) whole ∙ ap (λ (n : ℕ). n % 2 ^ 4) (high ((2 ^ j - 1) * 2 ^ 4 + (2 ^ 4 - 1)) (4 * k) (ones_lt (4 * k))) ∙ low (2 ^ j - 1) 4 (ones_lt 4)

-- a word's complement is its exclusive or with the greatest word
not-xor : (word : ℕ) → word < 2 ^ 64 → (2 ^ 64 - 1) - word ≡ bit_xor word (2 ^ 64 - 1)
not-xor word h = omega (arith, xor_add_and word (2 ^ 64 - 1), and_mask word 64 ∙ mod-eq_of_lt h)

mark-not : (word k : ℕ) → word < 2 ^ 64 → k < marks_in_word → mark_in ((2 ^ 64 - 1) - word) k ≡ bit_xor (mark_in word k) 15
mark-not word k h l = ap (λ (n : ℕ). mark_in n k) (not-xor word h) ∙ mark-xor word (2 ^ 64 - 1) k ∙ ap (bit_xor (mark_in word k)) (mark-ones k l)

-- ---- a mark moved to place i
moved-there : (m i : ℕ) → m < marks_end → mark_in (m * 2 ^ (4 * i)) i ≡ m
unfolding mark_in
moved-there m i h = rw (shl-shr m (4 * i)) (mod-eq_of_lt h)

moved-above : (m i k : ℕ) → m < marks_end → i < k → mark_in (m * 2 ^ (4 * i)) k ≡ 0
unfolding mark_in
moved-above m i k h l = rw (div-eq_of_lt {n = m * 2 ^ (4 * i)} {m = 2 ^ (4 * k)} (lt_of_lt_of_le (shl_lt 4 (4 * i) h) (pow_mono (omega arith))))

moved-below : (m i k : ℕ) → k < i → mark_in (m * 2 ^ (4 * i)) k ≡ 0
unfolding mark_in
moved-below m i k l =
    let d = 4 * (i - k) - 4 in
    let e : 4 * i ≡ (d + 4) + 4 * k = omega arith in
    let whole : m * 2 ^ (4 * i) ≡ m * 2 ^ d * 2 ^ 4 * 2 ^ (4 * k) = rw (e, pow-add 2 (d + 4) (4 * k), pow-add 2 d 4) (sym (mul_assoc m (2 ^ d * 2 ^ 4) (2 ^ (4 * k))) ∙ ap (λ (x : ℕ). x * 2 ^ (4 * k)) (sym (mul_assoc m (2 ^ d) (2 ^ 4)))) in
    rw (whole, shl-shr (m * 2 ^ d * 2 ^ 4) (4 * k)) (mul-mod_left (m * 2 ^ d) (2 ^ 4))

moved-else : (m i k : ℕ) → m < marks_end → ¬ (k ≡ i) → mark_in (m * 2 ^ (4 * i)) k ≡ 0
moved-else m i k h n = by (dec_lt i k)
  where
    by : Dec (i < k) → mark_in (m * 2 ^ (4 * i)) k ≡ 0
    by (yes l) = moved-above m i k h l
    by (no f) = moved-below m i k (omega (arith, n, f))

moved-fits : (m i : ℕ) → i < marks_in_word → m < marks_end → m * 2 ^ (4 * i) < 2 ^ 64
moved-fits m i h l = lt_of_lt_of_le (shl_lt {a = m} 4 (4 * i) l) (pow_mono {i = 4 + 4 * i} {j = 64} (omega arith))

-- ---- a word with m at place i: the mark there is masked away, and m joined
abbrev pub masked : (word i : ℕ) → ℕ
masked word i = bit_and word ((2 ^ 64 - 1) - 15 * 2 ^ (4 * i))

module _ (word i : ℕ) (word_fits : word < 2 ^ 64) (i-fits : i < marks_in_word) where
  masked-there : mark_in (masked word i) i ≡ 0
  masked-there =
      rw (mark-and word ((2 ^ 64 - 1) - 15 * 2 ^ (4 * i)) i, mark-not (15 * 2 ^ (4 * i)) i (moved-fits 15 i i-fits (lit< tt)) i-fits, moved-there 15 i (lit< tt))
      (and_zero_r (mark_in word i))

  masked-fits : masked word i < 2 ^ 64
  masked-fits = lt_of_le_of_lt (and_le_l word ((2 ^ 64 - 1) - 15 * 2 ^ (4 * i))) word_fits

  masked-else : (k : ℕ) → ¬ (k ≡ i) → mark_in (masked word i) k ≡ mark_in word k
  masked-else k n = by (dec_lt k marks_in_word)
    where
      by : Dec (k < marks_in_word) → mark_in (masked word i) k ≡ mark_in word k
      by (yes l) =
          rw (mark-and word ((2 ^ 64 - 1) - 15 * 2 ^ (4 * i)) k, mark-not (15 * 2 ^ (4 * i)) k (moved-fits 15 i i-fits (lit< tt)) l, moved-else 15 i k (lit< tt) n)
          (and_mask (mark_in word k) 4 ∙ mod-eq_of_lt (mark_in-size word k))
      by (no f) = mark_in-beyond (masked word i) k masked-fits (omega (arith, f)) ∙ sym (mark_in-beyond word k word_fits (omega (arith, f)))

  pub with-marks : (m : ℕ) → m < marks_end → mark_in (bit_or (masked word i) (m * 2 ^ (4 * i))) ≡ with_mark i m (mark_in word)
  with-marks m m-fits =
      with-mark-unique i m (mark_in word) (mark_in (bit_or (masked word i) (m * 2 ^ (4 * i))))
      (mark-or (masked word i) (m * 2 ^ (4 * i)) i ∙ rw (masked-there, moved-there m i m-fits) (or_zero_l m))
      (λ k n. mark-or (masked word i) (m * 2 ^ (4 * i)) k ∙ rw (masked-else k n, moved-else m i k m-fits n) (or_zero_r (mark_in word k)))

-- ---- four words, one of them stored
module _ (words : List ℕ) (j m word : ℕ) (four : length words ≡ placement_room) (j-fits : j < sites_room) (with-m : mark_in word ≡ with_mark (j % 16) m (mark_in (get_or words (j / 16) 0))) where
  stored-four : length (set words (j / 16) word) ≡ placement_room
  stored-four = simp length-set four

  stored-word : get_or (set words (j / 16) word) (j / 16) 0 ≡ word
  stored-word = get_or-set_same words (j / 16) word 0 (omega arith)

  stored_there : marks (set words (j / 16) word) j ≡ m
  stored_there = marks-whole (set words (j / 16) word) j stored-four ∙ rw (stored-word, with-m) (with-mark-here (j % 16) m (mark_in (get_or words (j / 16) 0)))

  stored-else : (s : ℕ) → ¬ (s ≡ j) → marks (set words (j / 16) word) s ≡ marks words s
  stored-else s n = marks-whole (set words (j / 16) word) s stored-four ∙ by (ℕ_discrete (j / 16) (s / 16)) ∙ sym (marks-whole words s four)
    where
      by : Dec (j / 16 ≡ s / 16) → mark_in (get_or (set words (j / 16) word) (s / 16) 0) (s % 16) ≡ mark_in (get_or words (s / 16) 0) (s % 16)
      by (yes e) = rw (← e, stored-word, with-m) (with-mark-there (j % 16) m (mark_in (get_or words (j / 16) 0)) (s % 16) (λ q. n (omega arith)))
      by (no f) = rw (get_or-set_other words (j / 16) (s / 16) word 0 (λ q. f (sym q)))

  pub stored-marks : marks (set words (j / 16) word) ≡ with_mark j m (marks words)
  stored-marks = with-mark-unique j m (marks words) (marks (set words (j / 16) word)) stored_there stored-else
