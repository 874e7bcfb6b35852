-- Four 64-bit words are settled by their marks, so that what one promise leaves open is which placement is returned and nothing else.
-- Assumes nothing.
use Rattle.std.specs.Prelude.{◌≡◌, List, ℕ, zero, suc, ◌+◌, ◌*◌, ◌/◌, ◌%◌, ◌^◌, ◌<◌, length, get_or}
use Rattle.std.proofs.Common.{sym, ap, ◌∙◌, arith, div-one, take_all, ext_get_or}
use Rattle.std.proofs.Math.Nat.{div-div-eq-div-mul, two-pow-succ}
use Rattle.rules.specs.Lists.{All, nil, cons}
use Rattle.rules.specs.Quantities.{placement_room}
use Rattle.rules.specs.Placements.{mark_in, marks}

sixteen : (i : ℕ) → 2 ^ (4 * suc i) ≡ 16 * 2 ^ (4 * i)
sixteen i = let e : 4 * suc i ≡ suc (suc (suc (suc (4 * i)))) = omega arith in rw e (omega (arith, two-pow-succ (4 * i), two-pow-succ (suc (4 * i)), two-pow-succ (suc (suc (4 * i))), two-pow-succ (suc (suc (suc (4 * i))))))

first-mark : (w : ℕ) → mark_in w 0 ≡ w % 16
unfolding mark_in
first-mark w = rw div-one

next-mark : (w i : ℕ) → mark_in w (suc i) ≡ mark_in (w / 16) i
unfolding mark_in
next-mark w i = rw (sixteen, ← div-div-eq-div-mul)

-- a word of n marks is settled by them
same_word : (n v w : ℕ) → v < 2 ^ (4 * n) → w < 2 ^ (4 * n) → ((i : ℕ) → i < n → mark_in v i ≡ mark_in w i) → v ≡ w
same_word zero v w h k e = omega arith
same_word (suc n) v w h k e =
    let low : v % 16 ≡ w % 16 = sym (first-mark v) ∙ e 0 (omega arith) ∙ first-mark w in
    let high : v / 16 ≡ w / 16 = same_word n (v / 16) (w / 16) (omega (arith, sixteen n)) (omega (arith, sixteen n)) (λ i l. sym (next-mark v i) ∙ e (suc i) (omega arith) ∙ next-mark w i) in
    omega arith

mark-at : (words : List ℕ) (q k : ℕ) → length words ≡ placement_room → k < 16 → marks words (16 * q + k) ≡ mark_in (get_or words q 0) k
unfolding marks
mark-at words q k four h =
    let e : (16 * q + k) / 16 ≡ q = omega arith in
    let f : (16 * q + k) % 16 ≡ k = omega arith in
    rw (take_all placement_room words (omega arith), e, f)

word_small : {words : List ℕ} → All (λ x. x < 2 ^ 64) words → (q : ℕ) → get_or words q 0 < 2 ^ 64
word_small nil q = omega arith
word_small (cons h t) zero = h
word_small (cons h t) (suc q) = word_small t q

-- four 64-bit words that have the same marks are the same
pub same-words : (v w : List ℕ) → length v ≡ placement_room → length w ≡ placement_room → All (λ x. x < 2 ^ 64) v → All (λ x. x < 2 ^ 64) w → marks v ≡ marks w → v ≡ w
same-words v w h k f g e = ext_get_or 0 v w (h ∙ sym k) (λ q l. same_word 16 (get_or v q 0) (get_or w q 0) (word_small f q) (word_small g q) (λ i m. sym (mark-at v q i h m) ∙ ap (λ p. p (16 * q + i)) e ∙ mark-at w q i k m))
