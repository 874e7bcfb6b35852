-- What a list offers for a time, and what two lists offer for it, joined; and marks joined, whose order and grouping do not show. Assumes
-- nothing.
use Rattle.std.specs.Prelude.{◌≡◌, ◌⊎◌, ℕ, zero, suc, ◌+◌, ◌/◌, ◌%◌, ◌^◌, ◌≤◌, ◌<◌, ℤ, ◌≤ℤ◌, ◌<ℤ◌}
use Rattle.std.proofs.Math.Path.{refl, sym, ap, ap₂, fun_ext}
use Rattle.std.proofs.Common.{◌∙◌, inl, inr}
use mathlib.Core.List.{List, [], ◌∷◌}
use Rattle.std.proofs.Math.Option.{Option, none, some, some-injective, none-ne-some, some-ne-none}
use native.Mathlib.Omega.{arith}
use Rattle.std.specs.Int.Bits.{bit_or, or_zero_l, or_zero_r}
use Rattle.std.proofs.lemmas.Nat.{or_comm, or_shr, or_mod}
use Rattle.rules.specs.Lists.{All, nil, cons}
use Rattle.rules.specs.Placements.{Placement}
use Rattle.laws.specs.Integers.{times, ≤-or-<, ≤-refl}
use Rattle.laws.specs.Lists.{all-imp, EveryTwo, ends, leads}
use Rattle.laws.specs.Candidates.{Cand, Below}
use Rattle.laws.specs.Joining.{join_marks}
use Rattle.laws.specs.Steps.{joined}

-- ---- what a list offers for a time: the first of at least that time, which is the lightest
module _ {W : Type 0} where
  unfoldable pub offered_by : {A B : Type 0} → Cand W → Option (Cand W) → A ⊎ B → Option (Cand W)
  offered_by x rest (inl h) = some x
  offered_by x rest (inr h) = rest

  unfoldable pub offered : ℤ → List (Cand W) → Option (Cand W)
  offered t [] = none
  offered t (x ∷ l) = offered_by x (offered t l) (≤-or-< t x.time)

  pub offered-yes : (t : ℤ) (x : Cand W) (l : List (Cand W)) → t ≤ℤ x.time → offered t (x ∷ l) ≡ some x
  unfolding offered offered_by
  offered-yes t x l h = go (≤-or-< t x.time)
    where
      go : (s : (t ≤ℤ x.time) ⊎ (x.time <ℤ t)) → offered_by x (offered t l) s ≡ some x
      go (inl k) = refl
      go (inr k) = absurd (omega times)

  pub offered-no : (t : ℤ) (x : Cand W) (l : List (Cand W)) → x.time <ℤ t → offered t (x ∷ l) ≡ offered t l
  unfolding offered offered_by
  offered-no t x l h = go (≤-or-< t x.time)
    where
      go : (s : (t ≤ℤ x.time) ⊎ (x.time <ℤ t)) → offered_by x (offered t l) s ≡ offered t l
      go (inl k) = absurd (omega times)
      go (inr k) = refl

  -- two rising lists that offer the same for every time are the same
  heads : (Q : ℤ → Type 0) (x y : Cand W) (l m : List (Cand W)) → Q x.time → Q y.time → ((t : ℤ) → Q t → offered t (x ∷ l) ≡ offered t (y ∷ m)) → x ≡ y
  heads Q x y l m p q e = go (≤-or-< x.time y.time)
    where
      go : (x.time ≤ℤ y.time) ⊎ (y.time <ℤ x.time) → x ≡ y
      go (inl h) = some-injective x y (sym (offered-yes x.time x l (≤-refl _)) ∙ e x.time p ∙ offered-yes x.time y m h)
      go (inr h) = some-injective x y (sym (offered-yes y.time x l (omega times)) ∙ e y.time q ∙ offered-yes y.time y m (≤-refl _))

  offers-alike : (Q : ℤ → Type 0) → ((a b : ℤ) → Q a → a <ℤ b → Q b) → {l m : List (Cand W)} → EveryTwo Below l → EveryTwo Below m → All (λ c. Q c.time) l → All (λ c. Q c.time) m → ((t : ℤ) → Q t → offered t l ≡ offered t m) → l ≡ m
  unfolding offered
  offers-alike Q up ends ends p q e = refl
  offers-alike Q up ends (leads {x = y} {xs = m} b bs) p (cons k ks) e = absurd (none-ne-some y (e y.time k ∙ offered-yes y.time y m (≤-refl _)))
  offers-alike Q up (leads {x = x} {xs = l} a at) ends (cons h hs) q e = absurd (some-ne-none x (sym (offered-yes x.time x l (≤-refl _)) ∙ e x.time h))
  offers-alike Q up (leads {x = x} {xs = l} a at) (leads {x = y} {xs = m} b bs) (cons h hs) (cons k ks) e =
      let s = heads Q x y l m h k e in
      ap₂ ◌∷◌ s (offers-alike (λ t. x.time <ℤ t) (λ u v g i. omega times) at bs (all-imp (λ c g. g.early) a) (all-imp (λ c g. rw s g.early) b) (λ t g. sym (offered-no t x l g) ∙ e t (up x.time t h g) ∙ offered-no t y m (rw (← s) g)))

  every : {P : Cand W → Type 0} → ((c : Cand W) → P c) → (l : List (Cand W)) → All P l
  every f [] = nil
  every f (x ∷ l) = cons (f x) (every f l)

  pub same_lists : {l m : List (Cand W)} → EveryTwo Below l → EveryTwo Below m → ((t : ℤ) → offered t l ≡ offered t m) → l ≡ m
  same_lists {l} {m} a b e = offers-alike (λ t. Unit {0}) (λ u v g h. tt) a b (every (λ c. tt) l) (every (λ c. tt) m) (λ t g. e t)

-- ---- what two joined lists offer
module _ {W : Type 0} (join_marks : W → W → W) where
  unfoldable pub meet : Option (Cand W) → Option (Cand W) → Option (Cand W)
  meet none b = none
  meet (some x) none = none
  meet (some x) (some y) = some (joined join_marks x y)

-- ---- marks joined
pub join-swap : (p q : Placement) → join_marks p q ≡ join_marks q p
unfolding join_marks
join-swap p q = fun_ext (λ j. or_comm (p j) (q j))

-- a number is settled by its half and its last bit
halves : (a b : ℕ) → a / 2 ^ 1 ≡ b / 2 ^ 1 → a % 2 ^ 1 ≡ b % 2 ^ 1 → a ≡ b
halves a b e f = omega arith

bit-turn : (a b c : ℕ) → a < 2 → b < 2 → c < 2 → bit_or (bit_or a b) c ≡ bit_or a (bit_or b c)
bit-turn zero b c h k l = ap (λ x. bit_or x c) (or_zero_l b) ∙ sym (or_zero_l (bit_or b c))
bit-turn (suc zero) zero c h k l = ap (λ x. bit_or x c) (or_zero_r 1) ∙ sym (ap (bit_or 1) (or_zero_l c))
bit-turn (suc zero) (suc zero) zero h k l = refl
bit-turn (suc zero) (suc zero) (suc zero) h k l = refl
bit-turn (suc zero) (suc zero) (suc (suc c)) h k l = absurd (omega arith)
bit-turn (suc zero) (suc (suc b)) c h k l = absurd (omega arith)
bit-turn (suc (suc a)) b c h k l = absurd (omega arith)

or_turn : (n a b c : ℕ) → a ≤ n → b ≤ n → c ≤ n → bit_or (bit_or a b) c ≡ bit_or a (bit_or b c)
or_turn zero a b c h k l =
    let x : a ≡ 0 = omega arith in
    rw x (bit-turn 0 b c (omega arith) (omega arith) (omega arith))
or_turn (suc n) a b c h k l = halves _ _
    (or_shr (bit_or a b) c 1 ∙ ap (λ x. bit_or x (c / 2 ^ 1)) (or_shr a b 1) ∙ or_turn n (a / 2 ^ 1) (b / 2 ^ 1) (c / 2 ^ 1) (omega arith) (omega arith) (omega arith) ∙ ap (bit_or (a / 2 ^ 1)) (sym (or_shr b c 1)) ∙ sym (or_shr a (bit_or b c) 1))
    (or_mod (bit_or a b) c 1 ∙ ap (λ x. bit_or x (c % 2 ^ 1)) (or_mod a b 1) ∙ bit-turn (a % 2 ^ 1) (b % 2 ^ 1) (c % 2 ^ 1) (omega arith) (omega arith) (omega arith) ∙ ap (bit_or (a % 2 ^ 1)) (sym (or_mod b c 1)) ∙ sym (or_mod a (bit_or b c) 1))

pub join-turn : (p q r : Placement) → join_marks (join_marks p q) r ≡ join_marks p (join_marks q r)
unfolding join_marks
join-turn p q r = fun_ext (λ j. or_turn (p j + q j + r j) (p j) (q j) (r j) (omega arith) (omega arith) (omega arith))
