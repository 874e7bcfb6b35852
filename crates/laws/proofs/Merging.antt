-- Where branches meet nothing is chosen. For each time a joined list offers what each of the two lists offers for it, joined; so neither the
-- order nor the grouping of the branches shows in it, the placements that it carries included. The rows below a row can be taken in any
-- order, and what the planner returns is the same. Assumes nothing.
use Rattle.std.specs.Prelude.{◌≡◌, ◌⊎◌, ◌+◌, ℤ, ◌≤ℤ◌, ◌<ℤ◌}
use Rattle.std.proofs.Math.Path.{refl, sym, ap, ap₂}
use Rattle.std.proofs.Common.{◌∙◌, inl, inr}
use mathlib.Core.List.{List, [], ◌∷◌}
use Rattle.std.proofs.Math.Option.{Option, none, some}
use native.Mathlib.Omega.{arith}
use Rattle.laws.specs.Integers.{times, ≤-or-<, ≤-refl, ≤_trans, min-lesser, min-greatest, min-swap, min-turn, Order, less, equal, more, order}
use Rattle.laws.specs.Lists.{EveryTwo}
use Rattle.laws.specs.Candidates.{Cand, Below}
use Rattle.laws.specs.Steps.{joined, next, merge_at, merge}
use Rattle.laws.proofs.Steps.{merge-rising}
use Rattle.laws.specs.Merging.{meet, offered-no, offered-yes, offered, same_lists}

-- ---- what two joined lists offer
module _ {W : Type 0} (join_marks : W → W → W) where
  meet-none : (o : Option (Cand W)) → meet join_marks o none ≡ none
  unfolding meet
  meet-none none = refl
  meet-none (some x) = refl

  low : (t : ℤ) (x y : Cand W) → x.time ≤ℤ y.time → (joined join_marks x y).time <ℤ t → x.time <ℤ t
  unfolding joined
  low t x y h k = let m = min-greatest (≤-refl x.time) h in omega times

  lows : (t : ℤ) (x y : Cand W) → y.time ≤ℤ x.time → (joined join_marks x y).time <ℤ t → y.time <ℤ t
  unfolding joined
  lows t x y h k = let m = min-greatest h (≤-refl y.time) in omega times

  both-late : (t : ℤ) (x y : Cand W) → t ≤ℤ (joined join_marks x y).time → (t ≤ℤ x.time) × (t ≤ℤ y.time)
  unfolding joined
  both-late t x y h = let m = min-lesser x.time y.time in (≤_trans h m.left, ≤_trans h m.right)

  -- for each time, what each of them offers for it, joined
  pub offered-merge : (t : ℤ) (l m : List (Cand W)) → offered t (merge join_marks l m) ≡ meet join_marks (offered t l) (offered t m)
  unfolding merge merge_at next offered meet
  offered-merge t [] m = refl
  offered-merge t (x ∷ l) m = at m (λ k. offered-merge t l k)
    where
      at : (m : List (Cand W)) → ((k : List (Cand W)) → offered t (merge join_marks l k) ≡ meet join_marks (offered t l) (offered t k)) → offered t (merge_at join_marks x (merge join_marks l) m) ≡ meet join_marks (offered t (x ∷ l)) (offered t m)
      at [] ih = sym (meet-none (offered t (x ∷ l)))
      at (y ∷ ys) ih = go (≤-or-< t (joined join_marks x y).time) (at ys ih)
        where
          then : (o : Order x.time y.time) → (joined join_marks x y).time <ℤ t → offered t (merge_at join_marks x (merge join_marks l) ys) ≡ meet join_marks (offered t (x ∷ l)) (offered t ys) → offered t (next (merge join_marks l (y ∷ ys)) (merge_at join_marks x (merge join_marks l) ys) (merge join_marks l ys) o) ≡ meet join_marks (offered t (x ∷ l)) (offered t (y ∷ ys))
          then (less h) k e = ih (y ∷ ys) ∙ ap (λ o. meet join_marks o (offered t (y ∷ ys))) (sym (offered-no t x l (low t x y (omega times) k)))
          then (more h) k e = e ∙ ap (meet join_marks (offered t (x ∷ l))) (sym (offered-no t y ys (lows t x y (omega times) k)))
          then (equal h) k e = ih ys ∙ ap₂ (meet join_marks) (sym (offered-no t x l (low t x y (omega times) k))) (sym (offered-no t y ys (lows t x y (omega times) k)))

          go : (t ≤ℤ (joined join_marks x y).time) ⊎ ((joined join_marks x y).time <ℤ t) → offered t (merge_at join_marks x (merge join_marks l) ys) ≡ meet join_marks (offered t (x ∷ l)) (offered t ys) → offered t (joined join_marks x y ∷ next (merge join_marks l (y ∷ ys)) (merge_at join_marks x (merge join_marks l) ys) (merge join_marks l ys) (order x.time y.time)) ≡ meet join_marks (offered t (x ∷ l)) (offered t (y ∷ ys))
          go (inl h) e = offered-yes t (joined join_marks x y) (next (merge join_marks l (y ∷ ys)) (merge_at join_marks x (merge join_marks l) ys) (merge join_marks l ys) (order x.time y.time)) h ∙ sym (ap₂ (meet join_marks) (offered-yes t x l (both-late t x y h).0) (offered-yes t y ys (both-late t x y h).1))
          go (inr h) e = offered-no t (joined join_marks x y) (next (merge join_marks l (y ∷ ys)) (merge_at join_marks x (merge join_marks l) ys) (merge join_marks l ys) (order x.time y.time)) h ∙ then (order x.time y.time) h e

  module _ (comm : (p q : W) → join_marks p q ≡ join_marks q p) (assoc : (p q r : W) → join_marks (join_marks p q) r ≡ join_marks p (join_marks q r)) where
    joined-swap : (a b : Cand W) → joined join_marks a b ≡ joined join_marks b a
    unfolding joined
    joined-swap a b =
        let l : a.load + b.load ≡ b.load + a.load = omega arith in
        λ i. record { load = l i; time = min-swap a.time b.time i; place = comm a.place b.place i }

    joined-turn : (a b c : Cand W) → joined join_marks (joined join_marks a b) c ≡ joined join_marks a (joined join_marks b c)
    unfolding joined
    joined-turn a b c =
        let l : a.load + b.load + c.load ≡ a.load + (b.load + c.load) = omega arith in
        λ i. record { load = l i; time = min-turn a.time b.time c.time i; place = assoc a.place b.place c.place i }

    meet-swap : (a b : Option (Cand W)) → meet join_marks a b ≡ meet join_marks b a
    unfolding meet
    meet-swap none none = refl
    meet-swap none (some b) = refl
    meet-swap (some a) none = refl
    meet-swap (some a) (some b) = ap some (joined-swap a b)

    meet-turn : (a b c : Option (Cand W)) → meet join_marks (meet join_marks a b) c ≡ meet join_marks a (meet join_marks b c)
    unfolding meet
    meet-turn none b c = refl
    meet-turn (some a) none c = refl
    meet-turn (some a) (some b) none = refl
    meet-turn (some a) (some b) (some c) = ap some (joined-turn a b c)

    -- the order of two branches does not show
    pub merge-swap : {l m : List (Cand W)} → EveryTwo Below l → EveryTwo Below m → merge join_marks l m ≡ merge join_marks m l
    merge-swap {l} {m} a b = same_lists (merge-rising join_marks a b) (merge-rising join_marks b a) (λ t. offered-merge t l m ∙ meet-swap (offered t l) (offered t m) ∙ sym (offered-merge t m l))

    -- nor does the grouping of three
    pub merge-turn : {l m k : List (Cand W)} → EveryTwo Below l → EveryTwo Below m → EveryTwo Below k → merge join_marks (merge join_marks l m) k ≡ merge join_marks l (merge join_marks m k)
    merge-turn {l} {m} {k} a b c = same_lists (merge-rising join_marks (merge-rising join_marks a b) c) (merge-rising join_marks a (merge-rising join_marks b c)) (λ t.
        offered-merge t (merge join_marks l m) k ∙ ap (λ o. meet join_marks o (offered t k)) (offered-merge t l m) ∙ meet-turn (offered t l) (offered t m) (offered t k) ∙ ap (meet join_marks (offered t l)) (sym (offered-merge t m k)) ∙ sym (offered-merge t l (merge join_marks m k)))
