-- A start of a list overwritten with one value, place by place. Assumes nothing.
use Rattle.std.specs.Prelude.{◌≡◌, refl, List, [], ◌∷◌, ◌++◌, ℕ, zero, suc, ◌+◌, ◌≤◌, ◌<◌, length, drop, set, replicate}
use Rattle.std.proofs.Common.{ap, arith, add-one, length-set}
use Rattle.std.proofs.lemmas.List.{length-replicate}
use Rattle.rules.specs.Lists.{written}

module _ {A : Type 0} (z : A) where
  store : (i : ℕ) (a : List A) → i < length a → set (replicate i z ++ drop i a) i z ≡ replicate (suc i) z ++ drop (suc i) a
  store zero [] h = absurd (omega arith)
  store zero (x ∷ a) h = refl
  store (suc i) [] h = absurd (omega arith)
  store (suc i) (x ∷ a) h = ap (λ (l : List A). z ∷ l) (store i a (omega arith))

  -- i places are done
  pub record Clearing (a b : List A) (n i : ℕ) : Type 0 where
    pub upto : i ≤ n
    pub long : n ≤ length a
    pub same : length b ≡ length a
    pub done : b ≡ replicate i z ++ drop i a

  pub clearing-start : (a : List A) (n : ℕ) → n ≤ length a → Clearing a a n 0
  clearing-start a n h = record { upto = omega arith; long = h; same = refl; done = refl }

  pub clearing-step : (a b : List A) (n i : ℕ) → i < n → Clearing a b n i → Clearing a (set b i z) n (i + 1)
  clearing-step a b n i h c = record { upto = omega arith; long = c.long; same = rw length-set c.same; done = rw (c.done, add-one) (store i a (omega (arith, c.long))) }

  pub clearing-end : (a b : List A) (n i : ℕ) → n ≤ i → Clearing a b n i → b ≡ replicate n z ++ drop n a
  clearing-end a b n i h c = let e : i ≡ n = omega (arith, c.upto) in rw e at c.done

-- as the promises have it: a start written, and the rest as it was
pub cleared-written : {A : Type 0} (z : A) (n : ℕ) (a : List A) → replicate n z ++ drop n a ≡ written (replicate n z) a
unfolding written
cleared-written z n a = rw (length-replicate n z)
