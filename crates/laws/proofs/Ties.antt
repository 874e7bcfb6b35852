-- Ties at a site go to what stands. A candidate of the list is replaced by one with a new repeater only where that one beats it, and a
-- lower type's by a higher type's likewise; so no repeater comes before one, and the lower type before the higher. What was worth its
-- place at its own site may still turn out needless further up, behind another repeater. Assumes nothing.
use Rattle.std.specs.Prelude.{◌≡◌, ◌⊎◌, ◌≤ℤ◌, ◌<ℤ◌}
use Rattle.std.proofs.Math.Path.{refl, ap, subst}
use Rattle.std.proofs.Common.{sym, inl, inr}
use mathlib.Core.List.{List, [], ◌∷◌}
use Prim.Native.Nat.{ℕ, zero, suc, ◌≤◌, ◌<◌}
use native.Mathlib.Omega.{arith}
use Rattle.std.proofs.Math.Decide.{dec_le, ℕ_discrete}
use Rattle.rules.specs.Lists.{Any, here, there}
use Rattle.rules.specs.Entries.{Repeater}
use Rattle.rules.specs.Slack.{repeater_delay}
use Rattle.laws.specs.Integers.{times, ≤-or-<}
use Rattle.laws.specs.Lists.{any-all, all-self, EveryTwo, ends, leads}
use Rattle.laws.specs.Candidates.{Cand, Covers, Below, Same, Beats, Covered, Stand, covers, covered, below, above, stand, stand_by, put, thin_in, dec-same}
use Rattle.laws.specs.Steps.{best, best-all}
use Rattle.laws.specs.Moves.{typed, type_step, site_step}

-- ---- one candidate put into a list
module _ {W : Type 0} (c : Cand W) where
  -- one that covers it stays, its equal too, and so does what follows
  pub thin-covered : (x : Cand W) (xs : List (Cand W)) → Covers x c → thin_in c (x ∷ xs) ≡ x ∷ xs
  unfolding thin_in put stand stand_by
  thin-covered x xs h = go (dec_le c.load x.load) (dec_le x.load c.load) (≤-or-< x.time c.time) (≤-or-< c.time x.time)
    where
      go : (l : Dec (c.load ≤ x.load)) (r : Dec (x.load ≤ c.load)) (t : (x.time ≤ℤ c.time) ⊎ (c.time <ℤ x.time)) (s : (c.time ≤ℤ x.time) ⊎ (x.time <ℤ c.time)) → put c x xs (thin_in c xs) (stand_by c x l r t s) ≡ x ∷ xs
      go l (yes r) t (inl s) = refl
      go l (yes r) t (inr s) = absurd (omega times)
      go l (no r) t s = absurd (r h.light)

  -- where the list has a pair at least as good, it stays as it is, its placements included
  pub list-stays : {l : List (Cand W)} → EveryTwo Below l → Covered l c → thin_in c l ≡ l
  unfolding thin_in put
  list-stays ends k = absurd (elim k [ ])
  list-stays (leads {x = x} {xs = xs} b t) (here k) = thin-covered x xs k
  list-stays (leads {x = x} {xs = xs} b t) (there k) = let (y, h, j) = any-all b k in go y h j (stand c x) (list-stays t k)
    where
      go : (y : Cand W) → Below x y → Covers y c → (s : Stand c x) → thin_in c xs ≡ xs → put c x xs (thin_in c xs) s ≡ x ∷ xs
      go y h j (covers i) e = absurd (omega arith)
      go y h j (covered i) e = refl
      go y h j (below i) e = absurd (omega arith)
      go y h j (above i) e = ap (λ (r : List (Cand W)). x ∷ r) e

  -- a candidate of the list stays, with its placement, unless the new one beats it
  pub stays : {m : Cand W} {l : List (Cand W)} → ¬ (Beats c m) → Any (λ x. x ≡ m) l → Any (λ x. x ≡ m) (thin_in c l)
  unfolding thin_in put
  stays {m} n (here {x = x} {xs = xs} e) = go (dec-same c m)
    where
      by : ¬ (Same c m) → (s : Stand c x) → Any (λ y. y ≡ m) (put c x xs (thin_in c xs) s)
      by d (covers k) = absurd (n (record { covers = rw e at k; differ = d }))
      by d (covered k) = here e
      by d (below k) = there (here e)
      by d (above k) = here e

      equal : Same c m → Covers x c
      equal s = rw e (omega times)

      go : Dec (Same c m) → Any (λ y. y ≡ m) (thin_in c (x ∷ xs))
      go (yes s) = subst (λ (l : List (Cand W)). Any (λ y. y ≡ m) l) (sym (thin-covered x xs (equal s))) (here e)
      go (no d) = by d (stand c x)
  stays {m} n (there {x = x} {xs = xs} t) = go (stand c x) (stays n t)
    where
      go : (s : Stand c x) {r : List (Cand W)} → Any (λ y. y ≡ m) r → Any (λ y. y ≡ m) (put c x xs r s)
      go (covers k) a = a
      go (covered k) a = there t
      go (below k) a = there (there t)
      go (above k) a = there a

  -- an equal pair does not
  pub equal-stays : {m : Cand W} {l : List (Cand W)} → Same c m → Any (λ x. x ≡ m) l → Any (λ x. x ≡ m) (thin_in c l)
  equal-stays s = stays (λ b. b.differ s)

-- ---- the types of a site in their order
module _ {W : Type 0} (types : List Repeater) (mark : ℕ → W → W) where
  type-stays : (n : ℕ) {d : Cand W} (l made : List (Cand W)) → ((x : Cand W) → Any (λ y. y ≡ x) l → ¬ (Beats (typed types mark n x) d)) → Any (λ y. y ≡ d) made → Any (λ y. y ≡ d) (type_step types mark n l made)
  unfolding type_step
  type-stays n [] made h a = a
  type-stays n (x ∷ l) made h a = stays _ (h (best (repeater_delay types n) x l) (best-all (repeater_delay types n) x l (all-self (x ∷ l)))) a

  -- what stands once the types up to n are put in stays, with its placement, unless one of a higher type beats it
  pub lower-type-stays : (n k : ℕ) {d : Cand W} (l : List (Cand W)) → n ≤ k → ((t : ℕ) → n ≤ t → t < k → (x : Cand W) → Any (λ y. y ≡ x) l → ¬ (Beats (typed types mark (suc t) x) d)) → Any (λ y. y ≡ d) (site_step types mark n l) → Any (λ y. y ≡ d) (site_step types mark k l)
  unfolding site_step
  lower-type-stays n zero {d} l h f a =
      let z : n ≡ 0 = omega arith in
      subst (λ (i : ℕ). Any (λ y. y ≡ d) (site_step types mark i l)) z a
  lower-type-stays n (suc k) {d} l h f a = go (ℕ_discrete n (suc k)) (λ i. lower-type-stays n k l i (λ t u v. f t u (omega arith)) a)
    where
      go : Dec (n ≡ suc k) → (n ≤ k → Any (λ y. y ≡ d) (site_step types mark k l)) → Any (λ y. y ≡ d) (site_step types mark (suc k) l)
      go (yes z) r = subst (λ (i : ℕ). Any (λ y. y ≡ d) (site_step types mark i l)) z a
      go (no z) r = type-stays (suc k) l (site_step types mark k l) (f k (omega arith) (omega arith)) (r (omega arith))

  -- and so does a candidate without a repeater, unless one with a repeater beats it
  pub no-repeater-stays : (k : ℕ) {d : Cand W} (l : List (Cand W)) → ((t : ℕ) → t < k → (x : Cand W) → Any (λ y. y ≡ x) l → ¬ (Beats (typed types mark (suc t) x) d)) → Any (λ y. y ≡ d) l → Any (λ y. y ≡ d) (site_step types mark k l)
  unfolding site_step
  no-repeater-stays k l f a = lower-type-stays 0 k l (omega arith) (λ t i j. f t j) a
