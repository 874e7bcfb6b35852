-- The steps of the method on fronts: through a wire, the best behind a delay, one type of repeater, a branch. Assumes nothing.
use Rattle.std.specs.Prelude.{◌≡◌, refl, ◌⊎◌, ℤ, ◌≤ℤ◌, ◌<ℤ◌}
use mathlib.Core.List.{List, [], ◌∷◌, map}
use Rattle.std.proofs.Common.{inl, inr, le_trans}
use Prim.Native.Nat.{ℕ, ◌+◌, ◌≤◌}
use native.Mathlib.Omega.{arith}
use Rattle.std.proofs.Math.Nat.{le_refl}
use Rattle.laws.specs.Integers.{times, ⊖-mono, ≤-or-<, ≤-refl, ≤_trans, minℤ, Order, less, equal, more, order}
use Rattle.rules.specs.Quantities.{◌⊖◌}
use Rattle.rules.specs.Lists.{All, nil, cons, here, there}
use Rattle.laws.specs.Lists.{any-all, all_map, any-map, all_head, all_tail, EveryTwo, leads}
use Rattle.laws.specs.Thinning.{Thinned, front-thinned}
use Rattle.laws.specs.Candidates.{Cand, Covers, Below, Covered, Front, thin_in, covers-refl, front-in, front-wider}

module _ {W : Type 0} where
  -- what f makes of R's candidates
  abbrev pub Image : (Cand W → Cand W) → (Cand W → Type 0) → Cand W → Type 0
  Image f R d = (c : Cand W) × R c × (d ≡ f c)

  -- ---- through a wire or anything like it: map, and thin after it
  pub front-through : {R : Cand W → Type 0} {l m : List (Cand W)} (f : Cand W → Cand W) → ((a b : Cand W) → Covers a b → Covers (f a) (f b)) → Thinned (map f l) m → Front R l → Front (Image f R) m
  front-through {R} {l} f mono t F = front-thinned t (all_map f (λ c r. (c, r, refl)) F.sound) go
    where
      go : (d : Cand W) → Image f R d → Covered (map f l) d
      go d (c, r, e) = rw e (any-map f (λ m k. mono m c k) (F.whole c r))

-- ---- the best of a front behind a delay that rises with the load
module _ {W : Type 0} (delay : ℕ → ℕ) where
  unfoldable pub value : Cand W → ℤ
  value c = c.time ⊖ delay c.load

  unfoldable pub pick : (x y : Cand W) → (value y ≤ℤ value x) ⊎ (value x <ℤ value y) → Cand W
  pick x y (inl h) = x
  pick x y (inr h) = y

  -- the first of x ∷ l whose value is the greatest
  unfoldable pub best : Cand W → List (Cand W) → Cand W
  best x [] = x
  best x (y ∷ l) = best (pick x y (≤-or-< (value y) (value x))) l

  -- the value is no less, and where it is the same the load is no greater
  pub record Better (b m : Cand W) : Type 0 where
    pub no_less : value m ≤ℤ value b
    pub tie : value b ≤ℤ value m → b.load ≤ m.load

  better-refl : (a : Cand W) → Better a a
  better-refl a = record { no_less = ≤-refl _; tie = λ h. le_refl _ }

  better-trans : {a b c : Cand W} → Better a b → Better b c → Better a c
  better-trans h k = record { no_less = ≤_trans k.no_less h.no_less; tie = λ q. le_trans (h.tie (≤_trans q k.no_less)) (k.tie (≤_trans h.no_less q)) }

  pub best-all : {P : Cand W → Type 0} (x : Cand W) (l : List (Cand W)) → All P (x ∷ l) → P (best x l)
  unfolding best pick
  best-all x [] (cons p t) = p
  best-all {P} x (y ∷ l) (cons p (cons q t)) = best-all (pick x y (≤-or-< (value y) (value x))) l (cons (go (≤-or-< (value y) (value x))) t)
    where
      go : (s : (value y ≤ℤ value x) ⊎ (value x <ℤ value y)) → P (pick x y s)
      go (inl h) = p
      go (inr h) = q

  best-better : (x : Cand W) (l : List (Cand W)) → EveryTwo Below (x ∷ l) → All (Better (best x l)) (x ∷ l)
  unfolding best pick
  best-better x [] r = cons (better-refl x) nil
  best-better x (y ∷ l) (leads (cons b bs) (leads c cs)) = go (≤-or-< (value y) (value x)) (λ z. best-better z l)
    where
      go : (s : (value y ≤ℤ value x) ⊎ (value x <ℤ value y)) → ((z : Cand W) → EveryTwo Below (z ∷ l) → All (Better (best z l)) (z ∷ l)) → All (Better (best (pick x y s) l)) (x ∷ y ∷ l)
      go (inl h) ih =
          let a = ih x (leads bs cs) in
          let k : Better x y = record { no_less = h; tie = λ q. omega arith } in
          cons (all_head a) (cons (better-trans (all_head a) k) (all_tail a))
      go (inr h) ih =
          let a = ih y (leads c cs) in
          let k : Better y x = record { no_less = omega times; tie = λ q. absurd (omega times) } in
          cons (better-trans (all_head a) k) a

  -- of all that R reaches the best of its front has the greatest value, and the least load of those that have it
  pub front-best : {R : Cand W → Type 0} {x : Cand W} {l : List (Cand W)} → ((m n : ℕ) → m ≤ n → delay m ≤ delay n) → Front R (x ∷ l) → R (best x l) × ((d : Cand W) → R d → Better (best x l) d)
  unfolding value
  front-best {R} {x} {l} rises F = (best-all x l F.sound, λ d r. let (m, b, k) = any-all (best-better x l F.rising) (F.whole d r) in go b k)
    where
      go : {b m d : Cand W} → Better b m → Covers m d → Better b d
      go b k = better-trans b (record { no_less = ⊖-mono k.late (rises _ _ k.light); tie = λ q. k.light })

-- ---- a repeater: of all that one type makes, which show one load, the best of the front makes the best
module _ {W : Type 0} (shown : ℕ) (delay : ℕ → ℕ) (mark : W → W) where
  unfoldable pub buffered : Cand W → Cand W
  buffered c = record { load = shown; time = value delay c; place = mark c.place }

module _ {W : Type 0} where
  -- a front of one candidate, put into another
  pub front-add : {R S : Cand W → Type 0} {c : Cand W} {l : List (Cand W)} → Front R l → Front S (c ∷ []) → Front (λ d. R d ⊎ S d) (thin_in c l)
  front-add {R} {S} {c} {l} F G = front-wider up down (front-in c F)
    where
      up : (d : Cand W) → R d ⊎ (d ≡ c) → R d ⊎ S d
      up d (inl r) = inl r
      up d (inr e) = inr (rw e (all_head G.sound))

      one : {d : Cand W} → Covered (c ∷ []) d → Covers c d
      one (here k) = k
      one (there k) = absurd (elim k [ ])

      down : (d : Cand W) → R d ⊎ S d → (e : Cand W) × (R e ⊎ (e ≡ c)) × Covers e d
      down d (inl r) = (d, inl r, covers-refl d)
      down d (inr s) = (c, inr refl, one (G.whole d s))

-- ---- a branch
unfoldable pub next : {A : Type 0} {t u : ℤ} (a b c : A) → Order t u → A
next a b c (less h) = a
next a b c (more h) = b
next a b c (equal h) = c

module _ {W : Type 0} (join : W → W → W) where
  unfoldable pub joined : Cand W → Cand W → Cand W
  joined a b = record { load = a.load + b.load; time = minℤ a.time b.time; place = join a.place b.place }

  abbrev pub Joins : (R S : Cand W → Type 0) → Cand W → Type 0
  Joins R S d = (a : Cand W) × (b : Cand W) × R a × S b × (d ≡ joined a b)

  -- the two heads joined; then without the head that holds the time down, or without both
  unfoldable pub merge_at : Cand W → (List (Cand W) → List (Cand W)) → List (Cand W) → List (Cand W)
  merge_at x rest [] = []
  merge_at x rest (y ∷ ys) = joined x y ∷ next (rest (y ∷ ys)) (merge_at x rest ys) (rest ys) (order x.time y.time)

  unfoldable pub merge : List (Cand W) → List (Cand W) → List (Cand W)
  merge [] m = []
  merge (x ∷ l) m = merge_at x (merge l) m
