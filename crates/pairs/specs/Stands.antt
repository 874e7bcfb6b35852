-- How a candidate stands to another, by two tests; and what a candidate put into a list makes of it, place by place. Assumes nothing.
use Rattle.std.specs.Prelude.{◌≡◌, Bool, not, List, ◌∷◌, ◌++◌, ℕ, ◌≤◌, ◌<◌, leb, ltb, ℤ, ◌≤ℤ◌, ◌<ℤ◌}
use Rattle.std.proofs.Math.Path.{refl}
use Rattle.std.proofs.Common.{sym, ap, ◌∙◌, arith, ltb-true, ltb-false, leb-true, leb-false}
use Rattle.std.proofs.Math.Bool.{true, false, cond}
use Rattle.std.specs.Int.Signed.{lt_z}
use Rattle.rules.specs.Lists.{All, nil, cons}
use Rattle.laws.specs.Integers.{times}
use Rattle.laws.specs.Candidates.{Cand, Covers, Below, Stand, covers, covered, below, above, stand, put, thin_in}
use Rattle.laws.specs.Thinning.{lt-true, lt-false}

-- load and time both less
unfoldable pub is_below : (load : ℕ) (time : ℤ) (other : ℕ) (later : ℤ) → Bool
is_below load time other later = cond (ltb load other) (lt_z time later) false

-- the load no greater, the time no less
unfoldable pub is_covering : (load : ℕ) (time : ℤ) (other : ℕ) (earlier : ℤ) → Bool
is_covering load time other earlier = cond (leb load other) (not (lt_z time earlier)) false

-- the other covers it
unfoldable pub is_covered : (load : ℕ) (time : ℤ) (other : ℕ) (later : ℤ) → Bool
is_covered load time other later = is_covering other later load time

clash : false ≡ true → ⊥
clash e = let z : ◌≡◌ {A = ℕ} 0 1 = cc in omega arith

module _ {W : Type 0} (a b : Cand W) where
  pub below-yes : is_below a.load a.time b.load b.time ≡ true → Below a b
  unfolding is_below
  below-yes e = go (ltb a.load b.load) (lt_z a.time b.time) (ltb-true a.load b.load) (lt-true a.time b.time) e
    where
      go : (p q : Bool) → (p ≡ true → a.load < b.load) → (q ≡ true → a.time <ℤ b.time) → cond p q false ≡ true → Below a b
      go true true f g e = record { light = f refl; early = g refl }
      go true false f g e = absurd (clash e)
      go false q f g e = absurd (clash e)

  pub below-no : is_below a.load a.time b.load b.time ≡ false → Below a b → ⊥
  unfolding is_below
  below-no e h = go (ltb a.load b.load) (lt_z a.time b.time) (ltb-false a.load b.load) (lt-false a.time b.time) e
    where
      go : (p q : Bool) → (p ≡ false → b.load ≤ a.load) → (q ≡ false → b.time ≤ℤ a.time) → cond p q false ≡ false → ⊥
      go true true f g e = clash (sym e)
      go true false f g e = let k = g refl in omega times
      go false q f g e = let k = f refl in omega times

  pub covering-yes : is_covering a.load a.time b.load b.time ≡ true → Covers a b
  unfolding is_covering
  covering-yes e = go (leb a.load b.load) (lt_z a.time b.time) (leb-true a.load b.load) (lt-false a.time b.time) e
    where
      go : (p q : Bool) → (p ≡ true → a.load ≤ b.load) → (q ≡ false → b.time ≤ℤ a.time) → cond p (not q) false ≡ true → Covers a b
      go true false f g e = record { light = f refl; late = g refl }
      go true true f g e = absurd (clash e)
      go false q f g e = absurd (clash e)

  pub covering-no : is_covering a.load a.time b.load b.time ≡ false → Covers a b → ⊥
  unfolding is_covering
  covering-no e h = go (leb a.load b.load) (lt_z a.time b.time) (leb-false a.load b.load) (lt-true a.time b.time) e
    where
      go : (p q : Bool) → (p ≡ false → b.load < a.load) → (q ≡ true → a.time <ℤ b.time) → cond p (not q) false ≡ false → ⊥
      go true false f g e = clash (sym e)
      go true true f g e = let k = g refl in omega times
      go false q f g e = let k = f refl in omega times

module _ {W : Type 0} (a b : Cand W) where
  pub covered-yes : is_covered a.load a.time b.load b.time ≡ true → Covers b a
  unfolding is_covered
  covered-yes e = covering-yes b a e

  pub covered-no : is_covered a.load a.time b.load b.time ≡ false → Covers b a → ⊥
  unfolding is_covered
  covered-no e = covering-no b a e

-- ---- a candidate c put into a list
module _ {W : Type 0} (c : Cand W) where
  -- past what has less of both
  pub thin-above : (x : Cand W) (xs : List (Cand W)) → Below x c → thin_in c (x ∷ xs) ≡ x ∷ thin_in c xs
  unfolding thin_in put
  thin-above x xs h = go (stand c x)
    where
      go : (s : Stand c x) → put c x xs (thin_in c xs) s ≡ x ∷ thin_in c xs
      go (covers k) = absurd (omega times)
      go (covered k) = absurd (omega times)
      go (below k) = absurd (omega times)
      go (above k) = refl

  pub thin-aboves : {l : List (Cand W)} (m : List (Cand W)) → All (λ x. Below x c) l → thin_in c (l ++ m) ≡ l ++ thin_in c m
  thin-aboves m nil = refl
  thin-aboves m (cons {x = x} {xs = l} h t) = thin-above x (l ++ m) h ∙ ap (λ (r : List (Cand W)). x ∷ r) (thin-aboves m t)

  -- what it beats goes
  pub thin-covers : (x : Cand W) (xs : List (Cand W)) → Covers c x → (Covers x c → ⊥) → thin_in c (x ∷ xs) ≡ thin_in c xs
  unfolding thin_in put
  thin-covers x xs h n = go (stand c x)
    where
      go : (s : Stand c x) → put c x xs (thin_in c xs) s ≡ thin_in c xs
      go (covers k) = refl
      go (covered k) = absurd (n k)
      go (below k) = absurd (omega times)
      go (above k) = absurd (omega times)

  pub thin-coverings : {l : List (Cand W)} (m : List (Cand W)) → All (λ x. Covers c x × (Covers x c → ⊥)) l → thin_in c (l ++ m) ≡ thin_in c m
  thin-coverings m nil = refl
  thin-coverings m (cons {x = x} {xs = l} h t) = thin-covers x (l ++ m) h.0 h.1 ∙ thin-coverings m t

  -- it stands before what has more of both
  pub thin-below : (x : Cand W) (xs : List (Cand W)) → Below c x → thin_in c (x ∷ xs) ≡ c ∷ x ∷ xs
  unfolding thin_in put
  thin-below x xs h = go (stand c x)
    where
      go : (s : Stand c x) → put c x xs (thin_in c xs) s ≡ c ∷ x ∷ xs
      go (covers k) = absurd (omega times)
      go (covered k) = absurd (omega times)
      go (below k) = refl
      go (above k) = absurd (omega times)

  -- what it neither stands past nor covers, nor is covered by, has more of both
  pub stands-below : (x : Cand W) → (Below x c → ⊥) → (Covers c x → ⊥) → (Covers x c → ⊥) → Below c x
  stands-below x a b d = go (stand c x)
    where
      go : Stand c x → Below c x
      go (covers k) = absurd (b k)
      go (covered k) = absurd (d k)
      go (below k) = k
      go (above k) = absurd (a k)
