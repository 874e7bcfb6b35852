-- What is true of the steps at a repeater and at a branch: what one type makes of a front, and two fronts joined, are fronts; and how long
-- a joined list is. Assumes nothing.
use Rattle.std.specs.Prelude.{refl, ◌≤ℤ◌, ◌<ℤ◌}
use mathlib.Core.List.{List, [], ◌∷◌}
use Prim.Native.Nat.{ℕ, suc, pred, ◌+◌, ◌≤◌}
use native.Mathlib.Omega.{arith}
use Rattle.std.proofs.Math.Nat.{le_refl}
use Rattle.std.proofs.Math.ListN.{length}
use Rattle.laws.specs.Integers.{times, ≤-refl, min-lesser, min-greatest, min-above, min-mono, Order, less, equal, more, order}
use Rattle.rules.specs.Lists.{All, nil, cons, here, there}
use Rattle.laws.specs.Lists.{all-imp, any-all, EveryTwo, ends, leads}
use Rattle.laws.specs.Candidates.{Cand, Covers, Below, Covered, Front}
use Rattle.laws.specs.Steps.{Image, buffered, best, Better, front-best, merge, next, merge_at, joined, Joins}

-- ---- a repeater: of all that one type makes, which show one load, the best of the front makes the best
module _ {W : Type 0} (shown : ℕ) (delay : ℕ → ℕ) (mark : W → W) where
  pub front-buffered : {R : Cand W → Type 0} {x : Cand W} {l : List (Cand W)} → ((m n : ℕ) → m ≤ n → delay m ≤ delay n) → Front R (x ∷ l) → Front (Image (buffered shown delay mark) R) (buffered shown delay mark (best delay x l) ∷ [])
  unfolding buffered
  front-buffered {R} {x} {l} rises F =
      let b = front-best delay rises F in
      record { rising = leads nil ends; sound = cons (_, b.0, refl) nil; whole = go b.1 }
    where
      go : ((d : Cand W) → R d → Better delay (best delay x l) d) → (d : Cand W) → Image (buffered shown delay mark) R d → Covered (buffered shown delay mark (best delay x l) ∷ []) d
      go b d (c, r, e) = rw e (here (record { light = le_refl _; late = (b c r).no_less }))

-- ---- a branch
-- more of neither
record Up {W : Type 0} (a b : Cand W) : Type 0 where
  light : a.load ≤ b.load
  early : a.time ≤ℤ b.time

ups : {W : Type 0} {x : Cand W} {l : List (Cand W)} → All (Below x) l → All (Up x) (x ∷ l)
ups {x = x} b = cons {x = x} (omega times) (all-imp (λ y k. omega times) b)

module _ {W : Type 0} (join : W → W → W) where
  pub merge-length : (l m : List (Cand W)) → length (merge join l m) ≤ pred (length l + length m)
  unfolding merge merge_at next
  merge-length [] m = omega arith
  merge-length (x ∷ l) m = at m (merge-length l)
    where
      at : (m : List (Cand W)) → ((k : List (Cand W)) → length (merge join l k) ≤ pred (length l + length k)) → length (merge_at join x (merge join l) m) ≤ pred (suc (length l) + length m)
      at [] ih = omega arith
      at (y ∷ ys) ih = go (order x.time y.time) (at ys ih)
        where
          go : (o : Order x.time y.time) → length (merge_at join x (merge join l) ys) ≤ pred (suc (length l) + length ys) → suc (length (next (merge join l (y ∷ ys)) (merge_at join x (merge join l) ys) (merge join l ys) o)) ≤ pred (suc (length l) + suc (length ys))
          go (less h) k = omega (arith, ih (y ∷ ys))
          go (equal h) k = omega (arith, ih ys)
          go (more h) k = omega arith

  merge-all : {P Q S : Cand W → Type 0} (f : (a b : Cand W) → P a → Q b → S (joined join a b)) {l m : List (Cand W)} → All P l → All Q m → All S (merge join l m)
  unfolding merge merge_at next
  merge-all f nil q = nil
  merge-all {P} {Q} {S} f (cons {x = x} {xs = l} p ps) q = at q (λ k r. merge-all f ps r)
    where
      at : {m : List (Cand W)} → All Q m → ((k : List (Cand W)) → All Q k → All S (merge join l k)) → All S (merge_at join x (merge join l) m)
      at nil ih = nil
      at (cons {x = y} {xs = ys} q qs) ih = cons (f x y p q) (go (order x.time y.time) (at qs ih))
        where
          go : (o : Order x.time y.time) → All S (merge_at join x (merge join l) ys) → All S (next (merge join l (y ∷ ys)) (merge_at join x (merge join l) ys) (merge join l ys) o)
          go (less h) k = ih (y ∷ ys) (cons q qs)
          go (equal h) k = ih ys qs
          go (more h) k = k

  rise-x : (x y : Cand W) → x.time ≤ℤ y.time → (a b : Cand W) → Below x a → Up y b → x.time <ℤ b.time → Below (joined join x y) (joined join a b)
  unfolding joined
  rise-x x y h a b p q r =
      let k = min-lesser x.time y.time in
      let j = min-above p.early r in
      omega times

  rise-y : (x y : Cand W) → y.time ≤ℤ x.time → (a b : Cand W) → Up x a → Below y b → y.time <ℤ a.time → Below (joined join x y) (joined join a b)
  unfolding joined
  rise-y x y h a b p q r =
      let k = min-lesser x.time y.time in
      let j = min-above r q.early in
      omega times

  pub merge-rising : {l m : List (Cand W)} → EveryTwo Below l → EveryTwo Below m → EveryTwo Below (merge join l m)
  unfolding merge merge_at next
  merge-rising ends q = ends
  merge-rising (leads {x = x} {xs = l} p ps) q = at q (λ k r. merge-rising ps r)
    where
      at : {m : List (Cand W)} → EveryTwo Below m → ((k : List (Cand W)) → EveryTwo Below k → EveryTwo Below (merge join l k)) → EveryTwo Below (merge_at join x (merge join l) m)
      at ends ih = ends
      at (leads {x = y} {xs = ys} q qs) ih = go (order x.time y.time) (at qs ih)
        where
          go : (o : Order x.time y.time) → EveryTwo Below (merge_at join x (merge join l) ys) → EveryTwo Below (joined join x y ∷ next (merge join l (y ∷ ys)) (merge_at join x (merge join l) ys) (merge join l ys) o)
          go (less h) k = leads (merge-all (λ a b s t. rise-x x y (omega times) a b s t (omega times)) p (ups q)) (ih (y ∷ ys) (leads q qs))
          go (equal h) k = leads (merge-all (λ a b s t. rise-x x y (omega times) a b s (omega times) (omega times)) p q) (ih ys qs)
          go (more h) k = leads (merge-all (λ a b s t. rise-y x y (omega times) a b s t (omega times)) (ups p) q) k

  -- the heads joined cover what a head of no greater time is in
  joined-mono : {a b c d : Cand W} → Covers a c → Covers b d → Covers (joined join a b) (joined join c d)
  unfolding joined
  joined-mono h k = record { light = omega arith; late = min-mono h.late k.late }

  cover-x : (x y c d : Cand W) → x.time ≤ℤ y.time → Covers x c → y.load ≤ d.load → Covers (joined join x y) (joined join c d)
  unfolding joined
  cover-x x y c d h k l =
      let j = min-lesser c.time d.time in
      let i = min-greatest (≤-refl x.time) h in
      omega times

  cover-y : (x y c d : Cand W) → y.time ≤ℤ x.time → Covers y d → x.load ≤ c.load → Covers (joined join x y) (joined join c d)
  unfolding joined
  cover-y x y c d h k l =
      let j = min-lesser c.time d.time in
      let i = min-greatest h (≤-refl y.time) in
      omega times

  -- what a later member covers has no less load than the head
  head-light : {x c : Cand W} {l : List (Cand W)} → All (Below x) l → Covered l c → x.load ≤ c.load
  head-light b k = let (z, h, j) = any-all b k in omega arith

  merge-whole : {c d : Cand W} {l m : List (Cand W)} → EveryTwo Below l → EveryTwo Below m → Covered l c → Covered m d → Covered (merge join l m) (joined join c d)
  unfolding merge merge_at next
  merge-whole ends q h k = absurd (elim h [ ])
  merge-whole {c} {d} (leads {x = x} {xs = l} p ps) q h k = at q h k (λ i r h k. merge-whole ps r h k)
    where
      at : {m : List (Cand W)} → EveryTwo Below m → Covered (x ∷ l) c → Covered m d → ((i : List (Cand W)) → EveryTwo Below i → Covered l c → Covered i d → Covered (merge join l i) (joined join c d)) → Covered (merge_at join x (merge join l) m) (joined join c d)
      at ends h k ih = absurd (elim k [ ])
      at (leads q qs) (here h) (here k) ih = here (joined-mono h k)
      at (leads {x = y} {xs = ys} q qs) (here h) (there k) ih = go (order x.time y.time) (at qs (here h) k ih)
        where
          go : (o : Order x.time y.time) → Covered (merge_at join x (merge join l) ys) (joined join c d) → Covered (joined join x y ∷ next (merge join l (y ∷ ys)) (merge_at join x (merge join l) ys) (merge join l ys) o) (joined join c d)
          go (less t) r = here (cover-x x y c d (omega times) h (head-light q k))
          go (equal t) r = here (cover-x x y c d (omega times) h (head-light q k))
          go (more t) r = there r
      at (leads {x = y} {xs = ys} q qs) (there h) (here k) ih = go (order x.time y.time)
        where
          go : (o : Order x.time y.time) → Covered (joined join x y ∷ next (merge join l (y ∷ ys)) (merge_at join x (merge join l) ys) (merge join l ys) o) (joined join c d)
          go (less t) = there (ih (y ∷ ys) (leads q qs) h (here k))
          go (equal t) = here (cover-y x y c d (omega times) k (head-light p h))
          go (more t) = here (cover-y x y c d (omega times) k (head-light p h))
      at (leads {x = y} {xs = ys} q qs) (there h) (there k) ih = go (order x.time y.time) (at qs (there h) k ih)
        where
          go : (o : Order x.time y.time) → Covered (merge_at join x (merge join l) ys) (joined join c d) → Covered (joined join x y ∷ next (merge join l (y ∷ ys)) (merge_at join x (merge join l) ys) (merge join l ys) o) (joined join c d)
          go (less t) r = there (ih (y ∷ ys) (leads q qs) h (there k))
          go (equal t) r = there (ih ys qs h k)
          go (more t) r = there r

  pub front-merge : {R S : Cand W → Type 0} {l m : List (Cand W)} → Front R l → Front S m → Front (Joins join R S) (merge join l m)
  front-merge {R} {S} {l} {m} F G = record { rising = merge-rising F.rising G.rising; sound = merge-all (λ a b r s. (a, b, r, s, refl)) F.sound G.sound; whole = go }
    where
      go : (d : Cand W) → Joins join R S d → Covered (merge join l m) d
      go d (a, b, r, s, e) = rw e (merge-whole F.rising G.rising (F.whole a r) (G.whole b s))
