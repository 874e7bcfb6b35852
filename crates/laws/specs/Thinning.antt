-- Thinning a whole list in one pass, where its loads rise: each candidate is kept that is later than the last one kept. Assumes nothing.
use Rattle.std.specs.Prelude.{◌≡◌, Bool, cond, ℤ, ◌≤ℤ◌, ◌<ℤ◌}
use Rattle.std.proofs.Math.Path.{refl}
use Rattle.std.proofs.Math.Bool.{true, false}
use mathlib.Core.List.{List, [], ◌∷◌}
use Prim.Native.Nat.{suc, ◌≤◌, ◌<◌}
use native.Mathlib.Omega.{arith}
use Rattle.std.proofs.Math.ListN.{length}
use Rattle.std.specs.Int.Signed.{lt_z, lt_z_yes, lt_z_no}
use Rattle.rules.specs.Lists.{All, Any, nil, cons, here, there}
use Rattle.laws.specs.Integers.{times}
use Rattle.laws.specs.Lists.{all-imp, any-imp, any-all, all-self, EveryTwo, ends, leads}
use Rattle.laws.specs.Candidates.{Cand, Below, Covered, Front, covers-refl, covers-trans}

module _ {W : Type 0} where
  -- m is l thinned: members of l, rising, that cover all of it
  pub record Thinned (l m : List (Cand W)) : Type 0 where
    pub rising : EveryTwo Below m
    pub members : All (λ c. Any (λ x. x ≡ c) l) m
    pub cover : All (Covered m) l

  pick_all : {P : Cand W → Type 0} {c : Cand W} {l : List (Cand W)} → All P l → Any (λ x. x ≡ c) l → P c
  pick_all {P} a e = let (x, p, q) = any-all a e in rw q at p

  pub front-thinned : {R : Cand W → Type 0} {l m : List (Cand W)} → Thinned l m → All R l → ((c : Cand W) → R c → Covered l c) → Front R m
  front-thinned t a w = record {
    rising = t.rising;
    sound = all-imp (λ c e. pick_all a e) t.members;
    whole = λ c r. let (x, k, j) = any-all t.cover (w c r) in any-imp (λ y i. covers-trans i j) k;
  }

pub lt-true : (a b : ℤ) → lt_z a b ≡ true → a <ℤ b
lt-true a b e = lt_z_yes (rw e tt)

pub lt-false : (a b : ℤ) → lt_z a b ≡ false → b ≤ℤ a
lt-false a b e = lt_z_no (rw e tt)

module _ {W : Type 0} where
  -- z is the last one kept
  unfoldable pub climb : Cand W → List (Cand W) → List (Cand W)
  climb z [] = z ∷ []
  climb z (c ∷ l) = cond (lt_z z.time c.time) (z ∷ climb c l) (climb z l)

  unfoldable pub climbed : List (Cand W) → List (Cand W)
  climbed [] = []
  climbed (x ∷ l) = climb x l

  -- loads that rise
  pub record Lighter (a b : Cand W) : Type 0 where
    pub light : a.load < b.load

  pub climb-all : {P : Cand W → Type 0} (z : Cand W) {l : List (Cand W)} → P z → All P l → All P (climb z l)
  unfolding climb
  climb-all z p nil = cons p nil
  climb-all {P} z p (cons {x = c} {xs = l} q t) = go (lt_z z.time c.time) (climb-all z p t) (climb-all c q t)
    where
      go : (b : Bool) → All P (climb z l) → All P (climb c l) → All P (cond b (z ∷ climb c l) (climb z l))
      go true a b = cons p b
      go false a b = a

  record Up (a b : Cand W) : Type 0 where
    light : a.load ≤ b.load
    early : a.time ≤ℤ b.time

  climb-up : (z : Cand W) {l : List (Cand W)} → EveryTwo Lighter (z ∷ l) → All (Up z) (climb z l)
  unfolding climb
  climb-up z {l = []} s = cons {x = z} (omega times) nil
  climb-up z {l = c ∷ l} (leads (cons n ns) (leads m ms)) = go (lt_z z.time c.time) (lt-true z.time c.time) (climb-up z {l = l} (leads ns ms)) (climb-up c {l = l} (leads m ms))
    where
      go : (b : Bool) → (b ≡ true → z.time <ℤ c.time) → All (Up z) (climb z l) → All (Up c) (climb c l) → All (Up z) (cond b (z ∷ climb c l) (climb z l))
      go true f a b = let h = f refl in cons {x = z} (omega times) (all-imp (λ y u. omega times) b)
      go false f a b = a

  climb-rising : (z : Cand W) {l : List (Cand W)} → EveryTwo Lighter (z ∷ l) → EveryTwo Below (climb z l)
  unfolding climb
  climb-rising z {l = []} s = leads nil ends
  climb-rising z {l = c ∷ l} (leads (cons n ns) (leads m ms)) = go (lt_z z.time c.time) (lt-true z.time c.time) (climb-rising z {l = l} (leads ns ms)) (climb-rising c {l = l} (leads m ms)) (climb-up c (leads m ms))
    where
      go : (b : Bool) → (b ≡ true → z.time <ℤ c.time) → EveryTwo Below (climb z l) → EveryTwo Below (climb c l) → All (Up c) (climb c l) → EveryTwo Below (cond b (z ∷ climb c l) (climb z l))
      go true f a b u = let h = f refl in leads {x = z} (all-imp (λ y w. omega times) u) b
      go false f a b u = a

  climb-keeps : (z : Cand W) {d : Cand W} {l : List (Cand W)} → EveryTwo Lighter (z ∷ l) → Covered (z ∷ l) d → Covered (climb z l) d
  unfolding climb
  climb-keeps z {d} {l = []} s k = k
  climb-keeps z {d} {l = c ∷ l} (leads (cons n ns) (leads m ms)) k = go (lt_z z.time c.time) (lt-false z.time c.time) k (climb-keeps z {d = d} {l = l} (leads ns ms)) (climb-keeps c {d = d} {l = l} (leads m ms))
    where
      go : (b : Bool) → (b ≡ false → c.time ≤ℤ z.time) → Covered (z ∷ c ∷ l) d → (Covered (z ∷ l) d → Covered (climb z l) d) → (Covered (c ∷ l) d → Covered (climb c l) d) → Covered (cond b (z ∷ climb c l) (climb z l)) d
      go true f (here k) a b = here k
      go true f (there k) a b = there (b k)
      go false f (here k) a b = a (here k)
      go false f (there (here k)) a b = let h = f refl in a (here (omega times))
      go false f (there (there k)) a b = a (there k)

  pub climbed-thinned : {l : List (Cand W)} → EveryTwo Lighter l → Thinned l (climbed l)
  unfolding climbed
  climbed-thinned ends = record { rising = ends; members = nil; cover = nil }
  climbed-thinned (leads {x = x} {xs = l} n ns) = record {
    rising = climb-rising x (leads n ns);
    members = climb-all x (here refl) (all-imp (λ c e. there e) (all-self l));
    cover = all-imp (λ c e. climb-keeps x (leads n ns) (any-imp (λ y q. rw q (covers-refl c)) e)) (all-self (x ∷ l));
  }

  pub climb-length : (z : Cand W) (l : List (Cand W)) → length (climb z l) ≤ suc (length l)
  unfolding climb
  climb-length z [] = omega arith
  climb-length z (c ∷ l) = go (lt_z z.time c.time) (climb-length z l) (climb-length c l)
    where
      go : (b : Bool) → length (climb z l) ≤ suc (length l) → length (climb c l) ≤ suc (length l) → length (cond b (z ∷ climb c l) (climb z l)) ≤ suc (suc (length l))
      go true p q = omega arith
      go false p q = omega arith
