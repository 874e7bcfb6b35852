-- Candidates: a load, a time, and the placement that reaches them. A front of a set of candidates is its unbeaten ones, loads and times
-- strictly rising. Assumes nothing.
use Rattle.std.specs.Prelude.{◌≡◌, refl, ◌⊎◌, ℕ, ◌≤◌, ◌<◌, ℤ, ◌≤ℤ◌, ◌<ℤ◌}
use Rattle.std.proofs.Common.{ap₂, inl, inr, ⊎_elim}
use mathlib.Core.List.{List, [], ◌∷◌, map}
use Rattle.std.proofs.Math.Decide.{dec_le, ℕ_discrete}
use Rattle.std.proofs.Math.IntN.{ℤ_discrete}
use Rattle.laws.specs.Integers.{times, ≤-or-<}
use Rattle.rules.specs.Lists.{All, Any, nil, cons, here, there}
use Rattle.laws.specs.Lists.{Met, same, first, second, all-imp, any-imp, any-all, all-self, met, all-with, any-with, EveryTwo, ends, leads}

pub record Cand (W : Type 0) : Type 0 where
  pub load : ℕ
  pub time : ℤ
  pub place : W

module _ {W : Type 0} where
  -- the load no greater, the time no less
  pub record Covers (a b : Cand W) : Type 0 where
    pub light : a.load ≤ b.load
    pub late : b.time ≤ℤ a.time

  -- load and time both less
  pub record Below (a b : Cand W) : Type 0 where
    pub light : a.load < b.load
    pub early : a.time <ℤ b.time

  pub record Same (a b : Cand W) : Type 0 where
    pub load : a.load ≡ b.load
    pub time : a.time ≡ b.time

  pub covers-refl : (a : Cand W) → Covers a a
  covers-refl a = omega times

  pub covers-trans : {a b c : Cand W} → Covers a b → Covers b c → Covers a c
  covers-trans h k = omega times

  pub below-trans : {a b c : Cand W} → Below a b → Below b c → Below a c
  below-trans h k = omega times

  pub covers-antisym : {a b : Cand W} → Covers a b → Covers b a → Same a b
  covers-antisym h k = omega times

  -- the higher of two covers the lower in no way
  pub below-not : {a b : Cand W} → Below a b → ¬ (Covers a b)
  below-not h k = omega times

  pub above-not : {a b : Cand W} → Below a b → ¬ (Covers b a)
  above-not h k = omega times

  -- how two candidates stand
  pub data Stand (a b : Cand W) : Type 0 where
    covers : Covers a b → Stand a b
    covered : Covers b a → Stand a b
    below : Below a b → Stand a b
    above : Below b a → Stand a b

  unfoldable pub stand_by : (a b : Cand W) → Dec (a.load ≤ b.load) → Dec (b.load ≤ a.load) → (b.time ≤ℤ a.time) ⊎ (a.time <ℤ b.time) → (a.time ≤ℤ b.time) ⊎ (b.time <ℤ a.time) → Stand a b
  stand_by a b l (yes r) t (inl s) = covered (omega times)
  stand_by a b (yes l) (yes r) t (inr s) = covers (omega times)
  stand_by a b (no l) (yes r) t (inr s) = above (omega times)
  stand_by a b l (no r) (inl t) s = covers (omega times)
  stand_by a b l (no r) (inr t) s = below (omega times)

  unfoldable pub stand : (a b : Cand W) → Stand a b
  stand a b = stand_by a b (dec_le a.load b.load) (dec_le b.load a.load) (≤-or-< b.time a.time) (≤-or-< a.time b.time)

  -- some candidate of l covers c
  abbrev pub Covered : List (Cand W) → Cand W → Type 0
  Covered l c = Any (λ m. Covers m c) l

  -- l is the unbeaten candidates of R, loads and times rising
  pub record Front (R : Cand W → Type 0) (l : List (Cand W)) : Type 0 where
    pub rising : EveryTwo Below l
    pub sound : All R l
    pub whole : (c : Cand W) → R c → Covered l c

  -- ---- one candidate thinned into a list
  unfoldable pub put : (c x : Cand W) (xs rest : List (Cand W)) → Stand c x → List (Cand W)
  put c x xs rest (covers h) = rest
  put c x xs rest (covered h) = x ∷ xs
  put c x xs rest (below h) = c ∷ x ∷ xs
  put c x xs rest (above h) = x ∷ rest

  unfoldable pub thin_in : Cand W → List (Cand W) → List (Cand W)
  thin_in c [] = c ∷ []
  thin_in c (x ∷ xs) = put c x xs (thin_in c xs) (stand c x)

  thin_in-all : {Q : Cand W → Type 0} (c : Cand W) {l : List (Cand W)} → Q c → All Q l → All Q (thin_in c l)
  unfolding thin_in put
  thin_in-all c q nil = cons q nil
  thin_in-all {Q} c q (cons {x = x} {xs = xs} h t) = go (stand c x) (thin_in-all c q t)
    where
      go : (s : Stand c x) {r : List (Cand W)} → All Q r → All Q (put c x xs r s)
      go (covers k) a = a
      go (covered k) a = cons h t
      go (below k) a = cons q (cons h t)
      go (above k) a = cons h a

  thin_in-rising : (c : Cand W) {l : List (Cand W)} → EveryTwo Below l → EveryTwo Below (thin_in c l)
  unfolding thin_in put
  thin_in-rising c ends = leads nil ends
  thin_in-rising c (leads {x = x} {xs = xs} h t) = go (stand c x) (thin_in-rising c t) (λ b. thin_in-all c b h)
    where
      go : (s : Stand c x) {r : List (Cand W)} → EveryTwo Below r → (Below x c → All (Below x) r) → EveryTwo Below (put c x xs r s)
      go (covers k) a b = a
      go (covered k) a b = leads h t
      go (below k) a b = leads (cons k (all-imp (λ y j. below-trans k j) h)) (leads h t)
      go (above k) a b = leads (b k) a

  -- the new candidate is covered, and what was covered stays so
  thin_in-has : (c : Cand W) (l : List (Cand W)) → Covered (thin_in c l) c
  unfolding thin_in put
  thin_in-has c [] = here (covers-refl c)
  thin_in-has c (x ∷ xs) = go (stand c x) (thin_in-has c xs)
    where
      go : (s : Stand c x) {r : List (Cand W)} → Covered r c → Covered (put c x xs r s) c
      go (covers k) a = a
      go (covered k) a = here k
      go (below k) a = here (covers-refl c)
      go (above k) a = there a

  thin_in-keeps : {d : Cand W} (c : Cand W) {l : List (Cand W)} → Covered l d → Covered (thin_in c l) d
  unfolding thin_in put
  thin_in-keeps {d} c (here {x = x} {xs = xs} h) = go (stand c x) (thin_in-has c xs)
    where
      go : (s : Stand c x) {r : List (Cand W)} → Covered r c → Covered (put c x xs r s) d
      go (covers k) a = any-imp (λ m j. covers-trans j (covers-trans k h)) a
      go (covered k) a = here h
      go (below k) a = there (here h)
      go (above k) a = here h
  thin_in-keeps {d} c (there {x = x} {xs = xs} t) = go (stand c x) (thin_in-keeps c t)
    where
      go : (s : Stand c x) {r : List (Cand W)} → Covered r d → Covered (put c x xs r s) d
      go (covers k) a = a
      go (covered k) a = there t
      go (below k) a = there (there t)
      go (above k) a = there a

  -- ---- fronts
  -- one candidate more
  pub front-in : {R : Cand W → Type 0} {l : List (Cand W)} (c : Cand W) → Front R l → Front (λ d. R d ⊎ (d ≡ c)) (thin_in c l)
  front-in {l = l} c f = record {
    rising = thin_in-rising c f.rising;
    sound = thin_in-all c (inr refl) (all-imp (λ d r. inl r) f.sound);
    whole = λ d. ⊎_elim (λ r. thin_in-keeps c (f.whole d r)) (λ e. rw e (thin_in-has c l));
  }

  -- a front of R is one of any wider R' that R covers
  pub front-wider : {R R' : Cand W → Type 0} {l : List (Cand W)} → ((c : Cand W) → R c → R' c) → ((c : Cand W) → R' c → (d : Cand W) × R d × Covers d c) → Front R l → Front R' l
  front-wider up down f = record {
    rising = f.rising;
    sound = all-imp up f.sound;
    whole = λ c r. let (d, q, k) = down c r in any-imp (λ m j. covers-trans j k) (f.whole d q);
  }

  -- ---- a front has no choice but in its placements
  abbrev pub pair : Cand W → ℕ × ℤ
  pair c = (c.load, c.time)

  same-pair : {a b : Cand W} → Same a b → pair a ≡ pair b
  same-pair s = λ i. (s.load i, s.time i)

  abbrev Over : List (Cand W) → List (Cand W) → Type 0
  Over m l = All (Covered m) l

  heads : {x y : Cand W} {xs ys : List (Cand W)} → All (Below x) xs → All (Below y) ys → Covered (y ∷ ys) x → Covered (x ∷ xs) y → Covers y x
  heads b d (here k) c = k
  heads b d (there k) (here j) = absurd (let (z, h, i) = any-all d k in above-not h (covers-trans i j))
  heads b d (there k) (there j) = absurd (let (z, h, i) = any-all d k in let (z', h', i') = any-all b j in clash h i h' i')
    where
      clash : {x y z z' : Cand W} → Below y z → Covers z x → Below x z' → Covers z' y → ⊥
      clash p q r s = omega times

  tails : {x y : Cand W} {xs ys : List (Cand W)} → Covers x y → All (Below x) xs → All (Covered (y ∷ ys)) xs → All (Covered ys) xs
  tails k nil nil = nil
  tails k (cons b bs) (cons (here j) cs) = absurd (below-not b (covers-trans k j))
  tails k (cons b bs) (cons (there j) cs) = cons j (tails k bs cs)

  unique : {l m : List (Cand W)} → EveryTwo Below l → EveryTwo Below m → Over m l → Over l m → map pair l ≡ map pair m
  unique ends ends o p = refl
  unique ends (leads b bs) o (cons d p) = absurd (elim d [ ])
  unique (leads a at) ends (cons c o) p = absurd (elim c [ ])
  unique (leads a at) (leads b bt) (cons c o) (cons d p) =
      let k = heads a b c d in
      let j = heads b a d c in
      ap₂ ◌∷◌ (same-pair (covers-antisym j k)) (unique at bt (tails j a o) (tails k b p))

  -- two fronts of R have the same pairs in the same order
  pub front-unique : {R : Cand W → Type 0} {l m : List (Cand W)} → Front R l → Front R m → map pair l ≡ map pair m
  front-unique f g = unique f.rising g.rising (all-imp g.whole f.sound) (all-imp f.whole g.sound)

  pub dec-same : (a b : Cand W) → Dec (Same a b)
  dec-same a b = go (ℕ_discrete a.load b.load) (ℤ_discrete a.time b.time)
    where
      go : Dec (a.load ≡ b.load) → Dec (a.time ≡ b.time) → Dec (Same a b)
      go (yes l) (yes t) = yes (record { load = l; time = t })
      go (yes l) (no t) = no (λ s. t s.time)
      go (no l) t = no (λ s. l s.load)

  -- one pair beats another when its load is no greater, its time no less, and the two differ
  pub record Beats (a b : Cand W) : Type 0 where
    pub covers : Covers a b
    pub differ : ¬ (Same a b)

  pub record Unbeaten (R : Cand W → Type 0) (c : Cand W) : Type 0 where
    pub reached : R c
    pub unbeaten : (d : Cand W) → R d → ¬ (Beats d c)

  -- a member that covers a member is it
  alone : {l : List (Cand W)} {m d : Cand W} → EveryTwo Below l → Any (λ x. x ≡ m) l → Covered l d → Covers d m → Same d m
  alone {l} {m} {d} r a b k = go (met r a b)
    where
      go : Met Below (λ x. x ≡ m) (λ x. Covers x d) → Same d m
      go (same x e h) = covers-antisym k (rw e at h)
      go (first x y b e h) = absurd (above-not b (covers-trans h (rw (← e) at k)))
      go (second x y b e h) = absurd (below-not b (covers-trans h (rw (← e) at k)))

  -- the members of a front are unbeaten, and every unbeaten pair is a member's
  pub front-unbeaten : {R : Cand W → Type 0} {l : List (Cand W)} → Front R l → All (Unbeaten R) l
  front-unbeaten {R} {l} f = all-with (λ m r a. record { reached = r; unbeaten = λ d q b. b.differ (alone f.rising a (f.whole d q) b.covers) }) f.sound (all-self l)

  pub unbeaten-front : {R : Cand W → Type 0} {l : List (Cand W)} (c : Cand W) → Front R l → Unbeaten R c → Any (λ m. Same m c) l
  unbeaten-front {R} c f u = any-with (λ m r k. go m r k (dec-same m c)) f.sound (f.whole c u.reached)
    where
      go : (m : Cand W) → R m → Covers m c → Dec (Same m c) → Same m c
      go m r k (yes s) = s
      go m r k (no s) = absurd (u.unbeaten m r (record { covers = k; differ = s }))
