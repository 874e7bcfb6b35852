-- From the method's candidates to the paper's pairs: the pairs of a front are the unbeaten pairs, in one order; and the list of two lists
-- that meet at a branch. Assumes nothing.
use Rattle.std.specs.Prelude.{◌≡◌, refl, List, [], ◌∷◌, map, ◌↔◌, ℕ, ◌+◌, ℤ}
use Rattle.std.proofs.Math.Path.{sym, ap}
use Rattle.std.proofs.Common.{subst, ◌∙◌}
use Rattle.std.proofs.Math.Bridge.{le_prop}
use Rattle.std.proofs.Math.Dec.{T_prop}
use Rattle.std.specs.Int.Signed.{lt_z}
use Rattle.rules.specs.Lists.{All, Any, Least, nil, cons, here, there}
use Rattle.rules.specs.Entries.{Repeater}
use Rattle.rules.specs.Placements.{Placement}
use Rattle.rules.specs.Net.{Tree}
use Rattle.rules.specs.Pairs.{Pair, NoWorse, Beats, Unbeaten, Reached}
use Rattle.rules.specs.Pairs.{Below as PairBelow}
use Rattle.laws.specs.Lists.{all_head, all_tail, all_map, any-map, any-all, EveryTwo, ends, leads, two-pairwise, pairwise-two}
use Rattle.laws.specs.Candidates.{Cand, Same, Front, pair, front-unique, front-unbeaten, unbeaten-front}
use Rattle.laws.specs.Candidates.{Beats as CandBeats}
use Rattle.laws.specs.Candidates.{Unbeaten as CandUnbeaten}
use Rattle.laws.specs.Steps.{merge}
use Rattle.laws.specs.Trees.{least-unique, time-is}
use Rattle.laws.specs.Method.{Reaches, cand_of, reaches}

-- the pair of a candidate, its placement forgotten
unfoldable pub pair_of : {W : Type 0} → Cand W → Pair
pair_of c = record { load = c.load; time = c.time }

-- a pair as a candidate that carries nothing
unfoldable pub lone : Pair → Cand (Unit {0})
lone c = record { load = c.load; time = c.time; place = tt }

two-map : {A B : Type 0} {R : A → A → Type 0} {S : B → B → Type 0} (f : A → B) → ((x y : A) → R x y → S (f x) (f y)) → {l : List A} → EveryTwo R l → EveryTwo S (map f l)
two-map f g ends = ends
two-map f g (leads {x = x} h t) = leads (all_map f (g x) h) (two-map f g t)

-- one pair is below another in one way
pub below-once : (a b : Pair) → IsProp (PairBelow a b)
below-once a b x y = λ i. record { load = le_prop x.load y.load i; time = record { lt = T_prop (lt_z a.time b.time) x.time.lt y.time.lt i } }

-- the pairs of a front of Q are the unbeaten pairs of R, where R is the pairs of Q's candidates
pub pairs-front : {W : Type 0} {Q : Cand W → Type 0} {R : Pair → Type 0} {l : List (Cand W)} → ((c : Cand W) → Q c → R (pair_of c)) → ((c : Pair) → R c → (d : Cand W) × Q d × (pair_of d ≡ c)) → Front Q l → Unbeaten R (map pair_of l)
unfolding pair_of
pairs-front {R = R} {l} up down F = record {
  rising = two-pairwise below-once (two-map pair_of (λ a b h. record { load = h.light; time = h.early }) F.rising);
  reached = all_map pair_of up F.sound;
  whole = λ c r. let (d, q, e) = down c r in subst (λ (c : Pair). Any (λ m. NoWorse m c) (map pair_of l)) e (any-map pair_of (λ m k. record { load = k.light; time = k.late }) (F.whole d q));
}

module _ (types : List Repeater) (t : Tree) where
  reached-by : (c : Cand Placement) → Reaches types t c → Reached types t (pair_of c)
  unfolding pair_of
  reached-by c r = (c.place, r.legal, record { load = r.load; time = rw r.time (time-is types c.place t) })

  -- a front's pairs are the unbeaten pairs
  pub front-pairs : {l : List (Cand Placement)} → Front (Reaches types t) l → Unbeaten (Reached types t) (map pair_of l)
  unfolding pair_of cand_of
  front-pairs F = pairs-front reached-by down F
    where
      down : (c : Pair) → Reached types t c → (d : Cand Placement) × Reaches types t d × (pair_of d ≡ c)
      down c (p, legal, is) =
          let e = least-unique (time-is types p t) is.time in
          (cand_of types t p, reaches types legal, λ i. record { load = sym is.load i; time = e i })

back : ℕ × ℤ → Pair
back c = record { load = c.0; time = c.1 }

lone-back : (l : List Pair) → map back (map pair (map lone l)) ≡ l
unfolding back lone
lone-back [] = refl
lone-back (c ∷ l) = ap (λ m. c ∷ m) (lone-back l)

module _ {A B : Type 0} {P : A → Type 0} {Q : B → Type 0} (f : A → B) (g : (x : A) → Q (f x) → P x) where
  all-unmap : (l : List A) → All Q (map f l) → All P l
  all-unmap [] a = nil
  all-unmap (x ∷ l) a = cons (g x (all_head a)) (all-unmap l (all_tail a))

  any-unmap : (l : List A) → Any Q (map f l) → Any P l
  any-unmap [] a = absurd (elim a [ ])
  any-unmap (x ∷ l) (here q) = here (g x q)
  any-unmap (x ∷ l) (there a) = there (any-unmap l a)

same-pairs : (a b : Pair) → Same (lone a) (lone b) → a ≡ b
unfolding lone
same-pairs a b s = λ i. record { load = s.load i; time = s.time i }

-- of R, and no pair of R beats it
pub record NoneBeats (R : Pair → Type 0) (c : Pair) : Type 0 where
  pub reached : R c
  pub none : (d : Pair) → R d → ¬ (Beats d c)

module _ {R : Pair → Type 0} where
  pub front-lone : {l : List Pair} → Unbeaten R l → Front (λ c. R (pair_of c)) (map lone l)
  unfolding pair_of lone
  front-lone {l} u = record {
    rising = two-map lone (λ a b h. record { light = h.load; early = h.time }) (pairwise-two u.rising);
    sound = all_map lone (λ c r. r) u.reached;
    whole = λ c r. any-map lone (λ m k. record { light = k.load; late = k.time }) (u.whole (pair_of c) r);
  }

  -- two lists of the unbeaten pairs of R are equal: the same pairs in the same order
  pub unbeaten-unique : {l m : List Pair} → Unbeaten R l → Unbeaten R m → l ≡ m
  unbeaten-unique {l} {m} u v = sym (lone-back l) ∙ ap (map back) (front-unique (front-lone u) (front-lone v)) ∙ lone-back m

  -- no pair of the list is beaten
  pub listed-unbeaten : {l : List Pair} → Unbeaten R l → All (NoneBeats R) l
  unfolding pair_of lone
  listed-unbeaten {l} u = all-unmap lone go l (front-unbeaten (front-lone u))
    where
      go : (c : Pair) → CandUnbeaten (λ d. R (pair_of d)) (lone c) → NoneBeats R c
      go c b = record { reached = b.reached; none = λ d r k. b.unbeaten (lone d) r (record { covers = record { light = k.no_worse.load; late = k.no_worse.time }; differ = λ s. k.differ (same-pairs d c s) }) }

  -- every pair that none beats is in the list
  pub unbeaten-listed : {l : List Pair} (c : Pair) → Unbeaten R l → NoneBeats R c → Any (λ m. m ≡ c) l
  unfolding pair_of lone
  unbeaten-listed {l} c u n = any-unmap lone (λ m s. same-pairs m c s) l (unbeaten-front (lone c) (front-lone u) (record { reached = n.reached; unbeaten = λ d r b. n.none (pair_of d) r (beats d b) }))
    where
      beats : (d : Cand (Unit {0})) → CandBeats d (lone c) → Beats (pair_of d) c
      beats d b = record { no_worse = record { load = b.covers.light; time = b.covers.late }; differ = λ e. b.differ (record { load = ap (λ x. x.load) e; time = ap (λ x. x.time) e }) }

  -- the list is exactly the pairs of R that none beats
  pub listed-iff : {l : List Pair} (c : Pair) → Unbeaten R l → Any (λ m. m ≡ c) l ↔ NoneBeats R c
  listed-iff c u = (λ h. let (m, n, e) = any-all (listed-unbeaten u) h in subst (NoneBeats R) e n, unbeaten-listed c u)

-- ---- two lists meeting at a branch
-- one of l and one of m beside each other: loads add, and the lesser time counts
pub record Meets (l m : List Pair) (c : Pair) : Type 0 where
  pub left : Pair
  pub right : Pair
  pub left_in : Any (λ x. x ≡ left) l
  pub right_in : Any (λ x. x ≡ right) m
  pub load : c.load ≡ left.load + right.load
  pub time : Least c.time (left.time ∷ right.time ∷ [])

-- the branch's list
unfoldable pub meeting : (l m : List Pair) → List Pair
meeting l m = map pair_of (merge (λ a b. tt) (map lone l) (map lone m))
