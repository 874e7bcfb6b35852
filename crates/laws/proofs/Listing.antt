-- What is true of the lists of pairs: the list at a row is the unbeaten pairs that legal placements reach there, in one order, and no
-- longer than one and one for each type at each site at or below; and a branch's is the unbeaten ones of all the pairs that meet. Assumes
-- nothing.
use Rattle.std.specs.Prelude.{◌≡◌, refl, List, [], ◌∷◌, map, ◌+◌, ◌*◌, ◌≤◌, ℤ, length}
use Rattle.std.proofs.Math.Path.{sym, ap}
use Rattle.std.proofs.Common.{⊎_elim, le_refl}
use Rattle.std.proofs.lemmas.List.{length-map}
use Rattle.rules.specs.Lists.{Any, Least, nil, cons, here, there}
use Rattle.rules.specs.Entries.{Repeater}
use Rattle.rules.specs.Net.{Tree}
use Rattle.rules.specs.Pairs.{Pair, NoWorse, Unbeaten, Reached, sites_on}
use Rattle.rules.specs.Pairs.{Below as PairBelow}
use Rattle.laws.specs.Lists.{all-self, any-imp, EveryTwo, two-pairwise}
use Rattle.laws.specs.Candidates.{Cand}
use Rattle.laws.specs.Integers.{≤-refl, Lesser, min-lesser}
use Rattle.laws.specs.Steps.{joined, Joins}
use Rattle.laws.proofs.Steps.{front-merge}
use Rattle.laws.specs.Trees.{least-unique}
use Rattle.laws.specs.Method.{Proper, front_of}
use Rattle.laws.proofs.Method.{method}
use Rattle.laws.proofs.Bounds.{reached-length}
use Rattle.laws.specs.Listing.{pair_of, front-pairs, unbeaten-unique, below-once, pairs-front, front-lone, lone, Meets, meeting}

-- ---- at any place of a net
module _ (types : List Repeater) (t : Tree) (ok : Proper t) where
  -- there is a list
  pub listed : Unbeaten (Reached types t) (map pair_of (front_of types t))
  listed = front-pairs types t (method types t ok)

  -- its length is at most one and one for each type at each site at or below
  pub listed-length : (l : List Pair) → Unbeaten (Reached types t) l → length l ≤ 1 + length types * sites_on t
  listed-length l u = rw (unbeaten-unique u listed, length-map (front_of types t) pair_of) (reached-length types t (front_of types t) ok (method types t ok))

-- ---- two lists meeting at a branch
no-worse : {a b : Pair} → a ≡ b → NoWorse a b
no-worse {a} {b} e = rw e (record { load = le_refl _; time = ≤-refl _ })

-- a rising list is the unbeaten ones of its own pairs
rising-unbeaten : {l : List Pair} → EveryTwo PairBelow l → Unbeaten (λ c. Any (λ x. x ≡ c) l) l
rising-unbeaten {l} r = record { rising = two-pairwise below-once r; reached = all-self l; whole = λ c h. any-imp (λ m e. no-worse e) h }

lesser-least : {a b m : ℤ} → Lesser a b m → Least m (a ∷ b ∷ [])
lesser-least h = record { below = cons h.left (cons h.right nil); among = ⊎_elim here (λ e. there (here e)) h.one }

-- it is the unbeaten ones of all the pairs that meet
pub meeting-unbeaten : {l m : List Pair} → EveryTwo PairBelow l → EveryTwo PairBelow m → Unbeaten (Meets l m) (meeting l m)
unfolding meeting pair_of lone joined
meeting-unbeaten {l} {m} r s = pairs-front up down (front-merge (λ a b. tt) (front-lone (rising-unbeaten r)) (front-lone (rising-unbeaten s)))
  where
    Of : List Pair → Cand (Unit {0}) → Type 0
    Of k c = Any (λ x. x ≡ pair_of c) k

    up : (c : Cand (Unit {0})) → Joins (λ a b. tt) (Of l) (Of m) c → Meets l m (pair_of c)
    up c (a, b, p, q, e) = record { left = pair_of a; right = pair_of b; left_in = p; right_in = q; load = ap (λ x. x.load) e; time = rw e (lesser-least (min-lesser a.time b.time)) }

    down : (c : Pair) → Meets l m c → (d : Cand (Unit {0})) × Joins (λ a b. tt) (Of l) (Of m) d × (pair_of d ≡ c)
    down c h =
        let e = least-unique (lesser-least (min-lesser h.left.time h.right.time)) h.time in
        (joined (λ a b. tt) (lone h.left) (lone h.right), (lone h.left, lone h.right, h.left_in, h.right_in, refl), λ i. record { load = sym h.load i; time = e i })
