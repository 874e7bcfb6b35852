-- The method over a whole tree: what a candidate reaches there, the list that the method makes of it, and that of a front the first
-- greatest at the driver is planned. Assumes nothing.
use Rattle.std.specs.Prelude.{◌≡◌, List, [], ◌∷◌, ℤ, length}
use Rattle.std.proofs.Math.Path.{refl, sym, ap, ap₂}
use Rattle.std.proofs.Common.{◌∙◌, inl, inr, arith}
use Prim.Native.Nat.{ℕ, ◌+◌, ◌*◌}
use Rattle.std.proofs.Math.Nat.{mul-le-mul_left}
use Rattle.rules.specs.Quantities.{◌⊖◌}
use Rattle.rules.specs.Lists.{nil, cons, here}
use Rattle.rules.specs.Entries.{Repeater}
use Rattle.rules.specs.Placements.{Placement}
use Rattle.rules.specs.Net.{Wire, Tree, sink, site, wire, both}
use Rattle.rules.specs.Slack.{seen_load, repeater_delay, wire_delay, IsSlack}
use Rattle.rules.specs.Slack.{load_of}
use Rattle.rules.specs.Pairs.{On, Legal, Planned}
use Rattle.laws.specs.Integers.{times, ≤-refl, minℤ}
use Rattle.laws.specs.Lists.{ends, leads}
use Rattle.laws.specs.Candidates.{Cand, Covers, Front}
use Rattle.laws.specs.Steps.{value, best, Better, front-best, merge}
use Rattle.laws.specs.Moves.{behind, wire_step, site_step}
use Rattle.laws.specs.Trees.{least-unique, slack_is}
use Rattle.laws.specs.Trees.{time as time_of}
use Rattle.laws.specs.Joining.{join_marks, with_mark}

-- no two of a tree's sites have one number
abbrev pub Proper : Tree → Type 0
Proper (sink pin due) = Unit {0}
Proper (site k t) = (¬ (On t k)) × Proper t
Proper (wire w t) = Proper t
Proper (both s t) = ((j : ℕ) → On s j → ¬ (On t j)) × Proper s × Proper t

module _ (types : List Repeater) where
  -- the candidate's placement is legal there and has its load and its time
  pub record Reaches (t : Tree) (c : Cand Placement) : Type 0 where
    pub legal : Legal types t c.place
    pub load : c.load ≡ load_of types c.place t
    pub time : c.time ≡ time_of types c.place t

  -- load and time look at the tree's own sites alone
  pub same_load : (t : Tree) (p q : Placement) → ((j : ℕ) → On t j → p j ≡ q j) → load_of types p t ≡ load_of types q t
  unfolding load_of
  same_load (sink pin due) p q e = refl
  same_load (site k t) p q e = ap₂ (seen_load types) (e k (inl refl)) (same_load t p q (λ j o. e j (inr o)))
  same_load (wire w t) p q e = ap (λ x. w.capacitance + x) (same_load t p q e)
  same_load (both s t) p q e = ap₂ ◌+◌ (same_load s p q (λ j o. e j (inl o))) (same_load t p q (λ j o. e j (inr o)))

  pub same-time : (t : Tree) (p q : Placement) → ((j : ℕ) → On t j → p j ≡ q j) → time_of types p t ≡ time_of types q t
  unfolding time_of
  same-time (sink pin due) p q e = refl
  same-time (site k t) p q e = ap₂ ◌⊖◌ (same-time t p q (λ j o. e j (inr o))) (ap₂ (repeater_delay types) (e k (inl refl)) (same_load t p q (λ j o. e j (inr o))))
  same-time (wire w t) p q e = ap₂ ◌⊖◌ (same-time t p q e) (ap (wire_delay w) (same_load t p q e))
  same-time (both s t) p q e = ap₂ minℤ (same-time s p q (λ j o. e j (inl o))) (same-time t p q (λ j o. e j (inr o)))

  -- the candidate that a placement reaches
  unfoldable pub cand_of : Tree → Placement → Cand Placement
  cand_of t p = record { load = load_of types p t; time = time_of types p t; place = p }

  pub reaches : {t : Tree} {p : Placement} → Legal types t p → Reaches t (cand_of t p)
  unfolding cand_of
  reaches l = record { legal = l; load = refl; time = refl }

  pub matches : {c d : Cand Placement} → d.load ≡ c.load → d.time ≡ c.time → Covers d c
  matches h k = omega times

  -- ---- a sink
  unfoldable pub pinned : ℕ → ℤ → Cand Placement
  pinned pin due = record { load = pin; time = due; place = λ j. 0 }

  pub empty-legal : (t : Tree) → Legal types t (λ j. 0)
  empty-legal t = record { known = λ j. omega arith; only = λ j h. refl }

  pub front-sink : (pin : ℕ) (due : ℤ) → Front (Reaches (sink pin due)) (pinned pin due ∷ [])
  unfolding pinned load_of time_of
  front-sink pin due = record {
    rising = leads nil ends;
    sound = cons (record { legal = empty-legal _; load = refl; time = refl }) nil;
    whole = λ c r. here (matches (sym r.load) (sym r.time));
  }

  -- ---- a wire
  pub behind-reaches : {t : Tree} {c : Cand Placement} (w : Wire) → Reaches t c → Reaches (wire w t) (behind w c)
  unfolding behind load_of time_of
  behind-reaches w r = record { legal = record { known = r.legal.known; only = r.legal.only }; load = rw r.load; time = rw (r.load, r.time) }

  -- ---- the whole
  unfoldable pub front_of : Tree → List (Cand Placement)
  front_of (sink pin due) = pinned pin due ∷ []
  front_of (site k t) = site_step types (with_mark k) (length types) (front_of t)
  front_of (wire w t) = wire_step w (front_of t)
  front_of (both s t) = merge join_marks (front_of s) (front_of t)

  -- ---- at the driver
  slack-value : {t : Tree} {c : Cand Placement} {slack : ℤ} (driver : ℕ) → Reaches t c → IsSlack types c.place driver t slack → slack ≡ value (λ m. driver * m) c
  unfolding IsSlack value
  slack-value {t} {c} driver r f = least-unique f (slack_is types c.place driver t) ∙ sym (ap₂ ◌⊖◌ r.time (ap (λ m. driver * m) r.load))

  value-slack : {t : Tree} {c : Cand Placement} (driver : ℕ) → Reaches t c → IsSlack types c.place driver t (value (λ m. driver * m) c)
  unfolding value
  value-slack {t} {c} driver r = rw (r.time, r.load) (slack_is types c.place driver t)

  -- the first greatest of a front behind the driver is planned
  pub planned : {x : Cand Placement} {l : List (Cand Placement)} (driver : ℕ) (t : Tree) → Front (Reaches t) (x ∷ l)
      → Planned types driver t (best (λ m. driver * m) x l).place (value (λ m. driver * m) (best (λ m. driver * m) x l)) (best (λ m. driver * m) x l).load
  unfolding cand_of
  planned {x} {l} driver t F = go (front-best (λ m. driver * m) (λ a b h. mul-le-mul_left driver h) F)
    where
      go : {b : Cand Placement} → Reaches t b × ((d : Cand Placement) → Reaches t d → Better (λ m. driver * m) b d) → Planned types driver t b.place (value (λ m. driver * m) b) b.load
      go {b} (r, better) = record {
        legal = r.legal;
        slack_is = value-slack driver r;
        load_is = r.load;
        greatest = λ q other h g. rw (slack-value driver (reaches h) g) (better (cand_of t q) (reaches h)).no_less;
        least = λ q h g. (better (cand_of t q) (reaches h)).tie (rw (← (slack-value driver (reaches h) g)) (≤-refl _));
      }
