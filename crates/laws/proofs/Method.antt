-- What is true of the method over a whole tree: at each place its list is the front of what legal placements there reach, each carried
-- placement reaching its pair. Assumes nothing.
use Rattle.std.specs.Prelude.{◌≡◌, List, length}
use Rattle.std.proofs.Math.Path.{refl, sym, ap, ap₂}
use Rattle.std.proofs.Common.{◌∙◌, inl, inr, ⊎_elim, arith}
use Prim.Native.Nat.{ℕ, zero, suc, ◌+◌, ◌≤◌}
use Rattle.std.proofs.Math.Decide.{ℕ_discrete}
use Rattle.rules.specs.Quantities.{◌⊖◌}
use Rattle.rules.specs.Entries.{Repeater}
use Rattle.rules.specs.Placements.{Placement}
use Rattle.rules.specs.Net.{Wire, Tree, sink, site, wire, both}
use Rattle.rules.specs.Slack.{seen_load, repeater_delay}
use Rattle.rules.specs.Slack.{load_of}
use Rattle.rules.specs.Pairs.{On, Legal}
use Rattle.laws.specs.Integers.{⊖-zero, minℤ}
use Rattle.laws.specs.Candidates.{Cand, Covers, Front, covers-refl, front-wider}
use Rattle.laws.specs.Steps.{Image, value, buffered, joined, Joins, merge}
use Rattle.laws.proofs.Steps.{front-merge}
use Rattle.laws.specs.Moves.{behind, wire_step, typed, Typed, site_step}
use Rattle.laws.proofs.Moves.{front-wire_step, front-site_step}
use Rattle.laws.specs.Trees.{time as time_of}
use Rattle.laws.specs.Joining.{join_marks, join-left, join-right, with_mark, with-mark-here, with-mark-there, dec-on, cut, cut_on, cut_off}
use Rattle.laws.specs.Method.{matches, Reaches, behind-reaches, reaches, cand_of, same-time, same_load, front_of, Proper, front-sink}

module _ (types : List Repeater) where
  -- ---- a wire
  pub front-wire : {t : Tree} {l : List (Cand Placement)} (w : Wire) → Front (Reaches types t) l → Front (Reaches types (wire w t)) (wire_step w l)
  unfolding behind load_of time_of cand_of
  front-wire {t} w F = front-wider up down (front-wire_step w F)
    where
      up : (c : Cand Placement) → Image (behind w) (Reaches types t) c → Reaches types (wire w t) c
      up c (a, r, e) = rw e (behind-reaches types w r)

      down : (c : Cand Placement) → Reaches types (wire w t) c → (d : Cand Placement) × Image (behind w) (Reaches types t) d × Covers d c
      down c r = (behind w (cand_of types t c.place), (cand_of types t c.place, reaches types (record { known = r.legal.known; only = r.legal.only }), refl), matches types (sym r.load) (sym r.time))

  -- ---- a branch
  cut-legal : (s t : Tree) {p : Placement} → Legal types t p → Legal types s (cut s p)
  cut-legal s t {p} l = record { known = λ j. go j (dec-on s j); only = λ j h. cut_off s p j h }
    where
      go : (j : ℕ) → Dec (On s j) → cut s p j ≤ length types
      go j (yes h) = rw cut_on (l.known j)
      go j (no h) = rw cut_off (omega arith)

  module _ (s t : Tree) (apart : (j : ℕ) → On s j → ¬ (On t j)) where
    left : (p q : Placement) → Legal types t q → (j : ℕ) → On s j → join_marks p q j ≡ p j
    left p q l j h = join-left p q j (l.only j (apart j h))

    right : (p q : Placement) → Legal types s p → (j : ℕ) → On t j → join_marks p q j ≡ q j
    right p q l j h = join-right p q j (l.only j (λ k. apart j k h))

    join-legal : {p q : Placement} → Legal types s p → Legal types t q → Legal types (both s t) (join_marks p q)
    join-legal {p} {q} l m = record { known = λ j. go j (dec-on s j); only = λ j h. join-left p q j (m.only j (λ k. h (inr k))) ∙ l.only j (λ k. h (inl k)) }
      where
        go : (j : ℕ) → Dec (On s j) → join_marks p q j ≤ length types
        go j (yes h) = rw (left p q m j h) (l.known j)
        go j (no h) = rw (join-right p q j (l.only j h)) (m.known j)

    pub front-both : {l m : List (Cand Placement)} → Front (Reaches types s) l → Front (Reaches types t) m → Front (Reaches types (both s t)) (merge join_marks l m)
    unfolding joined load_of time_of cand_of
    front-both F G = front-wider up down (front-merge join_marks F G)
      where
        up : (c : Cand Placement) → Joins join_marks (Reaches types s) (Reaches types t) c → Reaches types (both s t) c
        up c (x, y, r, q, e) = rw e (record {
          legal = join-legal r.legal q.legal;
          load = ap₂ ◌+◌ (r.load ∙ sym (same_load types s _ _ (left _ _ q.legal))) (q.load ∙ sym (same_load types t _ _ (right _ _ r.legal)));
          time = ap₂ minℤ (r.time ∙ sym (same-time types s _ _ (left _ _ q.legal))) (q.time ∙ sym (same-time types t _ _ (right _ _ r.legal)));
        })

        down : (c : Cand Placement) → Reaches types (both s t) c → (d : Cand Placement) × Joins join_marks (Reaches types s) (Reaches types t) d × Covers d c
        down c r =
            let x = cand_of types s (cut s c.place) in
            let y = cand_of types t (cut t c.place) in (
              joined join_marks x y,
              (x, y, reaches types (cut-legal s (both s t) r.legal), reaches types (cut-legal t (both s t) r.legal), refl),
              matches types (ap₂ ◌+◌ (same_load types s _ _ (cut_on s _)) (same_load types t _ _ (cut_on t _)) ∙ sym r.load) (ap₂ minℤ (same-time types s _ _ (cut_on s _)) (same-time types t _ _ (cut_on t _)) ∙ sym r.time),
            )

  -- ---- a site
  module _ (k : ℕ) (t : Tree) (fresh : ¬ (On t k)) where
    off : (j : ℕ) → On t j → ¬ (j ≡ k)
    off j h e = fresh (rw e at h)

    mark-legal : (m : ℕ) {p : Placement} → m ≤ length types → Legal types t p → Legal types (site k t) (with_mark k m p)
    mark-legal m {p} h l = record { known = λ j. known j (ℕ_discrete j k); only = λ j o. with-mark-there k m p j (λ e. o (inl e)) ∙ l.only j (λ q. o (inr q)) }
      where
        known : (j : ℕ) → Dec (j ≡ k) → with_mark k m p j ≤ length types
        known j (yes e) = rw (e, with-mark-here) h
        known j (no e) = rw with-mark-there (l.known j)

    unmark-legal : (p : Placement) → Legal types (site k t) p → Legal types t (with_mark k 0 p)
    unmark-legal p l = record { known = λ j. known j (ℕ_discrete j k); only = λ j o. only j o (ℕ_discrete j k) }
      where
        known : (j : ℕ) → Dec (j ≡ k) → with_mark k 0 p j ≤ length types
        known j (yes e) = rw (e, with-mark-here) (omega arith)
        known j (no e) = rw with-mark-there (l.known j)

        only : (j : ℕ) → ¬ (On t j) → Dec (j ≡ k) → with_mark k 0 p j ≡ 0
        only j o (yes e) = rw (e, with-mark-here)
        only j o (no e) = with-mark-there k 0 p j e ∙ l.only j (λ q. ⊎_elim e o q)

    narrow : (p : Placement) → Legal types (site k t) p → p k ≡ 0 → Legal types t p
    narrow p l z = record { known = l.known; only = λ j o. only j o (ℕ_discrete j k) }
      where
        only : (j : ℕ) → ¬ (On t j) → Dec (j ≡ k) → p j ≡ 0
        only j o (yes e) = rw e z
        only j o (no e) = l.only j (λ q. ⊎_elim e o q)

    mark-load : (m : ℕ) (p : Placement) → load_of types (with_mark k m p) t ≡ load_of types p t
    mark-load m p = same_load types t _ _ (λ j o. with-mark-there k m p j (off j o))

    mark-time : (m : ℕ) (p : Placement) → time_of types (with_mark k m p) t ≡ time_of types p t
    mark-time m p = same-time types t _ _ (λ j o. with-mark-there k m p j (off j o))

    pub front-site : {l : List (Cand Placement)} → Front (Reaches types t) l → Front (Reaches types (site k t)) (site_step types (with_mark k) (length types) l)
    unfolding buffered value load_of time_of cand_of seen_load repeater_delay
    front-site {l} F = front-wider up down (front-site_step types (with_mark k) (length types) F)
      where
        up : (d : Cand Placement) → Typed types (with_mark k) (length types) (Reaches types t) d → Reaches types (site k t) d
        up d (inl r) =
            let z = r.legal.only k fresh in
            record {
              legal = record { known = r.legal.known; only = λ j o. r.legal.only j (λ q. o (inr q)) };
              load = rw z r.load;
              time = rw (z, ⊖-zero) r.time;
            }
        up d (inr (n, h, (c, r, e))) = rw e (record {
          legal = mark-legal (suc n) h r.legal;
          load = rw with-mark-here;
          time = rw (with-mark-here, mark-load (suc n) c.place, mark-time (suc n) c.place) (ap₂ ◌⊖◌ r.time (ap (repeater_delay types (suc n)) r.load));
        })

        down : (d : Cand Placement) → Reaches types (site k t) d → (c : Cand Placement) × Typed types (with_mark k) (length types) (Reaches types t) c × Covers c d
        down d r = go (d.place k) refl
          where
            go : (m : ℕ) → d.place k ≡ m → (c : Cand Placement) × Typed types (with_mark k) (length types) (Reaches types t) c × Covers c d
            go zero e = (d, inl (record { legal = narrow d.place r.legal e; load = rw e at r.load; time = rw (e, ⊖-zero) at r.time }), covers-refl d)
            go (suc n) e =
                let c = cand_of types t (with_mark k 0 d.place) in (
                  typed types (with_mark k) (suc n) c,
                  inr (n, omega (arith, r.legal.known k), (c, reaches types (unmark-legal d.place r.legal), refl)),
                  matches types (sym (rw e at r.load)) (ap₂ ◌⊖◌ (mark-time 0 d.place) (ap₂ (repeater_delay types) (sym e) (mark-load 0 d.place)) ∙ sym r.time),
                )

  -- ---- the whole
  pub method : (t : Tree) → Proper t → Front (Reaches types t) (front_of types t)
  unfolding front_of
  method (sink pin due) ok = front-sink types pin due
  method (site k t) ok = front-site k t ok.0 (method t ok.1)
  method (wire w t) ok = front-wire w (method t ok)
  method (both s t) ok = front-both s t ok.0 (method s ok.1) (method t ok.2)
