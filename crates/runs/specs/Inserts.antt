-- A record put into a list by one pass over its run: past what is below it, over what it beats, the rest moved on; where one covers it,
-- its equal too, the list stays. Assumes nothing.
use Rattle.std.specs.Prelude.{◌≡◌, refl, Bool, true, false, cond, List, [], ◌∷◌, ◌++◌, ℕ, ◌+◌, ◌-◌, ◌≤◌, ◌<◌, ltb, length, get_or, set}
use Rattle.std.proofs.Common.{sym, ap, ◌∙◌, append_assoc, append-nil, arith, length-set, get_or-set_same, ltb-true, ltb-false}
use Rattle.std.proofs.Math.Decide.{dec_lt}
use Rattle.rules.specs.declared.Femtosecond.{Femtosecond}
use Rattle.rules.specs.Quantities.{work_room}
use Rattle.laws.specs.Candidates.{Covers, Below, thin_in}
use Rattle.laws.proofs.Ties.{thin-covered}
use Rattle.columns.specs.Parts.{part, part-nil, part-cons, part-snoc, part-over, part-under, part_length}
use Rattle.columns.specs.Run.{Candidate, blank}
use Rattle.columns.specs.Made.{Gives}
use Rattle.pairs.specs.Stands.{is_below, is_covering, is_covered, below-yes, below-no, covering-yes, covering-no, covered-yes, covered-no, thin-above, thin-covers, thin-below, stands-below}
use Rattle.rules.specs.declared.Cand.{Cand}
use Rattle.rules.specs.Areas.{zeros}
use Rattle.turns.specs.declared.Step.{Step}
use Rattle.turns.specs.declared.Step.TheVariants.{Move, Insert, Shift}
use Rattle.turns.specs.declared.Pass.{Pass}
use Rattle.turns.specs.declared.Turn.{Turn}
use Rattle.values.specs.Records.{cand_of, cands}
use Rattle.runs.specs.Cands.{cands-length, cands-at, cands-set}
use Rattle.turns.specs.Turns.{pass_of, Here, Shifting, Turned}
use Rattle.runs.specs.Passes.{first, second, Ready, Safe, Swept}
use Rattle.runs.specs.Sweeps.{kept-safe, kept-swept}

thin-nil : (c : Candidate) (e : ℕ) (w : List Candidate) → thin_in c (part e e w) ≡ c ∷ part e e w
unfolding thin_in
thin-nil c e w = rw (part-nil e w)

module _ (w₀ : List Cand) (at n : ℕ) (h : Cand) (v : Femtosecond) (inside : at + n < work_room) (room : work_room ≤ length w₀) where
  abbrev goal : List Candidate
  goal = thin_in (cand_of h) (part at (at + n) (cands w₀))

  -- how far a pass is in the list: what is made ends at `to`, what is left to read begins at `from`
  record Stays (w : List Cand) (from to : ℕ) : Type 0 where
    low : at ≤ to
    mid : to ≤ from
    high : from ≤ at + n
    long : work_room ≤ length w
    before : part 0 at (cands w) ≡ part 0 at (cands w₀)

  -- the list is made, up to `to`
  record Ends (w : List Cand) (to : ℕ) : Type 0 where
    low : at ≤ to
    high : to ≤ at + n + 1
    long : work_room ≤ length w
    before : part 0 at (cands w) ≡ part 0 at (cands w₀)
    list : part at to (cands w) ≡ goal

  -- a place is sought for the held one; it, then each in turn, is put before the next; the rest is moved; all is done
  data Inv : Pass → List Cand → Type 0 where
    seeking : {w : List Cand} (left from to : ℕ) → Stays w from to → left ≡ at + n + 1 - from → part at to (cands w) ++ thin_in (cand_of h) (part from (at + n) (cands w)) ≡ goal
        → Inv (pass_of Insert left from at to h v) w
    shifting : {w : List Cand} (left from to : ℕ) (held : Cand) → Stays w from to → left ≡ at + n + 1 - from → part at to (cands w) ++ (cand_of held ∷ part from (at + n) (cands w)) ≡ goal
        → Inv (pass_of Shift left from at to held v) w
    moving : {w : List Cand} (left from to : ℕ) → Stays w from to → left ≡ at + n - from → part at to (cands w) ++ part from (at + n) (cands w) ≡ goal
        → Inv (pass_of Move left from at to h v) w
    ended : {p : Pass} {w : List Cand} → p.left ≤ 0 → Ends w p.to → Inv p w

  here : {left from to : ℕ} {w : List Cand} (s : Step) (held : Cand) → Stays w from to → 0 < left → Here (pass_of s left from at to held v)
  here s held k l = record { left = l; from = omega (arith, k.high); with = omega arith; to = omega (arith, k.mid, k.high) }

  ready : (p : Pass) (w : List Cand) → Inv p w → 0 < p.left → Ready p w
  ready p w (seeking left from to k e g) l = record { long = k.long; here = here Insert h k l; can = tt }
  ready p w (shifting left from to held k e g) l = record { long = k.long; here = here Shift held k l; can = tt }
  ready p w (moving left from to k e g) l = record { long = k.long; here = here Move h k l; can = tt }
  ready p w (ended e k) l = absurd (omega arith)

  -- what is read next
  next : (w : List Cand) (from to : ℕ) → Stays w from to → from < at + n → part from (at + n) (cands w) ≡ cand_of (get_or w from zeros) ∷ part (from + 1) (at + n) (cands w)
  next w from to k l = rw (← (cands-at w from (omega (arith, k.long)))) (part-cons from (at + n) (cands w) blank l (omega (arith, cands-length w, k.long)))

  -- ---- a store where the made list ends
  module _ (w : List Cand) (from to : ℕ) (k : Stays w from to) (y : Cand) where
    grown : part at (to + 1) (cands (set w to y)) ≡ part at to (cands w) ++ (cand_of y ∷ [])
    grown =
        let e : to < length (cands w) = omega (arith, cands-length w, k.long, k.mid, k.high) in
        rw (cands-set w to y, part-snoc at to (set (cands w) to (cand_of y)) blank k.low (rw length-set e), part-over at to (cands w) to (cand_of y) (omega arith), get_or-set_same (cands w) to (cand_of y) blank e)

    same : part at to (cands (set w to y)) ≡ part at to (cands w)
    same = rw (cands-set w to y) (part-over at to (cands w) to (cand_of y) (omega arith))

    kept : part 0 at (cands (set w to y)) ≡ part 0 at (cands w₀)
    kept = rw (cands-set w to y) (part-over 0 at (cands w) to (cand_of y) k.low) ∙ k.before

    module _ (l : from < at + n) where
      rest : part (from + 1) (at + n) (cands (set w to y)) ≡ part (from + 1) (at + n) (cands w)
      rest = rw (cands-set w to y) (part-under (from + 1) (at + n) (cands w) to (cand_of y) (omega (arith, k.mid)) (omega arith))

      on : Stays (set w to y) (from + 1) (to + 1)
      on = record { low = omega (arith, k.low); mid = omega (arith, k.mid); high = omega arith; long = rw length-set k.long; before = kept }

      off : Stays (set w to y) (from + 1) to
      off = record { low = k.low; mid = omega (arith, k.mid); high = omega arith; long = rw length-set k.long; before = kept }

  -- ---- the held one is put, and the next is held
  shift : (s : Step) (w : List Cand) (left from to : ℕ) (held : Cand) → Stays w from to → left ≡ at + n + 1 - from → part at to (cands w) ++ (cand_of held ∷ part from (at + n) (cands w)) ≡ goal
      → (t : Turn) → Shifting (pass_of s left from at to held v) (get_or w from zeros) t → Inv t.next (set w to t.put)
  shift s w left from to held k e g t is = rw (is.0, is.1) (go (dec_lt from (at + n)))
    where
      go : Dec (from < at + n) → Inv (pass_of Shift (left - 1) (from + 1) at (to + 1) (get_or w from zeros) v) (set w to held)
      go (yes l) =
          shifting {w = set w to held} (left - 1) (from + 1) (to + 1) (get_or w from zeros) (on w from to k held l) (omega arith)
          (rw (grown w from to k held, rest w from to k held l, append_assoc) (rw (next w from to k l) at g))
      go (no l) =
          let z : from ≡ at + n = omega (arith, l, k.high) in
          ended {p = pass_of Shift (left - 1) (from + 1) at (to + 1) (get_or w from zeros) v} {w = set w to held} (omega arith)
          (record { low = omega (arith, k.low); high = omega (arith, k.mid); long = rw length-set k.long; before = kept w from to k held; list = grown w from to k held ∙ rw (z, part-nil) at g })

  -- ---- the held one has not found its place
  module _ (w : List Cand) (left from to : ℕ) (k : Stays w from to) (e : left ≡ at + n + 1 - from) (g : part at to (cands w) ++ thin_in (cand_of h) (part from (at + n) (cands w)) ≡ goal) (t : Turn) where
    abbrev x : Cand
    x = get_or w from zeros

    -- nothing is left to read
    last : 0 < left → left < 2 → Shifting (pass_of Insert left from at to h v) x t → Inv t.next (set w to t.put)
    last a b is =
        let z : from ≡ at + n = omega (arith, k.high) in
        let c : thin_in (cand_of h) (part from (at + n) (cands w)) ≡ cand_of h ∷ part from (at + n) (cands w) = rw z (thin-nil (cand_of h) (at + n) (cands w)) in
        shift Insert w left from to h k e (rw c at g) t is

    module _ (l : from < at + n) where
      opened : part at to (cands w) ++ thin_in (cand_of h) (cand_of x ∷ part (from + 1) (at + n) (cands w)) ≡ goal
      opened = rw (next w from to k l) at g

      passed : Below (cand_of x) (cand_of h) → (t.put ≡ x) × (t.next ≡ pass_of Insert (left - 1) (from + 1) at (to + 1) h v) → Inv t.next (set w to t.put)
      passed b is =
          rw (is.0, is.1)
          (seeking {w = set w to x} (left - 1) (from + 1) (to + 1) (on w from to k x l) (omega arith)
          (rw (grown w from to k x, rest w from to k x l, append_assoc) (rw (thin-above (cand_of h) (cand_of x) (part (from + 1) (at + n) (cands w)) b) at opened)))

      dropped : Covers (cand_of h) (cand_of x) → (Covers (cand_of x) (cand_of h) → ⊥) → (t.put ≡ x) × (t.next ≡ pass_of Insert (left - 1) (from + 1) at to h v) → Inv t.next (set w to t.put)
      dropped b c is =
          rw (is.0, is.1)
          (seeking {w = set w to x} (left - 1) (from + 1) to (off w from to k x l) (omega arith)
          (rw (same w from to k x, rest w from to k x l) (rw (thin-covers (cand_of h) (cand_of x) (part (from + 1) (at + n) (cands w)) b c) at opened)))

      stays : Covers (cand_of x) (cand_of h) → (t.put ≡ x) × (t.next ≡ pass_of Move (left - 2) (from + 1) at (to + 1) h v) → Inv t.next (set w to t.put)
      stays b is =
          rw (is.0, is.1)
          (moving {w = set w to x} (left - 2) (from + 1) (to + 1) (on w from to k x l) (omega arith)
          (rw (grown w from to k x, rest w from to k x l, append_assoc) (rw (thin-covered (cand_of h) (cand_of x) (part (from + 1) (at + n) (cands w)) b) at opened)))

      placed : Below (cand_of h) (cand_of x) → Shifting (pass_of Insert left from at to h v) x t → Inv t.next (set w to t.put)
      placed b is =
          shift Insert w left from to h k e
          (rw (next w from to k l) (rw (thin-below (cand_of h) (cand_of x) (part (from + 1) (at + n) (cands w)) b) at opened)) t is

    -- the four ways the held one stands to the next, and none left
    search : 0 < left → Turned Insert (pass_of Insert left from at to h v) x (get_or w at zeros) t → Inv t.next (set w to t.put)
    search l is =
        go (ltb left 2) (is_below x.load.0 x.time.0 h.load.0 h.time.0) (is_covered h.load.0 h.time.0 x.load.0 x.time.0) (is_covering h.load.0 h.time.0 x.load.0 x.time.0)
        (ltb-true left 2) (ltb-false left 2) (below-yes (cand_of x) (cand_of h)) (below-no (cand_of x) (cand_of h))
        (covered-yes (cand_of h) (cand_of x)) (covered-no (cand_of h) (cand_of x)) (covering-yes (cand_of h) (cand_of x)) (covering-no (cand_of h) (cand_of x)) is
      where
        go : (a b c d : Bool) → (a ≡ true → left < 2) → (a ≡ false → 2 ≤ left) → (b ≡ true → Below (cand_of x) (cand_of h)) → (b ≡ false → Below (cand_of x) (cand_of h) → ⊥)
            → (c ≡ true → Covers (cand_of x) (cand_of h)) → (c ≡ false → Covers (cand_of x) (cand_of h) → ⊥) → (d ≡ true → Covers (cand_of h) (cand_of x)) → (d ≡ false → Covers (cand_of h) (cand_of x) → ⊥)
            → cond a (Shifting (pass_of Insert left from at to h v) x t)
            (cond b ((t.put ≡ x) × (t.next ≡ pass_of Insert (left - 1) (from + 1) at (to + 1) h v))
            (cond c ((t.put ≡ x) × (t.next ≡ pass_of Move (left - 2) (from + 1) at (to + 1) h v))
            (cond d ((t.put ≡ x) × (t.next ≡ pass_of Insert (left - 1) (from + 1) at to h v)) (Shifting (pass_of Insert left from at to h v) x t))))
            → Inv t.next (set w to t.put)
        go true b c d a₁ a₂ b₁ b₂ c₁ c₂ d₁ d₂ is = last l (a₁ refl) is
        go false true c d a₁ a₂ b₁ b₂ c₁ c₂ d₁ d₂ is = passed (omega (arith, a₂ refl)) (b₁ refl) is
        go false false true d a₁ a₂ b₁ b₂ c₁ c₂ d₁ d₂ is = stays (omega (arith, a₂ refl)) (c₁ refl) is
        go false false false true a₁ a₂ b₁ b₂ c₁ c₂ d₁ d₂ is = dropped (omega (arith, a₂ refl)) (d₁ refl) (c₂ refl) is
        go false false false false a₁ a₂ b₁ b₂ c₁ c₂ d₁ d₂ is = placed (omega (arith, a₂ refl)) (stands-below (cand_of h) (cand_of x) (b₂ refl) (d₂ refl) (c₂ refl)) is

  step : (p : Pass) (w : List Cand) → Inv p w → 0 < p.left → (t : Turn) → Turned p.step p (first p w) (second p w) t → Inv t.next (set w p.to t.put)
  step p w (ended e k) l t is = absurd (omega arith)
  step p w (shifting left from to held k e g) l t is = shift Shift w left from to held k e g t is
  step p w (moving left from to k e g) l t is =
      rw (is.0, is.1)
      (moving {w = set w to (get_or w from zeros)} (left - 1) (from + 1) (to + 1) (on w from to k (get_or w from zeros) (omega arith)) (omega arith)
      (rw (grown w from to k (get_or w from zeros), rest w from to k (get_or w from zeros) (omega arith), append_assoc) (rw (next w from to k (omega arith)) at g)))
  step p w (seeking left from to k e g) l t is = search w left from to k e g t l is

  start : Inv (pass_of Insert (n + 1) at at at h v) w₀
  start =
      seeking {w = w₀} (n + 1) at at (record { low = omega arith; mid = omega arith; high = omega arith; long = room; before = refl }) (omega arith)
      (rw (part-nil at (cands w₀)))

  pub inserts-safe : Safe (pass_of Insert (n + 1) at at at h v) w₀
  inserts-safe = kept-safe Inv ready step _ w₀ start

  -- the list with the record thinned in stands where the list stood
  pub inserts-swept : {q : Pass} {w' : List Cand} → Swept (pass_of Insert (n + 1) at at at h v) w₀ q w'
      → (at ≤ q.to) × (q.to ≤ at + n + 1) × Gives (cands w₀) (cands w') at (q.to - at) (thin_in (cand_of h) (part at (at + n) (cands w₀)))
  inserts-swept {q} {w'} S = let k = kept-swept Inv ready step S start in shown q w' (end q w' k.0 k.1)
    where
      end : (q : Pass) (w' : List Cand) → Inv q w' → q.left ≤ 0 → Ends w' q.to
      end q w' (seeking left from to k e g) l = absurd (omega (arith, k.high))
      end q w' (shifting left from to held k e g) l = absurd (omega (arith, k.high))
      end q w' (moving left from to k e g) l =
          let z : from ≡ at + n = omega (arith, k.high) in
          record { low = k.low; high = omega (arith, k.mid); long = k.long; before = k.before; list = sym (append-nil _) ∙ rw (z, part-nil) at g }
      end q w' (ended e k) l = k

      shown : (q : Pass) (w' : List Cand) → Ends w' q.to → (at ≤ q.to) × (q.to ≤ at + n + 1) × Gives (cands w₀) (cands w') at (q.to - at) (thin_in (cand_of h) (part at (at + n) (cands w₀)))
      shown q w' k =
          let z : at + (q.to - at) ≡ q.to = omega (arith, k.low) in
          (k.low, k.high, record { before = k.before; list = rw z k.list; count_is = ap length (sym k.list) ∙ part_length at q.to (cands w') (omega (arith, cands-length w', k.long, k.high)) })
