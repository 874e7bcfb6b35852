-- The best of a list behind a delay, by one pass over its run of records: the run stays as it is. Assumes nothing.
use Rattle.std.specs.Prelude.{◌≡◌, refl, Bool, true, false, cond, List, ◌∷◌, ℕ, ◌+◌, ◌-◌, ◌≤◌, ◌<◌, length, get_or, set}
use Rattle.std.proofs.Common.{sym, ap, ◌∙◌, arith}
use Rattle.std.specs.Int.Signed.{lt_z, mag}
use Rattle.std.proofs.lemmas.List.{set-get_or}
use Rattle.rules.specs.declared.Ohm.{Ohm}
use Rattle.rules.specs.declared.Femtosecond.{Femtosecond}
use Rattle.units.specs.Times.{Own}
use Rattle.rules.specs.Quantities.{most_ohms, work_room}
use Rattle.laws.specs.Steps.{value, best}
use Rattle.columns.specs.Parts.{part, part-nil, part-cons, all-part}
use Rattle.columns.specs.Run.{Candidate, blank}
use Rattle.columns.specs.Made.{Fit, Stand}
use Rattle.columns.specs.Choosing.{delay_of, pick-by}
use Rattle.rules.specs.declared.Cand.{Cand}
use Rattle.rules.specs.Areas.{zeros}
use Rattle.turns.specs.declared.Step.TheVariants.{FirstChoice, Choose}
use Rattle.turns.specs.declared.Pass.{Pass}
use Rattle.turns.specs.declared.Turn.{Turn}
use Rattle.values.specs.Records.{cand_of, cands}
use Rattle.runs.specs.Cands.{cands-length, cands-at}
use Rattle.values.specs.Values.{worth_of}
use Rattle.turns.specs.Turns.{pass_of, Turned}
use Rattle.runs.specs.Passes.{first, second, Ready, Safe, Swept}
use Rattle.runs.specs.Sweeps.{kept-safe, kept-swept}

worth-is : (own : Femtosecond) (r : Ohm) (x : Cand) → (worth_of own r x).0 ≡ value (delay_of (mag own.0) r.0) (cand_of x)
unfolding value
worth-is own r x = refl

best-one : (f : ℕ → ℕ) (x : Candidate) (at : ℕ) (w : List Candidate) → best f x (part at at w) ≡ x
unfolding best
best-one f x at w = rw (part-nil at w)

-- past one more, the greater of two
best-on : (f : ℕ → ℕ) (x y : Candidate) (l : List Candidate) (b : Bool) → lt_z (value f x) (value f y) ≡ b → best f (cond b y x) l ≡ best f x (y ∷ l)
unfolding best
best-on f x y l b e = ap (λ (z : Candidate). best f z l) (sym (pick-by f x y _ b e))

module _ (own : Femtosecond) (r : Ohm) (small : Own own.0) (ohms : r.0 ≤ most_ohms)
    (w : List Cand) (at n : ℕ) (h : Cand) (v : Femtosecond) (long : work_room ≤ length w) (s : Stand (cands w) at n) where
  abbrev f : ℕ → ℕ
  f = delay_of (mag own.0) r.0

  abbrev chosen : Candidate
  chosen = best f (get_or (cands w) at blank) (part (at + 1) (at + n) (cands w))

  -- before the first turn, and after it: the best so far is held, i is the next
  data Inv : Pass → List Cand → Type 0 where
    begun : Inv (pass_of (FirstChoice own r) n at at at h v) w
    going : (left i : ℕ) (held : Cand) (worth : Femtosecond) → at < i → i ≤ at + n → left ≡ at + n - i → worth.0 ≡ value f (cand_of held) → best f (cand_of held) (part i (at + n) (cands w)) ≡ chosen
        → Inv (pass_of (Choose own r) left i at i held worth) w

  room : at + n ≤ length (cands w)
  room = omega (arith, cands-length w, s.place)

  here : (i : ℕ) → i < at + n → get_or (cands w) i blank ≡ cand_of (get_or w i zeros)
  here i l = cands-at w i (omega (arith, s.place))

  fit : (i : ℕ) → at ≤ i → i < at + n → Fit (cand_of (get_or w i zeros))
  fit i a b = rw (here i b) at (all-part (cands w) at (at + n) i blank room a b s.fit)

  ready : (p : Pass) (u : List Cand) → Inv p u → 0 < p.left → Ready p u
  ready p u begun l = record {
    long = long;
    here = record { left = l; from = omega (arith, s.place); with = omega (arith, s.place); to = omega (arith, s.place) };
    can = record { own = small; ohms = ohms; fit = fit at (omega arith) (omega arith) };
  }
  ready p u (going left i held worth a b e g k) l = record {
    long = long;
    here = record { left = l; from = omega (arith, s.place); with = omega (arith, s.place); to = omega (arith, s.place) };
    can = record { own = small; ohms = ohms; fit = fit i (omega arith) (omega arith) };
  }

  step : (p : Pass) (u : List Cand) → Inv p u → 0 < p.left → (t : Turn) → Turned p.step p (first p u) (second p u) t → Inv t.next (set u p.to t.put)
  step p u begun l t is =
      rw (is.0, is.1, set-get_or w at zeros)
      (going (n - 1) (at + 1) (get_or w at zeros) (worth_of own r (get_or w at zeros)) (omega arith) (omega arith) (omega arith) (worth-is own r (get_or w at zeros)) (rw (here at (omega arith))))
  step p u (going left i held worth a b e g k) l t is = rw (is.0, is.1, set-get_or w i zeros) (go (lt_z worth.0 (worth_of own r (get_or w i zeros)).0) refl)
    where
      on : (d : Bool) → lt_z worth.0 (worth_of own r (get_or w i zeros)).0 ≡ d → best f (cond d (cand_of (get_or w i zeros)) (cand_of held)) (part (i + 1) (at + n) (cands w)) ≡ chosen
      on d q =
          best-on f (cand_of held) (cand_of (get_or w i zeros)) (part (i + 1) (at + n) (cands w)) d (rw (← g, ← (worth-is own r (get_or w i zeros))) q)
          ∙ ap (best f (cand_of held)) (rw (← (here i (omega arith))) (sym (part-cons i (at + n) (cands w) blank (omega arith) room)))
          ∙ k

      go : (d : Bool) → lt_z worth.0 (worth_of own r (get_or w i zeros)).0 ≡ d
          → Inv (cond d (pass_of (Choose own r) (left - 1) (i + 1) at (i + 1) (get_or w i zeros) (worth_of own r (get_or w i zeros))) (pass_of (Choose own r) (left - 1) (i + 1) at (i + 1) held worth)) w
      go true q = going (left - 1) (i + 1) (get_or w i zeros) (worth_of own r (get_or w i zeros)) (omega arith) (omega arith) (omega arith) (worth-is own r (get_or w i zeros)) (on true q)
      go false q = going (left - 1) (i + 1) held worth (omega arith) (omega arith) (omega arith) g (on false q)

  pub choices-safe : Safe (pass_of (FirstChoice own r) n at at at h v) w
  choices-safe = kept-safe Inv ready step _ w begun

  -- the best is held, with what it is worth
  pub choices-swept : {q : Pass} {w' : List Cand} → Swept (pass_of (FirstChoice own r) n at at at h v) w q w'
      → (w' ≡ w) × (cand_of q.held ≡ best (delay_of (mag own.0) r.0) (get_or (cands w) at blank) (part (at + 1) (at + n) (cands w)))
      × (q.worth.0 ≡ value (delay_of (mag own.0) r.0) (best (delay_of (mag own.0) r.0) (get_or (cands w) at blank) (part (at + 1) (at + n) (cands w))))
  choices-swept {q} {w'} S = let k = kept-swept Inv ready step S begun in end q w' k.0 k.1
    where
      end : (q : Pass) (w' : List Cand) → Inv q w' → q.left ≤ 0 → (w' ≡ w) × (cand_of q.held ≡ chosen) × (q.worth.0 ≡ value f chosen)
      end q w' begun l = absurd (omega (arith, s.some))
      end q w' (going left i held worth a b e g k) l =
          let z : i ≡ at + n = omega arith in
          let j : cand_of held ≡ chosen = rw (z, best-one f (cand_of held) (at + n) (cands w)) at k in
          (refl, j, rw (← j) g)
