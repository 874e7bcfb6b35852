-- The walk of a list through a wire: `last` is the place of the last one kept, i the next to be read. Assumes nothing.
use Rattle.std.specs.Prelude.{◌≡◌, refl, Bool, true, false, cond, List, ◌∷◌, ◌++◌, map, ℕ, ◌+◌, ◌-◌, ◌≤◌, ◌<◌, ℤ, pos, get_or, set}
use Rattle.std.proofs.Common.{sym, ◌∙◌, append_assoc, length-set}
use Rattle.std.proofs.Math.Path.{ap}
use native.Mathlib.Omega.{arith}
use Rattle.std.specs.Int.Signed.{lt_z}
use Rattle.std.proofs.Math.ListN.{length}
use Rattle.std.proofs.Math.Seq.{get_or-set_same, get_or-set_other}
use Rattle.rules.specs.Lists.{All}
use Rattle.laws.specs.Lists.{all_head, all_tail}
use Rattle.laws.specs.Thinning.{climb, climbed}
use Rattle.columns.specs.Parts.{part, part-nil, part-cons, part-snoc, part-over, part-under, part_length}
use Rattle.columns.specs.Run.{Candidate, blank, run, run-time}
use Rattle.columns.specs.Made.{Fit, Gives}

module _ (f : Candidate → Candidate) where
  -- what is kept so far, and what the rest will make of it
  abbrev pub Climbing : List Candidate → (at last i end : ℕ) → List Candidate
  Climbing w at last i end = part at last w ++ climb (get_or w last blank) (map f (part i end w))

  module _ (w : List Candidate) (at last i end : ℕ) (c : Candidate) (h : at ≤ last) (k : last < i) (l : i < end) (m : end ≤ length w) (e : c ≡ f (get_or w i blank)) where
    kept : lt_z (get_or w last blank).time c.time ≡ true → Climbing (set w (last + 1) c) at (last + 1) (i + 1) end ≡ Climbing w at last i end
    unfolding climb
    kept t =
        rw (part-over at (last + 1) w (last + 1) c (omega arith), part-snoc at last w blank h (omega arith), get_or-set_same w (last + 1) c blank (omega arith), part-under (i + 1) end w (last + 1) c (omega arith) (omega arith), part-cons i end w blank l m, ← e, t, append_assoc)

    passed : lt_z (get_or w last blank).time c.time ≡ false → Climbing (set w (last + 1) c) at last (i + 1) end ≡ Climbing w at last i end
    unfolding climb
    passed t =
        rw (part-over at last w (last + 1) c (omega arith), get_or-set_other w (last + 1) last c blank (omega arith), part-under (i + 1) end w (last + 1) c (omega arith) (omega arith), part-cons i end w blank l m, ← e, t)

  -- w₁ is the run where the walk begins, its first candidate done
  pub record Wiring (w₁ w : List Candidate) (at n last i : ℕ) : Type 0 where
    pub from : at ≤ last
    pub past : last < i
    pub upto : i ≤ at + n
    pub room : at + n ≤ length w
    pub before : part 0 at w ≡ part 0 at w₁
    pub fit : All Fit (part i (at + n) w)
    pub fit_made : All Fit (map f (part i (at + n) w))
    pub goal : Climbing w at last i (at + n) ≡ Climbing w₁ at at (at + 1) (at + n)

  module _ (w₀ w₁ : List Candidate) (at n : ℕ) (some : 1 ≤ n) (long : at + n ≤ length w₀) (e : w₁ ≡ set w₀ at (f (get_or w₀ at blank))) where
    cut : part at (at + n) w₀ ≡ get_or w₀ at blank ∷ part (at + 1) (at + n) w₀
    cut = part-cons at (at + n) w₀ blank (omega arith) long

    rest : part (at + 1) (at + n) w₁ ≡ part (at + 1) (at + n) w₀
    rest = rw e (part-under (at + 1) (at + n) w₀ at (f (get_or w₀ at blank)) (omega arith) (omega arith))

    first : Climbing w₁ at at (at + 1) (at + n) ≡ climbed (map f (part at (at + n) w₀))
    unfolding climbed
    first = rw (rest, cut, e, part-nil, get_or-set_same w₀ at (f (get_or w₀ at blank)) blank (omega arith))

    pub wiring-start : All Fit (part at (at + n) w₀) → All Fit (map f (part at (at + n) w₀)) → Wiring w₁ w₁ at n at (at + 1)
    wiring-start a b = record {
      from = omega arith;
      past = omega arith;
      upto = omega arith;
      room = rw (e, length-set) long;
      before = refl;
      fit = rw rest (all_tail (rw cut at a));
      fit_made = rw rest (all_tail (rw cut at b));
      goal = refl;
    }

    pub wiring-end : (w : List Candidate) (last i : ℕ) → Wiring w₁ w at n last i → at + n ≤ i → Gives w₀ w at (last + 1 - at) (climbed (map f (part at (at + n) w₀)))
    unfolding climb
    wiring-end w last i t h =
        let q : i ≡ at + n = omega arith in
        let g : part at (last + 1) w ≡ climbed (map f (part at (at + n) w₀)) = part-snoc at last w blank t.from (omega (arith, t.past, t.room)) ∙ (rw (q, part-nil) at t.goal) ∙ first in
        let r : at + (last + 1 - at) ≡ last + 1 = omega (arith, t.from) in
        record { before = t.before ∙ rw e (part-over 0 at w₀ at (f (get_or w₀ at blank)) (omega arith)); list = rw r g; count_is = ap length (sym g) ∙ part_length at (last + 1) w (omega (arith, t.past, t.room)) }

  module _ (w₁ w : List Candidate) (at n last i : ℕ) (t : Wiring w₁ w at n last i) (h : i < at + n) where
    -- what is read next is in its range, and so is what is made of it
    next : part i (at + n) w ≡ get_or w i blank ∷ part (i + 1) (at + n) w
    next = part-cons i (at + n) w blank h t.room

    pub wiring-next : Fit (get_or w i blank)
    wiring-next = all_head (rw next at t.fit)

    pub wiring-made : Fit (f (get_or w i blank))
    wiring-made = all_head (rw next at t.fit_made)

    module _ (w' : List Candidate) (e : w' ≡ set w (last + 1) (f (get_or w i blank))) where
      test : lt_z (get_or w' last blank).time (get_or w' (last + 1) blank).time ≡ lt_z (get_or w last blank).time (f (get_or w i blank)).time
      test = rw (e, get_or-set_same w (last + 1) (f (get_or w i blank)) blank (omega arith), get_or-set_other w (last + 1) last (f (get_or w i blank)) blank (omega arith))

      same : part (i + 1) (at + n) w' ≡ part (i + 1) (at + n) w
      same = rw e (part-under (i + 1) (at + n) w (last + 1) (f (get_or w i blank)) (omega arith) (omega arith))

      pub step : (b : Bool) → lt_z (get_or w' last blank).time (get_or w' (last + 1) blank).time ≡ b → Wiring w₁ w' at n (last + cond b 1 0) (i + 1)
      step b q = record {
        from = from b;
        past = past b;
        upto = omega arith;
        room = rw (e, length-set) t.room;
        before = rw e (part-over 0 at w (last + 1) (f (get_or w i blank)) (omega arith)) ∙ t.before;
        fit = rw same (all_tail (rw next at t.fit));
        fit_made = rw same (all_tail (rw next at t.fit_made));
        goal = goal b (sym test ∙ q);
      }
        where
          from : (b : Bool) → at ≤ last + cond b 1 0
          from true = omega arith
          from false = omega arith

          past : (b : Bool) → last + cond b 1 0 < i + 1
          past true = omega arith
          past false = omega arith

          goal : (b : Bool) → lt_z (get_or w last blank).time (f (get_or w i blank)).time ≡ b → Climbing w' at (last + cond b 1 0) (i + 1) (at + n) ≡ Climbing w₁ at at (at + 1) (at + n)
          goal true q = rw e (kept w at last i (at + n) (f (get_or w i blank)) t.from t.past h t.room refl q) ∙ t.goal
          goal false q = let z : last + 0 ≡ last = omega arith in rw (z, e) (passed w at last i (at + n) (f (get_or w i blank)) t.from t.past h t.room refl q) ∙ t.goal

  -- as the code makes the step: by the times in their column
  pub wiring-again : (w₁ w : List Candidate) (ls : List ℕ) (ts : List ℤ) (ws : List ℕ) (at n last i r : ℕ) → Wiring w₁ w at n last i → i < at + n → at + n ≤ length ls → at + n ≤ length ts
      → run ls ts ws ≡ set w (last + 1) (f (get_or w i blank)) → r ≡ cond (lt_z (get_or ts last (pos 0)) (get_or ts (last + 1) (pos 0))) 1 0 → Wiring w₁ (run ls ts ws) at n (last + r) (i + 1)
  wiring-again w₁ w ls ts ws at n last i r t h p q e g =
      rw g
      (step w₁ w at n last i t h (run ls ts ws) e (lt_z (get_or ts last (pos 0)) (get_or ts (last + 1) (pos 0)))
      (rw (run-time ls ts ws last (omega (arith, t.past)) (omega (arith, t.past)), run-time ls ts ws (last + 1) (omega (arith, t.past)) (omega (arith, t.past)))))
