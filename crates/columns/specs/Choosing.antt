-- The best of a list behind a delay, by one walk: b is the best so far, i the next. What is chosen depends on loads and times alone.
-- Assumes nothing.
use Rattle.std.specs.Prelude.{◌≡◌, refl, Bool, true, false, cond, ◌⊎◌, ℕ, ◌+◌, ◌*◌, ◌≤◌, ◌<◌, ℤ, pos, ◌≤ℤ◌, ◌<ℤ◌, length, get_or}
use Rattle.std.proofs.Common.{sym, ap, ◌∙◌, inl, inr, arith}
use Rattle.std.proofs.Math.Path.{fun_ext}
use mathlib.Core.List.{List}
use Rattle.std.specs.Int.Signed.{lt_z, mag}
use Rattle.rules.specs.Quantities.{◌⊖◌, work_room}
use Rattle.laws.specs.Ranges.{most_load}
use Rattle.units.specs.Times.{far_time}
use Rattle.laws.specs.Integers.{times, ≤-or-<}
use Rattle.laws.specs.Steps.{value, pick, best}
use Rattle.laws.specs.Thinning.{lt-true, lt-false}
use Rattle.columns.specs.Parts.{part, part-nil, part-cons, all-part}
use Rattle.columns.specs.Run.{Candidate, blank, run, run_at, run_long}
use Rattle.columns.specs.Made.{Fit, Room, Stand, room-run}
use Rattle.columns.specs.Stores.{column-load, column-time}

-- own delay plus resistance times load
abbrev pub delay_of : (own ohms : ℕ) → ℕ → ℕ
delay_of own ohms m = own + ohms * m

pub delay-driver : (ohms : ℕ) → delay_of 0 ohms ≡ (λ m. ohms * m)
delay-driver ohms = fun_ext (λ m. omega arith)

-- n candidates, at least one, stand at a place, in their ranges: as their columns say it
pub record Columns (ls : List ℕ) (ts : List ℤ) (at n : ℕ) : Type 0 where
  pub some : 1 ≤ n
  pub place : at + n ≤ work_room
  pub loads : work_room ≤ length ls
  pub times : work_room ≤ length ts
  pub load : (j : ℕ) → at ≤ j → j < at + n → get_or ls j 0 ≤ most_load
  pub time : (j : ℕ) → at ≤ j → j < at + n → mag (get_or ts j (pos 0)) ≤ far_time

pub stand-columns : {ls : List ℕ} {ts : List ℤ} {ws : List ℕ} {at n : ℕ} → Room ls ts ws → Stand (run ls ts ws) at n → Columns ls ts at n
stand-columns {ls} {ts} {ws} {at} {n} r s = record {
  some = s.some;
  place = s.place;
  loads = r.loads;
  times = r.times;
  load = λ j h k. column-load ls ts ws j (omega (arith, s.place, r.loads)) (omega (arith, s.place, r.times)) (fit j h k);
  time = λ j h k. column-time ls ts ws j (omega (arith, s.place, r.loads)) (omega (arith, s.place, r.times)) (fit j h k);
}
  where
    fit : (j : ℕ) → at ≤ j → j < at + n → Fit (get_or (run ls ts ws) j blank)
    fit j h k = all-part (run ls ts ws) at (at + n) j blank (room-run (at + n) r s.place) h k s.fit

-- b is the place of the best, and v what it is worth
pub record Chosen (f : ℕ → ℕ) (ls : List ℕ) (ts : List ℤ) (at n b : ℕ) (v : ℤ) : Type 0 where
  pub from : at ≤ b
  pub upto : b < at + n
  pub best_is : (ws : List ℕ) → get_or (run ls ts ws) b blank ≡ best f (get_or (run ls ts ws) at blank) (part (at + 1) (at + n) (run ls ts ws))
  pub value_is : (ws : List ℕ) → v ≡ value f (get_or (run ls ts ws) b blank)

pub pick-by : (f : ℕ → ℕ) (x y : Candidate) (s : (value f y ≤ℤ value f x) ⊎ (value f x <ℤ value f y)) (b : Bool) → lt_z (value f x) (value f y) ≡ b → pick f x y s ≡ cond b y x
unfolding pick
pick-by f x y (inl h) true e = absurd (let k = lt-true (value f x) (value f y) e in omega times)
pick-by f x y (inl h) false e = refl
pick-by f x y (inr h) true e = refl
pick-by f x y (inr h) false e = absurd (let k = lt-false (value f x) (value f y) e in omega times)

pub record Choosing (f : ℕ → ℕ) (ls : List ℕ) (ts : List ℤ) (at n b : ℕ) (v : ℤ) (i : ℕ) : Type 0 where
  pub from : at ≤ b
  pub past : b < i
  pub upto : i ≤ at + n
  pub worth : (ws : List ℕ) → v ≡ value f (get_or (run ls ts ws) b blank)
  pub goal : (ws : List ℕ) → best f (get_or (run ls ts ws) b blank) (part i (at + n) (run ls ts ws)) ≡ best f (get_or (run ls ts ws) at blank) (part (at + 1) (at + n) (run ls ts ws))

module _ (f : ℕ → ℕ) (ls : List ℕ) (ts : List ℤ) (at n : ℕ) (c : Columns ls ts at n) where
  -- what a place is worth, by its columns
  pub worth-at : (i : ℕ) (v : ℤ) → i < at + n → v ≡ get_or ts i (pos 0) ⊖ f (get_or ls i 0) → (ws : List ℕ) → v ≡ value f (get_or (run ls ts ws) i blank)
  unfolding value
  worth-at i v h e ws = rw (run_at ls ts ws i (omega (arith, c.place, c.loads)) (omega (arith, c.place, c.times))) e

  pub choosing-start : (v : ℤ) → v ≡ get_or ts at (pos 0) ⊖ f (get_or ls at 0) → Choosing f ls ts at n at v (at + 1)
  choosing-start v e = record { from = omega arith; past = omega arith; upto = omega (arith, c.some); worth = worth-at at v (omega (arith, c.some)) e; goal = λ ws. refl }

  pub choosing-step : (b i r : ℕ) (v u x : ℤ) → i < at + n → Choosing f ls ts at n b v i → u ≡ get_or ts i (pos 0) ⊖ f (get_or ls i 0) → r ≡ cond (lt_z v u) i b → x ≡ cond (lt_z v u) u v → Choosing f ls ts at n r x (i + 1)
  unfolding best
  choosing-step b i r v u x h t e p q = rw (p, q) (go (lt_z v u) refl)
    where
      cut : (ws : List ℕ) → best f (get_or (run ls ts ws) b blank) (part i (at + n) (run ls ts ws)) ≡ best f (pick f (get_or (run ls ts ws) b blank) (get_or (run ls ts ws) i blank) (≤-or-< (value f (get_or (run ls ts ws) i blank)) (value f (get_or (run ls ts ws) b blank)))) (part (i + 1) (at + n) (run ls ts ws))
      cut ws = rw (part-cons i (at + n) (run ls ts ws) blank h (run_long ls ts ws (at + n) (omega (arith, c.place, c.loads)) (omega (arith, c.place, c.times))))

      test : (ws : List ℕ) → lt_z (value f (get_or (run ls ts ws) b blank)) (value f (get_or (run ls ts ws) i blank)) ≡ lt_z v u
      test ws = rw (← (t.worth ws), ← (worth-at i u h e ws))

      turn : (d : Bool) → lt_z v u ≡ d → (ws : List ℕ) → best f (cond d (get_or (run ls ts ws) i blank) (get_or (run ls ts ws) b blank)) (part (i + 1) (at + n) (run ls ts ws)) ≡ best f (get_or (run ls ts ws) at blank) (part (at + 1) (at + n) (run ls ts ws))
      turn d k ws = ap (λ (z : Candidate). best f z (part (i + 1) (at + n) (run ls ts ws))) (sym (pick-by f (get_or (run ls ts ws) b blank) (get_or (run ls ts ws) i blank) _ d (test ws ∙ k))) ∙ sym (cut ws) ∙ t.goal ws

      go : (d : Bool) → lt_z v u ≡ d → Choosing f ls ts at n (cond d i b) (cond d u v) (i + 1)
      go true k = record { from = omega (arith, t.from, t.past); past = omega arith; upto = omega arith; worth = worth-at i u h e; goal = turn true k }
      go false k = record { from = t.from; past = omega (arith, t.past); upto = omega arith; worth = t.worth; goal = turn false k }

  pub choosing-end : (b i : ℕ) (v : ℤ) → Choosing f ls ts at n b v i → at + n ≤ i → Chosen f ls ts at n b v
  unfolding best
  choosing-end b i v t h =
      let e : i ≡ at + n = omega (arith, t.upto) in
      record { from = t.from; upto = omega (arith, t.past, t.upto); best_is = λ ws. rw (e, part-nil) at (t.goal ws); value_is = t.worth }
