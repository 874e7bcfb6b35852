-- Two lists that stand one after the other, walked together: i in the second list, j in the first, o the next place to be
-- written. Assumes nothing.
use Rattle.std.specs.Prelude.{◌≡◌, Bool, true, false, cond, ℕ, suc, ◌+◌, ◌-◌, ◌≤◌, ◌<◌, ℤ, pos, ◌≤ℤ◌, ◌<ℤ◌, length, get_or, set}
use Rattle.std.proofs.Math.Path.{refl, ap}
use Rattle.std.proofs.Common.{sym, ◌∙◌, arith, length-set, get_or-set_same, get_or-set_other}
use mathlib.Core.List.{List, [], ◌∷◌, ◌++◌, append_assoc, append-nil}
use Rattle.std.proofs.Math.Decide.{dec_lt}
use Rattle.std.specs.Int.Signed.{lt_z}
use Rattle.rules.specs.Quantities.{work_room}
use Rattle.rules.specs.Lists.{All}
use Rattle.laws.specs.Integers.{times, Order, less, equal, more, order}
use Rattle.laws.specs.Lists.{all_head, all_tail}
use Rattle.laws.specs.Candidates.{Cand}
use Rattle.laws.specs.Thinning.{lt-true, lt-false}
use Rattle.laws.specs.Joining.{join_marks}
use Rattle.laws.specs.Steps.{joined, next, merge, merge_at}
use Rattle.columns.specs.Parts.{part, part-nil, part-cons, part-snoc, part-over, part_length}
use Rattle.columns.specs.Run.{Candidate, blank, run, run-time}
use Rattle.columns.specs.Made.{Fit, Gives, Room, room-run}
use Rattle.columns.specs.Moving.{Moved}

-- two lists stand there, the second after the first, with room after them for one less than both
pub record Pair (w : List Candidate) (at m n : ℕ) : Type 0 where
  pub first : 1 ≤ m
  pub second : 1 ≤ n
  pub place : at + m + n + (m + n) ≤ suc work_room
  pub fit : All Fit (merge join_marks (part (at + m) (at + m + n) w) (part at (at + m) w))

pub pair-room : {ls : List ℕ} {ts : List ℤ} {ws : List ℕ} {at m n : ℕ} → Room ls ts ws → Pair (run ls ts ws) at m n → at + m + n + (m + n) ≤ suc (length (run ls ts ws))
pair-room r p = let h = room-run work_room r (omega arith) in omega (arith, p.place)

next-less : {A : Type 0} {t u : ℤ} (a b c : A) (o : Order t u) → t <ℤ u → next a b c o ≡ a
unfolding next
next-less a b c (less h) k = refl
next-less a b c (equal h) k = absurd (omega times)
next-less a b c (more h) k = absurd (omega times)

next_more : {A : Type 0} {t u : ℤ} (a b c : A) (o : Order t u) → u <ℤ t → next a b c o ≡ b
unfolding next
next_more a b c (less h) k = absurd (omega times)
next_more a b c (equal h) k = absurd (omega times)
next_more a b c (more h) k = refl

next-equal : {A : Type 0} {t u : ℤ} (a b c : A) (o : Order t u) → u ≤ℤ t → t ≤ℤ u → next a b c o ≡ c
unfolding next
next-equal a b c (less h) k j = absurd (omega times)
next-equal a b c (equal h) k j = refl
next-equal a b c (more h) k j = absurd (omega times)

module _ {W : Type 0} (f : W → W → W) where
  pub merge_none : (l : List (Cand W)) → merge f l [] ≡ []
  unfolding merge merge_at
  merge_none [] = refl
  merge_none (x ∷ l) = refl

  pub merge_less : (x y : Cand W) (l m : List (Cand W)) → x.time <ℤ y.time → merge f (x ∷ l) (y ∷ m) ≡ joined f x y ∷ merge f l (y ∷ m)
  unfolding merge merge_at
  merge_less x y l m h = ap (λ r. joined f x y ∷ r) (next-less _ _ _ (order x.time y.time) h)

  pub merge-more : (x y : Cand W) (l m : List (Cand W)) → y.time <ℤ x.time → merge f (x ∷ l) (y ∷ m) ≡ joined f x y ∷ merge f (x ∷ l) m
  unfolding merge merge_at
  merge-more x y l m h = ap (λ r. joined f x y ∷ r) (next_more _ _ _ (order x.time y.time) h)

  pub merge_equal : (x y : Cand W) (l m : List (Cand W)) → y.time ≤ℤ x.time → x.time ≤ℤ y.time → merge f (x ∷ l) (y ∷ m) ≡ joined f x y ∷ merge f l m
  unfolding merge merge_at
  merge_equal x y l m h k = ap (λ r. joined f x y ∷ r) (next-equal _ _ _ (order x.time y.time) h k)

-- ---- the walk
pub record Joining (w₀ w : List Candidate) (at m n i j o : ℕ) : Type 0 where
  pub in_first : at ≤ j
  pub of_first : j ≤ at + m
  pub in_second : at + m ≤ i
  pub of_second : i ≤ at + m + n
  pub past : at + m + n ≤ o
  pub slow : o + (at + m) + at ≤ at + m + n + i + j
  pub top : o < at + m + n + (m + n)
  pub room : at + m + n + (m + n) ≤ suc (length w)
  pub before : part 0 at w ≡ part 0 at w₀
  pub fit : All Fit (merge join_marks (part i (at + m + n) w) (part j (at + m) w))
  pub goal : part (at + m + n) o w ++ merge join_marks (part i (at + m + n) w) (part j (at + m) w) ≡ merge join_marks (part (at + m) (at + m + n) w₀) (part at (at + m) w₀)

pub joining-start : (w : List Candidate) (at m n : ℕ) → Pair w at m n → at + m + n + (m + n) ≤ suc (length w) → Joining w w at m n (at + m) at (at + m + n)
joining-start w at m n p r = record {
  in_first = omega arith;
  of_first = omega arith;
  in_second = omega arith;
  of_second = omega arith;
  past = omega arith;
  slow = omega arith;
  top = omega arith;
  room = r;
  before = refl;
  fit = p.fit;
  goal = rw part-nil;
}

module _ (w₀ w : List Candidate) (at m n i j o : ℕ) (t : Joining w₀ w at m n i j o) (h : i < at + m + n) (k : j < at + m) where
  pub place : o < length w
  place = omega (arith, t.room, t.slow)

  cut-second : part i (at + m + n) w ≡ get_or w i blank ∷ part (i + 1) (at + m + n) w
  cut-second = part-cons i (at + m + n) w blank h (omega (arith, place, t.past))

  cut-first : part j (at + m) w ≡ get_or w j blank ∷ part (j + 1) (at + m) w
  cut-first = part-cons j (at + m) w blank k (omega (arith, place, t.past))

  -- what the two make is in its range
  pub joining-fit : Fit (joined join_marks (get_or w i blank) (get_or w j blank))
  unfolding merge merge_at
  joining-fit = all_head (rw (cut-second, cut-first) at t.fit)

  module _ (w' : List Candidate) (e : w' ≡ set w o (joined join_marks (get_or w i blank) (get_or w j blank))) where
    kept : (a e : ℕ) → e ≤ at + m + n → part a e w' ≡ part a e w
    kept a z q = rw e (part-over a z w o (joined join_marks (get_or w i blank) (get_or w j blank)) (omega (arith, t.past)))

    made : part (at + m + n) (o + 1) w' ≡ part (at + m + n) o w ++ (joined join_marks (get_or w i blank) (get_or w j blank) ∷ [])
    made =
        let x = joined join_marks (get_or w i blank) (get_or w j blank) in
        rw e (part-snoc (at + m + n) o (set w o x) blank t.past (rw length-set place) ∙ rw (part-over (at + m + n) o w o x (omega arith), get_or-set_same w o x blank place))

    -- on to the places that the two lists go on from
    on : (i' j' : ℕ) → at ≤ j' → j' ≤ at + m → at + m ≤ i' → i' ≤ at + m + n → i + j < i' + j'
        → merge join_marks (part i (at + m + n) w) (part j (at + m) w) ≡ joined join_marks (get_or w i blank) (get_or w j blank) ∷ merge join_marks (part i' (at + m + n) w) (part j' (at + m) w)
        → Joining w₀ w' at m n i' j' (o + 1)
    on i' j' a b d f g q = record {
      in_first = a;
      of_first = b;
      in_second = d;
      of_second = f;
      past = omega (arith, t.past);
      slow = omega (arith, t.slow);
      top = omega (arith, t.slow);
      room = rw (e, length-set) t.room;
      before = kept 0 at (omega arith) ∙ t.before;
      fit = rw (kept i' (at + m + n) (omega arith), kept j' (at + m) (omega arith)) (all_tail (rw q at t.fit));
      goal = rw (kept i' (at + m + n) (omega arith), kept j' (at + m) (omega arith), made, append_assoc) (rw q at t.goal);
    }

    go : (a b : Bool) → lt_z (get_or w i blank).time (get_or w j blank).time ≡ a → lt_z (get_or w j blank).time (get_or w i blank).time ≡ b → Joining w₀ w' at m n (i + (1 - cond b 1 0)) (j + (1 - cond a 1 0)) (o + 1)
    go true true p q = absurd (let x = lt-true (get_or w i blank).time (get_or w j blank).time p in let y = lt-true (get_or w j blank).time (get_or w i blank).time q in omega times)
    go true false p q =
        let z : j + (1 - 1) ≡ j = omega arith in
        let y : i + (1 - 0) ≡ i + 1 = omega arith in
        rw (z, y) (on (i + 1) j t.in_first t.of_first (omega (arith, t.in_second)) (omega arith) (omega arith) (rw (cut-second, cut-first) (merge_less join_marks _ _ _ _ (lt-true (get_or w i blank).time (get_or w j blank).time p))))
    go false true p q =
        let z : i + (1 - 1) ≡ i = omega arith in
        let y : j + (1 - 0) ≡ j + 1 = omega arith in
        rw (z, y) (on i (j + 1) (omega (arith, t.in_first)) (omega arith) t.in_second t.of_second (omega arith) (rw (cut-second, cut-first) (merge-more join_marks _ _ _ _ (lt-true (get_or w j blank).time (get_or w i blank).time q))))
    go false false p q =
        let z : i + (1 - 0) ≡ i + 1 = omega arith in
        let y : j + (1 - 0) ≡ j + 1 = omega arith in
        rw (z, y) (on (i + 1) (j + 1) (omega (arith, t.in_first)) (omega arith) (omega (arith, t.in_second)) (omega arith) (omega arith) (rw (cut-second, cut-first) (merge_equal join_marks _ _ _ _ (lt-false (get_or w i blank).time (get_or w j blank).time p) (lt-false (get_or w j blank).time (get_or w i blank).time q))))

    pub joining-step : Joining w₀ w' at m n (i + (1 - cond (lt_z (get_or w j blank).time (get_or w i blank).time) 1 0)) (j + (1 - cond (lt_z (get_or w i blank).time (get_or w j blank).time) 1 0)) (o + 1)
    joining-step = go (lt_z (get_or w i blank).time (get_or w j blank).time) (lt_z (get_or w j blank).time (get_or w i blank).time) refl refl

-- the whole merged list stands after the two
pub record Merged (w₀ w : List Candidate) (at m n o : ℕ) : Type 0 where
  pub before : part 0 at w ≡ part 0 at w₀
  pub list : part (at + m + n) o w ≡ merge join_marks (part (at + m) (at + m + n) w₀) (part at (at + m) w₀)
  pub past : at + m + n ≤ o
  pub top : o < at + m + n + (m + n)
  pub room : o ≤ length w

pub joining-end : (w₀ w : List Candidate) (at m n i j o : ℕ) → Joining w₀ w at m n i j o → ((i < at + m + n) × (j < at + m) → ⊥) → 1 ≤ m → 1 ≤ n → Merged w₀ w at m n o
unfolding merge
joining-end w₀ w at m n i j o t h p q = record { before = t.before; list = go (dec_lt i (at + m + n)) (dec_lt j (at + m)); past = t.past; top = t.top; room = omega (arith, t.top, t.room) }
  where
    whole : {l : List Candidate} → part (at + m + n) o w ++ [] ≡ l → part (at + m + n) o w ≡ l
    whole g = sym (append-nil _) ∙ g

    go : Dec (i < at + m + n) → Dec (j < at + m) → part (at + m + n) o w ≡ merge join_marks (part (at + m) (at + m + n) w₀) (part at (at + m) w₀)
    go (yes a) (yes b) = absurd (h (a, b))
    go (no a) d = let e : i ≡ at + m + n = omega (arith, t.of_second) in whole (rw (e, part-nil) at t.goal)
    go (yes a) (no b) = let e : j ≡ at + m = omega (arith, t.of_first) in whole (rw (e, part-nil (at + m) w, merge_none join_marks (part i (at + m + n) w)) at t.goal)

pub join-gives : (w₀ w w' : List Candidate) (at m n o : ℕ) → Merged w₀ w at m n o → Moved w w' (at + m + n) at (o - (at + m + n)) → Gives w₀ w' at (o - (at + m + n)) (merge join_marks (part (at + m) (at + m + n) w₀) (part at (at + m) w₀))
join-gives w₀ w w' at m n o t v =
    let e : at + m + n + (o - (at + m + n)) ≡ o = omega (arith, t.past) in
    record { before = v.before ∙ t.before; list = v.list ∙ rw e t.list; count_is = ap length (sym t.list) ∙ part_length (at + m + n) o w t.room }

pub not-both : (x y : ℤ) (a b : ℕ) → a ≡ cond (lt_z x y) 1 0 → b ≡ cond (lt_z y x) 1 0 → a + b ≤ 1
not-both x y a b e f = rw (e, f) (go (lt_z x y) (lt_z y x) (lt-true x y) (lt-true y x))
  where
    go : (p q : Bool) → (p ≡ true → x <ℤ y) → (q ≡ true → y <ℤ x) → cond p 1 0 + cond q 1 0 ≤ 1
    go true true h k = absurd (let u = h refl in let v = k refl in omega times)
    go true false h k = omega arith
    go false true h k = omega arith
    go false false h k = omega arith

-- as the code makes the step
pub joining-again : (w₀ w : List Candidate) (ls : List ℕ) (ts : List ℤ) (ws : List ℕ) (at m n i j o a b : ℕ) (t : Joining w₀ w at m n i j o) → i < at + m + n → j < at + m → at + m + n + (m + n) ≤ suc (length ls) → at + m + n + (m + n) ≤ suc (length ts)
    → run ls ts ws ≡ set w o (joined join_marks (get_or w i blank) (get_or w j blank))
    → a ≡ cond (lt_z (get_or ts i (pos 0)) (get_or ts j (pos 0))) 1 0 → b ≡ cond (lt_z (get_or ts j (pos 0)) (get_or ts i (pos 0))) 1 0 → Joining w₀ (run ls ts ws) at m n (i + (1 - b)) (j + (1 - a)) (o + 1)
joining-again w₀ w ls ts ws at m n i j o a b t h k p q e f g =
    let x : (get_or w i blank).time ≡ get_or ts i (pos 0) = ap (λ (c : Candidate). c.time) (sym (get_or-set_other w o i (joined join_marks (get_or w i blank) (get_or w j blank)) blank (omega (arith, t.past))) ∙ ap (λ (l : List Candidate). get_or l i blank) (sym e)) ∙ run-time ls ts ws i (omega (arith, t.in_first, t.in_second)) (omega (arith, t.in_first, t.in_second)) in
    let y : (get_or w j blank).time ≡ get_or ts j (pos 0) = ap (λ (c : Candidate). c.time) (sym (get_or-set_other w o j (joined join_marks (get_or w i blank) (get_or w j blank)) blank (omega (arith, t.past))) ∙ ap (λ (l : List Candidate). get_or l j blank) (sym e)) ∙ run-time ls ts ws j (omega (arith, t.in_first, t.in_second)) (omega (arith, t.in_first, t.in_second)) in
    rw (f, g, ← x, ← y) (joining-step w₀ w at m n i j o t h k (run ls ts ws) e)
