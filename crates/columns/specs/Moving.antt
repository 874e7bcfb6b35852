-- A list moved to another place of a run, a candidate at a time. Assumes nothing.
use Rattle.std.specs.Prelude.{◌≡◌, refl, List, ◌∷◌, ◌++◌, ℕ, ◌+◌, ◌-◌, ◌≤◌, ◌<◌, length, get_or, set}
use Rattle.std.proofs.Common.{sym, ap₂, ◌∙◌, append_assoc, append-nil, arith, length-set, get_or-set_same}
use Rattle.columns.specs.Parts.{part, part-nil, part-cons, part-snoc, part-over, part-under, part-less, part_at}
use Rattle.columns.specs.Run.{Candidate, blank}

-- k candidates from one place to another; all before and all past as it was
pub record Moved (w w' : List Candidate) (from to k : ℕ) : Type 0 where
  pub before : part 0 to w' ≡ part 0 to w
  pub list : part to (to + k) w' ≡ part from (from + k) w
  pub past : (a e : ℕ) → to + k ≤ a → a ≤ e → part a e w' ≡ part a e w

pub moved_same : (w : List Candidate) (from to k : ℕ) → from ≡ to → Moved w w from to k
moved_same w from to k e = rw e (record { before = refl; list = refl; past = λ a z h l. refl })

-- ---- down: p are moved
pub record Lowering (w₀ w : List Candidate) (from to k p : ℕ) : Type 0 where
  pub upto : p ≤ k
  pub room : from + k ≤ length w
  pub before : part 0 to w ≡ part 0 to w₀
  pub past : (a e : ℕ) → to + k ≤ a → a ≤ e → part a e w ≡ part a e w₀
  pub goal : part to (to + p) w ++ part (from + p) (from + k) w ≡ part from (from + k) w₀

pub lowering-start : (w : List Candidate) (from to k : ℕ) → from + k ≤ length w → Lowering w w from to k 0
lowering-start w from to k h =
    let a : to + 0 ≡ to = omega arith in
    let b : from + 0 ≡ from = omega arith in
    record { upto = omega arith; room = h; before = refl; past = λ a e h k. refl; goal = rw (a, b, part-nil) }

pub lowering-step : (w₀ w w' : List Candidate) (from to k p : ℕ) → to ≤ from → p < k → Lowering w₀ w from to k p → w' ≡ set w (to + p) (get_or w (from + p) blank) → Lowering w₀ w' from to k (p + 1)
lowering-step w₀ w w' from to k p d h t e =
    let x = get_or w (from + p) blank in
    let a : to + (p + 1) ≡ to + p + 1 = omega arith in
    let b : from + (p + 1) ≡ from + p + 1 = omega arith in
    rw e (record {
      upto = omega arith;
      room = rw length-set t.room;
      before = part-over 0 to w (to + p) x (omega arith) ∙ t.before;
      past = λ f z g l. part-under f z w (to + p) x (omega arith) l ∙ t.past f z g l;
      goal = rw (a, b, part-snoc to (to + p) (set w (to + p) x) blank (omega arith) (rw length-set (omega (arith, t.room))), part-over to (to + p) w (to + p) x (omega arith), get_or-set_same w (to + p) x blank (omega (arith, t.room)), part-under (from + p + 1) (from + k) w (to + p) x (omega arith) (omega arith), append_assoc)
          (rw (part-cons (from + p) (from + k) w blank (omega arith) t.room) at t.goal);
    })

pub lowering-end : (w₀ w : List Candidate) (from to k p : ℕ) → Lowering w₀ w from to k p → k ≤ p → Moved w₀ w from to k
lowering-end w₀ w from to k p t h =
    let e : p ≡ k = omega (arith, t.upto) in
    record { before = t.before; list = sym (append-nil _) ∙ rw (e, part-nil (from + k) w) at t.goal; past = t.past }

-- ---- up: all but `left` are moved
pub record Raising (w₀ w : List Candidate) (from to k left : ℕ) : Type 0 where
  pub upto : left ≤ k
  pub room : to + k ≤ length w
  pub before : part 0 (to + left) w ≡ part 0 (to + left) w₀
  pub past : (a e : ℕ) → to + k ≤ a → a ≤ e → part a e w ≡ part a e w₀
  pub goal : part (to + left) (to + k) w ≡ part (from + left) (from + k) w₀

pub raising-start : (w : List Candidate) (from to k : ℕ) → to + k ≤ length w → Raising w w from to k k
raising-start w from to k h = record { upto = omega arith; room = h; before = refl; past = λ a e h k. refl; goal = part-nil (to + k) w ∙ sym (part-nil (from + k) w) }

pub raising-step : (w₀ w w' : List Candidate) (from to k left : ℕ) → from ≤ to → to + k ≤ length w₀ → 0 < left → Raising w₀ w from to k left → w' ≡ set w (to + (left - 1)) (get_or w (from + (left - 1)) blank) → Raising w₀ w' from to k (left - 1)
raising-step w₀ w w' from to k left d long h t e =
    let x = get_or w (from + (left - 1)) blank in
    let a : to + (left - 1) + 1 ≡ to + left = omega arith in
    let b : from + (left - 1) + 1 ≡ from + left = omega arith in
    let y : x ≡ get_or w₀ (from + (left - 1)) blank = part_at (to + left) (from + (left - 1)) w₀ w blank (omega arith) t.before in
    rw e (record {
      upto = omega (arith, t.upto);
      room = rw length-set t.room;
      before = part-over 0 (to + (left - 1)) w (to + (left - 1)) x (omega arith) ∙ part-less (to + (left - 1)) (to + left) w₀ w (omega arith) t.before;
      past = λ f z g l. part-under f z w (to + (left - 1)) x (omega (arith, t.upto)) l ∙ t.past f z g l;
      goal =
          part-cons (to + (left - 1)) (to + k) (set w (to + (left - 1)) x) blank (omega (arith, t.upto)) (rw length-set t.room)
          ∙ rw (a, get_or-set_same w (to + (left - 1)) x blank (omega (arith, t.room, t.upto)), part-under (to + left) (to + k) w (to + (left - 1)) x (omega arith) (omega (arith, t.upto)))
          (ap₂ ◌∷◌ y t.goal ∙ sym (rw b at (part-cons (from + (left - 1)) (from + k) w₀ blank (omega (arith, t.upto)) (omega arith))));
    })

pub raising-end : (w₀ w : List Candidate) (from to k left : ℕ) → Raising w₀ w from to k left → left ≤ 0 → Moved w₀ w from to k
raising-end w₀ w from to k left t h =
    let e : to + left ≡ to = omega arith in
    let f : from + left ≡ from = omega arith in
    record { before = part-less to (to + left) w₀ w (omega arith) t.before; list = rw (e, f) at t.goal; past = t.past }
