-- A pass that walks two lists together and writes what each two make after them. Assumes nothing.
use Rattle.std.specs.Prelude.{◌≡◌, refl, Bool, true, false, cond, List, ℕ, suc, ◌+◌, ◌-◌, ◌≤◌, ◌<◌, ltb, length, get_or, set}
use Rattle.std.proofs.Common.{arith, ltb-true, ltb-false, length-set}
use Rattle.std.specs.Int.Signed.{lt_z}
use Rattle.rules.specs.declared.Femtosecond.{Femtosecond}
use Rattle.rules.specs.Quantities.{work_room}
use Rattle.laws.specs.Joining.{join_marks}
use Rattle.laws.specs.Steps.{joined}
use Rattle.columns.specs.Run.{blank}
use Rattle.branches.specs.Branching.{Pair, Joining, Merged, joining-start, joining-fit, joining-step, joining-end, not-both}
use Rattle.rules.specs.declared.Cand.{Cand}
use Rattle.turns.specs.declared.Step.TheVariants.{Branch}
use Rattle.turns.specs.declared.Pass.{Pass}
use Rattle.turns.specs.declared.Turn.{Turn}
use Rattle.values.specs.Records.{cand_of, cands}
use Rattle.turns.specs.Turns.{pass_of, Turned, on_from, on_with}
use Rattle.runs.specs.Passes.{first, second, Ready, Safe, Swept}
use Rattle.runs.specs.Sweeps.{kept-safe, kept-swept}
use Rattle.runs.specs.Cands.{cands-length, cands-at, cands-set}

-- one on, unless it is the later
on_one : (b : Bool) → 1 - cond b 1 0 ≡ cond b 0 1
on_one true = refl
on_one false = refl

module _ (w₀ : List Cand) (low m n : ℕ) (place : low + m + n + (m + n) ≤ suc work_room) where
  -- something is left as long as both lists have some left, and then as much as both have or more
  record Walking (p : Pass) (w : List Cand) : Type 0 where
    step : p.step ≡ Branch (low + m + n) (low + m)
    long : work_room ≤ length w
    some : 0 < p.left → (p.from < low + m + n) × (p.with < low + m)
    rest : p.from < low + m + n → p.with < low + m → low + m + n + (low + m) ≤ p.left + p.from + p.with
    joins : Joining (cands w₀) (cands w) low m n p.from p.with p.to

  module _ (p : Pass) (w : List Cand) (i : Walking p w) (l : 0 < p.left) where
    reads : p.from < low + m + n
    reads = (i.some l).0

    pairs : p.with < low + m
    pairs = (i.some l).1

    stores : p.to < work_room
    stores = omega (arith, reads, pairs, i.joins.slow)

    is-first : get_or (cands w) p.from blank ≡ cand_of (first p w)
    is-first = cands-at w p.from (omega (arith, reads, stores, i.joins.past, i.long))

    is-second : get_or (cands w) p.with blank ≡ cand_of (second p w)
    is-second = cands-at w p.with (omega (arith, pairs, stores, i.joins.past, i.long))

    walking-ready : Ready p w
    walking-ready = record {
      long = i.long;
      here = record { left = l; from = omega (arith, reads, stores, i.joins.past); with = omega (arith, pairs, stores, i.joins.past); to = stores };
      can = rw i.step (rw (is-first, is-second) at (joining-fit (cands w₀) (cands w) low m n p.from p.with p.to i.joins reads pairs));
    }

    module _ (t : Turn) (is : Turned p.step p (first p w) (second p w) t) where
      made : Turned (Branch (low + m + n) (low + m)) p (first p w) (second p w) t
      made = rw i.step at is

      put : cands (set w p.to t.put) ≡ set (cands w) p.to (joined join_marks (get_or (cands w) p.from blank) (get_or (cands w) p.with blank))
      put = rw (is-first, is-second, ← made.0) (cands-set w p.to t.put)

      walked : Joining (cands w₀) (cands (set w p.to t.put)) low m n (on_from p (first p w) (second p w)) (on_with p (first p w) (second p w)) (p.to + 1)
      walked =
          rw (is-first, is-second, on_one (lt_z (second p w).time.0 (first p w).time.0), on_one (lt_z (first p w).time.0 (second p w).time.0))
          at (joining-step (cands w₀) (cands w) low m n p.from p.with p.to i.joins reads pairs (cands (set w p.to t.put)) put)

      further : p.from + p.with < on_from p (first p w) (second p w) + on_with p (first p w) (second p w)
      further =
          let x = lt_z (first p w).time.0 (second p w).time.0 in
          let y = lt_z (second p w).time.0 (first p w).time.0 in
          omega (arith, not-both (first p w).time.0 (second p w).time.0 _ _ refl refl, on_one x, on_one y)

      -- how much is left
      go : (i' j' : ℕ) (a b : Bool) → ltb i' (low + m + n) ≡ a → ltb j' (low + m) ≡ b → p.from + p.with < i' + j' → Joining (cands w₀) (cands (set w p.to t.put)) low m n i' j' (p.to + 1)
          → Walking (pass_of (Branch (low + m + n) (low + m)) (cond a (cond b (p.left - 1) 0) 0) i' j' (p.to + 1) p.held p.worth) (set w p.to t.put)
      go i' j' true true e f g k = record { step = refl; long = rw length-set i.long; some = λ h. (ltb-true i' (low + m + n) e, ltb-true j' (low + m) f); rest = λ x y. omega (arith, i.rest reads pairs); joins = k }
      go i' j' true false e f g k = record { step = refl; long = rw length-set i.long; some = λ h. absurd (omega arith); rest = λ x y. absurd (omega (arith, ltb-false j' (low + m) f)); joins = k }
      go i' j' false b e f g k = record { step = refl; long = rw length-set i.long; some = λ h. absurd (omega arith); rest = λ x y. absurd (omega (arith, ltb-false i' (low + m + n) e)); joins = k }

      walking-step : Walking t.next (set w p.to t.put)
      walking-step = rw made.1 (go _ _ _ _ refl refl further walked)

module _ (w : List Cand) (low m n : ℕ) (h : Cand) (v : Femtosecond) (pair : Pair (cands w) low m n) (long : work_room ≤ length w) where
  walking_start : Walking w low m n pair.place (pass_of (Branch (low + m + n) (low + m)) (m + n) (low + m) low (low + m + n) h v) w
  walking_start = record {
    step = refl;
    long = long;
    some = λ l. (omega (arith, pair.second), omega (arith, pair.first));
    rest = λ x y. omega arith;
    joins = joining-start (cands w) low m n pair (rw (cands-length w) (omega (arith, pair.place)));
  }

  pub branches-safe : Safe (pass_of (Branch (low + m + n) (low + m)) (m + n) (low + m) low (low + m + n) h v) w
  branches-safe = kept-safe (Walking w low m n pair.place) (walking-ready w low m n pair.place) (walking-step w low m n pair.place) _ w walking_start

  pub branches : {r : Pass} {w' : List Cand} → Swept (pass_of (Branch (low + m + n) (low + m)) (m + n) (low + m) low (low + m + n) h v) w r w' → Merged (cands w) (cands w') low m n r.to
  branches {r} {w'} s =
      let e = kept-swept (Walking w low m n pair.place) (walking-ready w low m n pair.place) (walking-step w low m n pair.place) s walking_start in
      joining-end (cands w) (cands w') low m n r.from r.with r.to e.0.joins (λ b. omega (arith, e.1, b.0, b.1, e.0.rest b.0 b.1)) pair.first pair.second
