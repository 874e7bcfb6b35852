-- A pass that moves a list down. Assumes nothing.
use Rattle.std.specs.Prelude.{◌≡◌, refl, List, ℕ, ◌+◌, ◌≤◌, ◌<◌, length, get_or, set}
use Rattle.std.proofs.Common.{arith, length-set}
use Rattle.rules.specs.declared.Femtosecond.{Femtosecond}
use Rattle.rules.specs.Quantities.{work_room}
use Rattle.columns.specs.Run.{blank}
use Rattle.columns.specs.Moving.{Moved, Lowering, lowering-start, lowering-step, lowering-end}
use Rattle.rules.specs.declared.Cand.{Cand}
use Rattle.turns.specs.declared.Step.TheVariants.{Move}
use Rattle.turns.specs.declared.Pass.{Pass}
use Rattle.turns.specs.declared.Turn.{Turn}
use Rattle.values.specs.Records.{cands}
use Rattle.turns.specs.Turns.{pass_of, Turned}
use Rattle.runs.specs.Passes.{first, second, Ready, Safe, Swept}
use Rattle.runs.specs.Sweeps.{kept-safe, kept-swept}
use Rattle.runs.specs.Cands.{cands-length, cands-at, cands-set}

module _ (w₀ : List Cand) (from to k : ℕ) (down : to ≤ from) (room : from + k ≤ work_room) where
  -- `gone` are moved
  record Moving (p : Pass) (w : List Cand) : Type 0 where
    step : p.step ≡ Move
    with : p.with < work_room
    gone : ℕ
    reads : p.from ≡ from + gone
    writes : p.to ≡ to + gone
    rest : gone + p.left ≡ k
    long : work_room ≤ length w
    lowers : Lowering (cands w₀) (cands w) from to k gone

  moving-ready : (p : Pass) (w : List Cand) → Moving p w → 0 < p.left → Ready p w
  moving-ready p w i l = record {
    long = i.long;
    here = record { left = l; from = omega (arith, i.reads, i.rest); with = i.with; to = omega (arith, i.writes, i.rest) };
    can = rw i.step tt;
  }

  moving-step : (p : Pass) (w : List Cand) → Moving p w → 0 < p.left → (t : Turn) → Turned p.step p (first p w) (second p w) t → Moving t.next (set w p.to t.put)
  moving-step p w i l t is =
      let m : Turned Move p (first p w) (second p w) t = rw i.step at is in
      let e : cands (set w p.to t.put) ≡ set (cands w) (to + i.gone) (get_or (cands w) (from + i.gone) blank) = rw (m.0, i.writes, i.reads, cands-at w (from + i.gone) (omega (arith, i.rest, i.long))) (cands-set w _ _) in
      rw m.1 (record {
        step = refl;
        with = i.with;
        gone = i.gone + 1;
        reads = omega (arith, i.reads);
        writes = omega (arith, i.writes);
        rest = omega (arith, i.rest);
        long = rw length-set i.long;
        lowers = lowering-step (cands w₀) (cands w) _ from to k i.gone down (omega (arith, i.rest)) i.lowers e;
      })

  module _ (with : ℕ) (h : Cand) (v : Femtosecond) (second : with < work_room) (long : work_room ≤ length w₀) where
    moving-start : Moving (pass_of Move k from with to h v) w₀
    moving-start = record {
      step = refl;
      with = second;
      gone = 0;
      reads = omega arith;
      writes = omega arith;
      rest = omega arith;
      long = long;
      lowers = lowering-start (cands w₀) from to k (rw (cands-length w₀) (omega arith));
    }

    pub moves-safe : Safe (pass_of Move k from with to h v) w₀
    moves-safe = kept-safe Moving moving-ready moving-step _ w₀ moving-start

    pub moves : {r : Pass} {w' : List Cand} → Swept (pass_of Move k from with to h v) w₀ r w' → Moved (cands w₀) (cands w') from to k
    moves {r} {w'} s =
        let e = kept-swept Moving moving-ready moving-step s moving-start in
        lowering-end (cands w₀) (cands w') from to k e.0.gone e.0.lowers (omega (arith, e.1, e.0.rest))
