-- A list behind a wire, by one pass over its run of records. Assumes nothing.
use Rattle.std.specs.Prelude.{◌≡◌, refl, Bool, true, false, cond, List, map, ℕ, ◌+◌, ◌-◌, ◌≤◌, ◌<◌, length, get_or, set}
use Rattle.std.proofs.Common.{sym, ap, ◌∙◌, arith, length-set, get_or-set_same, get_or-set_other}
use Rattle.std.specs.Int.Signed.{lt_z}
use Rattle.rules.specs.declared.Ohm.{Ohm}
use Rattle.rules.specs.declared.Femtofarad.{Femtofarad}
use Rattle.rules.specs.declared.Femtosecond.{Femtosecond}
use Rattle.rules.specs.Quantities.{most_ohms, work_room}
use Rattle.rules.specs.Lists.{All}
use Rattle.rules.specs.Net.{Wire as Link}
use Rattle.laws.specs.Lists.{all_head}
use Rattle.laws.specs.Thinning.{climbed}
use Rattle.laws.specs.Moves.{behind, wire_step}
use Rattle.columns.specs.Parts.{part, part-cons}
use Rattle.columns.specs.Run.{Candidate, blank}
use Rattle.columns.specs.Made.{Fit, Stand, Gives, wire_of}
use Rattle.wires.specs.Wiring.{Wiring, wiring-start, wiring-end, wiring-next, wiring-made}
use Rattle.wires.specs.Wiring.{step as wiring-step}
use Rattle.rules.specs.declared.Cand.{Cand}
use Rattle.rules.specs.Areas.{zeros}
use Rattle.turns.specs.declared.Step.TheVariants.{FirstWire, Wire}
use Rattle.turns.specs.declared.Pass.{Pass}
use Rattle.turns.specs.declared.Turn.{Turn}
use Rattle.values.specs.Records.{cand_of, cands}
use Rattle.runs.specs.Cands.{cands-length, cands-at, cands-set}
use Rattle.turns.specs.Turns.{pass_of, Turned}
use Rattle.runs.specs.Passes.{first, second, Ready, Safe, Swept}
use Rattle.runs.specs.Sweeps.{kept-safe, kept-swept}

-- the step through a wire, as its pass makes it
wire-step : (link : Link) (l : List Candidate) → wire_step link l ≡ climbed (map (behind link) l)
unfolding wire_step
wire-step link l = refl

module _ (r : Ohm) (c : Femtofarad) (ohms : r.0 ≤ most_ohms) (w₀ : List Cand) (at n : ℕ) (h : Cand) (v : Femtosecond) (long : work_room ≤ length w₀)
    (s : Stand (cands w₀) at n) (made : All Fit (map (behind (wire_of r.0 c.0)) (part at (at + n) (cands w₀)))) where
  abbrev f : Candidate → Candidate
  f = behind (wire_of r.0 c.0)

  -- the run once the first is done
  abbrev w₁ : List Candidate
  w₁ = set (cands w₀) at (f (get_or (cands w₀) at blank))

  room : at + n ≤ length (cands w₀)
  room = omega (arith, cands-length w₀, s.place)

  -- before the first turn, and after it: `last` is the last one kept, i the next
  data Inv : Pass → List Cand → Type 0 where
    begun : Inv (pass_of (FirstWire r c) n at at at h v) w₀
    going : {w : List Cand} (left i last : ℕ) → work_room ≤ length w → left ≡ at + n - i → Wiring f w₁ (cands w) at n last i → Inv (pass_of (Wire r c) left i last (last + 1) h v) w

  ready : (p : Pass) (w : List Cand) → Inv p w → 0 < p.left → Ready p w
  ready p w begun l =
      let e = part-cons at (at + n) (cands w₀) blank (omega (arith, s.some)) room in
      let q = cands-at w₀ at (omega (arith, s.place, s.some)) in
      record {
        long = long;
        here = record { left = l; from = omega (arith, s.place, s.some); with = omega (arith, s.place, s.some); to = omega (arith, s.place, s.some) };
        can = record { ohms = ohms; fit = rw q at (all_head (rw e at s.fit)); made = rw q at (all_head (rw e at made)) };
      }
  ready p w (going left i last lw e t) l =
      let q = cands-at w i (omega (arith, s.place)) in
      record {
        long = lw;
        here = record { left = l; from = omega (arith, s.place); with = omega (arith, s.place, t.past); to = omega (arith, s.place, t.past) };
        can = record { ohms = ohms; fit = rw q at (wiring-next f w₁ (cands w) at n last i t (omega arith)); made = rw q at (wiring-made f w₁ (cands w) at n last i t (omega arith)) };
      }

  step : (p : Pass) (w : List Cand) → Inv p w → 0 < p.left → (t : Turn) → Turned p.step p (first p w) (second p w) t → Inv t.next (set w p.to t.put)
  step p w begun l t is =
      let q = cands-at w₀ at (omega (arith, s.place, s.some)) in
      let e : cands (set w₀ at t.put) ≡ w₁ = cands-set w₀ at t.put ∙ ap (set (cands w₀) at) (is.0 ∙ ap f (sym q)) in
      rw is.1 (going {w = set w₀ at t.put} (n - 1) (at + 1) at (rw length-set long) (omega (arith, s.some)) (rw e (wiring-start f (cands w₀) w₁ at n s.some room refl s.fit made)))
  step p w (going left i last lw e t) l k is = rw is.1 (go (lt_z (get_or w last zeros).time.0 k.put.time.0) refl)
    where
      stored : cands (set w (last + 1) k.put) ≡ set (cands w) (last + 1) (f (get_or (cands w) i blank))
      stored = cands-set w (last + 1) k.put ∙ ap (set (cands w) (last + 1)) (is.0 ∙ ap f (sym (cands-at w i (omega (arith, s.place)))))

      before : get_or (cands (set w (last + 1) k.put)) last blank ≡ cand_of (get_or w last zeros)
      before =
          cands-at (set w (last + 1) k.put) last (rw length-set (omega (arith, s.place, t.past)))
          ∙ ap cand_of (get_or-set_other w (last + 1) last k.put zeros (omega arith))

      new : get_or (cands (set w (last + 1) k.put)) (last + 1) blank ≡ cand_of k.put
      new =
          cands-at (set w (last + 1) k.put) (last + 1) (rw length-set (omega (arith, s.place, t.past)))
          ∙ ap cand_of (get_or-set_same w (last + 1) k.put zeros (omega (arith, s.place, t.past)))

      on : (b : Bool) → lt_z (get_or w last zeros).time.0 k.put.time.0 ≡ b → Wiring f w₁ (cands (set w (last + 1) k.put)) at n (last + cond b 1 0) (i + 1)
      on b q = wiring-step f w₁ (cands w) at n last i t (omega arith) (cands (set w (last + 1) k.put)) stored b (rw (before, new) q)

      go : (b : Bool) → lt_z (get_or w last zeros).time.0 k.put.time.0 ≡ b
          → Inv (cond b (pass_of (Wire r c) (left - 1) (i + 1) (last + 1) (last + 1 + 1) h v) (pass_of (Wire r c) (left - 1) (i + 1) last (last + 1) h v)) (set w (last + 1) k.put)
      go true q = going {w = set w (last + 1) k.put} (left - 1) (i + 1) (last + 1) (rw length-set lw) (omega arith) (on true q)
      go false q = let z : last + 0 ≡ last = omega arith in going {w = set w (last + 1) k.put} (left - 1) (i + 1) last (rw length-set lw) (omega arith) (rw z at (on false q))

  pub wires-safe : Safe (pass_of (FirstWire r c) n at at at h v) w₀
  wires-safe = kept-safe Inv ready step _ w₀ begun

  -- the list behind the wire stands where the list stood
  pub wires-swept : {q : Pass} {w' : List Cand} → Swept (pass_of (FirstWire r c) n at at at h v) w₀ q w'
      → (at ≤ q.to) × Gives (cands w₀) (cands w') at (q.to - at) (wire_step (wire_of r.0 c.0) (part at (at + n) (cands w₀)))
  wires-swept {q} {w'} S = let k = kept-swept Inv ready step S begun in end q w' k.0 k.1
    where
      end : (q : Pass) (w' : List Cand) → Inv q w' → q.left ≤ 0 → (at ≤ q.to) × Gives (cands w₀) (cands w') at (q.to - at) (wire_step (wire_of r.0 c.0) (part at (at + n) (cands w₀)))
      end q w' begun l = absurd (omega (arith, s.some))
      end q w' (going left i last lw e t) l =
          (omega (arith, t.from), rw (wire-step (wire_of r.0 c.0) (part at (at + n) (cands w₀))) (wiring-end f (cands w₀) w₁ at n s.some room refl (cands w') last i t (omega arith)))
