-- A pass that puts the held record at each place. Assumes nothing.
use Rattle.std.specs.Prelude.{◌≡◌, refl, List, ◌++◌, ℕ, ◌+◌, ◌≤◌, ◌<◌, length, drop, set, replicate}
use Rattle.std.proofs.Common.{arith, length-set}
use Rattle.rules.specs.declared.Femtosecond.{Femtosecond}
use Rattle.rules.specs.Quantities.{work_room}
use Rattle.clearing.specs.Clearing.{Clearing, clearing-start, clearing-step, clearing-end}
use Rattle.rules.specs.declared.Cand.{Cand}
use Rattle.turns.specs.declared.Step.TheVariants.{Put}
use Rattle.turns.specs.declared.Pass.{Pass}
use Rattle.turns.specs.declared.Turn.{Turn}
use Rattle.turns.specs.Turns.{pass_of, Turned}
use Rattle.runs.specs.Passes.{first, second, Ready, Safe, Swept, none, turn}
use Rattle.runs.specs.Sweeps.{kept-safe, kept-swept}

-- h is put from place a on, up to place e
record Putting (a e : ℕ) (h : Cand) (p : Pass) (w : List Cand) : Type 0 where
  step : p.step ≡ Put
  held : p.held ≡ h
  from : p.from ≡ a
  with : p.with ≡ a
  begun : a ≤ p.to
  end : p.to + p.left ≡ e
  room : e ≤ work_room
  long : work_room ≤ length w

module _ (a n : ℕ) (h : Cand) (v : Femtosecond) (w : List Cand) (room : a + n ≤ work_room) (long : work_room ≤ length w) where
  putting-start : Putting a (a + n) h (pass_of Put n a a a h v) w
  putting-start = record { step = refl; held = refl; from = refl; with = refl; begun = omega arith; end = refl; room = room; long = long }

putting-ready : (a e : ℕ) (h : Cand) (p : Pass) (w : List Cand) → Putting a e h p w → 0 < p.left → Ready p w
putting-ready a e h p w i l = record {
  long = i.long;
  here = record { left = l; from = omega (arith, i.from, i.begun, i.end, i.room); with = omega (arith, i.with, i.begun, i.end, i.room); to = omega (arith, i.end, i.room) };
  can = rw i.step tt;
}

putting-step : (a e : ℕ) (h : Cand) (p : Pass) (w : List Cand) → Putting a e h p w → 0 < p.left → (t : Turn) → Turned p.step p (first p w) (second p w) t → Putting a e h t.next (set w p.to t.put)
putting-step a e h p w i l t is =
    let k : Turned Put p (first p w) (second p w) t = rw i.step at is in
    rw k.1 (record { step = refl; held = i.held; from = i.from; with = i.with; begun = omega (arith, i.begun); end = omega (arith, i.end); room = i.room; long = rw length-set i.long })

pub puts-safe : (n a : ℕ) (h : Cand) (v : Femtosecond) (w : List Cand) → a + n ≤ work_room → work_room ≤ length w → Safe (pass_of Put n a a a h v) w
puts-safe n a h v w room long = kept-safe (Putting a (a + n) h) (putting-ready a (a + n) h) (putting-step a (a + n) h) _ w (putting-start a n h v w room long)

-- ---- none
done : {p r : Pass} {w w' : List Cand} → Swept p w r w' → p.left ≤ 0 → w' ≡ w
done (none h) l = refl
done (turn t k is s) l = absurd (omega arith)

pub puts_none : {a : ℕ} {h : Cand} {v : Femtosecond} {r : Pass} {w w' : List Cand} → Swept (pass_of Put 0 a a a h v) w r w' → w' ≡ w
puts_none s = done s (omega arith)

-- ---- one
pub puts_one : {a : ℕ} {h : Cand} {v : Femtosecond} {r : Pass} {w w' : List Cand} → Swept (pass_of Put 1 a a a h v) w r w' → w' ≡ set w a h
puts_one (none h) = absurd (omega arith)
puts_one {a} {h} {v} {r} {w} {w'} (turn t l is s) = rw is.0 at (done s (rw is.1 (omega arith)))

-- ---- a start of the run
module _ (w₀ : List Cand) (n : ℕ) (h : Cand) where
  record Clears (p : Pass) (w : List Cand) : Type 0 where
    puts : Putting 0 n h p w
    clears : Clearing h w₀ w n p.to

  clears-step : (p : Pass) (w : List Cand) → Clears p w → 0 < p.left → (t : Turn) → Turned p.step p (first p w) (second p w) t → Clears t.next (set w p.to t.put)
  clears-step p w i l t is =
      let k : Turned Put p (first p w) (second p w) t = rw i.puts.step at is in
      record { puts = putting-step 0 n h p w i.puts l t is; clears = rw (k.1, k.0, i.puts.held) (clearing-step h w₀ w n p.to (omega (arith, i.puts.end)) i.clears) }

pub puts-clear : (n : ℕ) (h : Cand) (v : Femtosecond) (w : List Cand) {r : Pass} {w' : List Cand} → n ≤ work_room → work_room ≤ length w → Swept (pass_of Put n 0 0 0 h v) w r w' → w' ≡ replicate n h ++ drop n w
puts-clear n h v w {r} {w'} room long s =
    let e : 0 + n ≡ n = omega arith in
    let k = kept-swept (Clears w n h) (λ p w i. putting-ready 0 n h p w i.puts) (clears-step w n h) s (record { puts = rw e at (putting-start 0 n h v w (omega arith) long); clears = clearing-start h w n (omega arith) }) in
    clearing-end h w w' n r.to (omega (arith, k.1, k.0.puts.end)) k.0.clears
