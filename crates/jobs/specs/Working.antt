-- The passes of a job one by one: what is left falls, and each pass can be made. Assumes nothing.
use Rattle.std.specs.Prelude.{◌≡◌, Bool, true, false, cond, List, ℕ, ◌+◌, ◌-◌, ◌<◌, ltb}
use Rattle.std.proofs.Common.{ap, arith}
use Rattle.rules.specs.declared.Cand.{Cand}
use Rattle.turns.specs.declared.Pass.{Pass}
use Rattle.runs.specs.Passes.{Safe, Swept}
use Rattle.stages.specs.declared.Job.{Job}
use Rattle.stages.specs.Stages.{on_to, own_at, begin_of, Chosen, Ended, Inside, Ends}
use Rattle.jobs.specs.Jobs.{Able, over, more, Worked}

-- on to the next pass of the same job
pub record Next (j r : Job) : Type 0 where
  pub step : r.step ≡ j.step + 1
  pub steps : r.steps ≡ j.steps

next-by : (j r : Job) (own made : ℕ) (best : List Cand) → r ≡ on_to j own made best → Next j r
next-by j r own made best e = record { step = ap (λ (z : Job). z.step) e; steps = ap (λ (z : Job). z.steps) e }

pub ended-next : (types : List ℕ) (j : Job) (e : Pass) (r : Job) → Ended types j e r → Next j r
unfolding Ended
ended-next types j e r h = go (ltb j.step 1) (ltb j.step (j.count + 1)) (ltb j.step (j.count + j.count + 2)) (ltb j.step (j.count + j.count + 3)) h
  where
    go : (a b c d : Bool) → cond a (r ≡ on_to j (cond j.sink 1 j.own) 0 j.best) (cond b (Chosen types j e (j.step - 1) r) (cond c (r ≡ on_to j (e.to - own_at j) 0 j.best) (cond d (r ≡ on_to j j.own (e.to - (own_at j + j.own)) j.best) (r ≡ on_to j j.made j.made j.best)))) → Next j r
    go true b c d k = next-by j r _ _ _ k
    go false true c d k = next-by j r _ _ _ k.2
    go false false true d k = next-by j r _ _ _ k
    go false false false true k = next-by j r _ _ _ k
    go false false false false k = next-by j r _ _ _ k

pub ended-less : (types : List ℕ) (j r : Job) (e : Pass) → Ended types j e r → j.step < j.steps → r.steps - r.step < j.steps - j.step
ended-less types j r e k h = let n = ended-next types j e r k in omega (arith, n)

-- ---- a job whose passes can all be made
module _ {types : List ℕ} {j : Job} {w : List Cand} where
  pub able-inside : Able types j w → j.step < j.steps → Inside types j
  able-inside (over h) l = absurd (omega arith)
  able-inside (more i s f g) l = i

  pub able-safe : Able types j w → j.step < j.steps → Safe (begin_of types j) w
  able-safe (over h) l = absurd (omega arith)
  able-safe (more i s f g) l = s

  pub able-ends : Able types j w → j.step < j.steps → {e : Pass} {v : List Cand} → Swept (begin_of types j) w e v → Ends j e
  able-ends (over h) l k = absurd (omega arith)
  able-ends (more i s f g) l {e} {v} k = f e v k

  pub able-next : Able types j w → j.step < j.steps → {e : Pass} {v : List Cand} {r : Job} → Swept (begin_of types j) w e v → Ended types j e r → Able types r v
  able-next (over h) l k m = absurd (omega arith)
  able-next (more i s f g) l {e} {v} {r} k m = g e v r k m

-- a pass begun as the code begins it
pub begun-safe : {types : List ℕ} {j : Job} {w : List Cand} {p : Pass} → p ≡ begin_of types j → Able types j w → j.step < j.steps → Safe p w
begun-safe e a l = rw e (able-safe a l)

pub begun-swept : (types : List ℕ) (j : Job) {w v : List Cand} {p e : Pass} → p ≡ begin_of types j → Swept p w e v → Swept (begin_of types j) w e v
begun-swept types j {w} {v} {p} {e} q s = rw q at s

-- a job made as the code makes it
pub begun-able : {types : List ℕ} {j k : Job} {w : List Cand} → j ≡ k → Able types k w → Able types j w
begun-able e a = rw e a

pub begun-worked : {types : List ℕ} {j k : Job} {w w' : List Cand} {n : ℕ} → j ≡ k → Worked types j w w' n → Worked types k w w' n
begun-worked e a = rw e at a
