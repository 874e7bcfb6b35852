-- What every pass of a job keeps holds where none is left; and a job changes nothing past the room. Assumes nothing.
use Rattle.std.specs.Prelude.{◌≡◌, refl, List, ℕ, zero, suc, ◌-◌, ◌≤◌, ◌<◌, drop}
use Rattle.std.proofs.Common.{◌∙◌, arith}
use Rattle.rules.specs.Quantities.{work_room}
use Rattle.rules.specs.declared.Cand.{Cand}
use Rattle.turns.specs.declared.Pass.{Pass}
use Rattle.runs.specs.Passes.{Safe, Swept}
use Rattle.runs.specs.Beyond.{swept-past}
use Rattle.stages.specs.declared.Job.{Job}
use Rattle.stages.specs.Stages.{begin_of, Ended, Inside, Ends}
use Rattle.jobs.specs.Jobs.{Able, over, more, Worked, stop, pass}
use Rattle.jobs.specs.Working.{ended-less, able-safe, able-next}

module _ (types : List ℕ) (Inv : Job → List Cand → Type 0)
    (inside : (j : Job) (w : List Cand) → Inv j w → j.step < j.steps → Inside types j)
    (safe : (j : Job) (w : List Cand) → Inv j w → j.step < j.steps → Safe (begin_of types j) w)
    (ends : (j : Job) (w : List Cand) → Inv j w → j.step < j.steps → (e : Pass) (v : List Cand) → Swept (begin_of types j) w e v → Ends j e)
    (step : (j : Job) (w : List Cand) → Inv j w → j.step < j.steps → (e : Pass) (v : List Cand) (r : Job) → Swept (begin_of types j) w e v → Ended types j e r → Inv r v) where
  pub kept-able : (j : Job) (w : List Cand) → Inv j w → Able types j w
  kept-able j w i = go (j.steps - j.step) j w i (omega arith)
    where
      go : (n : ℕ) (j : Job) (w : List Cand) → Inv j w → j.steps - j.step ≤ n → Able types j w
      go zero j w i h = over {j = j} (omega arith)
      go (suc n) j w i h = by (j.steps - j.step) refl (go n)
        where
          by : (k : ℕ) → j.steps - j.step ≡ k → ((q : Job) (v : List Cand) → Inv q v → q.steps - q.step ≤ n → Able types q v) → Able types j w
          by zero e f = over {j = j} (omega arith)
          by (suc k) e f =
              let l : j.step < j.steps = omega arith in
              more (inside j w i l) (safe j w i l) (ends j w i l) (λ p v r s k. f r v (step j w i l p v r s k) (let d = ended-less types j r p k l in omega arith))

  pub kept-worked : {j : Job} {w w' : List Cand} {n : ℕ} → Worked types j w w' n → Inv j w → (r : Job) × Inv r w' × (r.steps ≤ r.step) × (n ≡ r.own)
  kept-worked {j} (stop h) i = (j, i, h, refl)
  kept-worked {j} {w} (pass {r = r} {v = v} e l s k h) i = kept-worked h (step j w i l e v r s k)

pub worked-past : {types : List ℕ} {j : Job} {w w' : List Cand} {n : ℕ} → Able types j w → Worked types j w w' n → drop work_room w' ≡ drop work_room w
worked-past a (stop h) = refl
worked-past a (pass e l s k h) = worked-past (able-next a l s k) h ∙ swept-past (able-safe a l) s
