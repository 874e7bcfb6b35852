-- The passes of one row as a job: what each begins with and what it makes of the job. Assumes nothing.
use Rattle.std.specs.Prelude.{◌≡◌, Bool, true, false, cond, List, [], ℕ, ◌+◌, ◌-◌, ◌*◌, ◌≤◌, ◌<◌, ltb, pos, length, get_or, set}
use Rattle.rules.specs.Tables.{words_a_type}
use Rattle.rules.specs.Quantities.{types_room, sites_room, work_room}
use Rattle.repeaters.specs.Repeaters.{buffer_at}
use Rattle.rules.specs.Placements.{marks}
use Rattle.laws.specs.Joining.{with_mark}
use Rattle.columns.specs.Run.{candidate}
use Rattle.rules.specs.declared.Cand.{Cand}
use Rattle.rules.specs.Areas.{zeros}
use Rattle.turns.specs.declared.Step.{Step}
use Rattle.turns.specs.declared.Step.TheVariants.{Put, Move, FirstWire, FirstChoice, Insert, Branch}
use Rattle.turns.specs.declared.Pass.{Pass}
use Rattle.values.specs.Records.{cand_of}
use Rattle.turns.specs.Turns.{pass_of}
use Rattle.stages.specs.declared.Job.{Job}
use Rattle.stages.specs.declared.Stage.{Stage}
use Rattle.stages.specs.declared.Stage.TheVariants.{Pin, Choice, Insert as PutIn, Wire, Branch as Join, Move as Lower}

-- where the row's own list stands
abbrev pub own_at : Job → ℕ
own_at j = j.low + j.later

-- what stands past the end of an array of records
abbrev pub unset : Cand
unset = record { load = record { 0 = 0 }; time = record { 0 = pos 0 }; words = [] }

-- ---- the passes
abbrev pub pass_at : Step → (left from with to : ℕ) → Cand → Pass
pass_at step left from with to held = pass_of step left from with to held (record { 0 = pos 0 })

abbrev pub pin_pass : Job → Pass
pin_pass j = pass_at Put (cond j.sink 1 0) (own_at j) (own_at j) (own_at j) j.pin

abbrev pub choice_pass : List ℕ → Job → ℕ → Pass
choice_pass types j t = pass_at (FirstChoice (buffer_at types t).own (buffer_at types t).resistance) j.own (own_at j) (own_at j) (own_at j) zeros

abbrev pub insert_pass : Job → ℕ → Pass
insert_pass j t = pass_at Insert (j.own + 1) (own_at j) (own_at j) (own_at j) (get_or j.best t unset)

abbrev pub wire_pass : Job → Pass
wire_pass j = pass_at (FirstWire j.resistance j.capacitance) j.own (own_at j) (own_at j) (own_at j) zeros

abbrev pub branch_pass : Job → Pass
branch_pass j = pass_at (Branch (own_at j + j.own) (own_at j)) (j.later + j.own) (own_at j) j.low (own_at j + j.own) zeros

abbrev pub move_pass : Job → Pass
move_pass j = pass_at Move j.made (own_at j + j.own) j.low j.low zeros

unfoldable pub begin_of : List ℕ → Job → Pass
begin_of types j =
    cond (ltb j.step 1) (pin_pass j)
    (cond (ltb j.step (j.count + 1)) (choice_pass types j (j.step - 1))
    (cond (ltb j.step (j.count + j.count + 1)) (insert_pass j (j.step - j.count - 1))
    (cond (ltb j.step (j.count + j.count + 2)) (wire_pass j)
    (cond (ltb j.step (j.count + j.count + 3)) (branch_pass j)
    (move_pass j)))))

-- what the number of a pass means, with so many types at the site
abbrev pub StageOf : (step types : ℕ) → Stage → Type 0
StageOf step types Pin = step < 1
StageOf step types (Choice t) = (step ≡ t + 1) × (t < types)
StageOf step types (PutIn t) = (step ≡ types + t + 1) × (t < types)
StageOf step types Wire = step ≡ types + types + 1
StageOf step types Join = step ≡ types + types + 2
StageOf step types Lower = types + types + 3 ≤ step

-- ---- what a pass makes of the job
abbrev pub on_to : Job → (own made : ℕ) → List Cand → Job
on_to j own made best = record { step = j.step + 1; steps = j.steps; low = j.low; later = j.later; own = own; made = made; count = j.count; site = j.site; sink = j.sink; pin = j.pin; resistance = j.resistance; capacitance = j.capacitance; best = best }

-- the best behind type t, with its mark
abbrev pub Chosen : List ℕ → Job → Pass → ℕ → Job → Type 0
Chosen types j e t r = (c : Cand) × (cand_of c ≡ candidate (buffer_at types t).input.0 e.worth.0 (with_mark j.site (t + 1) (marks e.held.words))) × (r ≡ on_to j j.own j.made (set j.best t c))

unfoldable pub Ended : List ℕ → Job → Pass → Job → Type 0
Ended types j e r =
    cond (ltb j.step 1) (r ≡ on_to j (cond j.sink 1 j.own) 0 j.best)
    (cond (ltb j.step (j.count + 1)) (Chosen types j e (j.step - 1) r)
    (cond (ltb j.step (j.count + j.count + 2)) (r ≡ on_to j (e.to - own_at j) 0 j.best)
    (cond (ltb j.step (j.count + j.count + 3)) (r ≡ on_to j j.own (e.to - (own_at j + j.own)) j.best)
    (r ≡ on_to j j.made j.made j.best))))

pub own-pin : {b : Bool} (n : ℕ) → b ≡ true → 1 ≡ cond b 1 n
own-pin n e = rw e

pub own-kept : {b : Bool} (n : ℕ) → b ≡ false → n ≡ cond b 1 n
own-kept n e = rw e

-- ---- what the code needs of a job, and of the end of its pass
pub record Inside (types : List ℕ) (j : Job) : Type 0 where
  pub going : j.step < j.steps
  pub few : j.steps ≤ j.count + j.count + 4
  pub types_few : j.count ≤ types_room
  pub types_long : words_a_type * types_room ≤ length types
  pub number : 0 < j.count → j.site < sites_room
  pub room : j.low + j.later + j.own ≤ work_room

pub record Ends (j : Job) (e : Pass) : Type 0 where
  pub kept : j.count < j.step → j.step < j.count + j.count + 2 → own_at j ≤ e.to
  pub past : j.count + j.count + 1 < j.step → j.step < j.count + j.count + 3 → own_at j + j.own ≤ e.to
