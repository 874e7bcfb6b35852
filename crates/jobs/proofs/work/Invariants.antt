-- What stays as `jobs::work` makes the passes of a job: the passes that are left can be made, and what they make of the run from here the job
-- makes of it from the start. Assumes nothing.
use Rattle.std.specs.Prelude.{List, ℕ, ◌-◌}
use Rattle.rules.specs.declared.Cand.{Cand}
use Rattle.jobs.specs.Jobs.{Able, Worked}
use Rattle.jobs.proofs.work.Given as goal

abbrev pub invariant-loop-j : goal.invariant-loop-j
invariant-loop-j l = Able l.types l.j l.run × ((w : List Cand) (n : ℕ) → Worked l.types l.j l.run w n → Worked l.types l.fn.job l.fn.run w n)

abbrev pub decreases-loop-j : goal.decreases-loop-j
decreases-loop-j l = l.j.steps - l.j.step
