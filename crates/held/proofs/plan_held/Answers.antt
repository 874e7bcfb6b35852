-- `held::plan_held` meets its contract: every record of its run is the same one, and that is all zero. Assumes nothing.
use Rattle.std.proofs.Common.{ap, replicate}
use Rattle.rules.specs.declared.Cand.{Cand}
use Rattle.rules.specs.Quantities.{work_room}
use Rattle.held.specs.Held.{plan-held}
use Rattle.held.proofs.plan_held.Goals as goal

pub returns-clause-planned : goal.returns-clause-planned
returns-clause-planned c = plan-held _ _ _ _ c.plan_records.result (replicate work_room c.blank-run.result) c.plan_records.new.work (ap (λ (z : Cand). replicate work_room z) c.blank-run.ensures) c.plan_records.ensures.planned
