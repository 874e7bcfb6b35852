-- `held::list_held` meets its contract: every record of its run is the same one, and that is all zero. Assumes nothing.
use Rattle.std.proofs.Common.{ap, replicate}
use Rattle.rules.specs.declared.Cand.{Cand}
use Rattle.rules.specs.Quantities.{work_room}
use Rattle.held.specs.Held.{list_held}
use Rattle.held.proofs.list_held.Goals as goal

pub returns : goal.returns
returns c = list_held _ _ _ _ _ c.list_records.result (replicate work_room c.blank-run.result) c.list_records.new.work (ap (λ (z : Cand). replicate work_room z) c.blank-run.ensures) c.list_records.ensures
