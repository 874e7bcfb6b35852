-- A pass stores in the work room only: the run is as long as it was, and all past the room is as it was. Assumes nothing.
use Rattle.std.specs.Prelude.{◌≡◌, refl, List, length, drop}
use Rattle.std.proofs.Common.{◌∙◌, length-set, drop-set-lt}
use Rattle.rules.specs.Quantities.{work_room}
use Rattle.rules.specs.declared.Cand.{Cand}
use Rattle.turns.specs.declared.Pass.{Pass}
use Rattle.runs.specs.Passes.{Safe, Swept, none, turn}
use Rattle.runs.specs.Sweeps.{safe-ready, safe-next}

pub swept-length : {p r : Pass} {w w' : List Cand} → Swept p w r w' → length w' ≡ length w
swept-length (none h) = refl
swept-length {p} {r} {w} (turn t l is s) = swept-length s ∙ length-set w p.to t.put

pub swept-past : {p r : Pass} {w w' : List Cand} → Safe p w → Swept p w r w' → drop work_room w' ≡ drop work_room w
swept-past s (none h) = refl
swept-past {p} {r} {w} s (turn t l is k) = swept-past (safe-next s l t is) k ∙ drop-set-lt work_room w p.to t.put (safe-ready s l).here.to
