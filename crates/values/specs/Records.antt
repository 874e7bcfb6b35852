-- A run of records as a run of candidates: a record's words stand for a placement. Assumes nothing.
use Rattle.std.specs.Prelude.{List, [], ◌∷◌, map}
use Rattle.rules.specs.declared.Femtofarad.{Femtofarad}
use Rattle.rules.specs.declared.Femtosecond.{Femtosecond}
use Rattle.rules.specs.Placements.{marks}
use Rattle.pairs.specs.declared.Pair.{Pair}
use Rattle.columns.specs.Run.{Candidate, candidate}
use Rattle.rules.specs.declared.Cand.{Cand}

abbrev pub cand_of : Cand → Candidate
cand_of c = candidate c.load.0 c.time.0 (marks c.words)

abbrev pub pair_of : Cand → Pair
pair_of c = record { load = c.load; time = c.time }

-- a record with no marks
abbrev pub plain_of : Femtofarad → Femtosecond → Cand
plain_of load time = record { load = load; time = time; words = 0 ∷ 0 ∷ 0 ∷ 0 ∷ [] }

abbrev pub cands : List Cand → List Candidate
cands w = map cand_of w
