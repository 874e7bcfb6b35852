-- What it is to stand alike at one place: candidate i has the same load, the same time and the same placement. Assumes nothing.
use Rattle.std.specs.Prelude.{◌≡◌, List, ℕ, pos, get_or}
use Rattle.rules.specs.declared.Cand.{Cand}
use Rattle.rules.specs.Areas.{Columns, zeros}
use Rattle.rules.specs.Placements.{marks}
use Rattle.columns.specs.Run.{place_at}

-- candidate i of the columns is record i
pub record SameAt (c : Columns) (r : List Cand) (i : ℕ) : Type 0 where
  pub load : get_or c.loads i 0 ≡ (get_or r i zeros).load.0
  pub time : get_or c.times i (pos 0) ≡ (get_or r i zeros).time.0
  pub place : place_at c.words i ≡ marks (get_or r i zeros).words
