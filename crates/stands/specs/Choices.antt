-- What stands alike while a site is put on a list: the columns keep the best behind each type past the list, the records in the job; and
-- while they are put in the columns' list may start later than its place. And what is said of the best behind a type. Assumes nothing.
use Rattle.std.specs.Prelude.{◌≡◌, List, ℕ, ◌+◌, ◌≤◌, ◌<◌, length, get_or, set}
use Rattle.rules.specs.declared.Cand.{Cand}
use Rattle.rules.specs.Areas.{Columns}
use Rattle.rules.specs.Quantities.{types_room, work_room}
use Rattle.laws.specs.Joining.{with_mark}
use Rattle.columns.specs.Parts.{part}
use Rattle.columns.specs.Run.{blank}
use Rattle.columns.specs.Made.{Stand}
use Rattle.sites.specs.Types.{repeater_at, TypesIn}
use Rattle.sites.specs.Sites.{chosen_by}
use Rattle.turns.specs.declared.Pass.{Pass}
use Rattle.values.specs.Records.{cand_of}
use Rattle.runs.specs.Passes.{Safe, Swept}
use Rattle.stages.specs.declared.Job.{Job}
use Rattle.stages.specs.Stages.{own_at, unset, begin_of, Ended}
use Rattle.stands.specs.Alike.{in_columns, in_records, StandAlike, RoomIn, LongIn}

-- the same candidates before the place; the same list, which the columns have from `start` to `end` and the records at the place; and the same
-- best behind each type from number `from` up to number `upto`, which the columns keep from `base` on and the job in its array
pub record SiteAlike (c : Columns) (r chosen : List Cand) (at start end n base from upto : ℕ) : Type 0 where
  pub before : StandAlike c r at
  pub list : part start end (in_columns c) ≡ part at (at + n) (in_records r)
  pub array : length chosen ≡ types_room
  pub bests : (i : ℕ) → from ≤ i → i < upto → get_or (in_columns c) (base + i) blank ≡ cand_of (get_or chosen i unset)

-- where a site begins nothing is chosen
abbrev pub SiteBegins : Type 0
SiteBegins = (c : Columns) (r chosen : List Cand) (at n base : ℕ) → length chosen ≡ types_room → StandAlike c r (at + n) → SiteAlike c r chosen at at (at + n) n base 0 0

-- ---- the best behind type t: `sites::put_choice`, and the pass of a job that chooses it, with what `stages::ends::end` makes of the job
abbrev pub ChoiceAlike : Type 0
ChoiceAlike =
    (types : List ℕ) (c : Columns) (r : List Cand) (j : Job) (t base : ℕ)
    → TypesIn types (t + 1) → RoomIn c → LongIn r → Stand (in_columns c) (own_at j) j.own → own_at j + j.own ≤ base → base + t < work_room
    → j.step ≡ t + 1 → t < j.count
    → SiteAlike c r j.best (own_at j) (own_at j) (own_at j + j.own) j.own base 0 t
    → Safe (begin_of types j) r
    × ((c' : Columns) (r' : List Cand) (q : Pass) (j' : Job)
    → in_columns c' ≡ set (in_columns c) (base + t) (chosen_by (repeater_at types t) (with_mark j.site (t + 1)) (part (own_at j) (own_at j + j.own) (in_columns c)))
    → Swept (begin_of types j) r q r' → Ended types j q j'
    → SiteAlike c' r' j'.best (own_at j) (own_at j) (own_at j + j.own) j.own base 0 (t + 1))
