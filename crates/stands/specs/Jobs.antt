-- What is said of the list at a row, from what hangs under it: the repeaters of its site, and where it is a sink its pin. For the columns
-- the premises are the `requires` and `ensures` of the functions of `walks::steps`, for the records the `ensures` of `jobs::site`, which is
-- all passes of one job. In the code x is the row as it stands in the tables and k the number of its site as it stands in the links.
-- Assumes nothing.
use Rattle.std.specs.Prelude.{◌≡◌, false, List, ℕ, ◌+◌, ◌≤◌, ◌<◌, length, get_or}
use Rattle.rules.specs.declared.Cand.{Cand}
use Rattle.rules.specs.declared.Kind.TheVariants.{Sink}
use Rattle.rules.specs.declared.Pin.{Pin}
use Rattle.rules.specs.declared.Row.{Row}
use Rattle.rules.specs.Areas.{Columns}
use Rattle.rules.specs.Quantities.{work_room}
use Rattle.rules.specs.Refusals.{is_sink}
use Rattle.laws.specs.Tabled.{repeaters_from}
use Rattle.rooms.specs.Links.{sites_at}
use Rattle.rows.specs.Links.{Links}
use Rattle.rows.specs.Backward.{Backward}
use Rattle.columns.specs.Parts.{part}
use Rattle.columns.specs.Made.{Gives}
use Rattle.walks.specs.Shown.{site_list}
use Rattle.walks.specs.Made.{Sited, Started, Typed}
use Rattle.jobs.specs.Jobs.{Able, Worked, site_job}
use Rattle.stands.specs.Alike.{in_columns, StandAlike, AlikeAfter, RoomIn, LongIn}

-- both tables of links have the same number
abbrev pub SameSite : Type 0
SameSite = (rows : List Row) (links links' : List ℕ) (row : ℕ) → Backward rows links → Links rows links' → row < length rows → get_or links (sites_at + row) 0 ≡ get_or links' (sites_at + row) 0

-- ---- the repeaters of a site, of a row x that is no sink, with site number k: `walks::steps::put_site`, and `jobs::site`
abbrev pub RepeatersAlike : Type 0
RepeatersAlike =
    (types : List ℕ) (count : ℕ) (x : Row) (c : Columns) (r : List Cand) (k at n : ℕ) → Typed types count → LongIn r → is_sink x.kind ≡ false
    → Sited (in_columns c) at n count x.site k → StandAlike c r (at + n)
    → Able types (site_job x k count at n) r
    × ((c' : Columns) (r' : List Cand) (len len' : ℕ)
    → Gives (in_columns c) (in_columns c') at len (site_list (repeaters_from types 0 count) x.site k (part at (at + n) (in_columns c)))
    → Worked types (site_job x k count at n) r r' len'
    → AlikeAfter c' r' at len len')

-- ---- a sink's pin and its site: `walks::steps::start` and then `put_site`, and `jobs::site` as one job
abbrev pub SinkAlike : Type 0
SinkAlike =
    (types : List ℕ) (count : ℕ) (x : Row) (pin : Pin) (c c₁ : Columns) (r : List Cand) (k at under : ℕ) → Typed types count → RoomIn c → LongIn r → x.kind ≡ Sink pin → at + under ≤ work_room → StandAlike c r at
    → Started x.kind (in_columns c) (in_columns c₁) at → Sited (in_columns c₁) at 1 count x.site k
    → Able types (site_job x k count at under) r
    × ((c' : Columns) (r' : List Cand) (len len' : ℕ)
    → Gives (in_columns c₁) (in_columns c') at len (site_list (repeaters_from types 0 count) x.site k (part at (at + 1) (in_columns c₁)))
    → Worked types (site_job x k count at under) r r' len'
    → AlikeAfter c' r' at len len')
