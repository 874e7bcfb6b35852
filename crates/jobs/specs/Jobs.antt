-- That every pass of a job can be made, and that every one was; and the jobs of a row. Assumes nothing.
use Rattle.std.specs.Prelude.{◌≡◌, Bool, false, cond, List, ℕ, ◌+◌, ◌*◌, ◌≤◌, ◌<◌, ltb, ℤ, length, get_or, replicate}
use Rattle.rules.specs.declared.Kind.{Kind}
use Rattle.rules.specs.declared.Kind.TheVariants.{Driver, Point, Sink}
use Rattle.rules.specs.declared.Net.{Net}
use Rattle.rules.specs.declared.Row.{Row}
use Rattle.rules.specs.Quantities.{rows_room}
use Rattle.rules.specs.Refusals.{is_sink}
use Rattle.rules.specs.Tables.{words_a_row}
use Rattle.laws.specs.Tabled.{row_at}
use Rattle.rules.specs.declared.Cand.{Cand}
use Rattle.rules.specs.Areas.{zeros}
use Rattle.turns.specs.declared.Pass.{Pass}
use Rattle.rooms.specs.Links.{next_at, sites_at, links_room}
use Rattle.values.specs.Records.{plain_of}
use Rattle.runs.specs.Passes.{Safe, Swept}
use Rattle.stages.specs.declared.Job.{Job}
use Rattle.stages.specs.Stages.{Ended, Ends, Inside, begin_of}

-- every pass of it can be made
pub data Able : List ℕ → Job → List Cand → Type 0 where
  over : {types : List ℕ} {j : Job} {w : List Cand} → j.steps ≤ j.step → Able types j w
  more : {types : List ℕ} {j : Job} {w : List Cand} → Inside types j → Safe (begin_of types j) w
      → ((e : Pass) (v : List Cand) → Swept (begin_of types j) w e v → Ends j e)
      → ((e : Pass) (v : List Cand) (r : Job) → Swept (begin_of types j) w e v → Ended types j e r → Able types r v)
      → Able types j w

-- every pass of it was made
pub data Worked : List ℕ → Job → List Cand → List Cand → ℕ → Type 0 where
  stop : {types : List ℕ} {j : Job} {w : List Cand} → j.steps ≤ j.step → Worked types j w w j.own
  pass : {types : List ℕ} {j r : Job} {w v w' : List Cand} {n : ℕ} (e : Pass) → j.step < j.steps → Swept (begin_of types j) w e v → Ended types j e r → Worked types r v w' n → Worked types j w w' n

-- ---- the jobs of a row
abbrev pub pin_of : Kind → Cand
pin_of Driver = zeros
pin_of Point = zeros
pin_of (Sink pin) = plain_of pin.load pin.due

abbrev pub site_job : Row → (k count at own : ℕ) → Job
site_job x k count at own = record { step = 0; steps = cond x.site count 0 + cond x.site count 0 + 1; low = at; later = 0; own = own; made = 0; count = cond x.site count 0; site = k; sink = is_sink x.kind; pin = pin_of x.kind; resistance = x.resistance; capacitance = x.capacitance; best = replicate 4 zeros }

abbrev pub hang_job : Row → (both : Bool) (at later own : ℕ) → Job
hang_job x both at later own = record { step = 1; steps = cond both 4 2; low = at; later = later; own = own; made = 0; count = 0; site = 0; sink = false; pin = zeros; resistance = x.resistance; capacitance = x.capacitance; best = replicate 4 zeros }

-- no pass to make yet
abbrev pub begun : Row → (at own : ℕ) → Job
begun x at own = record { step = 0; steps = 0; low = at; later = 0; own = own; made = 0; count = 0; site = 0; sink = false; pin = zeros; resistance = x.resistance; capacitance = x.capacitance; best = replicate 4 zeros }

-- ---- of a row in its tables
pub record RowIn (rows : List ℕ) (due : List ℤ) (links : List ℕ) (c : ℕ) : Type 0 where
  pub few : c < rows_room
  pub words : words_a_row * c + words_a_row ≤ length rows
  pub times : c < length due
  pub links_long : length links ≡ links_room

abbrev pub site_at : (rows : List ℕ) (due : List ℤ) (links : List ℕ) (count c at own : ℕ) → Job
site_at rows due links count c at own = site_job (row_at rows due c) (get_or links (sites_at + c) 0) count at own

-- a list waits where there is a later row
abbrev pub hang_at : (rows : List ℕ) (due : List ℤ) (links : List ℕ) (n c at later own : ℕ) → Job
hang_at rows due links n c at later own = hang_job (row_at rows due c) (ltb (get_or links (next_at + c) 0) n) at later own

-- ---- of a net that is handed as one
abbrev pub RowOf : Net → (links : List ℕ) (c : ℕ) → Type 0
RowOf net links c = RowIn net.rows.now net.due.now links c

abbrev pub site_in : Net → (links : List ℕ) (c at own : ℕ) → Job
site_in net links c at own = site_at net.rows.now net.due.now links net.type_count c at own

abbrev pub hang_in : Net → (links : List ℕ) (c at later own : ℕ) → Job
hang_in net links c at later own = hang_at net.rows.now net.due.now links net.row_count c at later own
