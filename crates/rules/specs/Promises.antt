-- The promise of each public entry: what it was handed, what the lent areas held, what it answers, and what they hold afterwards, to the
-- last word, for every input. Assumes nothing.
use Rattle.std.specs.Prelude.{◌≡◌, Bool, false, ◌||◌, List, map, ℕ, ◌+◌, ◌*◌, ◌≤◌, leb, ltb, ℤ, length, Result}
use Rattle.std.proofs.Math.Option.{Option, none, some, or_else}
use Rattle.rules.specs.declared.Refusal.{Refusal}
use Rattle.rules.specs.declared.Refusal.TheVariants.{Room, Short, NoRow}
use Rattle.rules.specs.declared.Net.{Net}
use Rattle.rules.specs.Lists.{written, given_when}
use Rattle.rules.specs.Quantities.{text_room, placement_room}
use Rattle.rules.specs.Entries.{Entry, types_of, rows_of}
use Rattle.rules.specs.Text.{text_entries}
use Rattle.rules.specs.Tables.{Tables, Counts, net_tables, net_counts, short_tables, table_entries, counts_in, filled}
use Rattle.rules.specs.Refusals.{refusal_of}
use Rattle.rules.specs.Placements.{marks, placement_refusal}
use Rattle.rules.specs.Net.{Tree, at_row, driver_ohms}
use Rattle.rules.specs.Slack.{load_of, IsSlack}
use Rattle.rules.specs.Pairs.{Pair, Unbeaten, Reached, Planned, sites_on}
use Rattle.rules.specs.Areas.{short_placement, Lent, lent_of, short_lent, unseen_times, Storage, PlanAreas, ListAreas, LoadsAreas, list_areas}
use Rattle.rules.specs.declared.Counted.{Counted}
use Rattle.rules.specs.declared.Timed.{Timed}
use Rattle.rules.specs.Answers.{refused, done, Timing, no_counts, no_timing, read_figures, check_figures, slack_figures, plan_figures, list_figures}

-- ---- a net as it is handed over, as tables or as a text
pub record Handed : Type 0 where
  -- an area of it is shorter than its room
  pub short : Bool
  -- what else it is refused for, if it is
  pub stopped : Option Refusal
  -- the entries that it states
  pub entries : List Entry
  -- how many rows it counts
  pub rows : ℕ

-- line by line
abbrev pub tabled : Tables → Counts → Handed
tabled t n = record { short = short_tables t; stopped = refusal_of (table_entries t n); entries = table_entries t n; rows = n.rows }

-- as tables are lent
abbrev pub lent_net : Net → Handed
lent_net net = tabled (net_tables net) (net_counts net)

-- the length of the text; then line by line
abbrev pub texted : List ℕ → Handed
texted text = record { short = false; stopped = or_else (given_when (ltb text_room (length text)) (Room 0)) (refusal_of (text_entries text)); entries = text_entries text; rows = length (rows_of (text_entries text)) }

-- 7, also for an area of the entry's own; then what the net is refused for
unfoldable pub net_refusal : (short : Bool) → Handed → Option Refusal
net_refusal short net = or_else (given_when (net.short || short) Short) net.stopped

-- what is promised where something is refused, and where nothing is
abbrev pub Settled : Option Refusal → (Refusal → Type 0) → Type 0 → Type 0
Settled none where_refused where_not = where_not
Settled (some r) where_refused where_not = where_refused r

-- ---- read_net
unfoldable pub ReadPromise : (text : List ℕ) (before : Tables) → Result Counted Refusal → (after : Tables) → Type 0
ReadPromise text before answer after =
    Settled (net_refusal (short_tables before) (texted text))
    (λ r. (read_figures answer ≡ refused no_counts r) × (after ≡ before))
    ((read_figures answer ≡ done (counts_in (text_entries text))) × (after ≡ filled (text_entries text) before))

-- ---- check_net, and a text of which only the counts are asked for
unfoldable pub CheckPromise : Handed → Result (Unit {0}) Refusal → Type 0
CheckPromise net answer = Settled (net_refusal false net) (λ r. check_figures answer ≡ refused tt r) (check_figures answer ≡ done tt)

unfoldable pub CountPromise : Handed → Result Counted Refusal → Type 0
CountPromise net answer = Settled (net_refusal false net) (λ r. read_figures answer ≡ refused no_counts r) (read_figures answer ≡ done (counts_in net.entries))

-- ---- slack_of
unfoldable pub slack_refusal : Handed → (words : List ℕ) → Option Refusal
slack_refusal net words = or_else (net_refusal (short_placement words) net) (placement_refusal net.entries (marks words))

-- the slack and the load on the driver of a placement
pub record TimingOf (es : List Entry) (words : List ℕ) (v : Timing) : Type 0 where
  pub tree : Tree
  pub tree_is : at_row (rows_of es) 0 ≡ some tree
  pub slack : IsSlack (types_of es) (marks words) (driver_ohms (rows_of es)) tree v.slack
  pub load : v.load ≡ load_of (types_of es) (marks words) tree

unfoldable pub SlackPromise : Handed → (words : List ℕ) → Result Timed Refusal → Type 0
SlackPromise net words answer =
    Settled (slack_refusal net words)
    (λ r. slack_figures answer ≡ refused no_timing r)
    ((v : Timing) × (slack_figures answer ≡ done v) × TimingOf net.entries words v)

-- ---- plan_net
-- the placement returned is planned, with the slack and load given, and all four of its words are written
pub record PlanOf (es : List Entry) (before after : List ℕ) (v : Timing) : Type 0 where
  pub tree : Tree
  pub tree_is : at_row (rows_of es) 0 ≡ some tree
  pub words : List ℕ
  pub four : length words ≡ placement_room
  pub after_is : after ≡ written words before
  pub planned : Planned (types_of es) (driver_ohms (rows_of es)) tree (marks words) v.slack v.load

unfoldable pub PlanPromise : {W : Type 0} → Storage W → Handed → (before : PlanAreas W) → Result Timed Refusal → (after : PlanAreas W) → Type 0
PlanPromise s net before answer after =
    Settled (net_refusal (short_placement before.placement || s.short before.work) net)
    (λ r. (plan_figures answer ≡ refused no_timing r) × (after ≡ before))
    ((v : Timing) × (plan_figures answer ≡ done v) × PlanOf net.entries before.placement after.placement v × (after.work ≡ s.cleared before.work))

-- ---- list_at
-- after 5, 8: the row asked for is not in the net
unfoldable pub list_refusal : (short : Bool) → Handed → (row : ℕ) → Option Refusal
list_refusal short net row = or_else (net_refusal short net) (given_when (leb net.rows row) NoRow)

-- what is written is the unbeaten pairs at the row, at most one and one for each type at each site at or below
pub record ListOf (es : List Entry) (row : ℕ) (before after : Lent) (len : ℕ) : Type 0 where
  pub tree : Tree
  pub tree_is : at_row (rows_of es) row ≡ some tree
  pub list : List Pair
  pub unbeaten : Unbeaten (Reached (types_of es) tree) list
  pub few : length list ≤ 1 + length (types_of es) * sites_on tree
  pub long : len ≡ length list
  pub loads : after.loads ≡ written (map (λ c. c.load) list) before.loads
  pub times : after.times ≡ written (map (λ c. c.time) list) before.times

unfoldable pub ListPromise : {W : Type 0} → Storage W → Handed → (row : ℕ) (before : ListAreas W) → Result ℕ Refusal → (after : ListAreas W) → Type 0
ListPromise s net row before answer after =
    Settled (list_refusal (short_lent before.list || s.short before.work) net row)
    (λ r. (list_figures answer ≡ refused 0 r) × (after ≡ before))
    ((len : ℕ) × (list_figures answer ≡ done len) × ListOf net.entries row before.list after.list len × (after.work ≡ s.cleared before.work))

-- ---- loads_at
-- what list_at promises, with the times in an area that nobody sees
unfoldable pub LoadsPromise : {W : Type 0} → Storage W → Handed → (row : ℕ) (before : LoadsAreas W) → Result ℕ Refusal → (after : LoadsAreas W) → Type 0
LoadsPromise s net row before answer after =
    (times : List ℤ) × ListPromise s net row (list_areas (lent_of before.loads unseen_times) before.work) answer (list_areas (lent_of after.loads times) after.work)
