-- The room as what each step of the recursion hands to the next: from the first unused place on there is room for one candidate for each
-- row left and one for each type at each site of what is to be made. Assumes nothing.
use Rattle.std.specs.Prelude.{◌≡◌, Bool, true, false, not, List, ℕ, ◌+◌, ◌*◌, ◌≤◌, ◌<◌, ◌-◌, T, length, drop}
use Rattle.std.proofs.Math.Option.{Option, none, some}
use Rattle.std.proofs.Common.{arith, mul-le-mul, mul-le-mul_left, length-drop}
use Rattle.rules.specs.declared.Kind.{Kind}
use Rattle.rules.specs.declared.Kind.TheVariants.{Driver, Point, Sink}
use Rattle.rules.specs.declared.Row.{Row}
use Rattle.rules.specs.Quantities.{work_room, list_room}
use Rattle.rules.specs.Entries.{Repeater, site_count}
use Rattle.rules.specs.Refusals.{is_sink}
use Rattle.rules.specs.Net.{Tree, sited, seen, at_row}
use Rattle.rules.specs.Pairs.{sites_on}
use Rattle.laws.specs.Accepted.{Accepted}
use Rattle.laws.specs.Sums.{over}
use Rattle.laws.specs.Within.{within-at}

-- ---- sites add up
sited-sites : (b : Bool) (k : ℕ) (t : Tree) → sites_on (sited b k t) ≡ site_count b + sites_on t
unfolding sites_on
sited-sites true k t = omega arith
sited-sites false k t = omega arith

-- a row that is no sink has its own site and those of what hangs under it
pub sites-seen : (b : Bool) (kind : Kind) (k : ℕ) (t : Tree) → T (not (is_sink kind)) → over sites_on (seen b kind k (some t)) ≡ site_count b + sites_on t
sites-seen b Driver k t h = sited-sites b k t
sites-seen b Point k t h = sited-sites b k t
sites-seen b (Sink pin) k t h = absurd h

under-seen : (b : Bool) (kind : Kind) (k : ℕ) (u : Option Tree) → T (not (is_sink kind)) → over sites_on u ≤ over sites_on (seen b kind k u)
under-seen b kind k none h = omega arith
under-seen b kind k (some t) h = omega (arith, sites-seen b kind k t h)

-- ---- the room
-- from place `at` on, where `left` rows are still to be taken
abbrev pub HasRoom : (types at left : ℕ) → Option Tree → Type 0
HasRoom types at left u = at + left + types * over sites_on u ≤ work_room - list_room

-- from a row that is no sink to what hangs under it
pub room-under : (types at left : ℕ) (b : Bool) (kind : Kind) (k : ℕ) (u : Option Tree) → T (not (is_sink kind)) → HasRoom types at left (seen b kind k u) → HasRoom types at left u
room-under types at left b kind k u h g = omega (arith, mul-le-mul_left types (under-seen b kind k u h))

-- an accepted net has it at every row
pub room_at : {types : List Repeater} {rows : List Row} → Accepted types rows → (r : ℕ) → r < length rows → HasRoom (length types) 0 (length (drop (r + 1) rows)) (at_row rows r)
room_at {rows = rows} ok r h = omega (arith, length-drop (r + 1) rows, ok.rows_few, mul-le-mul ok.types_few (within-at ok r h).few)
