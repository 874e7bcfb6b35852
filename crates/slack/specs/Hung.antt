-- The step at a site, and that all steps from the sinks up give the load and the time of the tree that hangs there. Assumes nothing.
use Rattle.std.specs.Prelude.{None, ◌≡◌, Bool, List, length}
use Rattle.std.proofs.Math.Path.{refl, sym}
use Rattle.std.proofs.Common.{ap, ◌∙◌, arith}
use Rattle.std.proofs.Math.Bool.{true, false}
use Rattle.std.proofs.Math.Option.{Option, none, some}
use Prim.Native.Nat.{ℕ, zero, suc, ◌+◌, ◌*◌, ◌-◌, ◌≤◌, ◌<◌}
use Rattle.rules.specs.declared.Kind.{Kind}
use Rattle.rules.specs.declared.Kind.TheVariants.{Driver, Point, Sink}
use Rattle.rules.specs.Quantities.{types_room, sites_room, placement_room}
use Rattle.rules.specs.Entries.{Repeater}
use Rattle.rules.specs.Placements.{Placement, marks}
use Rattle.rules.specs.Tables.{words_a_type}
use Rattle.rules.specs.Net.{Wire, Tree, sink, site, sited, seen, wired, beside}
use Rattle.rules.specs.Slack.{type_of, seen_load, repeater_delay, wire_delay, load_of}
use Rattle.laws.specs.Integers.{⊖-zero}
use Rattle.laws.specs.Trees.{time}
use Rattle.laws.specs.Ranges.{RepeaterInRange}
use Rattle.laws.specs.Tabled.{repeater_at, repeaters_from, repeaters-at}
use Rattle.upward.specs.Hung.{Hung, seen_as, Within, wire_hung, beside_hung, repeat_hung, start_hung}

-- with the repeater of a mark, 0 for none, and of a row's site, if it has one
unfoldable pub mark_hung : List Repeater → (mark : ℕ) → Hung → Hung
mark_hung types zero h = h
mark_hung types (suc m) h = repeat_hung (type_of types (suc m)) h

unfoldable pub site_hung : List Repeater → Bool → (mark : ℕ) → Hung → Hung
site_hung types true mark h = mark_hung types mark h
site_hung types false mark h = h

-- ---- what they give
module _ (types : List Repeater) (p : Placement) where
  -- the load and the time of a tree, if there is one
  unfoldable pub hung_of : Option Tree → Hung
  hung_of none = None
  hung_of (some t) = seen_as (load_of types p t) (time types p t)

  pub hung-wired : (w : Wire) (u : Option Tree) → hung_of (wired w u) ≡ wire_hung w.resistance w.capacitance (hung_of u)
  unfolding hung_of wire_hung load_of time wire_delay
  hung-wired w none = refl
  hung-wired w (some t) = refl

  pub hung-beside : (u v : Option Tree) → hung_of (beside u v) ≡ beside_hung (hung_of u) (hung_of v)
  unfolding hung_of beside_hung load_of time
  hung-beside none v = refl
  hung-beside (some t) none = refl
  hung-beside (some t) (some s) = refl

  hung-site : (k : ℕ) (t : Tree) (mark : ℕ) → mark ≡ p k → seen_as (load_of types p (site k t)) (time types p (site k t)) ≡ mark_hung types mark (seen_as (load_of types p t) (time types p t))
  unfolding load_of time mark_hung repeat_hung seen_load repeater_delay
  hung-site k t zero e = rw (← e) (ap (seen_as (load_of types p t)) (⊖-zero (time types p t)))
  hung-site k t (suc m) e = rw (← e)

  hung-sited : (b : Bool) (k : ℕ) (t : Tree) → hung_of (some (sited b k t)) ≡ site_hung types b (p k) (hung_of (some t))
  unfolding hung_of site_hung
  hung-sited true k t = hung-site k t (p k) refl
  hung-sited false k t = refl

  mark-nothing : (mark : ℕ) → mark_hung types mark None ≡ None
  unfolding mark_hung repeat_hung
  mark-nothing zero = refl
  mark-nothing (suc m) = refl

  site-nothing : (b : Bool) (mark : ℕ) → site_hung types b mark None ≡ None
  unfolding site_hung
  site-nothing true mark = mark-nothing mark
  site-nothing false mark = refl

  pub hung-seen : (b : Bool) (kind : Kind) (k : ℕ) (u : Option Tree) → hung_of (seen b kind k u) ≡ site_hung types b (p k) (start_hung kind (hung_of u))
  unfolding hung_of load_of time
  hung-seen b Driver k none = sym (site-nothing b (p k))
  hung-seen b Driver k (some t) = hung-sited b k t
  hung-seen b Point k none = sym (site-nothing b (p k))
  hung-seen b Point k (some t) = hung-sited b k t
  hung-seen b (Sink pin) k u = hung-sited b k (sink pin.load.0 pin.due.0)

-- ---- a site in the code: its mark is that of a type there is, in its ranges
-- the types as they stand, whether counted or not
abbrev pub table_types : List ℕ → List Repeater
table_types types = repeaters_from types 0 types_room

-- what hangs at site k, and what the step there needs
pub record Siting (types words : List ℕ) (k : ℕ) (h : Hung) : Type 0 where
  pub types_long : words_a_type * types_room ≤ length types
  pub words_long : placement_room ≤ length words
  pub inside : Within h
  pub site : k < sites_room
  pub mark : marks words k ≤ types_room
  pub known : (m : ℕ) → m < marks words k → RepeaterInRange (repeater_at types m)

pub type-is : (types : List ℕ) (count m : ℕ) → m < count → type_of (repeaters_from types 0 count) (suc m) ≡ repeater_at types m
unfolding type_of
type-is types count m h = repeaters-at types _ 0 count m h ∙ (let z : 0 + m ≡ m = omega arith in ap (repeater_at types) z)

-- a mark that is not 0 is the number of a type, of those as they stand
pub mark-type : (types : List ℕ) (mark : ℕ) (h : Hung) → 0 < mark → mark ≤ types_room → mark_hung (table_types types) mark h ≡ repeat_hung (repeater_at types (mark - 1)) h
unfolding mark_hung
mark-type types zero h p q = absurd (omega arith)
mark-type types (suc m) h p q = let z : suc m - 1 ≡ m = omega arith in rw (z, type-is types types_room m (omega arith))
