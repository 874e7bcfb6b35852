-- Of an accepted net, what hangs under a row or is at one is within the ranges: its numbers, how many wires, pins and sites it has, and
-- so its loads, times and slack. Assumes nothing.
use Rattle.std.specs.Prelude.{◌≡◌, Bool, true, false, cond, List, [], ◌∷◌, ℕ, ◌+◌, ◌*◌, ◌≤◌, ◌<◌, ◌-◌, eqb, length, get_or, take, drop, ◌≤ℤ◌}
use Rattle.std.proofs.Common.{subst, arith, add-one, length-drop, drop-cons}
use Rattle.std.proofs.Math.Option.{Option, none, some}
use Rattle.rules.specs.declared.Kind.{Kind}
use Rattle.rules.specs.declared.Kind.TheVariants.{Driver, Point, Sink}
use Rattle.rules.specs.declared.Row.{Row}
use Rattle.rules.specs.Lists.{All, cons}
use Rattle.rules.specs.Quantities.{◌⊖◌, most_ohms, most_femtofarads, rows_room, sites_room}
use Rattle.rules.specs.Entries.{Repeater, site_count, sites_of}
use Rattle.rules.specs.Placements.{Placement}
use Rattle.rules.specs.Net.{Wire, Tree, sink, wire_of, sited, seen, wired, beside, hangs, at_row, driver_ohms}
use Rattle.rules.specs.Slack.{load_of}
use Rattle.rules.specs.Pairs.{sites_on}
use Rattle.laws.specs.Integers.{times, ⊖-read}
use Rattle.laws.specs.Candidates.{Cand}
use Rattle.laws.specs.Method.{Reaches}
use Rattle.laws.specs.Trees.{time}
use Rattle.laws.specs.Ranges.{most_load, least_slack, most_slack, InRange, weight, stages, load-range, slack-low, slack-top}
use Rattle.laws.specs.Taken.{RowIn, KindIn, driver_row}
use Rattle.laws.specs.Accepted.{Accepted}
use Rattle.laws.specs.Rows.{rows-in-from, sites-few-from, type-in, driver-in}
use Rattle.laws.specs.Hanging.{hung, at_row-is}
use Rattle.laws.specs.Sums.{over, measure-sites, measure-weight, measure-stages, seen-over, hung-over, hangs-over}

-- ---- numbers
abbrev pub InIf : Option Tree → Type 0
InIf none = Unit {0}
InIf (some t) = InRange t

in-sited : (b : Bool) (k : ℕ) (t : Tree) → InRange t → InRange (sited b k t)
in-sited true k t r = r
in-sited false k t r = r

in-seen : (b : Bool) (kind : Kind) (k : ℕ) (u : Option Tree) → KindIn kind → InIf u → InIf (seen b kind k u)
in-seen b (Sink pin) k u t i = in-sited b k (sink pin.load.0 pin.due.0) t
in-seen b Driver k none t i = tt
in-seen b Driver k (some n) t i = in-sited b k n i
in-seen b Point k none t i = tt
in-seen b Point k (some n) t i = in-sited b k n i

in-wired : (w : Wire) (u : Option Tree) → w.resistance ≤ most_ohms → w.capacitance ≤ most_femtofarads → InIf u → InIf (wired w u)
in-wired w none h g i = tt
in-wired w (some t) h g i = (h, g, i)

in-beside : (b : Bool) (u v : Option Tree) → InIf u → InIf v → InIf (cond b (beside u v) v)
in-beside false u v i j = j
in-beside true none v i j = j
in-beside true (some s) none i j = i
in-beside true (some s) (some t) i j = (i, j)

in-hung : (x : Row) (k : ℕ) (u : Option Tree) → RowIn x → InIf u → InIf (hung x k u)
unfolding wire_of
in-hung x k u h i = in-wired (wire_of x) (seen x.site x.kind k u) h.resistance h.capacitance (in-seen x.site x.kind k u h.kind i)

in-hangs : (i k : ℕ) (rows : List Row) → All RowIn rows → (r : ℕ) → InIf (hangs i k rows r)
unfolding hangs
in-hangs i k [] a r = tt
in-hangs i k (x ∷ rows) (cons h t) r = in-beside (eqb x.parent r) (hung x k (hangs (i + 1) (k + site_count x.site) rows i)) (hangs (i + 1) (k + site_count x.site) rows r) (in-hung x k (hangs (i + 1) (k + site_count x.site) rows i) h (in-hangs (i + 1) (k + site_count x.site) rows t i)) (in-hangs (i + 1) (k + site_count x.site) rows t r)

-- ---- sizes
-- a tree, if there is one, in its ranges and of at most 512 wires and pins, 319 wires and sites, and 64 sites
pub record Within (u : Option Tree) : Type 0 where
  pub inside : InIf u
  pub light : over weight u ≤ 2 * rows_room
  pub short : over stages u ≤ rows_room + sites_room - 1
  pub few : over sites_on u ≤ sites_room

-- what hangs under a row among at most 255 others
pub within-hangs : (i k : ℕ) (rows : List Row) (r : ℕ) → r < i → All RowIn rows → length rows ≤ rows_room - 1 → sites_of rows ≤ sites_room → Within (hangs i k rows r)
within-hangs i k rows r h a l s = record {
  inside = in-hangs i k rows a r;
  light = omega (arith, hangs-over measure-weight i k rows r h);
  short = omega (arith, hangs-over measure-stages i k rows r h);
  few = omega (arith, hangs-over measure-sites i k rows r h);
}

-- a row with its wire, over what hangs under it, of at most 255
pub within-hung : (i k : ℕ) (x : Row) (rows : List Row) → All RowIn (x ∷ rows) → length (x ∷ rows) ≤ rows_room - 1 → sites_of (x ∷ rows) ≤ sites_room → Within (hung x k (hangs (i + 1) (k + site_count x.site) rows i))
unfolding sites_of
within-hung i k x rows (cons h a) l s =
    let u = hangs (i + 1) (k + site_count x.site) rows i in
    record {
      inside = in-hung x k u h (in-hangs (i + 1) (k + site_count x.site) rows a i);
      light = omega (arith, hung-over measure-weight x k u, hangs-over measure-weight (i + 1) (k + site_count x.site) rows i (omega arith));
      short = omega (arith, hung-over measure-stages x k u, hangs-over measure-stages (i + 1) (k + site_count x.site) rows i (omega arith));
      few = omega (arith, hung-over measure-sites x k u, hangs-over measure-sites (i + 1) (k + site_count x.site) rows i (omega arith));
    }

-- a row without its wire, of at most 256
pub within-seen : (i k : ℕ) (x : Row) (rows : List Row) → All RowIn (x ∷ rows) → length (x ∷ rows) ≤ rows_room → sites_of (x ∷ rows) ≤ sites_room → Within (seen x.site x.kind k (hangs (i + 1) (k + site_count x.site) rows i))
unfolding sites_of
within-seen i k x rows (cons h a) l s =
    let u = hangs (i + 1) (k + site_count x.site) rows i in
    record {
      inside = in-seen x.site x.kind k u h.kind (in-hangs (i + 1) (k + site_count x.site) rows a i);
      light = omega (arith, seen-over measure-weight x.site x.kind k u, hangs-over measure-weight (i + 1) (k + site_count x.site) rows i (omega arith));
      short = omega (arith, seen-over measure-stages x.site x.kind k u, hangs-over measure-stages (i + 1) (k + site_count x.site) rows i (omega arith));
      few = omega (arith, seen-over measure-sites x.site x.kind k u, hangs-over measure-sites (i + 1) (k + site_count x.site) rows i (omega arith));
    }

-- ---- accepted nets
drop-step : (d : Row) (rows : List Row) (i : ℕ) → i < length rows → drop i rows ≡ get_or rows i d ∷ drop (i + 1) rows
drop-step d rows i h = rw (add-one, drop-cons rows i d)

module _ {types : List Repeater} {rows : List Row} (ok : Accepted types rows) where
  -- what hangs under a row, of the rows from number i on
  pub within-under : (i k r : ℕ) → 1 ≤ i → r < i → Within (hangs i k (drop i rows) r)
  within-under i k r h g = within-hangs i k (drop i rows) r g (rows-in-from ok i) (omega (arith, length-drop i rows, ok.rows_few)) (sites-few-from ok i)

  -- row i with its wire
  pub within-row : (d : Row) (i k : ℕ) → 1 ≤ i → i < length rows → Within (hung (get_or rows i d) k (hangs (i + 1) (k + site_count (get_or rows i d).site) (drop (i + 1) rows) i))
  within-row d i k h g =
      let e = drop-step d rows i g in
      within-hung i k (get_or rows i d) (drop (i + 1) rows) (rw e at (rows-in-from ok i)) (omega (arith, length-drop (i + 1) rows, ok.rows_few)) (rw e at (sites-few-from ok i))

  -- row i without its wire, whatever its site's number
  pub within-own : (d : Row) (i k : ℕ) → i < length rows → Within (seen (get_or rows i d).site (get_or rows i d).kind k (hangs (i + 1) (k + site_count (get_or rows i d).site) (drop (i + 1) rows) i))
  within-own d i k g =
      let e = drop-step d rows i g in
      within-seen i k (get_or rows i d) (drop (i + 1) rows) (rw e at (rows-in-from ok i)) (omega (arith, length-drop (i + 1) rows, ok.rows_few)) (rw e at (sites-few-from ok i))

  -- what is at a row
  pub within-at : (r : ℕ) → r < length rows → Within (at_row rows r)
  within-at r h = rw (at_row-is (driver_row 0) rows r h) (within-own (driver_row 0) r (sites_of (take r rows)) h)

  -- the tree at a row
  pub within-tree : (r : ℕ) → r < length rows → (t : Tree) → at_row rows r ≡ some t → Within (some t)
  within-tree r h t e = subst (λ u. Within u) e (within-at r h)

  -- ---- of a placement, at any tree that is within
  module _ (p : Placement) (known : (j : ℕ) → p j ≤ length types) (t : Tree) (kept : Within (some t)) where
    -- no load is more than 51,200,000
    pub load-within : load_of types p t ≤ most_load
    load-within = load-range types (type-in ok) p known t kept.inside kept.light kept.short 0 (omega arith)

    -- the time is at least -3 × 10^15
    pub time-from : least_slack ≤ℤ time types p t
    time-from = let h = slack-low types (type-in ok) p known t kept.inside kept.light kept.short 0 (omega arith) in omega (times, ⊖-read (time types p t) (0 * load_of types p t))

    -- and at most 10^12
    pub time-to : time types p t ≤ℤ most_slack
    time-to = let h = slack-top types (type-in ok) p known t kept.inside kept.light kept.short 0 (omega arith) in omega (times, ⊖-read (time types p t) (0 * load_of types p t))

    -- the slack is at least -3 × 10^15
    pub slack-from : least_slack ≤ℤ time types p t ⊖ (driver_ohms rows * load_of types p t)
    slack-from = slack-low types (type-in ok) p known t kept.inside kept.light kept.short (driver_ohms rows) (driver-in ok)

    -- and at most 10^12
    pub slack-to : time types p t ⊖ (driver_ohms rows * load_of types p t) ≤ℤ most_slack
    slack-to = slack-top types (type-in ok) p known t kept.inside kept.light kept.short (driver_ohms rows) (driver-in ok)

  -- the load and the time of a candidate that is reached at such a tree
  pub reached-within : (t : Tree) (c : Cand Placement) → Within (some t) → Reaches types t c → (c.load ≤ most_load) × (least_slack ≤ℤ c.time) × (c.time ≤ℤ most_slack)
  reached-within t c w r =
      let p = c.place in
      let k = r.legal.known in
      rw (r.load, r.time) (load-within p k t w, time-from p k t w, time-to p k t w)
