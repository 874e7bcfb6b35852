-- The net as a tree. A row is a wire, its site below it if it has one, and below that its pin or the rows directly below it, beside each
-- other. A tree is never empty, so that there is always a least over its sinks.
--
-- The rows of net B, for example, the driver and three more:
--
--     row 0: the driver
--     row 1: a point below row 0, wire of 4 and 5
--     row 2: a sink below row 1, wire of 6 and 7, site 0, pin 8 required at 1000
--     row 3: a sink below row 1, wire of 0 and 3, site 1, pin 30 required at 950
--
-- At row 0 they are the tree
--
--     wire (4, 5) (both (wire (6, 7) (site 0 (sink 8 1000))) (wire (0, 3) (site 1 (sink 30 950))))
--
-- at row 1 the part inside the first wire, at row 2 `site 0 (sink 8 1000)`; `examples` computes them. Assumes nothing.
use Rattle.std.specs.Prelude.{Bool, true, false, cond, List, [], ◌∷◌, ℕ, ◌+◌, eqb, ℤ}
use Rattle.std.proofs.Math.Option.{Option, none, some}
use Rattle.rules.specs.declared.Kind.{Kind}
use Rattle.rules.specs.declared.Kind.TheVariants.{Driver, Point, Sink}
use Rattle.rules.specs.declared.Row.{Row}
use Rattle.rules.specs.Entries.{site_count}

pub record Wire : Type 0 where
  pub resistance : ℕ
  pub capacitance : ℕ

pub data Tree : Type 0 where
  -- a pin with its load and required time
  sink : (pin : ℕ) (due : ℤ) → Tree
  -- a site, by its number, and what its repeater drives
  site : (number : ℕ) → Tree → Tree
  -- a wire and what hangs at its far end
  wire : Wire → Tree → Tree
  -- two beside each other
  both : Tree → Tree → Tree

unfoldable pub wire_of : Row → Wire
wire_of x = record { resistance = x.resistance.0; capacitance = x.capacitance.0 }

abbrev pub sited : Bool → (number : ℕ) → Tree → Tree
sited true number t = site number t
sited false number t = t

-- what stands below a row's wire: its site, if it has one, over its pin or over what hangs under it
abbrev pub seen : Bool → Kind → (number : ℕ) → Option Tree → Option Tree
seen has_site (Sink pin) number under = some (sited has_site number (sink pin.load.0 pin.due.0))
seen has_site Driver number none = none
seen has_site Driver number (some t) = some (sited has_site number t)
seen has_site Point number none = none
seen has_site Point number (some t) = some (sited has_site number t)

abbrev pub wired : Wire → Option Tree → Option Tree
wired w none = none
wired w (some t) = some (wire w t)

abbrev pub beside : Option Tree → Option Tree → Option Tree
beside none b = b
beside (some s) none = some s
beside (some s) (some t) = some (both s t)

-- what hangs under row r: of each row whose parent is r its wire, and below it what is seen there, beside each other in their order. A row's
-- number is its place, and a site's the number of sites before it; so the walk along the rows counts both: the rows still to come are
-- numbered from i on and their sites from k on. What lies below a row comes after it, so it is found among those rows
unfoldable pub hangs : (i k : ℕ) → List Row → (r : ℕ) → Option Tree
hangs i k [] r = none
hangs i k (x ∷ rows) r =
    let k' = k + site_count x.site in
    let mine = wired (wire_of x) (seen x.site x.kind k (hangs (i + 1) k' rows i)) in
    let others = hangs (i + 1) k' rows r in
    cond (eqb x.parent r) (beside mine others) others

-- what is at row r: its repeater counts, its wire does not. Walked and counted in the same way, until the row is found
unfoldable pub at : (i k : ℕ) → List Row → (r : ℕ) → Option Tree
at i k [] r = none
at i k (x ∷ rows) r =
    let k' = k + site_count x.site in
    cond (eqb i r) (seen x.site x.kind k (hangs (i + 1) k' rows i)) (at (i + 1) k' rows r)

-- the whole net is what is at row 0, the driver
unfoldable pub at_row : List Row → (r : ℕ) → Option Tree
at_row rows r = at 0 0 rows r

-- the driver's resistance
abbrev pub driver_ohms : List Row → ℕ
driver_ohms [] = 0
driver_ohms (x ∷ rows) = x.resistance.0
