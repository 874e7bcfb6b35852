-- Loads, delays, arrival and slack of a placement, walked from the driver down. Assumes nothing.
use Rattle.std.specs.Prelude.{List, [], ◌∷◌, ◌++◌, ℕ, zero, suc, ◌+◌, ◌*◌, ℤ, get_or}
use Rattle.rules.specs.Lists.{Least}
use Rattle.rules.specs.Quantities.{◌⊖◌}
use Rattle.rules.specs.Entries.{Repeater}
use Rattle.rules.specs.Placements.{Placement}
use Rattle.rules.specs.Net.{Wire, Tree, sink, site, wire, both}

-- types are numbered from 1
unfoldable pub type_of : List Repeater → ℕ → Repeater
type_of types number = get_or (record { input = 0; resistance = 0; own = 0 } ∷ types) number (record { input = 0; resistance = 0; own = 0 })

-- wire resistance times (wire capacitance plus seen load): the whole capacitance counts at the far end
unfoldable pub wire_delay : Wire → (seen : ℕ) → ℕ
wire_delay w seen = w.resistance * (w.capacitance + seen)

module _ (types : List Repeater) where
  -- the input load of the repeater, or the driven load where none stands
  unfoldable pub seen_load : (mark driven : ℕ) → ℕ
  seen_load zero driven = driven
  seen_load (suc k) driven = (type_of types (suc k)).input

  -- own delay plus resistance times driven load; none where no repeater stands
  unfoldable pub repeater_delay : (mark driven : ℕ) → ℕ
  repeater_delay zero driven = 0
  repeater_delay (suc k) driven = (type_of types (suc k)).own + (type_of types (suc k)).resistance * driven

  module _ (p : Placement) where
    -- of a sink, its pin; over the rows directly below, the sum of wire capacitance plus seen load
    unfoldable pub load_of : Tree → ℕ
    load_of (sink pin due) = pin
    load_of (site j t) = seen_load (p j) (load_of t)
    load_of (wire w t) = w.capacitance + load_of t
    load_of (both s t) = load_of s + load_of t

    -- required time minus arrival of each sink, where the delays on the path so far come to `arrival`
    unfoldable pub slacks : (arrival : ℕ) → Tree → List ℤ
    slacks arrival (sink pin due) = (due ⊖ arrival) ∷ []
    slacks arrival (site j t) = slacks (arrival + repeater_delay (p j) (load_of t)) t
    slacks arrival (wire w t) = slacks (arrival + wire_delay w (load_of t)) t
    slacks arrival (both s t) = slacks arrival s ++ slacks arrival t

    -- the slack of a placement is the least over sinks; the driver's delay is its resistance times its driven load
    unfoldable pub IsSlack : (driver : ℕ) → Tree → ℤ → Type 0
    IsSlack driver t slack = Least slack (slacks (driver * load_of t) t)
