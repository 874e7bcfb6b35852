-- The steps as the planner takes them, over whatever candidates carry: a wire, the repeaters of a site. Assumes nothing.
use Rattle.std.specs.Prelude.{List, [], ◌∷◌, map, ◌⊎◌}
use Prim.Native.Nat.{ℕ, zero, suc, ◌+◌, ◌<◌}
use Rattle.rules.specs.Quantities.{◌⊖◌}
use Rattle.rules.specs.Entries.{Repeater}
use Rattle.rules.specs.Net.{Wire}
use Rattle.rules.specs.Slack.{type_of, repeater_delay, wire_delay}
use Rattle.laws.specs.Candidates.{Cand, thin_in}
use Rattle.laws.specs.Thinning.{climbed}
use Rattle.laws.specs.Steps.{Image, best, buffered}

-- ---- a wire
module _ {W : Type 0} where
  -- a candidate behind a wire
  unfoldable pub behind : Wire → Cand W → Cand W
  behind w c = record { load = w.capacitance + c.load; time = c.time ⊖ wire_delay w c.load; place = c.place }

  -- each candidate behind the wire, thinned again: a wire can turn a kept pair into a beaten one
  unfoldable pub wire_step : Wire → List (Cand W) → List (Cand W)
  wire_step w l = climbed (map (behind w) l)

-- ---- a site
module _ {W : Type 0} (types : List Repeater) (mark : ℕ → W → W) where
  -- a candidate behind a repeater of type n
  abbrev pub typed : ℕ → Cand W → Cand W
  typed n = buffered (type_of types n).input (repeater_delay types n) (mark n)

  -- of the list l the best behind type n, put into the list made so far
  unfoldable pub type_step : ℕ → (l made : List (Cand W)) → List (Cand W)
  type_step n [] made = made
  type_step n (x ∷ l) made = thin_in (typed n (best (repeater_delay types n) x l)) made

  -- the list, and of each type up to n the best of the list behind it
  unfoldable pub site_step : ℕ → List (Cand W) → List (Cand W)
  site_step zero l = l
  site_step (suc n) l = type_step (suc n) l (site_step n l)

  -- without a repeater, or with one of a type up to n
  abbrev pub Typed : (n : ℕ) → (Cand W → Type 0) → Cand W → Type 0
  Typed n R d = R d ⊎ ((t : ℕ) × (t < n) × Image (typed (suc t)) R d)
