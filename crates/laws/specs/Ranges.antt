-- How great loads and times can be, from the ranges of what is given. Assumes nothing.
use Rattle.std.specs.Prelude.{List, ℤ, pos, negsuc, length, ◌≤ℤ◌}
use Prim.Native.Nat.{ℕ, zero, suc, ◌+◌, ◌*◌, ◌≤◌, ◌<◌, ◌-◌}
use native.Mathlib.Omega.{arith}
use Rattle.std.proofs.Math.Nat.{mul-le-mul}
use Rattle.std.proofs.Common.{le_trans}
use Rattle.rules.specs.Quantities.{◌⊖◌, most_ohms, earliest_due, latest_due, most_femtofarads, most_own, rows_room, sites_room}
use Rattle.rules.specs.Entries.{Repeater}
use Rattle.rules.specs.Placements.{Placement}
use Rattle.rules.specs.Net.{Tree, sink, site, wire, both}
use Rattle.rules.specs.Slack.{type_of, seen_load, repeater_delay, wire_delay, load_of}
use Rattle.laws.specs.Integers.{times, hi, lo, ⊖-read, ⊖-mono, min-lesser, min-greatest, ≤-refl, ≤_trans}
use Rattle.laws.specs.Trees.{time}

-- the greatest load, and between what the slack lies
abbrev pub most_load : ℕ
most_load = 51_200_000

abbrev pub least_slack : ℤ
least_slack = negsuc 2_999_999_999_999_999

abbrev pub most_slack : ℤ
most_slack = pos 1_000_000_000_000

-- the net's numbers are in their ranges
abbrev pub InRange : Tree → Type 0
InRange (sink pin due) = (pin ≤ most_femtofarads) × (earliest_due ≤ℤ due) × (due ≤ℤ latest_due)
InRange (site k n) = InRange n
InRange (wire w n) = (w.resistance ≤ most_ohms) × (w.capacitance ≤ most_femtofarads) × InRange n
InRange (both a b) = InRange a × InRange b

pub record RepeaterInRange (g : Repeater) : Type 0 where
  pub input : g.input ≤ most_femtofarads
  pub resistance : g.resistance ≤ most_ohms
  pub own : g.own ≤ most_own

-- wires and pins; wires and sites
unfoldable pub weight : Tree → ℕ
weight (sink pin due) = 1
weight (site k n) = weight n
weight (wire w n) = suc (weight n)
weight (both a b) = weight a + weight b

unfoldable pub stages : Tree → ℕ
stages (sink pin due) = 0
stages (site k n) = suc (stages n)
stages (wire w n) = suc (stages n)
stages (both a b) = stages a + stages b

weight-pos : (n : Tree) → 1 ≤ weight n
unfolding weight
weight-pos (sink pin due) = omega arith
weight-pos (site k n) = weight-pos n
weight-pos (wire w n) = omega arith
weight-pos (both a b) = omega (arith, weight-pos a, weight-pos b)

module _ (types : List Repeater) (known-types : (n : ℕ) → n < length types → RepeaterInRange (type_of types (suc n))) (p : Placement) (known : (j : ℕ) → p j ≤ length types) where
  seen-top : (m d b : ℕ) → m ≤ length types → d ≤ most_femtofarads * b → 1 ≤ b → seen_load types m d ≤ most_femtofarads * b
  unfolding seen_load
  seen-top zero d b h k l = k
  seen-top (suc t) d b h k l = omega (arith, (known-types t h).input)

  pub load-top : (n : Tree) → InRange n → load_of types p n ≤ most_femtofarads * weight n
  unfolding load_of weight
  load-top (sink pin due) r = omega (arith, r.0)
  load-top (site k n) r = seen-top (p k) _ (weight n) (known k) (load-top n r) (weight-pos n)
  load-top (wire w n) r = omega (arith, r.1, load-top n r.2)
  load-top (both a b) r = omega (arith, load-top a r.0, load-top b r.1)

  -- no time is past the latest required time
  pub time-top : (n : Tree) → InRange n → time types p n ≤ℤ latest_due
  unfolding time
  time-top (sink pin due) r = r.2
  time-top (site k n) r = let h = time-top n r in omega (times, ⊖-read (time types p n) (repeater_delay types (p k) (load_of types p n)))
  time-top (wire w n) r = let h = time-top n r.2 in omega (times, ⊖-read (time types p n) (wire_delay w (load_of types p n)))
  time-top (both a b) r = ≤_trans (min-lesser (time types p a) (time types p b)).left (time-top a r.0)

  -- a stage's delay where no load is past m
  abbrev pub stage : ℕ → ℕ
  stage m = most_own + most_ohms * m

  repeater-top : (t d m : ℕ) → t ≤ length types → d ≤ m → repeater_delay types t d ≤ stage m
  unfolding repeater_delay
  repeater-top zero d m h k = omega arith
  repeater-top (suc t) d m h k = omega (arith, (known-types t h).own, mul-le-mul (known-types t h).resistance k)

  down : (t : ℤ) (k d c : ℕ) → earliest_due ⊖ (k * c) ≤ℤ t → d ≤ c → earliest_due ⊖ (suc k * c) ≤ℤ t ⊖ d
  down t k d c h g = omega (times, ⊖-read earliest_due (k * c), ⊖-read earliest_due (suc k * c), ⊖-read t d)

  pub time-low : (m : ℕ) (n : Tree) → most_femtofarads * weight n ≤ m → InRange n → earliest_due ⊖ (stages n * stage m) ≤ℤ time types p n
  unfolding time stages weight wire_delay
  time-low m (sink pin due) h r = let q = r.1 in omega (times, ⊖-read earliest_due (0 * stage m))
  time-low m (site k n) h r = down _ (stages n) _ (stage m) (time-low m n h r) (repeater-top (p k) _ m (known k) (le_trans (load-top n r) h))
  time-low m (wire w n) h r = down _ (stages n) _ (stage m) (time-low m n (omega arith) r.2) (omega (arith, mul-le-mul {n₁ = w.resistance} {m₁ = w.capacitance + load_of types p n} {n₂ = 100_000} {m₂ = m} r.0 (omega (arith, r.1, load-top n r.2))))
  time-low m (both a b) h r = min-greatest
      (≤_trans (⊖-mono (≤-refl earliest_due) (omega arith)) (time-low m a (omega arith) r.0))
      (≤_trans (⊖-mono (≤-refl earliest_due) (omega arith)) (time-low m b (omega arith) r.1))

  -- with at most 256 wires and 256 pins, and 320 stages with the driver
  module _ (n : Tree) (ok : InRange n) (few : weight n ≤ 2 * rows_room) (short : stages n ≤ rows_room + sites_room - 1) (driver : ℕ) (small : driver ≤ most_ohms) where
    pub load-range : load_of types p n ≤ most_load
    load-range = omega (arith, load-top n ok)

    pub slack-low : least_slack ≤ℤ time types p n ⊖ (driver * load_of types p n)
    unfolding hi lo
    slack-low =
        let h = time-low most_load n (omega arith) ok in
        omega (times, ⊖-read earliest_due (stages n * stage most_load), ⊖-read (time types p n) (driver * load_of types p n), mul-le-mul small load-range)

    pub slack-top : time types p n ⊖ (driver * load_of types p n) ≤ℤ latest_due
    slack-top =
        let h = time-top n ok in
        omega (times, ⊖-read (time types p n) (driver * load_of types p n))
