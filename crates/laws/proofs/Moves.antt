-- What is true of the planner's steps at a wire and at a site, over whatever candidates carry: they keep fronts. Assumes nothing.
use Rattle.std.specs.Prelude.{◌≡◌, List, [], ◌∷◌, map, ◌⊎◌}
use Rattle.std.proofs.Math.Logic.{inl, inr}
use Prim.Native.Nat.{ℕ, zero, suc, ◌≤◌, ◌<◌}
use native.Mathlib.Omega.{arith}
use Rattle.std.proofs.Common.{mul-le-mul_left}
use Rattle.std.proofs.Math.Decide.{ℕ_discrete}
use Rattle.rules.specs.Entries.{Repeater}
use Rattle.rules.specs.Net.{Wire}
use Rattle.rules.specs.Slack.{type_of, repeater_delay, wire_delay}
use Rattle.laws.specs.Integers.{⊖-mono}
use Rattle.laws.specs.Lists.{all_map, EveryTwo, ends, leads}
use Rattle.laws.specs.Candidates.{Cand, Covers, Below, Front, covers-refl, front-wider}
use Rattle.laws.specs.Thinning.{Lighter, climbed-thinned}
use Rattle.laws.specs.Steps.{Image, front-through, front-add}
use Rattle.laws.proofs.Steps.{front-buffered}
use Rattle.laws.specs.Moves.{behind, wire_step, Typed, typed, type_step, site_step}

-- ---- a wire
module _ {W : Type 0} where
  behind-mono : (w : Wire) (a b : Cand W) → Covers a b → Covers (behind w a) (behind w b)
  unfolding behind wire_delay
  behind-mono w a b k = record { light = omega arith; late = ⊖-mono k.late (mul-le-mul_left w.resistance (omega arith)) }

  lighter : (w : Wire) {l : List (Cand W)} → EveryTwo Below l → EveryTwo Lighter (map (behind w) l)
  unfolding behind
  lighter w ends = ends
  lighter w (leads {x = x} h t) = leads {x = behind w x} (all_map (behind w) (λ y b. record { light = omega arith }) h) (lighter w t)

  pub front-wire_step : {R : Cand W → Type 0} {l : List (Cand W)} (w : Wire) → Front R l → Front (Image (behind w) R) (wire_step w l)
  unfolding wire_step
  front-wire_step w F = front-through (behind w) (behind-mono w) (climbed-thinned (lighter w F.rising)) F

-- ---- a site
rises : (types : List Repeater) (n a b : ℕ) → a ≤ b → repeater_delay types n a ≤ repeater_delay types n b
unfolding repeater_delay
rises types zero a b h = omega arith
rises types (suc n) a b h = omega (arith, mul-le-mul_left (type_of types (suc n)).resistance h)

module _ {W : Type 0} (types : List Repeater) (mark : ℕ → W → W) where
  module _ {R : Cand W → Type 0} where
    more : {n : ℕ} (d : Cand W) → Typed types mark n R d → Typed types mark (suc n) R d
    more d (inl r) = inl r
    more d (inr (t, h, i)) = inr (t, omega arith, i)

    -- no repeater at all
    front-zero : {l : List (Cand W)} → Front R l → Front (Typed types mark 0 R) l
    front-zero F = front-wider (λ d r. inl r) down F
      where
        down : (d : Cand W) → Typed types mark 0 R d → (e : Cand W) × R e × Covers e d
        down d (inl r) = (d, r, covers-refl d)
        down d (inr (t, h, i)) = absurd (omega arith)

    pub front-site_step : (n : ℕ) {l : List (Cand W)} → Front R l → Front (Typed types mark n R) (site_step types mark n l)
    unfolding site_step type_step
    front-site_step zero F = front-zero F
    front-site_step (suc n) {l = []} F = front-wider more down (front-site_step n F)
      where
        down : (d : Cand W) → Typed types mark (suc n) R d → (e : Cand W) × Typed types mark n R e × Covers e d
        down d (inl r) = (d, inl r, covers-refl d)
        down d (inr (t, h, (c, r, e))) = absurd (elim (F.whole c r) [ ])
    front-site_step (suc n) {l = x ∷ l} F = front-wider up down (front-add (front-site_step n F) (front-buffered (type_of types (suc n)).input (repeater_delay types (suc n)) (mark (suc n)) (rises types (suc n)) F))
      where
        up : (d : Cand W) → Typed types mark n R d ⊎ Image (typed types mark (suc n)) R d → Typed types mark (suc n) R d
        up d (inl r) = more d r
        up d (inr i) = inr (n, omega arith, i)

        split : {d : Cand W} (t : ℕ) → t < suc n → Image (typed types mark (suc t)) R d → Dec (t ≡ n) → Typed types mark n R d ⊎ Image (typed types mark (suc n)) R d
        split t h i (yes e) = inr (rw e at i)
        split t h i (no e) = inl (inr (t, omega arith, i))

        down : (d : Cand W) → Typed types mark (suc n) R d → (e : Cand W) × (Typed types mark n R e ⊎ Image (typed types mark (suc n)) R e) × Covers e d
        down d (inl r) = (d, inl (inl r), covers-refl d)
        down d (inr (t, h, i)) = (d, split t h i (ℕ_discrete t n), covers-refl d)
