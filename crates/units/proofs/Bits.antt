-- A time in the machine's 64 bits: a signed word holds bits, and what is read back from them is the number, since it fits. Assumes
-- nothing.
use Rattle.std.specs.Prelude.{◌≡◌, ℕ, ◌*◌, ◌≤◌, ◌<◌, ◌^◌, ℤ, pos, ◌-ℤ◌, ◌*ℤ◌}
use Rattle.std.proofs.Common.{arith, SFits, to_z, of_z, to_z-of_z}
use Rattle.std.specs.Int.Signed.{mag}
use Rattle.std.specs.Int.{w64}
use Rattle.std.proofs.Math.Facts.{to_z_pos}
use Rattle.rules.specs.Quantities.{most_ohms}
use Rattle.laws.specs.Ranges.{most_load}
use Rattle.units.specs.Times.{farthest}
use Rattle.units.proofs.Times.{mag_less, product-most}

pub fits : (z : ℤ) → mag z < 2 ^ 63 → SFits w64 z
fits z h = record { sfits = h }

pub bits_back : (z : ℤ) → mag z < 2 ^ 63 → to_z w64 (of_z w64 z) ≡ z
bits_back z h = to_z-of_z (fits z h)

-- a delay, from its factors taken as signed words
pub delay-bits : (r c : ℕ) → r ≤ most_ohms → c ≤ most_load → to_z w64 r *ℤ to_z w64 c ≡ pos (r * c)
delay-bits r c p q = rw (to_z_pos w64 {n = r} (omega arith), to_z_pos w64 {n = c} (omega arith))

pub fits-delay : (r c : ℕ) → r ≤ most_ohms → c ≤ most_load → SFits w64 (pos (r * c))
fits-delay r c p q = fits (pos (r * c)) (omega (arith, product-most r c p q))

pub delay-back : (r c : ℕ) → r ≤ most_ohms → c ≤ most_load → to_z w64 (of_z w64 (to_z w64 r *ℤ to_z w64 c)) ≡ pos (r * c)
delay-back r c p q = rw (delay-bits r c p q) (to_z-of_z (fits-delay r c p q))

-- a difference
pub fits-less : (t d : ℤ) → mag t < farthest → mag d < farthest → SFits w64 (t -ℤ d)
fits-less t d p q = fits (t -ℤ d) (omega (arith, mag_less t d))

pub less-back : (t d : ℤ) → mag t < farthest → mag d < farthest → to_z w64 (of_z w64 (to_z w64 (of_z w64 t) -ℤ to_z w64 (of_z w64 d))) ≡ t -ℤ d
less-back t d p q = rw (bits_back t (omega arith), bits_back d (omega arith)) (to_z-of_z (fits-less t d p q))
