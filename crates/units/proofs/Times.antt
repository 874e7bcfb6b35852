-- How large delays, differences and the lesser of two times are, and a time less a delay as a difference. Assumes nothing.
use Rattle.std.specs.Prelude.{◌≡◌, refl, Bool, true, false, not, cond, ℕ, zero, suc, ◌+◌, ◌*◌, ◌-◌, ◌≤◌, leb, ltb, ℤ, pos, negsuc, ◌-ℤ◌, ◌+ℤ◌}
use Rattle.std.proofs.Common.{arith, le_trans, mul-le-mul_right, mul-le-mul_left, ltb-true, ltb-false, le-leb}
use Rattle.std.specs.Int.Signed.{mag, lt_z, le_z}
use Rattle.std.proofs.lemmas.Bool.{lt-leb}
use Rattle.rules.specs.Quantities.{◌⊖◌, most_ohms, most_own}
use Rattle.laws.specs.Ranges.{most_load}
use Rattle.laws.specs.Integers.{minℤ}
use Rattle.units.specs.Times.{Own, most_delay}

pub own_of : (n : ℕ) → n ≤ most_own → Own (pos n)
own_of n h = record { forward = refl; range = h }

-- ---- delays
pub product-most : (r c : ℕ) → r ≤ most_ohms → c ≤ most_load → r * c ≤ most_delay
product-most r c p q = le_trans (mul-le-mul_right c p) (mul-le-mul_left most_ohms q)

-- ---- differences
mag-add-pos : (a : ℤ) (b : ℕ) → mag (a +ℤ pos b) ≤ mag a + b
mag-add-pos (pos a) b = omega arith
mag-add-pos (negsuc a) b = by (ltb b (suc a))
  where
    by : (t : Bool) → mag (cond t (negsuc (suc a - suc b)) (pos (b - suc a))) ≤ a + b
    by true = omega arith
    by false = omega arith

mag-add-negsuc : (a : ℤ) (b : ℕ) → mag (a +ℤ negsuc b) ≤ mag a + b + 1
mag-add-negsuc (pos a) b = by (ltb a (suc b))
  where
    by : (t : Bool) → mag (cond t (negsuc (suc b - suc a)) (pos (a - suc b))) ≤ a + b + 1
    by true = omega arith
    by false = omega arith
mag-add-negsuc (negsuc a) b = omega arith

pub mag_less : (t d : ℤ) → mag (t -ℤ d) ≤ mag t + mag d + 1
mag_less t (pos zero) = omega (arith, mag-add-pos t 0)
mag_less t (pos (suc n)) = omega (arith, mag-add-negsuc t n)
mag_less t (negsuc n) = omega (arith, mag-add-pos t (suc n))

-- a difference by what is no negative time is a time less a delay
pub less-⊖ : (t d : ℤ) (n : ℕ) → d ≡ pos n → t -ℤ d ≡ t ⊖ n
unfolding ◌⊖◌
less-⊖ t d n e = rw e

-- ---- the minimum
leb-not-ltb : (m n : ℕ) → leb m n ≡ not (ltb n m)
leb-not-ltb m n = by (ltb n m) refl
  where
    by : (t : Bool) → ltb n m ≡ t → leb m n ≡ not t
    by true e = lt-leb m n (ltb-true n m e)
    by false e = le-leb m n (ltb-false n m e)

pub le_z_not_lt_z : (a b : ℤ) → le_z a b ≡ not (lt_z b a)
le_z_not_lt_z (pos a) (pos b) = leb-not-ltb a b
le_z_not_lt_z (pos a) (negsuc b) = refl
le_z_not_lt_z (negsuc a) (pos b) = refl
le_z_not_lt_z (negsuc a) (negsuc b) = leb-not-ltb b a

-- which of the two it is, by whether the first is the later
pub minℤ-later : (a b : ℤ) → lt_z b a ≡ true → minℤ a b ≡ b
unfolding minℤ
minℤ-later a b e = rw (le_z_not_lt_z a b, e)

pub minℤ-no-later : (a b : ℤ) → lt_z b a ≡ false → minℤ a b ≡ a
unfolding minℤ
minℤ-no-later a b e = rw (le_z_not_lt_z a b, e)
