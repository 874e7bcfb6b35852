-- How far a signed word is from zero, worked out without leaving its range: a negative one is one further than it is from -1. Assumes
-- nothing.
use mathlib.Core.Path.{◌≡◌, ap, ◌∙◌}
use mathlib.Core.Bool.{true, false, true≢false}
use Prim.Native.Nat.{ℕ, suc, ◌+◌, ◌<◌, ◌^◌}
use native.Mathlib.Numerals.{add-one}
use native.Mathlib.Omega.{arith}
use lib.Dec.{T}
use lib.IntN.{ℤ, pos, negsuc, pred_ℤ, nat_abs, ◌-ℤ◌, pred_ℤ-+ℤ, +ℤ_idl}
use lib.Signed.{mag, lt_z, non_neg}
use borrow.Author.Tests.{ltb-true}
use mir.Syntax.{w64}
use mir.Val.{Fits, SFits, to_z, of_z}
use mir.Facts.{to_z-of_z}

past : (z : ℤ) → lt_z z (pos 0) ≡ true → negsuc 0 -ℤ z ≡ pos (mag z)
past (pos n) e = absurd (omega (arith, ltb-true n 0 e))
past (negsuc n) e = pred_ℤ-+ℤ (pos 0) (pos (suc n)) ∙ ap pred_ℤ (+ℤ_idl (pos (suc n)))

further : (z : ℤ) → lt_z z (pos 0) ≡ true → mag z + 1 ≡ nat_abs z
further (pos n) e = absurd (omega (arith, ltb-true n 0 e))
further (negsuc n) e = add-one n

positive : (z : ℤ) → SFits w64 z → lt_z z (pos 0) ≡ false → T (non_neg z) × Fits w64 (nat_abs z)
positive (pos n) f e = (tt, record { fits = omega (arith, f.sfits) })
positive (negsuc n) f e = absurd (true≢false e)

module _ (z : ℤ) (f : SFits w64 z) where
  module _ (e : lt_z (to_z w64 (of_z w64 z)) (pos 0) ≡ true) where
    is-past : negsuc 0 -ℤ to_z w64 (of_z w64 z) ≡ pos (mag z)
    is-past = rw (to_z-of_z f) (past z (rw (to_z-of_z f) at e))

    pub past_fits : SFits w64 (negsuc 0 -ℤ to_z w64 (of_z w64 z))
    past_fits = rw is-past (record { sfits = f.sfits })

    back : to_z w64 (of_z w64 (negsuc 0 -ℤ to_z w64 (of_z w64 z))) ≡ pos (mag z)
    back = to_z-of_z past_fits ∙ is-past

    pub past-cast : T (non_neg (to_z w64 (of_z w64 (negsuc 0 -ℤ to_z w64 (of_z w64 z))))) × Fits w64 (nat_abs (to_z w64 (of_z w64 (negsuc 0 -ℤ to_z w64 (of_z w64 z)))))
    past-cast = rw back (tt, record { fits = omega (arith, f.sfits) })

    pub past_more : (k : ℕ) → k < 2 ^ 63 → Fits w64 (nat_abs (to_z w64 (of_z w64 (negsuc 0 -ℤ to_z w64 (of_z w64 z)))) + k)
    past_more k h = rw back (record { fits = omega (arith, f.sfits) })

    pub past_is : nat_abs (to_z w64 (of_z w64 (negsuc 0 -ℤ to_z w64 (of_z w64 z)))) + 1 ≡ nat_abs z
    past_is = rw back (further z (rw (to_z-of_z f) at e))

  pub positive-cast : lt_z (to_z w64 (of_z w64 z)) (pos 0) ≡ false → T (non_neg (to_z w64 (of_z w64 z))) × Fits w64 (nat_abs (to_z w64 (of_z w64 z)))
  positive-cast e = rw (to_z-of_z f) (positive z f (rw (to_z-of_z f) at e))
