-- What the words of a row state, test by test. Assumes nothing.
use Rattle.std.specs.Prelude.{◌≡◌, List, ℕ, zero, suc, ◌<◌, ◌^◌, ℤ, pos, negsuc, Result, Err}
use Rattle.std.proofs.Math.Path.{refl}
use Rattle.std.proofs.Common.{sym, ap, ◌∙◌, to_z, of_z}
use Rattle.std.proofs.Math.Dec.{eqb-suc-zero}
use Rattle.std.specs.Int.Signed.{mag}
use Rattle.std.specs.Int.{w64}
use borrow.Author.Tests.{ne_eqb}
use Rattle.rules.specs.declared.Refusal.TheVariants.{Form}
use Rattle.rules.specs.Entries.{Entry, driver, point, sink, malformed}
use Rattle.rules.specs.Tables.{is_zero, row_by}
use Rattle.text.specs.Stretches.{absurd}
use Rattle.text.specs.Numbers.{bits_back}
use Rattle.checks.specs.declared.Passed.{Passed}
use Rattle.entries.specs.Lines.{line_for}
use Rattle.rules.specs.declared.Refusal.{Refusal}
use Rattle.checks.specs.Checks.{check_of, place_at}

-- a time that is zero, by its bits
pub bits-zero : (z : ℤ) → mag z < 2 ^ 63 → of_z w64 z ≡ 0 → z ≡ pos 0
bits-zero z h e = sym (bits_back z h) ∙ ap (to_z w64) e

pub bits-some : (z : ℤ) → (of_z w64 z ≡ 0 → ⊥) → z ≡ pos 0 → ⊥
bits-some z h e = h (ap (of_z w64) e)

module _ (p r c s n : ℕ) (z : ℤ) where
  pub driver_parent : (p ≡ 0 → ⊥) → malformed ≡ row_by 0 p r c s n z
  unfolding row_by is_zero
  driver_parent h = rw (ne_eqb p 0 h)

  pub driver_capacitance : p ≡ 0 → (c ≡ 0 → ⊥) → malformed ≡ row_by 0 p r c s n z
  unfolding row_by is_zero
  driver_capacitance e h = rw (e, ne_eqb c 0 h)

  pub driver_site : p ≡ 0 → c ≡ 0 → (s ≡ 0 → ⊥) → malformed ≡ row_by 0 p r c s n z
  unfolding row_by is_zero
  driver_site e f h = rw (e, f, ne_eqb s 0 h)

  pub driver_pin : p ≡ 0 → c ≡ 0 → s ≡ 0 → (n ≡ 0 → ⊥) → malformed ≡ row_by 0 p r c s n z
  unfolding row_by is_zero
  driver_pin e f g h = rw (e, f, g, ne_eqb n 0 h)

  pub driver-row : p ≡ 0 → c ≡ 0 → s ≡ 0 → n ≡ 0 → z ≡ pos 0 → driver r ≡ row_by 0 p r c s n z
  unfolding row_by is_zero
  driver-row e f g h i = rw (e, f, g, h, i)

  pub point_pin : (n ≡ 0 → ⊥) → malformed ≡ row_by 1 p r c s n z
  unfolding row_by is_zero
  point_pin h = rw (ne_eqb n 0 h)

  pub point-row : n ≡ 0 → z ≡ pos 0 → point p r c s ≡ row_by 1 p r c s n z
  unfolding row_by is_zero
  point-row e f = rw (e, f)

  pub sink-row : sink p r c s n z ≡ row_by 2 p r c s n z
  unfolding row_by is_zero
  sink-row = refl

  pub other_row : (k : ℕ) → (k ≡ 0 → ⊥) → (k ≡ 1 → ⊥) → (k ≡ 2 → ⊥) → malformed ≡ row_by k p r c s n z
  unfolding row_by is_zero
  other_row k e f g = rw (ne_eqb k 0 e, ne_eqb k 1 f, ne_eqb k 2 g)

pub driver-time : (p r c s n : ℕ) (z : ℤ) → p ≡ 0 → c ≡ 0 → s ≡ 0 → n ≡ 0 → (z ≡ pos 0 → ⊥) → malformed ≡ row_by 0 p r c s n z
unfolding row_by is_zero
driver-time p r c s n (pos zero) e f g h i = absurd (i refl)
driver-time p r c s n (pos (suc m)) e f g h i = rw (e, f, g, h, eqb-suc-zero m)
driver-time p r c s n (negsuc m) e f g h i = rw (e, f, g, h)

pub point-time : (p r c s n : ℕ) (z : ℤ) → n ≡ 0 → (z ≡ pos 0 → ⊥) → malformed ≡ row_by 1 p r c s n z
unfolding row_by is_zero
point-time p r c s n (pos zero) e i = absurd (i refl)
point-time p r c s n (pos (suc m)) e i = rw (e, eqb-suc-zero m)
point-time p r c s n (negsuc m) e i = rw e

-- ---- the words' check, from what they state
module _ (rows : List ℕ) (n : Passed) (e : Entry) where
  pub form-refused : (place : ℕ) → place ≡ place_at n → malformed ≡ e → Err (Form place) ≡ check_of rows n (line_for (place_at n) e)
  form-refused place p h = rw p (ap (λ (x : Entry). check_of rows n (line_for (place_at n) x)) h)

  pub stated-checked : (x : Entry) (r : Result (Unit {0}) Refusal) → r ≡ check_of rows n (line_for (place_at n) x) → x ≡ e → r ≡ check_of rows n (line_for (place_at n) e)
  stated-checked x r h g = h ∙ ap (λ (y : Entry). check_of rows n (line_for (place_at n) y)) g
