-- The rows of an accepted net, one by one by their numbers, and those from a number on. Assumes nothing.
use Rattle.std.specs.Prelude.{◌≡◌, refl, not, List, [], ◌∷◌, ℕ, zero, suc, ◌+◌, ◌-◌, ◌≤◌, ◌<◌, T, eqb, length, get_or, drop}
use Rattle.std.proofs.Common.{ap, ⊎_elim, arith, add-one, eqb→eq, length-drop, get_or-drop}
use Rattle.std.proofs.Math.Dec.{eqb_refl}
use Rattle.rules.specs.Quantities.{most_ohms, sites_room}
use Rattle.rules.specs.declared.Row.{Row}
use Rattle.rules.specs.Lists.{All, nil, cons}
use Rattle.rules.specs.Entries.{Repeater, row_of, sites_of}
use Rattle.rules.specs.Refusals.{is_sink, under}
use Rattle.rules.specs.Net.{driver_ohms}
use Rattle.rules.specs.Slack.{type_of}
use Rattle.laws.specs.Tests.{or_left, or_right, either}
use Rattle.laws.specs.Ranges.{RepeaterInRange}
use Rattle.laws.specs.Taken.{is_driver, RowIn, driver_row}
use Rattle.laws.specs.Accepted.{Earlier, Standing, Accepted}

-- ---- from a number on
all_drop : {A : Type 0} {P : A → Type 0} (i : ℕ) {l : List A} → All P l → All P (drop i l)
all_drop zero h = h
all_drop (suc i) nil = nil
all_drop (suc i) (cons h t) = all_drop i t

all-get : {A : Type 0} {P : A → Type 0} (d : A) {l : List A} → All P l → (i : ℕ) → i < length l → P (get_or l i d)
all-get d nil i h = absurd (omega arith)
all-get d (cons p t) zero h = p
all-get d (cons p t) (suc i) h = all-get d t i (omega arith)

sites-drop : (i : ℕ) (rows : List Row) → sites_of (drop i rows) ≤ sites_of rows
unfolding sites_of
sites-drop zero rows = omega arith
sites-drop (suc i) [] = omega arith
sites-drop (suc i) (x ∷ rows) = omega (arith, sites-drop i rows)

standing-drop : (i j : ℕ) (rows : List Row) → Standing i rows → Standing (i + j) (drop j rows)
standing-drop i zero rows s = let z : i + 0 ≡ i = omega arith in rw z s
standing-drop i (suc j) [] s = tt
standing-drop i (suc j) (x ∷ rows) (a, s) = let z : i + suc j ≡ i + 1 + j = omega arith in rw z (standing-drop (i + 1) j rows s)

-- ---- one by one
earlier-get : (d : Row) (i j : ℕ) (rows : List Row) → Earlier i rows → j < length rows → ((get_or rows j d).parent < i + j) × T (not (is_driver (get_or rows j d).kind))
earlier-get d i j [] e h = absurd (omega arith)
earlier-get d i zero (x ∷ rows) (a, b, e) h = (omega arith, b)
earlier-get d i (suc j) (x ∷ rows) (a, b, e) h = let q = earlier-get d (i + 1) j rows e (omega arith) in (omega arith, q.1)

standing-get : (d : Row) (i j : ℕ) (rows : List Row) → Standing i rows → j < length rows → under (i + j) (drop (suc j) rows) ≡ not (is_sink (get_or rows j d).kind)
standing-get d i j [] s h = absurd (omega arith)
standing-get d i zero (x ∷ rows) (a, s) h = let z : i + 0 ≡ i = omega arith in rw z a
standing-get d i (suc j) (x ∷ rows) (a, s) h = let z : i + suc j ≡ i + 1 + j = omega arith in rw z (standing-get d (i + 1) j rows s (omega arith))

under-get : (d : Row) (j : ℕ) (rows : List Row) → j < length rows → T (under (get_or rows j d).parent rows)
under-get d j [] h = absurd (omega arith)
under-get d zero (x ∷ rows) h = or_left (eqb x.parent x.parent) (under x.parent rows) (eqb_refl x.parent)
under-get d (suc j) (x ∷ rows) h = or_right (eqb x.parent (get_or rows j d).parent) _ (under-get d j rows (omega arith))

under-find : (d : Row) (r : ℕ) (rows : List Row) → T (under r rows) → (j : ℕ) × (j < length rows) × ((get_or rows j d).parent ≡ r)
under-find d r [] t = absurd t
under-find d r (x ∷ rows) t = ⊎_elim (λ e. (0, omega arith, eqb→eq x.parent r e)) (λ u. let (j, h, e) = under-find d r rows u in (suc j, omega arith, e)) (either (eqb x.parent r) (under r rows) t)

-- what a row after the driver is: no driver, and under an earlier row that is no sink
pub record Later (rows : List Row) (d : Row) (i : ℕ) : Type 0 where
  pub kind : T (not (is_driver (get_or rows i d).kind))
  pub parent : (get_or rows i d).parent < i
  pub above : T (not (is_sink (get_or rows (get_or rows i d).parent d).kind))

types-get : (types : List Repeater) → All RepeaterInRange types → (n : ℕ) → n < length types → RepeaterInRange (type_of types (suc n))
unfolding type_of
types-get types h n k = all-get _ h n k

module _ {types : List Repeater} {rows : List Row} (ok : Accepted types rows) where
  -- the rows from number i on: each row's numbers in their ranges
  pub rows-in-from : (i : ℕ) → All RowIn (drop i rows)
  rows-in-from i = all_drop i ok.rows_in

  -- one under each that is no sink, and none under a sink
  pub standing-from : (i : ℕ) → Standing i (drop i rows)
  standing-from i = let z : 0 + i ≡ i = omega arith in rw z at (standing-drop 0 i rows ok.standing)

  -- with at most 64 sites
  pub sites-few-from : (i : ℕ) → sites_of (drop i rows) ≤ sites_room
  sites-few-from i = omega (arith, sites-drop i rows, ok.sites_few)

  -- each type's numbers are in their ranges
  pub type-in : (n : ℕ) → n < length types → RepeaterInRange (type_of types (suc n))
  type-in n h = types-get types ok.types_in n h

  -- each row's numbers are in their ranges
  pub row_in : (d : Row) (i : ℕ) → i < length rows → RowIn (get_or rows i d)
  row_in d i h = all-get d ok.rows_in i h

  -- the driver's resistance is in its range
  pub driver-in : driver_ohms rows ≤ most_ohms
  driver-in = go rows ok.rows_in
    where
      go : (rows : List Row) → All RowIn rows → driver_ohms rows ≤ most_ohms
      go [] h = omega arith
      go (x ∷ rows) (cons h t) = h.resistance

  -- each row that is no sink has a row below it
  pub row_below : (d : Row) (i : ℕ) → i < length rows → T (not (is_sink (get_or rows i d).kind)) → (j : ℕ) × (i < j) × (j < length rows) × ((get_or rows j d).parent ≡ i)
  row_below d i h t =
      let z : 0 + i ≡ i = omega arith in
      let (j, k, e) = under-find d i (drop (suc i) rows) (rw (← (standing-get d 0 i rows ok.standing h), z) at t) in
      (suc i + j, omega arith, omega (arith, length-drop (suc i) rows), rw get_or-drop at e)

  -- a row stands under row i where it is no sink, and only there
  pub standing-at : (d : Row) (i : ℕ) → i < length rows → under i (drop (i + 1) rows) ≡ not (is_sink (get_or rows i d).kind)
  standing-at d i h =
      let z : 0 + i ≡ i = omega arith in
      rw add-one (rw z at (standing-get d 0 i rows ok.standing h))

  row-later : (d : Row) (i : ℕ) → 1 ≤ i → i < length rows → ((get_or rows i d).parent < i) × T (not (is_driver (get_or rows i d).kind))
  row-later d zero h k = absurd (omega arith)
  row-later d (suc i) h k =
      let z : 1 + i ≡ suc i = omega arith in
      rw (get_or-drop 1 rows i d, z) at (earlier-get d 1 i (drop 1 rows) ok.earlier (omega (arith, length-drop 1 rows)))

  row-above : (d : Row) (r i : ℕ) → r < i → i < length rows → (get_or rows i d).parent ≡ r → T (not (is_sink (get_or rows r d).kind))
  row-above d r i h k e =
      let z : 0 + r ≡ r = omega arith in
      let y : suc r + (i - suc r) ≡ i = omega arith in
      let s : under r (drop (suc r) rows) ≡ not (is_sink (get_or rows r d).kind) = rw z at (standing-get d 0 r rows ok.standing (omega arith)) in
      let t : T (under r (drop (suc r) rows)) = rw (get_or-drop (suc r) rows (i - suc r) d, y, e) at (under-get d (i - suc r) (drop (suc r) rows) (omega (arith, length-drop (suc r) rows))) in
      rw s at t

  -- each row after the driver is under an earlier one that is no sink
  pub later-at : (d : Row) (i : ℕ) → 1 ≤ i → i < length rows → Later rows d i
  later-at d i h k =
      let (p, n) = row-later d i h k in
      record { kind = n; parent = p; above = row-above d (get_or rows i d).parent i p k refl }

  -- the driver is no sink
  pub driver-open : (d : Row) → T (not (is_sink (get_or rows 0 d).kind))
  unfolding driver_row row_of
  driver-open d = rw ok.driver tt

  -- there are at least two rows
  pub rows-two : 2 ≤ length rows
  rows-two =
      let n = ap length ok.driver in
      let (j, h, k, e) = row_below (driver_row 0) 0 (omega arith) (driver-open (driver_row 0)) in
      omega arith
