-- The rows as they are walked: what hangs under a row among the rows from a place on, the next row below it, and how many sites come
-- before. Assumes nothing.
use Rattle.std.specs.Prelude.{◌≡◌, refl, cond, List, [], ◌∷◌, ℕ, zero, suc, ◌+◌, ◌-◌, ◌≤◌, ◌<◌, eqb, length, get_or, take, drop}
use Rattle.std.proofs.Common.{◌∙◌, arith, add-one, drop-cons}
use Rattle.std.proofs.Math.Option.{Option, none}
use Rattle.std.proofs.Math.Decide.{ℕ_discrete}
use Rattle.rules.specs.declared.Kind.TheVariants.{Driver}
use Rattle.rules.specs.declared.Row.{Row}
use Rattle.rules.specs.Entries.{site_count, sites_of, row_of}
use Rattle.rules.specs.Net.{Tree, wire_of, seen, wired, beside, hangs, at_row}
use Rattle.laws.specs.Tests.{same, other, cond_yes, cond_no}
use Rattle.laws.specs.Hanging.{hangs-end, hangs-taken, hangs-passed, at_row-is}

-- what stands for a row past the last
unfoldable pub no_row : Row
no_row = row_of 0 0 0 0 Driver

-- the number of the first site at row i or after it
unfoldable pub sites_before : List Row → (i : ℕ) → ℕ
sites_before rows i = sites_of (take i rows)

-- what hangs under row r among the rows from i on
unfoldable pub under : List Row → (r i : ℕ) → Option Tree
under rows r i = hangs i (sites_before rows i) (drop i rows) r

-- what is at row i, made from what hangs under it
unfoldable pub seen_at : List Row → (i : ℕ) → Option Tree
seen_at rows i = seen (get_or rows i no_row).site (get_or rows i no_row).kind (sites_before rows i) (under rows i (i + 1))

-- the first row directly below row r among those from i on, or the number past the last
unfoldable pub child_from : (i : ℕ) → List Row → (r : ℕ) → ℕ
child_from i [] r = i
child_from i (x ∷ rows) r = cond (eqb x.parent r) i (child_from (i + 1) rows r)

unfoldable pub child : List Row → (r i : ℕ) → ℕ
child rows r i = child_from i (drop i rows) r

-- ---- sites before a row
sites-snoc : (rows : List Row) (i : ℕ) → i < length rows → sites_of (take (suc i) rows) ≡ sites_of (take i rows) + site_count (get_or rows i no_row).site
unfolding sites_of
sites-snoc [] i h = absurd (omega arith)
sites-snoc (x ∷ rows) zero h = omega arith
sites-snoc (x ∷ rows) (suc i) h = omega (arith, sites-snoc rows i (omega arith))

pub sites_before-zero : (rows : List Row) → sites_before rows 0 ≡ 0
unfolding sites_before sites_of
sites_before-zero rows = refl

pub sites_before-step : (rows : List Row) (i : ℕ) → i < length rows → sites_before rows (i + 1) ≡ sites_before rows i + site_count (get_or rows i no_row).site
unfolding sites_before
sites_before-step rows i h = rw add-one (sites-snoc rows i h)

pub sites_before-most : (rows : List Row) (i : ℕ) → sites_before rows i ≤ sites_of rows
unfolding sites_before sites_of
sites_before-most rows i = go i rows
  where
    go : (i : ℕ) (rows : List Row) → sites_of (take i rows) ≤ sites_of rows
    go zero rows = omega arith
    go (suc i) [] = omega arith
    go (suc i) (x ∷ rows) = omega (arith, go i rows)

-- ---- what hangs under a row, one row more
drop-step : (rows : List Row) (i : ℕ) → i < length rows → drop i rows ≡ get_or rows i no_row ∷ drop (i + 1) rows
drop-step rows i h = rw (add-one, drop-cons rows i no_row)

drop-end : (rows : List Row) (i : ℕ) → length rows ≤ i → drop i rows ≡ []
drop-end [] zero h = refl
drop-end [] (suc i) h = refl
drop-end (x ∷ rows) zero h = absurd (omega arith)
drop-end (x ∷ rows) (suc i) h = drop-end rows i (omega arith)

pub under-end : (rows : List Row) (r i : ℕ) → length rows ≤ i → under rows r i ≡ none
unfolding under
under-end rows r i h = rw (drop-end rows i h, hangs-end)

-- row i is directly below r: it hangs beside what hangs there of the rows after it
pub under-taken : (rows : List Row) (r i : ℕ) → i < length rows → (get_or rows i no_row).parent ≡ r → under rows r i ≡ beside (wired (wire_of (get_or rows i no_row)) (seen_at rows i)) (under rows r (i + 1))
unfolding under seen_at
under-taken rows r i h e = rw (drop-step rows i h, sites_before-step rows i h) (hangs-taken i (sites_before rows i) (get_or rows i no_row) (drop (i + 1) rows) r e)

-- row i is not
pub under-passed : (rows : List Row) (r i : ℕ) → i < length rows → ¬ ((get_or rows i no_row).parent ≡ r) → under rows r i ≡ under rows r (i + 1)
unfolding under
under-passed rows r i h e = rw (drop-step rows i h, sites_before-step rows i h) (hangs-passed i (sites_before rows i) (get_or rows i no_row) (drop (i + 1) rows) r e)

-- ---- the next row below
pub child-end : (rows : List Row) (r i : ℕ) → length rows ≤ i → child rows r i ≡ i
unfolding child child_from
child-end rows r i h = rw (drop-end rows i h)

pub child-taken : (rows : List Row) (r i : ℕ) → i < length rows → (get_or rows i no_row).parent ≡ r → child rows r i ≡ i
unfolding child child_from
child-taken rows r i h e = rw (drop-step rows i h) (cond_yes (eqb (get_or rows i no_row).parent r) _ _ (same e))

pub child-passed : (rows : List Row) (r i : ℕ) → i < length rows → ¬ ((get_or rows i no_row).parent ≡ r) → child rows r i ≡ child rows r (i + 1)
unfolding child child_from
child-passed rows r i h e = rw (drop-step rows i h) (cond_no (eqb (get_or rows i no_row).parent r) _ _ (other e))

-- where the next row below is: not before, not past the end, and directly below r unless it is the end
pub record Child (rows : List Row) (r i c : ℕ) : Type 0 where
  pub from : i ≤ c
  pub upto : c ≤ length rows
  pub below : c < length rows → (get_or rows c no_row).parent ≡ r
  pub same : under rows r i ≡ under rows r c

pub child-is : (rows : List Row) (r i : ℕ) → i ≤ length rows → Child rows r i (child rows r i)
child-is rows r i h = go (length rows - i) i h (omega arith)
  where
    step : (i : ℕ) → i < length rows → Dec ((get_or rows i no_row).parent ≡ r) → Child rows r (i + 1) (child rows r (i + 1)) → Child rows r i (child rows r i)
    step i h (yes e) c = rw (child-taken rows r i h e) (record { from = omega arith; upto = omega arith; below = λ g. e; same = refl })
    step i h (no e) c = rw (child-passed rows r i h e) (record { from = omega (arith, c.from); upto = c.upto; below = c.below; same = under-passed rows r i h e ∙ c.same })

    last : (i : ℕ) → length rows ≡ i → Child rows r i (child rows r i)
    last i e = rw (child-end rows r i (omega arith)) (record { from = omega arith; upto = omega arith; below = λ g. absurd (omega arith); same = refl })

    go : (left i : ℕ) → i ≤ length rows → length rows - i ≡ left → Child rows r i (child rows r i)
    go zero i h e = last i (omega arith)
    go (suc left) i h e = step i (omega arith) (ℕ_discrete (get_or rows i no_row).parent r) (go left (i + 1) (omega arith) (omega arith))

-- ---- what is at a row
pub at_row-seen : (rows : List Row) (r : ℕ) → r < length rows → at_row rows r ≡ seen_at rows r
unfolding seen_at under sites_before
at_row-seen rows r h = at_row-is no_row rows r h ∙ rw (sites_before-step rows r h)
