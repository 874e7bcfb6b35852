-- Where the rows below each row stand: for each row the first row below it, the next row below the same parent, and how many sites come
-- before it; and the loops that find them. Assumes nothing.
use Rattle.std.specs.Prelude.{◌≡◌, Bool, true, false, List, [], ◌∷◌, ℕ, zero, suc, ◌+◌, ◌*◌, ◌≤◌, ◌<◌, ℤ, length, get_or, take, set}
use Rattle.std.proofs.Common.{sym, ap, ◌∙◌, arith, length-set, get_or-set_same, get_or-set_other}
use Rattle.std.proofs.Math.Decide.{ℕ_discrete}
use Rattle.rules.specs.Tables.{words_a_row}
use Rattle.rules.specs.Quantities.{rows_room}
use Rattle.rules.specs.declared.Row.{Row}
use Rattle.rules.specs.Entries.{site_count, sites_of}
use Rattle.rooms.specs.Links.{next_at, sites_at, links_room}
use Rattle.laws.specs.Tabled.{row_at, rows_from, rows_at, rows-length}
use Rattle.laws.specs.Walk.{no_row, sites_before, sites_before-zero, sites_before-step, child, child-taken, child-passed, child-end}

-- each row's parent is an earlier row
abbrev pub Earlier : List Row → Type 0
Earlier rows = (j : ℕ) → 1 ≤ j → j < length rows → (get_or rows j no_row).parent < j

pub record Links (rows : List Row) (links : List ℕ) : Type 0 where
  pub long : length links ≡ links_room
  pub first : (r : ℕ) → r < length rows → get_or links r 0 ≡ child rows r (r + 1)
  pub next : (j : ℕ) → 1 ≤ j → j < length rows → get_or links (next_at + j) 0 ≡ child rows (get_or rows j no_row).parent (j + 1)
  pub sites : (j : ℕ) → j < length rows → get_or links (sites_at + j) 0 ≡ sites_before rows j

-- n rows stand in the words, the driver among them
pub record Standing (words : List ℕ) (due : List ℤ) (n : ℕ) : Type 0 where
  pub some : 1 ≤ n
  pub few : n ≤ rows_room
  pub rows_long : words_a_row * n ≤ length words
  pub due_long : n ≤ length due

-- ---- the first loop: sites before row i, and no row below any row so far
pub record Counting (rows : List Row) (links : List ℕ) (i k : ℕ) : Type 0 where
  pub long : length links ≡ links_room
  pub inside : i ≤ length rows
  pub count : k ≡ sites_before rows i
  pub first : (r : ℕ) → r < i → get_or links r 0 ≡ length rows
  pub sites : (j : ℕ) → j < i → get_or links (sites_at + j) 0 ≡ sites_before rows j

-- after it
pub record Counted (rows : List Row) (links : List ℕ) : Type 0 where
  pub long : length links ≡ links_room
  pub first : (r : ℕ) → r < length rows → get_or links r 0 ≡ length rows
  pub sites : (j : ℕ) → j < length rows → get_or links (sites_at + j) 0 ≡ sites_before rows j

-- ---- the second loop, from the last row to the first: row i and those after it are linked
pub record Linking (rows : List Row) (links : List ℕ) (i : ℕ) : Type 0 where
  pub long : length links ≡ links_room
  pub one : 1 ≤ i
  pub inside : i ≤ length rows
  pub few : length rows ≤ rows_room
  pub before : (r : ℕ) → r < i → get_or links r 0 ≡ child rows r i
  pub first : (r : ℕ) → i ≤ r → r < length rows → get_or links r 0 ≡ child rows r (r + 1)
  pub next : (j : ℕ) → i ≤ j → j < length rows → get_or links (next_at + j) 0 ≡ child rows (get_or rows j no_row).parent (j + 1)
  pub sites : (j : ℕ) → j < length rows → get_or links (sites_at + j) 0 ≡ sites_before rows j

pub counted : (rows : List Row) (links : List ℕ) (i k : ℕ) → length rows ≤ i → Counting rows links i k → Counted rows links
counted rows links i k h c = record { long = c.long; first = λ r g. c.first r (omega arith); sites = λ j g. c.sites j (omega arith) }

pub linking-start : (rows : List Row) (links : List ℕ) (i : ℕ) → 1 ≤ length rows → length rows ≤ rows_room → i ≡ length rows → Counted rows links → Linking rows links i
linking-start rows links i some few e c = record {
  long = c.long;
  one = omega arith;
  inside = omega arith;
  few = few;
  before = λ r h. c.first r (omega arith) ∙ sym e ∙ sym (child-end rows r i (omega arith));
  first = λ r h g. absurd (omega arith);
  next = λ j h g. absurd (omega arith);
  sites = λ j h. c.sites j (omega arith);
}

-- row m is put before the rows below its parent p that are linked already
module _ (rows : List Row) (links : List ℕ) (i m p : ℕ) (E : Earlier rows) (L : Linking rows links i) (two : 2 ≤ i) (m-is : m + 1 ≡ i) (p-is : p ≡ (get_or rows m no_row).parent) where
  early : p < m
  early = rw p-is (E m (omega arith) (omega (arith, L.inside)))

  at_other : (a d : ℕ) → ¬ (a ≡ next_at + m) → ¬ (a ≡ p) → get_or (set (set links (next_at + m) d) p m) a 0 ≡ get_or links a 0
  at_other a d f g = get_or-set_other (set links (next_at + m) d) p a m 0 g ∙ get_or-set_other links (next_at + m) a d 0 f

  pub linking-step : (linked' : List ℕ) → linked' ≡ set (set links (next_at + m) (get_or links p 0)) p m → Linking rows linked' m
  linking-step linked' q = rw q (record {
    long = length-set (set links (next_at + m) (get_or links p 0)) p m ∙ length-set links (next_at + m) (get_or links p 0) ∙ L.long;
    one = omega arith;
    inside = omega (arith, L.inside);
    few = L.few;
    before = λ r h. before r h (ℕ_discrete r p);
    first = λ r h g. first r h g (ℕ_discrete r m);
    next = λ j h g. next j h g (ℕ_discrete j m);
    sites = λ j h. at_other (sites_at + j) _ (omega (arith, L.inside, L.few, early)) (omega (arith, L.inside, L.few, early)) ∙ L.sites j h;
  })
    where
      inside : m < length rows
      inside = omega (arith, L.inside)

      before : (r : ℕ) → r < m → Dec (r ≡ p) → get_or (set (set links (next_at + m) (get_or links p 0)) p m) r 0 ≡ child rows r m
      before r h (yes e) = rw e (get_or-set_same (set links (next_at + m) (get_or links p 0)) p m 0 (rw length-set (omega (arith, L.long, L.few, early))) ∙ sym (child-taken rows p m inside (sym p-is)))
      before r h (no e) = at_other r _ (omega (arith, L.few)) e ∙ L.before r (omega arith) ∙ rw (← m-is) (sym (child-passed rows r m inside (λ q. e (sym q ∙ sym p-is))))

      first : (r : ℕ) → m ≤ r → r < length rows → Dec (r ≡ m) → get_or (set (set links (next_at + m) (get_or links p 0)) p m) r 0 ≡ child rows r (r + 1)
      first r h g (yes e) = at_other r _ (omega (arith, L.few)) (omega (arith, early)) ∙ L.before r (omega arith) ∙ (let z : i ≡ r + 1 = omega arith in ap (child rows r) z)
      first r h g (no e) = at_other r _ (omega (arith, L.few)) (omega (arith, early)) ∙ L.first r (omega arith) g

      next : (j : ℕ) → m ≤ j → j < length rows → Dec (j ≡ m) → get_or (set (set links (next_at + m) (get_or links p 0)) p m) (next_at + j) 0 ≡ child rows (get_or rows j no_row).parent (j + 1)
      next j h g (yes e) =
          let q : child rows p i ≡ child rows (get_or rows m no_row).parent (m + 1) = rw (p-is, m-is) in
          rw e
          (get_or-set_other (set links (next_at + m) (get_or links p 0)) p (next_at + m) m 0 (omega (arith, L.few, early)) ∙ get_or-set_same links (next_at + m) (get_or links p 0) 0 (omega (arith, L.long, L.few)) ∙ L.before p (omega (arith, early)) ∙ q)
      next j h g (no e) = at_other (next_at + j) _ (omega arith) (omega (arith, L.few, early)) ∙ L.next j (omega arith) g

pub links-all : (rows : List Row) (links : List ℕ) (i : ℕ) → i ≡ 1 → Linking rows links i → Links rows links
links-all rows links i e L = record {
  long = L.long;
  first = λ r h. first r h (ℕ_discrete r 0);
  next = λ j h g. L.next j (omega arith) g;
  sites = L.sites;
}
  where
    first : (r : ℕ) → r < length rows → Dec (r ≡ 0) → get_or links r 0 ≡ child rows r (r + 1)
    first r h (yes z) = L.before r (omega arith) ∙ (let y : i ≡ r + 1 = omega arith in ap (child rows r) y)
    first r h (no z) = L.first r (omega arith) h

-- ---- the first loop's steps
pub sites_few : (rows : List Row) (i : ℕ) → i ≤ length rows → sites_before rows i ≤ i
unfolding sites_before sites_of
sites_few rows i h = go i rows
  where
    one : (b : Bool) → site_count b ≤ 1
    one true = omega arith
    one false = omega arith

    go : (i : ℕ) (rows : List Row) → sites_of (take i rows) ≤ i
    go zero rows = omega arith
    go (suc i) [] = omega arith
    go (suc i) (x ∷ rows) = omega (arith, one x.site, go i rows)

pub counting-start : (rows : List Row) (links : List ℕ) → length links ≡ links_room → Counting rows links 0 0
counting-start rows links h = record { long = h; inside = omega arith; count = sym (sites_before-zero rows); first = λ r g. absurd (omega arith); sites = λ j g. absurd (omega arith) }

module _ (rows : List Row) (links : List ℕ) (i k : ℕ) (C : Counting rows links i k) (few : length rows ≤ rows_room) (more : i < length rows) where
  pub counting-step : (links' : List ℕ) (k' : ℕ) → links' ≡ set (set links i (length rows)) (sites_at + i) k → k' ≡ sites_before rows (i + 1) → Counting rows links' (i + 1) k'
  counting-step links' k' q e = rw q (record {
    long = length-set (set links i (length rows)) (sites_at + i) k ∙ length-set links i (length rows) ∙ C.long;
    inside = omega arith;
    count = e;
    first = λ r h. first r h (ℕ_discrete r i);
    sites = λ j h. sites j h (ℕ_discrete j i);
  })
    where
      first : (r : ℕ) → r < i + 1 → Dec (r ≡ i) → get_or (set (set links i (length rows)) (sites_at + i) k) r 0 ≡ length rows
      first r h (yes e) = get_or-set_other (set links i (length rows)) (sites_at + i) r k 0 (omega arith) ∙ rw e (get_or-set_same links i (length rows) 0 (omega (arith, C.long)))
      first r h (no e) = get_or-set_other (set links i (length rows)) (sites_at + i) r k 0 (omega arith) ∙ get_or-set_other links i r (length rows) 0 e ∙ C.first r (omega arith)

      sites : (j : ℕ) → j < i + 1 → Dec (j ≡ i) → get_or (set (set links i (length rows)) (sites_at + i) k) (sites_at + j) 0 ≡ sites_before rows j
      sites j h (yes e) = rw e (get_or-set_same (set links i (length rows)) (sites_at + i) k 0 (rw length-set (omega (arith, C.long))) ∙ C.count)
      sites j h (no e) = get_or-set_other (set links i (length rows)) (sites_at + i) (sites_at + j) k 0 (omega arith) ∙ get_or-set_other links i (sites_at + j) (length rows) 0 (omega arith) ∙ C.sites j (omega arith)

-- ---- row i of the words is row i of the list
module _ (words : List ℕ) (due : List ℤ) (n : ℕ) where
  pub row_is : (i : ℕ) (x : Row) → i < n → x ≡ row_at words due i → get_or (rows_from words due 0 n) i no_row ≡ x
  row_is i x h e = rows_at words due no_row 0 n i h ∙ (let z : 0 + i ≡ i = omega arith in ap (row_at words due) z) ∙ sym e

  pub count_next : (i k : ℕ) (x : Row) (r : ℕ) → i < n → k ≡ sites_before (rows_from words due 0 n) i → x ≡ row_at words due i → r ≡ k + site_count x.site → r ≡ sites_before (rows_from words due 0 n) (i + 1)
  count_next i k x r h c e f = f ∙ rw (c, ← (row_is i x h e)) (sym (sites_before-step (rows_from words due 0 n) i (rw rows-length h)))

  pub parent-early : (i : ℕ) (x : Row) → Earlier (rows_from words due 0 n) → 1 ≤ i → i < n → x ≡ row_at words due i → x.parent < i
  parent-early i x E h g e = rw (row_is i x g e) at (E i h (rw rows-length g))
