-- Where the rows below each row stand, chained in some order: for each row the first of the rows below it, the row after each row below the
-- same parent, and how many sites come before it; and the loop that finds them. Assumes nothing.
use Rattle.std.specs.Prelude.{◌≡◌, refl, cond, List, eqb, get_or, set}
use Rattle.std.proofs.Math.Path.{sym, ap}
use Rattle.std.proofs.Common.{◌∙◌, length-set, get_or-set_same, get_or-set_other}
use Rattle.std.proofs.Math.Option.{Option, none}
use Prim.Native.Nat.{ℕ, zero, suc, ◌+◌, ◌≤◌, ◌<◌}
use native.Mathlib.Omega.{arith}
use Rattle.std.proofs.Math.Decide.{ℕ_discrete}
use Rattle.std.proofs.Math.ListN.{length}
use Rattle.rules.specs.Quantities.{rows_room}
use Rattle.rules.specs.declared.Row.{Row}
use Rattle.rules.specs.Net.{Tree, wire_of, wired, beside}
use Rattle.rooms.specs.Links.{next_at, sites_at, links_room}
use Rattle.laws.specs.Tests.{same, other, cond_yes, cond_no}
use Rattle.laws.specs.Walk.{no_row, sites_before, sites_before-zero, under, seen_at, under-taken, under-passed}
use Rattle.rows.specs.Links.{Earlier}
use Rattle.rows.specs.Alike.{Alike, alike_same, alike_then, alike-first, alike-second}

-- a row behind its wire
abbrev pub hung_at : List Row → (c : ℕ) → Option Tree
hung_at rows c = wired (wire_of (get_or rows c no_row)) (seen_at rows c)

-- from row c the links lead to `left` rows before row i, all directly below p, which hang as u; then to the number past the last row
pub data Chain (rows : List Row) (links : List ℕ) (p i : ℕ) : (c left : ℕ) → Option Tree → Type 0 where
  end : {c left : ℕ} {u : Option Tree} → c ≡ length rows → left ≡ 0 → u ≡ none → Chain rows links p i c left u
  next : {c left : ℕ} {u : Option Tree} (less : ℕ) (v : Option Tree) → p < c → c < i → (get_or rows c no_row).parent ≡ p → left ≡ suc less → u ≡ beside (hung_at rows c) v → Chain rows links p i (get_or links (next_at + c) 0) less v → Chain rows links p i c left u

-- the rows before row i that are directly below p, in some order: with those from i on they are what hangs under p
pub record Chained (rows : List Row) (links : List ℕ) (p i : ℕ) : Type 0 where
  pub left : ℕ
  pub few : left ≤ i
  pub hung : Option Tree
  pub chain : Chain rows links p i (get_or links p 0) left hung
  pub alike : Alike (beside hung (under rows p i)) (under rows p (p + 1))

pub record Backward (rows : List Row) (links : List ℕ) : Type 0 where
  pub long : length links ≡ links_room
  pub below : (p : ℕ) → p < length rows → Chained rows links p (length rows)
  pub sites : (j : ℕ) → j < length rows → get_or links (sites_at + j) 0 ≡ sites_before rows j

-- where a row may be put into the links: as the first below p, or after the first
pub data Slot (links : List ℕ) (n p q : ℕ) : Type 0 where
  first : q ≡ p → Slot links n p q
  second : get_or links p 0 < n → q ≡ next_at + get_or links p 0 → Slot links n p q

-- ---- how many rows the links lead to
unfoldable pub rows_left : (links : List ℕ) (n most c : ℕ) → ℕ
rows_left links n zero c = 0
rows_left links n (suc most) c = cond (eqb c n) 0 (suc (rows_left links n most (get_or links (next_at + c) 0)))

module _ {rows : List Row} {links : List ℕ} {p i : ℕ} (inside : i ≤ length rows) where
  pub chain_left : {c left : ℕ} {u : Option Tree} (most : ℕ) → left ≤ most → Chain rows links p i c left u → rows_left links (length rows) most c ≡ left
  unfolding rows_left
  chain_left zero h ch = omega arith
  chain_left {c} (suc most) h (end e z f) = cond_yes (eqb c (length rows)) _ _ (same e) ∙ sym z
  chain_left {c} (suc most) h (next less v a b f z g ch) = cond_no (eqb c (length rows)) _ _ (other (apart c b)) ∙ ap suc (chain_left {c = get_or links (next_at + c) 0} most (omega arith) ch) ∙ sym z
    where
      apart : (c : ℕ) → c < i → ¬ (c ≡ length rows)
      apart c h e = omega arith

  -- from one row to so many, and no others
  pub chain-one : {c left more : ℕ} {u v : Option Tree} → Chain rows links p i c left u → Chain rows links p i c more v → left ≡ more
  chain-one (end e z f) (end e₁ z₁ f₁) = omega arith
  chain-one (end e z f) (next less v a b g z₁ f₁ ch) = absurd (omega arith)
  chain-one (next less v a b g z f ch) (end e₁ z₁ f₁) = absurd (omega arith)
  chain-one (next less v a b g z f ch) (next less₁ v₁ a₁ b₁ g₁ z₁ f₁ ch₁) = omega (arith, chain-one ch ch₁)

-- links that are the same at each row on the way lead the same way
module _ {rows : List Row} {links : List ℕ} {p i : ℕ} (links' : List ℕ) (j most : ℕ) (h : i ≤ j)
    (kept : (c left : ℕ) (u : Option Tree) → c < i → (get_or rows c no_row).parent ≡ p → left ≤ most → Chain rows links p i c left u → get_or links' (next_at + c) 0 ≡ get_or links (next_at + c) 0) where
  chain-kept : {c left : ℕ} {u : Option Tree} → left ≤ most → Chain rows links p i c left u → Chain rows links' p j c left u
  chain-kept g (end e z f) = end e z f
  chain-kept {c} {left} {u} g (next less v a b e z f ch) = next less v a (omega arith) e z f (rw (kept c left u b e g (next less v a b e z f ch)) (chain-kept (omega arith) ch))

-- ---- the loop: the rows before row i are linked among themselves
pub record Backing (rows : List Row) (links : List ℕ) (i k : ℕ) : Type 0 where
  pub long : length links ≡ links_room
  pub inside : i ≤ length rows
  pub count : k ≡ sites_before rows i
  pub below : (p : ℕ) → p < i → Chained rows links p i
  pub sites : (j : ℕ) → j < i → get_or links (sites_at + j) 0 ≡ sites_before rows j

-- nothing is below a row so far
chained-none : (rows : List Row) (links : List ℕ) (p : ℕ) → get_or links p 0 ≡ length rows → Chained rows links p (p + 1)
chained-none rows links p e = record { left = 0; few = omega arith; hung = none; chain = end e refl refl; alike = alike_same (under rows p (p + 1)) }

pub backing-start : (rows : List Row) (links links' : List ℕ) (k : ℕ) → 1 ≤ length rows → length links ≡ links_room → links' ≡ set (set links 0 (length rows)) sites_at 0 → k ≡ sites_before rows 1 → Backing rows links' 1 k
backing-start rows links links' k one long q e = rw q (record {
  long = length-set (set links 0 (length rows)) sites_at 0 ∙ length-set links 0 (length rows) ∙ long;
  inside = one;
  count = e;
  below = λ p h. below p (omega arith);
  sites = λ j h. sites j (omega arith);
})
  where
    first : get_or (set (set links 0 (length rows)) sites_at 0) 0 0 ≡ length rows
    first = get_or-set_other (set links 0 (length rows)) sites_at 0 0 0 (omega arith) ∙ get_or-set_same links 0 (length rows) 0 (omega arith)

    below : (p : ℕ) → p ≡ 0 → Chained rows (set (set links 0 (length rows)) sites_at 0) p 1
    below p z = rw z (chained-none rows (set (set links 0 (length rows)) sites_at 0) 0 first)

    sites : (j : ℕ) → j ≡ 0 → get_or (set (set links 0 (length rows)) sites_at 0) (sites_at + j) 0 ≡ sites_before rows j
    sites j z = rw z (get_or-set_same (set links 0 (length rows)) sites_at 0 0 (rw length-set (omega arith)) ∙ sym (sites_before-zero rows))

-- row i is put in at place q, below its parent p
module _ (rows : List Row) (links : List ℕ) (i k p q : ℕ) (E : Earlier rows) (B : Backing rows links i k) (one : 1 ≤ i) (few : length rows ≤ rows_room) (more : i < length rows) (p-is : p ≡ (get_or rows i no_row).parent) where
  early : p < i
  early = rw p-is (E i one more)

  -- the links as row i is put in
  abbrev one_set : List ℕ
  one_set = set links (next_at + i) (get_or links q 0)

  abbrev two-set : List ℕ
  two-set = set one_set q i

  abbrev three-set : List ℕ
  three-set = set two-set i (length rows)

  abbrev after : List ℕ
  after = set three-set (sites_at + i) k

  length_two : length two-set ≡ links_room
  length_two = length-set one_set q i ∙ length-set links (next_at + i) (get_or links q 0) ∙ B.long

  length_three : length three-set ≡ links_room
  length_three = length-set two-set i (length rows) ∙ length_two

  at_other : (a : ℕ) → ¬ (a ≡ next_at + i) → ¬ (a ≡ q) → ¬ (a ≡ i) → ¬ (a ≡ sites_at + i) → get_or after a 0 ≡ get_or links a 0
  at_other a f g h l = get_or-set_other three-set (sites_at + i) a k 0 l ∙ get_or-set_other two-set i a (length rows) 0 h ∙ get_or-set_other one_set q a i 0 g ∙ get_or-set_other links (next_at + i) a (get_or links q 0) 0 f

  at_row : get_or after i 0 ≡ length rows
  at_row = get_or-set_other three-set (sites_at + i) i k 0 (omega arith) ∙ get_or-set_same two-set i (length rows) 0 (omega (arith, length_two))

  at-sites : get_or after (sites_at + i) 0 ≡ k
  at-sites = get_or-set_same three-set (sites_at + i) k 0 (omega (arith, length_three))

  -- the place is that of an earlier row
  module _ (low : q < sites_at) (not-row : ¬ (q ≡ i)) (not-past : ¬ (q ≡ next_at + i)) where
    at_next : get_or after (next_at + i) 0 ≡ get_or links q 0
    at_next = get_or-set_other three-set (sites_at + i) (next_at + i) k 0 (omega arith) ∙ get_or-set_other two-set i (next_at + i) (length rows) 0 (omega arith) ∙ get_or-set_other one_set q (next_at + i) i 0 (omega arith) ∙ get_or-set_same links (next_at + i) (get_or links q 0) 0 (omega (arith, B.long))

    at_slot : get_or after q 0 ≡ i
    at_slot = get_or-set_other three-set (sites_at + i) q k 0 (omega arith) ∙ get_or-set_other two-set i q (length rows) 0 not-row ∙ get_or-set_same one_set q i 0 (omega (arith, length-set links (next_at + i) (get_or links q 0), B.long))

    sites : (j : ℕ) → j < i + 1 → Dec (j ≡ i) → get_or after (sites_at + j) 0 ≡ sites_before rows j
    sites j h (yes e) = rw e (at-sites ∙ B.count)
    sites j h (no e) = at_other (sites_at + j) (omega arith) (omega arith) (omega arith) (omega arith) ∙ B.sites j (omega arith)

    -- rows below any other row are linked as they were
    others : (r : ℕ) → r < i → ¬ (r ≡ p) → ¬ (r ≡ q) → ((c : ℕ) → c < i → (get_or rows c no_row).parent ≡ r → ¬ (next_at + c ≡ q)) → Chained rows after r (i + 1)
    others r h f g l =
        let C = B.below r h in
        let e : get_or after r 0 ≡ get_or links r 0 = at_other r (omega arith) g (omega arith) (omega arith) in
        record {
          left = C.left;
          few = omega (arith, C.few);
          hung = C.hung;
          chain = rw e (chain-kept after (i + 1) C.left (omega arith) (λ c left u b d m ch. at_other (next_at + c) (omega arith) (l c b d) (omega arith) (omega arith)) (omega arith) C.chain);
          alike = rw (under-passed rows r i more (λ z. f (sym z ∙ sym p-is))) at C.alike;
        }

  -- what hangs under p from row i on
  taken : under rows p i ≡ beside (hung_at rows i) (under rows p (i + 1))
  taken = under-taken rows p i more (sym p-is)

  -- ---- as the first below p
  module _ (q-is : q ≡ p) where
    first-place : (q < sites_at) × ((¬ (q ≡ i)) × (¬ (q ≡ next_at + i)))
    first-place = (omega (arith, early), (omega (arith, early), omega (arith, early)))

    put_first : Chained rows after p (i + 1)
    put_first =
        let C = B.below p early in
        let (low, (f, g)) = first-place in
        let head : get_or after p 0 ≡ i = ap (λ z. get_or after z 0) (sym q-is) ∙ at_slot low f g in
        let back : get_or after (next_at + i) 0 ≡ get_or links p 0 = at_next low f g ∙ ap (λ z. get_or links z 0) q-is in
        record {
          left = suc C.left;
          few = omega (arith, C.few);
          hung = beside (hung_at rows i) C.hung;
          chain = rw head (next C.left C.hung early (omega arith) (sym p-is) refl refl (rw back (chain-kept after (i + 1) C.left (omega arith) (λ c left u b d m ch. at_other (next_at + c) (omega arith) (omega (arith, early)) (omega arith) (omega arith)) (omega arith) C.chain)));
          alike = alike_then (alike-first (hung_at rows i) C.hung (under rows p (i + 1))) (rw taken at C.alike);
        }

  -- ---- after the first row h below p
  module _ (h : ℕ) (h-is : get_or links p 0 ≡ h) (there : h < length rows) (q-is : q ≡ next_at + h) where
    h-below : (p < h) × ((h < i) × ((get_or rows h no_row).parent ≡ p))
    h-below = go (rw h-is at (B.below p early).chain)
      where
        go : {left : ℕ} {u : Option Tree} → Chain rows links p i h left u → (p < h) × ((h < i) × ((get_or rows h no_row).parent ≡ p))
        go (end e z f) = absurd (omega arith)
        go (next less v a b e z f ch) = (a, (b, e))

    second-place : (q < sites_at) × ((¬ (q ≡ i)) × (¬ (q ≡ next_at + i)))
    second-place = (omega (arith, h-below.1.0), (omega arith, omega (arith, h-below.1.0)))

    put_second : Chained rows after p (i + 1)
    put_second = go (B.below p early).few (rw taken at (B.below p early).alike) (rw h-is at (B.below p early).chain)
      where
        head : get_or after p 0 ≡ h
        head = at_other p (omega (arith, early)) (omega (arith, early)) (omega (arith, early)) (omega (arith, early)) ∙ h-is

        second : get_or after (next_at + h) 0 ≡ i
        second = let (low, (f, g)) = second-place in ap (λ z. get_or after z 0) (sym q-is) ∙ at_slot low f g

        third : get_or after (next_at + i) 0 ≡ get_or links (next_at + h) 0
        third = let (low, (f, g)) = second-place in at_next low f g ∙ ap (λ z. get_or links z 0) q-is

        go : {left : ℕ} {u : Option Tree} → left ≤ i → Alike (beside u (beside (hung_at rows i) (under rows p (i + 1)))) (under rows p (p + 1)) → Chain rows links p i h left u → Chained rows after p (i + 1)
        go few-left A (end e z f) = absurd (omega arith)
        go {left} {u} few-left A (next less v a b e z f ch) = record {
          left = suc (suc less);
          few = omega arith;
          hung = beside (hung_at rows h) (beside (hung_at rows i) v);
          chain = rw head (next (suc less) (beside (hung_at rows i) v) a (omega arith) e refl refl (rw second (next less v early (omega arith) (sym p-is) refl refl (rw third (chain-kept after (i + 1) less (omega arith) kept (omega arith) ch)))));
          alike = alike_then (alike-second (hung_at rows h) (hung_at rows i) v (under rows p (i + 1))) (rw f at A);
        }
          where
            -- no row after h is h
            off : (c most : ℕ) (x : Option Tree) → most ≤ less → Chain rows links p i c most x → ¬ (c ≡ h)
            off c most x m ch₁ same_row = omega (arith, chain-one B.inside (rw same_row at ch₁) (next less v a b e z f ch))

            kept : (c most : ℕ) (x : Option Tree) → c < i → (get_or rows c no_row).parent ≡ p → most ≤ less → Chain rows links p i c most x → get_or after (next_at + c) 0 ≡ get_or links (next_at + c) 0
            kept c most x b₁ d m ch₁ = let n = off c most x m ch₁ in at_other (next_at + c) (omega arith) (λ y. n (omega arith)) (omega arith) (omega arith)

  -- row i is in
  put_in : (q < sites_at) × ((¬ (q ≡ i)) × (¬ (q ≡ next_at + i))) → ((c : ℕ) → c < i → ¬ ((get_or rows c no_row).parent ≡ p) → ¬ (next_at + c ≡ q)) → ((r : ℕ) → r < i → ¬ (r ≡ p) → ¬ (r ≡ q)) → Chained rows after p (i + 1) → (links' : List ℕ) (k' : ℕ) → links' ≡ after → k' ≡ sites_before rows (i + 1) → Backing rows links' (i + 1) k'
  put_in (low, (f, g)) a b C links' k' l e = rw l (record {
    long = length-set three-set (sites_at + i) k ∙ length_three;
    inside = omega arith;
    count = e;
    below = λ r h. below r h (ℕ_discrete r i) (ℕ_discrete r p);
    sites = λ j h. sites low f g j h (ℕ_discrete j i);
  })
    where
      below : (r : ℕ) → r < i + 1 → Dec (r ≡ i) → Dec (r ≡ p) → Chained rows after r (i + 1)
      below r h (yes e) d = rw e (chained-none rows after i at_row)
      below r h (no e) (yes d) = rw d C
      below r h (no e) (no d) = others low f g r (omega arith) d (b r (omega arith) d) (λ c y z. a c y (λ x. d (sym z ∙ x)))

  pub backing-step : (links' : List ℕ) (k' : ℕ) → Slot links (length rows) p q → links' ≡ set (set (set (set links (next_at + i) (get_or links q 0)) q i) i (length rows)) (sites_at + i) k → k' ≡ sites_before rows (i + 1) → Backing rows links' (i + 1) k'
  backing-step links' k' (first e) l z = put_in (first-place e) (λ c a b d. omega (arith, early)) (λ r a b d. b (d ∙ e)) (put_first e) links' k' l z
  backing-step links' k' (second h e) l z = put_in (second-place (get_or links p 0) refl h e) (λ c a b d. b (ap (λ y. (get_or rows y no_row).parent) (same_row c (d ∙ e)) ∙ (h-below (get_or links p 0) refl h e).1.1)) (λ r a b d. omega arith) (put_second (get_or links p 0) refl h e) links' k' l z
    where
      same_row : (c : ℕ) → next_at + c ≡ next_at + get_or links p 0 → c ≡ get_or links p 0
      same_row c d = omega arith

-- the place is in the links
pub slot-low : (rows : List Row) (links : List ℕ) (i k p q : ℕ) → Backing rows links i k → length rows ≤ rows_room → p < i → Slot links (length rows) p q → q < sites_at
slot-low rows links i k p q B few h (first e) = omega (arith, B.inside)
slot-low rows links i k p q B few h (second g e) = omega arith

pub backing-end : (rows : List Row) (links : List ℕ) (i k : ℕ) → length rows ≡ i → Backing rows links i k → Backward rows links
backing-end rows links i k e B = record { long = B.long; below = λ p h. rw e (B.below p (omega arith)); sites = λ j h. B.sites j (omega arith) }
