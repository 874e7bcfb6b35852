-- The sites of a net in row order: how many come before a row, and the row of a site. Assumes nothing.
use Rattle.std.specs.Prelude.{◌≡◌, refl, Bool, true, false, List, [], ◌∷◌, ℕ, zero, suc, ◌+◌, ◌≤◌, ◌<◌, length, get_or, take}
use Rattle.std.proofs.Common.{ap, ◌∙◌, arith}
use Rattle.rules.specs.declared.Row.{Row}
use Rattle.rules.specs.Entries.{site_count, sites_of}
use Rattle.rules.specs.Placements.{row_of_site}
use Rattle.laws.specs.Walk.{no_row, sites_before, sites_before-step}

sites-take : (i : ℕ) (net : List Row) → sites_of (take i net) ≤ sites_of net
unfolding sites_of
sites-take zero net = omega arith
sites-take (suc i) [] = omega arith
sites-take (suc i) (x ∷ net) = omega (arith, sites-take i net)

take_all : (i : ℕ) (net : List Row) → length net ≤ i → sites_of (take i net) ≡ sites_of net
unfolding sites_of
take_all zero [] h = refl
take_all zero (x ∷ net) h = absurd (omega arith)
take_all (suc i) [] h = refl
take_all (suc i) (x ∷ net) h = ap (λ n. site_count x.site + n) (take_all i net (omega arith))

pub before-few : (net : List Row) (i : ℕ) → sites_before net i ≤ sites_of net
unfolding sites_before
before-few net i = sites-take i net

pub before-all : (net : List Row) (i : ℕ) → length net ≤ i → sites_before net i ≡ sites_of net
unfolding sites_before
before-all net i h = take_all i net h

-- a row with a site has one of the net's
pub site-number : (net : List Row) (i : ℕ) → i < length net → (get_or net i no_row).site ≡ true → sites_before net i < sites_of net
site-number net i h e =
    let s : sites_before net (i + 1) ≡ sites_before net i + 1 = sites_before-step net i h ∙ ap (λ b. sites_before net i + site_count b) e in
    omega (arith, before-few net (i + 1))

-- past a row, the number of a site is counted on from that row's
past_row : (r : ℕ) (x : Row) (net : List Row) (j : ℕ) → row_of_site r (x ∷ net) (site_count x.site + j) ≡ row_of_site (r + 1) net j
unfolding row_of_site
past_row r x net j = go x.site j
  where
    go : (b : Bool) (j : ℕ) → row_of_site r (record { parent = x.parent; resistance = x.resistance; capacitance = x.capacitance; site = b; kind = x.kind } ∷ net) (site_count b + j) ≡ row_of_site (r + 1) net j
    go true j = let z : 1 + j ≡ suc j = omega arith in rw z
    go false zero = refl
    go false (suc j) = let z : 0 + suc j ≡ suc j = omega arith in rw z

first-row : (r : ℕ) (x : Row) (net : List Row) → x.site ≡ true → row_of_site r (x ∷ net) 0 ≡ r + 0
unfolding row_of_site
first-row r x net e = rw e (omega arith)

row_from : (r : ℕ) (net : List Row) (i : ℕ) → i < length net → (get_or net i no_row).site ≡ true → row_of_site r net (sites_of (take i net)) ≡ r + i
unfolding sites_of
row_from r [] i h e = absurd (omega arith)
row_from r (x ∷ net) zero h e = first-row r x net e
row_from r (x ∷ net) (suc i) h e = past_row r x net (sites_of (take i net)) ∙ row_from (r + 1) net i (omega arith) e ∙ (let z : r + 1 + i ≡ r + suc i = omega arith in z)

-- the row of the site that a row has
pub site-row : (net : List Row) (i : ℕ) → i < length net → (get_or net i no_row).site ≡ true → row_of_site 0 net (sites_before net i) ≡ i
unfolding sites_before
site-row net i h e = row_from 0 net i h e ∙ (let z : 0 + i ≡ i = omega arith in z)
