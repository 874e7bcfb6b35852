-- A placement: a mark for each site, 0 for none or the number of a type; and four 64-bit words that stand for one. Assumes nothing.
use Rattle.std.specs.Prelude.{cond, List, [], ◌∷◌, ℕ, zero, suc, ◌+◌, ◌*◌, ◌/◌, ◌%◌, ◌^◌, ltb, length, get_or, take}
use Rattle.std.proofs.Math.Option.{Option, none, or_else}
use Rattle.rules.specs.declared.Refusal.{Refusal}
use Rattle.rules.specs.declared.Refusal.TheVariants.{Mark}
use Rattle.rules.specs.declared.Row.{Row}
use Rattle.rules.specs.Lists.{given_when}
use Rattle.rules.specs.Quantities.{placement_room, sites_room}
use Rattle.rules.specs.Entries.{Entry, types_of, rows_of, sites_of}
use Rattle.rules.specs.Refusals.{line_of_row}

abbrev pub Placement : Type 0
Placement = ℕ → ℕ

-- the mark at place i of a word: four bits, from bit 4 × i on
unfoldable pub mark_in : (word i : ℕ) → ℕ
mark_in word i = word / 2 ^ (4 * i) % 2 ^ 4

-- site j stands at bit 4 × (j mod 16) of word j / 16. Of a longer area the part beyond is not read
unfoldable pub marks : List ℕ → Placement
marks words j = mark_in (get_or (take placement_room words) (j / 16) 0) (j % 16)

-- sites are numbered from 0 in row order: the row of site j, of the rows from number r on
unfoldable pub row_of_site : (r : ℕ) → List Row → (j : ℕ) → ℕ
row_of_site r [] j = 0
row_of_site r (x ∷ rows) zero = cond x.site r (row_of_site (r + 1) rows zero)
row_of_site r (x ∷ rows) (suc j) = row_of_site (r + 1) rows (cond x.site j (suc j))

-- 6, at one site: a type the net hasn't, with the line of the row; or any mark past the last site, with 0
unfoldable pub mark_refusal : List Entry → Placement → (j : ℕ) → Option Refusal
mark_refusal es p j =
    cond (ltb j (sites_of (rows_of es)))
    (given_when (ltb (length (types_of es)) (p j)) (Mark (line_of_row es (row_of_site 0 (rows_of es) j))))
    (given_when (ltb 0 (p j)) (Mark 0))

-- 6: the lowest site first, of n sites from j on
unfoldable pub marks_from : List Entry → Placement → (j n : ℕ) → Option Refusal
marks_from es p j zero = none
marks_from es p j (suc n) = or_else (mark_refusal es p j) (marks_from es p (j + 1) n)

unfoldable pub placement_refusal : List Entry → Placement → Option Refusal
placement_refusal es p = marks_from es p 0 sites_room
