-- Refusal 6 as the code finds it: the rows in their order, and so the sites in theirs, then the marks past the last site. Assumes
-- nothing.
use Rattle.std.specs.Prelude.{◌≡◌, Bool, true, false, List, ltb, ℤ, length, get_or, Result, Ok, Err}
use Rattle.std.proofs.Math.Path.{refl, sym}
use Rattle.std.proofs.Common.{ap, ◌∙◌, lt-ltb, le-ltb}
use Rattle.std.proofs.lemmas.Bool.{false≢true}
use Rattle.std.proofs.Math.Option.{none, some, or_else}
use Prim.Native.Nat.{ℕ, suc, ◌+◌, ◌-◌, ◌≤◌, ◌<◌}
use native.Mathlib.Omega.{arith}
use Rattle.rules.specs.declared.Refusal.{Refusal}
use Rattle.rules.specs.declared.Refusal.TheVariants.{Mark}
use Rattle.rules.specs.declared.Row.{Row}
use Rattle.rules.specs.Lists.{given_when}
use Rattle.rules.specs.Quantities.{types_room, sites_room, placement_room}
use Rattle.rules.specs.Entries.{Entry, site_count, types_of, rows_of, sites_of}
use Rattle.rules.specs.Refusals.{line_of_row}
use Rattle.rules.specs.Placements.{Placement, marks, mark_refusal, marks_from, placement_refusal}
use Rattle.laws.specs.Tabled.{row_at, rows_from, rows-length}
use Rattle.laws.specs.Walk.{no_row, sites_before, sites_before-zero}
use Rattle.net.specs.TableSteps.{checking}
use Rattle.rows.specs.Links.{Standing, row_is, count_next}
use Rattle.slack.specs.Sites.{before-few, before-all, site-number, site-row}

-- a site is marked with a type the net hasn't
abbrev pub over_mark : (has_site : Bool) (types mark : ℕ) → Bool
over_mark true types mark = ltb types mark
over_mark false types mark = false

-- ---- one mark after the other
module _ (es : List Entry) (p : Placement) where
  marks-step : (j : ℕ) → j < sites_room → marks_from es p j (sites_room - j) ≡ or_else (mark_refusal es p j) (marks_from es p (j + 1) (sites_room - (j + 1)))
  unfolding marks_from
  marks-step j h = let z : sites_room - j ≡ suc (sites_room - (j + 1)) = omega arith in rw z

  -- a mark that is refused stops it, any other lets it go on; past the last mark nothing is refused
  pub marks-stop : (j : ℕ) {r : Refusal} → j < sites_room → mark_refusal es p j ≡ some r → marks_from es p j (sites_room - j) ≡ some r
  unfolding or_else
  marks-stop j h e = marks-step j h ∙ rw e

  pub marks-pass : (j : ℕ) → j < sites_room → mark_refusal es p j ≡ none → marks_from es p j (sites_room - j) ≡ marks_from es p (j + 1) (sites_room - (j + 1))
  unfolding or_else
  marks-pass j h e = marks-step j h ∙ rw e

  pub marks-end : (j : ℕ) → sites_room ≤ j → marks_from es p j (sites_room - j) ≡ none
  unfolding marks_from
  marks-end j h = let z : sites_room - j ≡ 0 = omega arith in rw z

  -- past the last site
  pub mark-past : (j : ℕ) → sites_of (rows_of es) ≤ j → mark_refusal es p j ≡ given_when (ltb 0 (p j)) (Mark 0)
  unfolding mark_refusal
  mark-past j h = rw (le-ltb j (sites_of (rows_of es)) h)

  -- at the site of a row
  pub mark-at : (i j : ℕ) → i < length (rows_of es) → (get_or (rows_of es) i no_row).site ≡ true → j ≡ sites_before (rows_of es) i → mark_refusal es p j ≡ given_when (ltb (length (types_of es)) (p j)) (Mark (length (types_of es) + i + 1))
  unfolding mark_refusal line_of_row
  mark-at i j h s e = rw (lt-ltb j (sites_of (rows_of es)) (rw e (site-number (rows_of es) i h s))) (rw e (rw (site-row (rows_of es) i h s)))

-- ---- the marks past the last site
-- those before j have passed
pub record PastFrom (words : List ℕ) (from j : ℕ) : Type 0 where
  pub on : from ≤ j
  pub inside : j ≤ sites_room
  pub left : (es : List Entry) → sites_of (rows_of es) ≤ from → marks_from es (marks words) from (sites_room - from) ≡ marks_from es (marks words) j (sites_room - j)

-- from the first; a mark stops it, none lets it go on; past the last mark nothing is refused
pub past-start : {words : List ℕ} {from : ℕ} → from ≤ sites_room → PastFrom words from from
past-start h = record { on = omega arith; inside = h; left = λ es n. refl }

module _ {words : List ℕ} {from j mark : ℕ} (P : PastFrom words from j) (mark-is : mark ≡ marks words j) where
  pub past_stop : j < sites_room → 0 < mark → (es : List Entry) → sites_of (rows_of es) ≤ from → Err (Mark 0) ≡ checking (marks_from es (marks words) from (sites_room - from))
  past_stop h g es n = ap checking (sym (P.left es n ∙ marks-stop es (marks words) j h (mark-past es (marks words) j (omega (arith, P.on)) ∙ rw (lt-ltb 0 (marks words j) (rw mark-is at g)))))

  pub past-pass : j < sites_room → mark ≤ 0 → PastFrom words from (j + 1)
  past-pass h g = record {
    on = omega (arith, P.on);
    inside = omega arith;
    left = λ es n. P.left es n ∙ marks-pass es (marks words) j h (mark-past es (marks words) j (omega (arith, P.on)) ∙ rw (le-ltb 0 (marks words j) (rw mark-is at g)));
  }

pub past_end : {words : List ℕ} {from j : ℕ} → PastFrom words from j → sites_room ≤ j → (es : List Entry) → sites_of (rows_of es) ≤ from → Ok tt ≡ checking (marks_from es (marks words) from (sites_room - from))
past_end {words} {from} {j} P h es n = ap checking (sym (P.left es n ∙ marks-end es (marks words) j h))

-- ---- the rows in their order
-- the entries have the rows of the words, and as many types
pub record NetOf (rows : List ℕ) (due : List ℤ) (types n : ℕ) (es : List Entry) : Type 0 where
  pub types_are : length (types_of es) ≡ types
  pub rows_are : rows_of es ≡ rows_from rows due 0 n

-- rows and words as they are gone through
pub record Marking (rows : List ℕ) (due : List ℤ) (types n : ℕ) (words : List ℕ) : Type 0 where
  pub standing : Standing rows due n
  pub types_few : types ≤ types_room
  pub sites_few : sites_of (rows_from rows due 0 n) ≤ sites_room
  pub words_long : placement_room ≤ length words

-- the rows before i have passed; k is the number of the next site
pub record Passed (rows : List ℕ) (due : List ℤ) (types n : ℕ) (words : List ℕ) (i k : ℕ) : Type 0 where
  pub inside : i ≤ n
  pub sites : k ≡ sites_before (rows_from rows due 0 n) i
  pub left : (es : List Entry) → NetOf rows due types n es → placement_refusal es (marks words) ≡ marks_from es (marks words) k (sites_room - k)

module _ {rows : List ℕ} {due : List ℤ} {types n : ℕ} {words : List ℕ} (M : Marking rows due types n words) where
  abbrev net : List Row
  net = rows_from rows due 0 n

  -- from the first row
  pub passed_start : Passed rows due types n words 0 0
  unfolding placement_refusal
  passed_start = record { inside = omega arith; sites = sym (sites_before-zero net); left = λ es N. refl }

  -- the sites of the rows that have passed are in their room
  pub sites-room : {i k : ℕ} → Passed rows due types n words i k → k ≤ sites_room
  sites-room {i} P = omega (arith, P.sites, M.sites_few, before-few net i)

  -- all rows have passed: the marks that are left are past the last site
  pub passed-all : {i k : ℕ} {r : Result (Unit {0}) Refusal} → Passed rows due types n words i k → n ≤ i
      → ((es : List Entry) → sites_of (rows_of es) ≤ k → r ≡ checking (marks_from es (marks words) k (sites_room - k)))
      → (es : List Entry) → NetOf rows due types n es → r ≡ checking (placement_refusal es (marks words))
  passed-all {i} {k} P h past es N = rw (P.left es N) (past es (rw N.rows_are (omega (arith, P.sites, before-all net i (rw rows-length h)))))

  module _ {i k : ℕ} {x : Row} (P : Passed rows due types n words i k) (h : i < n) (x-is : x ≡ row_at rows due i) where
    here : get_or net i no_row ≡ x
    here = row_is rows due n i x h x-is

    -- the site of a row is one of the net's
    pub site-inside : x.site ≡ true → k < sites_room
    site-inside s = omega (arith, P.sites, M.sites_few, site-number net i (rw rows-length h) (rw here s))

    at_row : (es : List Entry) → NetOf rows due types n es → x.site ≡ true → mark_refusal es (marks words) k ≡ given_when (ltb types (marks words k)) (Mark (types + i + 1))
    at_row es N s = rw N.types_are at (mark-at es (marks words) i k (rw (N.rows_are, rows-length) h) (rw (N.rows_are, here) s) (P.sites ∙ rw N.rows_are))

    -- a mark above the net's types stops it, with the row's line
    pub row-stop : over_mark x.site types (marks words k) ≡ true → {line : ℕ} → line ≡ types + i + 1 → (es : List Entry) → NetOf rows due types n es → Err (Mark line) ≡ checking (placement_refusal es (marks words))
    row-stop o e es N = rw e (ap checking (sym (go x.site refl o)))
      where
        go : (b : Bool) → x.site ≡ b → over_mark b types (marks words k) ≡ true → placement_refusal es (marks words) ≡ some (Mark (types + i + 1))
        go true s o = P.left es N ∙ marks-stop es (marks words) k (site-inside s) (at_row es N s ∙ rw o)
        go false s o = absurd (false≢true o)

    -- any other lets it go on
    pub row-pass : {k' : ℕ} → over_mark x.site types (marks words k) ≡ false → k' ≡ k + site_count x.site → Passed rows due types n words (i + 1) k'
    row-pass {k'} o e = record {
      inside = omega arith;
      sites = count_next rows due n i k x k' h P.sites x-is e;
      left = λ es N. P.left es N ∙ go es N x.site refl o e;
    }
      where
        go : (es : List Entry) → NetOf rows due types n es → (b : Bool) → x.site ≡ b → over_mark b types (marks words k) ≡ false → k' ≡ k + site_count b → marks_from es (marks words) k (sites_room - k) ≡ marks_from es (marks words) k' (sites_room - k')
        go es N true s o e = marks-pass es (marks words) k (site-inside s) (at_row es N s ∙ rw o) ∙ rw e
        go es N false s o e = let z : k' ≡ k = omega arith in rw z
