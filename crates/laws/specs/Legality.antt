-- A placement is legal on an accepted net when refusal 6 does not apply to it. Assumes nothing.
use Rattle.std.specs.Prelude.{◌≡◌, List, ◌↔◌, ltb, get_or, take}
use Rattle.std.proofs.Math.Path.{refl}
use Rattle.std.proofs.Common.{sym, ◌∙◌, arith, lt→ltb, length-take}
use Rattle.std.proofs.Math.Option.{none, some}
use Prim.Native.Nat.{ℕ, zero, suc, ◌+◌, ◌/◌, ◌≤◌, ◌<◌}
use Rattle.std.proofs.Math.Nat.{zero-div}
use Rattle.std.proofs.Math.Decide.{ℕ_discrete, dec_lt}
use Rattle.std.proofs.Math.Dec.{nltb→le}
use Rattle.std.proofs.Math.ListN.{length, get_or-eq_default}
use Rattle.rules.specs.Quantities.{sites_room, placement_room}
use Rattle.rules.specs.Entries.{Entry, types_of, rows_of, sites_of}
use Rattle.rules.specs.Placements.{Placement, mark_in, marks, mark_refusal, marks_from, placement_refusal}
use Rattle.rules.specs.Net.{Tree, at_row}
use Rattle.rules.specs.Pairs.{On, Legal}
use Rattle.laws.specs.Tests.{no_more, cond_yes, cond_no, passed, none_both, none-either}
use Rattle.laws.specs.Accepted.{Accepted}
use Rattle.laws.specs.Whole.{driver-sites}

-- a site's mark is a type that there is, and nothing past the last site
record Marked (types sites j mark : ℕ) : Type 0 where
  known : j < sites → mark ≤ types
  past : sites ≤ j → mark ≡ 0

module _ (es : List Entry) (p : Placement) where
  abbrev MarkOk : ℕ → Type 0
  MarkOk j = Marked (length (types_of es)) (sites_of (rows_of es)) j (p j)

  mark-ok : (j : ℕ) → mark_refusal es p j ≡ none → MarkOk j
  unfolding mark_refusal
  mark-ok j e = record {
    known = λ h. nltb→le (length (types_of es)) (p j) (passed (ltb (length (types_of es)) (p j)) _ (sym (cond_yes (ltb j (sites_of (rows_of es))) _ _ (lt→ltb j (sites_of (rows_of es)) h)) ∙ e));
    past = λ h. omega (arith, nltb→le 0 (p j) (passed (ltb 0 (p j)) _ (sym (cond_no (ltb j (sites_of (rows_of es))) _ _ (no_more j (sites_of (rows_of es)) h)) ∙ e)));
  }

  ok-mark : (j : ℕ) → MarkOk j → mark_refusal es p j ≡ none
  unfolding mark_refusal
  ok-mark j m = go (dec_lt j (sites_of (rows_of es)))
    where
      go : Dec (j < sites_of (rows_of es)) → mark_refusal es p j ≡ none
      go (yes h) = cond_yes (ltb j (sites_of (rows_of es))) _ _ (lt→ltb j (sites_of (rows_of es)) h) ∙ cond_no (ltb (length (types_of es)) (p j)) _ _ (no_more (length (types_of es)) (p j) (m.known h))
      go (no h) = cond_no (ltb j (sites_of (rows_of es))) _ _ (no_more j (sites_of (rows_of es)) (omega arith)) ∙ cond_no (ltb 0 (p j)) _ _ (no_more 0 (p j) (omega (arith, m.past (omega arith))))

  marks-ok : (j n : ℕ) → marks_from es p j n ≡ none → (i : ℕ) → j ≤ i → i < j + n → MarkOk i
  unfolding marks_from
  marks-ok j zero e i h k = absurd (omega arith)
  marks-ok j (suc n) e i h k =
      let (a, b) = none_both (mark_refusal es p j) _ e in
      go (ℕ_discrete j i) (mark-ok j a) (λ h k. marks-ok (j + 1) n b i h k)
    where
      go : Dec (j ≡ i) → MarkOk j → (j + 1 ≤ i → i < j + 1 + n → MarkOk i) → MarkOk i
      go (yes z) m ih = rw z at m
      go (no z) m ih = ih (omega arith) (omega arith)

  ok-marks : ((i : ℕ) → MarkOk i) → (j n : ℕ) → marks_from es p j n ≡ none
  unfolding marks_from
  ok-marks m j zero = refl
  ok-marks m j (suc n) = none-either (ok-mark j (m j)) (ok-marks m (j + 1) n)

  -- a placement with no mark from site 64 on is legal at the driver when it is not refused, and only then
  pub legality : Accepted (types_of es) (rows_of es) → (t : Tree) → at_row (rows_of es) 0 ≡ some t → ((j : ℕ) → sites_room ≤ j → p j ≡ 0) → (placement_refusal es p ≡ none) ↔ Legal (types_of es) t p
  unfolding placement_refusal
  legality ok t e past = (λ h. record { known = λ j. known h j (dec_lt j sites_room); only = λ j o. only h j o (dec_lt j sites_room) }, λ l. ok-marks (marked l) 0 sites_room)
    where
      known : marks_from es p 0 sites_room ≡ none → (j : ℕ) → Dec (j < sites_room) → p j ≤ length (types_of es)
      known h j (yes a) = go (marks-ok 0 sites_room h j (omega arith) (omega arith)) (dec_lt j (sites_of (rows_of es)))
        where
          go : MarkOk j → Dec (j < sites_of (rows_of es)) → p j ≤ length (types_of es)
          go m (yes b) = m.known b
          go m (no b) = omega (arith, m.past (omega arith))
      known h j (no a) = omega (arith, past j (omega arith))

      only : marks_from es p 0 sites_room ≡ none → (j : ℕ) → ¬ (On t j) → Dec (j < sites_room) → p j ≡ 0
      only h j o (yes a) = (marks-ok 0 sites_room h j (omega arith) (omega arith)).past (off j o)
        where
          off : (j : ℕ) → ¬ (On t j) → sites_of (rows_of es) ≤ j
          off j o = go (dec_lt j (sites_of (rows_of es)))
            where
              go : Dec (j < sites_of (rows_of es)) → sites_of (rows_of es) ≤ j
              go (yes b) = absurd (o ((driver-sites ok t e j).1 b))
              go (no b) = omega arith
      only h j o (no a) = past j (omega arith)

      marked : Legal (types_of es) t p → (j : ℕ) → MarkOk j
      marked l j = record { known = λ h. l.known j; past = λ h. l.only j (λ o. omega (arith, (driver-sites ok t e j).0 o)) }

-- four words mark no site from 64 on
pub marks-past : (words : List ℕ) (j : ℕ) → sites_room ≤ j → marks words j ≡ 0
unfolding marks mark_in
marks-past words j h =
    let e : get_or (take placement_room words) (j / 16) 0 ≡ 0 = get_or-eq_default (take placement_room words) 0 (omega (arith, length-take placement_room words)) in
    rw (e, zero-div)

-- the placement that four words stand for is legal at the driver when it is not refused, and only then
pub marks-legality : (es : List Entry) (words : List ℕ) → Accepted (types_of es) (rows_of es) → (t : Tree) → at_row (rows_of es) 0 ≡ some t → (placement_refusal es (marks words) ≡ none) ↔ Legal (types_of es) t (marks words)
marks-legality es words ok t e = legality es (marks words) ok t e (marks-past words)
