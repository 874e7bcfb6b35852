-- One entry taken after those that have passed: refused with the refusal list's refusal, or held with them. Assumes nothing.
use Rattle.std.specs.Prelude.{◌≡◌, List, [], ◌∷◌, ◌++◌, ℕ, ◌+◌, ℤ, length, Result, Ok, Err}
use Rattle.std.proofs.Common.{sym, ap, ◌∙◌, arith}
use Rattle.std.proofs.Math.Option.{none, some}
use Rattle.rules.specs.declared.Refusal.{Refusal}
use Rattle.rules.specs.Entries.{Entry}
use Rattle.rules.specs.Refusals.{line_refusal}
use Rattle.checks.specs.declared.Passed.{Passed}
use Rattle.checks.specs.declared.Line.{Line}
use Rattle.entries.specs.Lines.{capped, line_for}
use Rattle.checks.specs.Checks.{checking, check_of, place_at, FewPassed}
use Rattle.entries.specs.Held.{Holds, Grown, Roomy, counted_with}
use Rattle.net.specs.Passing.{accepted-none, refused-some, not-refused, check-same}
use Rattle.net.specs.Cut.{cut_in, cut-refusal}
use Rattle.net.specs.HoldLaws.{accepted-room, held-line}

-- an accepted line has its room, and what has passed with it is few
pub line-room : (rows : List ℕ) (n : Passed) (line : Result Line Refusal) (r : Result (Unit {0}) Refusal) → FewPassed n → r ≡ check_of rows n line → r ≡ Ok tt → Roomy n line × FewPassed (counted_with n line)
line-room rows n line r f e a = accepted-room rows n f line (sym e ∙ a)

module _ (before : List Entry) (types rows : List ℕ) (due : List ℤ) (n : Passed) (h : Holds before types rows due n) (e : Entry) (place : ℕ) (line : Result Line Refusal) (r : Result (Unit {0}) Refusal)
    (place_is : place ≡ place_at n) (line-is : line ≡ line_for place e) (r-is : r ≡ check_of rows n line) where
  here : place ≡ length before + 1
  here = omega (arith, h.lines_counted)

  checked : r ≡ checking (line_refusal before e)
  checked = r-is ∙ ap (check_of rows n) (line-is ∙ ap (λ (k : ℕ). line_for k e) here) ∙ check-same before types rows due n h e

  pub entry-refused : (x : Refusal) → r ≡ Err x → line_refusal before e ≡ some x
  entry-refused x a = refused-some (line_refusal before e) x (sym checked ∙ a)

  pub entry-passed : r ≡ Ok tt → line_refusal before e ≡ none
  entry-passed a = accepted-none (line_refusal before e) (sym checked ∙ a)

  pub entry-held : (types' rows' : List ℕ) (due' : List ℤ) (m : Passed) → r ≡ Ok tt → Grown n line types types' rows rows' due due' → m ≡ counted_with n line
      → Holds (before ++ (e ∷ [])) types' rows' due' m
  entry-held types' rows' due' m a g c =
      rw (c, line-is, here) (held-line before types types' rows rows' due due' n h e (entry-passed a) (rw (line-is, here) at g))

-- ---- the same of a text's line, whose numbers were cut
module _ (before : List Entry) (types rows : List ℕ) (due : List ℤ) (n : Passed) (h : Holds before types rows due n) (e : Entry) (place : ℕ) (line : Result Line Refusal) (r : Result (Unit {0}) Refusal)
    (place_is : place ≡ place_at n) (line-is : line ≡ line_for place (capped e)) (r-is : r ≡ check_of rows n line) where
  pub line_refused : (x : Refusal) → r ≡ Err x → line_refusal before e ≡ some x
  line_refused x a = sym (cut-refusal before e) ∙ entry-refused before types rows due n h (capped e) place line r place_is line-is r-is x a

  line-passed : r ≡ Ok tt → line_refusal before e ≡ none
  line-passed a = sym (cut-refusal before e) ∙ entry-passed before types rows due n h (capped e) place line r place_is line-is r-is a

  uncut : r ≡ Ok tt → capped e ≡ e
  uncut a = cut_in e (not-refused before e (line-passed a)).range_not

  pub line-held : (types' rows' : List ℕ) (due' : List ℤ) (m : Passed) → r ≡ Ok tt → Grown n line types types' rows rows' due due' → m ≡ counted_with n line
      → (line_refusal before e ≡ none) × Holds (before ++ (e ∷ [])) types' rows' due' m
  line-held types' rows' due' m a g c =
      (line-passed a, entry-held before types rows due n h e place line r place_is (line-is ∙ ap (line_for place) (uncut a)) r-is types' rows' due' m a g c)
