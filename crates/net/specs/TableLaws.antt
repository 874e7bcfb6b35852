-- The entries of a table one by one: entries counted, taken after those that have passed, the first past the room. Assumes nothing.
use Rattle.std.specs.Prelude.{◌≡◌, refl, cond, ltb, length, Result, Ok, Err}
use Rattle.std.proofs.Math.Path.{ap}
use Rattle.std.proofs.Common.{◌∙◌}
use mathlib.Core.List.{List, [], ◌∷◌, ◌++◌, append_assoc, append-nil}
use Rattle.std.proofs.Math.Option.{none, some, or_else}
use Prim.Native.Nat.{ℕ, zero, suc, ◌+◌, ◌-◌, ◌≤◌, ◌<◌, min}
use native.Mathlib.Omega.{arith}
use borrow.Author.Tests.{lt-ltb, le-ltb}
use Rattle.rules.specs.declared.Refusal.{Refusal}
use Rattle.rules.specs.declared.Refusal.TheVariants.{Room}
use Rattle.rules.specs.Entries.{Entry, beyond}
use Rattle.rules.specs.Tables.{Tables, from, counted}
use Rattle.rules.specs.Refusals.{line_refusal, last_refusal, first_refusal, misplaced, out_of_range, too_many}
use Rattle.checks.specs.declared.Passed.{Passed}
use Rattle.checks.specs.declared.Line.{Line}
use Rattle.entries.specs.Lines.{line_for}
use Rattle.checks.specs.Checks.{check_of, place_at}
use Rattle.entries.specs.Held.{Holds, Grown, counted_with}
use Rattle.ending.specs.Below.{Finished}
use Rattle.net.specs.Steps.{AllAfter}
use Rattle.net.specs.TableSteps.{Through}
use Rattle.net.specs.ReadLaws.{all-passed, last-is}
use Rattle.net.specs.Passing.{first-refused, first-passed}
use Rattle.net.specs.Taking.{entry-refused, entry-passed, entry-held}

-- ---- entries counted
from-split : (entry : ℕ → Entry) (i a b : ℕ) → from entry i (a + b) ≡ from entry i a ++ from entry (i + a) b
unfolding from
from-split entry i zero b =
    let e : zero + b ≡ b = omega arith in
    let f : i + zero ≡ i = omega arith in
    rw (e, f)
from-split entry i (suc a) b =
    let e : suc a + b ≡ suc (a + b) = omega arith in
    let f : i + 1 + a ≡ i + suc a = omega arith in
    rw e (ap (λ (l : List Entry). entry i ∷ l) (from-split entry (i + 1) a b ∙ ap (λ (k : ℕ). from entry (i + 1) a ++ from entry k b) f))

pub from_more : (entry : ℕ → Entry) (i : ℕ) → from entry 0 (i + 1) ≡ from entry 0 i ++ (entry i ∷ [])
unfolding from
from_more entry i =
    let f : 0 + i ≡ i = omega arith in
    from-split entry 0 i 1 ∙ rw f

module _ (entry : ℕ → Entry) (room count i : ℕ) where
  -- one that is read
  counted-at : (rest : List Entry) → i < min count room
      → counted entry room count ++ rest ≡ from entry 0 i ++ (entry i ∷ (from entry (i + 1) (min count room - (i + 1)) ++ (cond (ltb room count) (beyond ∷ []) [] ++ rest)))
  unfolding counted from
  counted-at rest h =
      let k = min count room - (i + 1) in
      let e : min count room ≡ i + suc k = omega arith in
      let f : 0 + i ≡ i = omega arith in
      let g : from entry 0 (min count room) ≡ from entry 0 i ++ from entry i (suc k) = ap (from entry 0) e ∙ from-split entry 0 i (suc k) ∙ ap (λ (j : ℕ). from entry 0 i ++ from entry j (suc k)) f in
      rw g (append_assoc (from entry 0 i ++ from entry i (suc k)) (cond (ltb room count) (beyond ∷ []) []) rest
      ∙ append_assoc (from entry 0 i) (from entry i (suc k)) (cond (ltb room count) (beyond ∷ []) [] ++ rest))

  -- all are read, and one is counted past the room, or none
  counted-over : i ≡ min count room → room < count → counted entry room count ≡ from entry 0 i ++ (beyond ∷ [])
  unfolding counted
  counted-over e h = rw (e, lt-ltb room count h)

  counted-all : i ≡ min count room → count ≤ room → counted entry room count ≡ from entry 0 i
  unfolding counted
  counted-all e h = rw (e, le-ltb room count h) (append-nil (from entry 0 (min count room)))

-- ---- nothing yet, and one entry more
pub through-none : (t : Tables) (before : List Entry) (n : Passed) → Holds before t.types t.rows t.due n → Through t before [] n
through-none t before n h = record { held = rw (append-nil before) h; first = λ rest. rw (append-nil before) }

module _ (t : Tables) (before es : List Entry) (n : Passed) (s : Through t before es n) (e : Entry) where
  pub through-refused : (x : Refusal) (rest : List Entry) → line_refusal (before ++ es) e ≡ some x → first_refusal before (es ++ (e ∷ rest)) ≡ some x
  through-refused x rest h = s.first (e ∷ rest) ∙ first-refused (before ++ es) e rest x h

  pub through-more : (m : Passed) → line_refusal (before ++ es) e ≡ none → Holds ((before ++ es) ++ (e ∷ [])) t.types t.rows t.due m → Through t before (es ++ (e ∷ [])) m
  through-more m h g =
      let a = append_assoc before es (e ∷ []) in
      record {
        held = rw a at g;
        first = λ rest. ap (first_refusal before) (append_assoc es (e ∷ []) rest) ∙ s.first (e ∷ rest) ∙ first-passed (before ++ es) e rest h ∙ ap (λ (l : List Entry). first_refusal l rest) a;
      }

-- ---- an entry of the table
module _ (t : Tables) (entry : ℕ → Entry) (before : List Entry) (i : ℕ) (n : Passed) (s : Through t before (from entry 0 i) n) (place : ℕ) (line : Result Line Refusal) (r : Result (Unit {0}) Refusal)
    (place_is : place ≡ place_at n) (line-is : line ≡ line_for place (entry i)) (r-is : r ≡ check_of t.rows n line) where
  refused-here : (x : Refusal) → r ≡ Err x → line_refusal (before ++ from entry 0 i) (entry i) ≡ some x
  refused-here x a = entry-refused (before ++ from entry 0 i) t.types t.rows t.due n s.held (entry i) place line r place_is line-is r-is x a

  pub take-refused : (room count : ℕ) (x : Refusal) → i < min count room → r ≡ Err x → (rest : List Entry) → first_refusal before (counted entry room count ++ rest) ≡ some x
  take-refused room count x h a rest =
      ap (first_refusal before) (counted-at entry room count i rest h)
      ∙ through-refused t before (from entry 0 i) n s (entry i) x (from entry (i + 1) (min count room - (i + 1)) ++ (cond (ltb room count) (beyond ∷ []) [] ++ rest)) (refused-here x a)

  pub take-refused-all : (room count : ℕ) (x : Refusal) → i < min count room → r ≡ Err x → first_refusal before (counted entry room count) ≡ some x
  take-refused-all room count x h a = rw (append-nil (counted entry room count)) at (take-refused room count x h a [])

  pub take_more : (m : Passed) → r ≡ Ok tt → Grown n line t.types t.types t.rows t.rows t.due t.due → m ≡ counted_with n line → Through t before (from entry 0 (i + 1)) m
  take_more m a g c =
      rw (from_more entry i) (through-more t before (from entry 0 i) n s (entry i) m
      (entry-passed (before ++ from entry 0 i) t.types t.rows t.due n s.held (entry i) place line r place_is line-is r-is a)
      (entry-held (before ++ from entry 0 i) t.types t.rows t.due n s.held (entry i) place line r place_is line-is r-is t.types t.rows t.due m a g c))

-- ---- past the last that is read
beyond-refused : (before : List Entry) (place : ℕ) → place ≡ length before + 1 → line_refusal before beyond ≡ some (Room place)
unfolding line_refusal misplaced out_of_range too_many or_else
beyond-refused before place e = rw e

module _ (t : Tables) (entry : ℕ → Entry) (before : List Entry) (room count i : ℕ) (n : Passed) (s : Through t before (from entry 0 i) n) (all : i ≡ min count room) where
  pub take_beyond : (place : ℕ) → place ≡ place_at n → room < count → (rest : List Entry) → first_refusal before (counted entry room count ++ rest) ≡ some (Room place)
  take_beyond place p h rest =
      let here : place ≡ length (before ++ from entry 0 i) + 1 = omega (arith, s.held.lines_counted) in
      ap (λ (l : List Entry). first_refusal before (l ++ rest)) (counted-over entry room count i all h)
      ∙ ap (first_refusal before) (append_assoc (from entry 0 i) (beyond ∷ []) rest)
      ∙ through-refused t before (from entry 0 i) n s beyond (Room place) rest (beyond-refused (before ++ from entry 0 i) place here)

  pub take_all : count ≤ room → Through t before (counted entry room count) n
  take_all h = rw (counted-all entry room count i all h) s

  pub take-beyond-all : (place : ℕ) → place ≡ place_at n → room < count → first_refusal before (counted entry room count) ≡ some (Room place)
  take-beyond-all place p h = rw (append-nil (counted entry room count)) at (take_beyond place p h [])

  -- all have passed: what the checks after the last line give
  pub take_done : count ≤ room → (r : Result Passed Refusal) → Finished t.rows n r → AllAfter before (counted entry room count) r t.types t.rows t.due
  take_done h r f =
      let u = take_all h in
      all-passed before (before ++ counted entry room count) (counted entry room count) (last_refusal (before ++ counted entry room count)) r t.types t.rows t.due n
      (rw (append-nil (counted entry room count)) at (u.first []) ∙ last-is (before ++ counted entry room count)) refl u.held
      (f (before ++ counted entry room count) t.types t.due u.held)
