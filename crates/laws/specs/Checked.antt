-- What the answer of a check of tables says, by its promise alone: what was refused, or that nothing is. Assumes nothing.
use Rattle.std.specs.Prelude.{◌≡◌, Bool, ◌||◌, ◌<◌, Result, Ok, Err}
use Rattle.std.proofs.Math.Path.{refl}
use Rattle.std.proofs.Common.{ap, ◌∙◌, arith}
use Rattle.std.proofs.Math.Bool.{true, false}
use Rattle.std.proofs.Math.Option.{Option, none, some, some-ne-none, or_else}
use Rattle.rules.specs.declared.Refusal.{Refusal}
use Rattle.rules.specs.declared.Refusal.TheVariants.{Form, Range, Room, Parent, Childless, Mark, Short, NoRow}
use Rattle.rules.specs.Lists.{given_when}
use Rattle.rules.specs.Tables.{Tables, Counts, short_tables, table_entries}
use Rattle.rules.specs.Refusals.{refusal_of, number_of}
use Rattle.rules.specs.Answers.{check_figures, refused, done}
use Rattle.rules.specs.Promises.{Settled, CheckPromise, net_refusal, tabled}
use Rattle.laws.specs.Figures.{check-figures}

-- no area is shorter than its room, and no entry is refused
pub record Passed (t : Tables) (n : Counts) : Type 0 where
  pub long : short_tables t ≡ false
  pub accepted : refusal_of (table_entries t n) ≡ none

-- no refusal has number 0
pub numbered : (r : Refusal) → 0 < number_of r
numbered (Form line) = omega arith
numbered (Range line) = omega arith
numbered (Room line) = omega arith
numbered (Parent line) = omega arith
numbered (Childless line) = omega arith
numbered (Mark line) = omega arith
numbered Short = omega arith
numbered NoRow = omega arith

module _ (t : Tables) (n : Counts) (checked : Result (Unit {0}) Refusal) (p : CheckPromise (tabled t n) checked) where
  -- what the check refused is what the list says
  pub checked-stopped : (r : Refusal) → checked ≡ Err r → net_refusal false (tabled t n) ≡ some r
  unfolding CheckPromise check_figures refused done
  checked-stopped r f = go (net_refusal false (tabled t n)) refl (rw f at p)
    where
      same : (s : Refusal) → check_figures (Err r) ≡ check_figures (Err s) → some s ≡ some r
      same s e = let q = check-figures (Err r) (Err s) e in cc

      go : (o : Option Refusal) → net_refusal false (tabled t n) ≡ o → Settled o (λ s. check_figures (Err r) ≡ refused tt s) (check_figures (Err r) ≡ done tt) → net_refusal false (tabled t n) ≡ some r
      go none g q = absurd (let z : number_of r ≡ 0 = ap (λ v. v.number) q in omega (arith, numbered r))
      go (some s) g q = g ∙ same s q

  -- what it accepted is not refused
  pub checked-passed : checked ≡ Ok tt → Passed t n
  unfolding CheckPromise check_figures refused done net_refusal refusal_of or_else
  checked-passed f = go (net_refusal false (tabled t n)) refl (rw f at p)
    where
      passes : (b : Bool) → or_else (given_when (b || false) Short) (refusal_of (table_entries t n)) ≡ none → (b ≡ false) × (refusal_of (table_entries t n) ≡ none)
      passes true e = absurd (some-ne-none Short e)
      passes false e = (refl, e)

      go : (o : Option Refusal) → net_refusal false (tabled t n) ≡ o → Settled o (λ s. check_figures (Ok tt) ≡ refused tt s) (check_figures (Ok tt) ≡ done tt) → Passed t n
      go (some s) g q = absurd (let z : 0 ≡ number_of s = ap (λ v. v.number) q in omega (arith, numbered s))
      go none g q = let (a, b) = passes (short_tables t) g in record { long = a; accepted = b }

-- ---- with a short area of the entry's own
pub short-own : (t : Tables) (n : Counts) → net_refusal true (tabled t n) ≡ some Short
unfolding net_refusal or_else
short-own t n = go (short_tables t)
  where
    go : (b : Bool) → or_else (given_when (b || true) Short) (refusal_of (table_entries t n)) ≡ some Short
    go true = refl
    go false = refl

pub passed-own : (t : Tables) (n : Counts) → Passed t n → net_refusal false (tabled t n) ≡ none
unfolding net_refusal or_else
passed-own t n P = rw (P.long, P.accepted)
