-- What hangs under all the rows before one, added up: a measure of trees that adds up at branches comes to no more than what the
-- rows put to it, each once, whatever their order. Assumes nothing.
use Rattle.std.specs.Prelude.{◌≡◌, Bool, true, false, cond, not, ◌≢◌, T, eqb, ℤ, length}
use Rattle.std.proofs.Common.{sym, add-one}
use mathlib.Core.List.{List, [], ◌∷◌}
use Rattle.std.proofs.Math.Option.{Option, none, some}
use Prim.Native.Nat.{ℕ, zero, suc, ◌+◌, ◌*◌, ◌≤◌, ◌<◌}
use native.Mathlib.Omega.{arith}
use Rattle.std.proofs.Math.Decide.{ℕ_discrete}
use Rattle.rules.specs.declared.Kind.{Kind}
use Rattle.rules.specs.declared.Kind.TheVariants.{Driver, Point, Sink}
use Rattle.rules.specs.declared.Row.{Row}
use Rattle.rules.specs.Entries.{site_count, sites_of}
use Rattle.rules.specs.Net.{Wire, Tree, sink, site, wire, both, wire_of, sited, seen, wired, beside, hangs}
use Rattle.rules.specs.Pairs.{sites_on}
use Rattle.laws.specs.Tests.{other}
use Rattle.laws.specs.Ranges.{weight, stages}
use Rattle.laws.specs.Hanging.{hung}

-- ---- sums
unfoldable pub sum_to : (ℕ → ℕ) → ℕ → ℕ
sum_to f zero = 0
sum_to f (suc n) = f n + sum_to f n

-- each is no more than all
pub one_of : (f : ℕ → ℕ) (n r : ℕ) → r < n → f r ≤ sum_to f n
unfolding sum_to
one_of f zero r h = absurd (omega arith)
one_of f (suc n) r h = go (ℕ_discrete r n) (one_of f n r)
  where
    go : Dec (r ≡ n) → (r < n → f r ≤ sum_to f n) → f r ≤ f n + sum_to f n
    go (yes e) ih = rw e (omega arith)
    go (no e) ih = omega (arith, ih (omega arith))

-- g is no more than f but at p, and there by no more than m
module _ (f g : ℕ → ℕ) (p m : ℕ) (same : (r : ℕ) → r ≢ p → g r ≤ f r) (there : g p ≤ f p + m) where
  sum_one : (n : ℕ) → (n ≤ p → sum_to g n ≤ sum_to f n) × (sum_to g n ≤ sum_to f n + m)
  unfolding sum_to
  sum_one zero = (λ h. omega arith, omega arith)
  sum_one (suc n) = (λ h. omega (arith, (sum_one n).0 (omega arith), same n (omega arith)), go (sum_one n) (ℕ_discrete n p))
    where
      go : (n ≤ p → sum_to g n ≤ sum_to f n) × (sum_to g n ≤ sum_to f n + m) → Dec (n ≡ p) → g n + sum_to g n ≤ f n + sum_to f n + m
      go ih (yes e) = rw e (omega (arith, there, rw e at (ih.0 (omega arith))))
      go ih (no e) = omega (arith, ih.1, same n e)

sum_more : (f : ℕ → ℕ) (n : ℕ) → sum_to f (n + 1) ≡ f n + sum_to f n
unfolding sum_to
sum_more f n = rw add-one

sum-zero : (n : ℕ) → sum_to (λ r. 0) n ≤ 0
unfolding sum_to
sum-zero zero = omega arith
sum-zero (suc n) = omega (arith, sum-zero n)

-- ---- measures
-- a wire puts c to it, a pin p, a site s, and a branch nothing
pub record Measure (μ : Tree → ℕ) (c p s : ℕ) : Type 0 where
  pub pin : (pin : ℕ) (due : ℤ) → μ (sink pin due) ≤ p
  pub site : (k : ℕ) (t : Tree) → μ (site k t) ≤ s + μ t
  pub wire : (w : Wire) (t : Tree) → μ (wire w t) ≤ c + μ t
  pub both : (a b : Tree) → μ (both a b) ≤ μ a + μ b

-- how many sites; wires and pins; wires and sites
pub measure-sites : Measure sites_on 0 0 1
unfolding sites_on
measure-sites = record { pin = λ pin due. omega arith; site = λ k t. omega arith; wire = λ w t. omega arith; both = λ a b. omega arith }

pub measure-weight : Measure weight 1 1 0
unfolding weight
measure-weight = record { pin = λ pin due. omega arith; site = λ k t. omega arith; wire = λ w t. omega arith; both = λ a b. omega arith }

pub measure-stages : Measure stages 1 0 1
unfolding stages
measure-stages = record { pin = λ pin due. omega arith; site = λ k t. omega arith; wire = λ w t. omega arith; both = λ a b. omega arith }

-- of what may not be there
abbrev pub over : (Tree → ℕ) → Option Tree → ℕ
over μ none = 0
over μ (some t) = μ t

module _ {μ : Tree → ℕ} {c p s : ℕ} (M : Measure μ c p s) where
  sited-over : (b : Bool) (k : ℕ) (t : Tree) → μ (sited b k t) ≤ s * site_count b + μ t
  sited-over true k t = omega (arith, M.site k t)
  sited-over false k t = omega arith

  -- what a row puts to it, without its wire and with it
  pub seen-over : (b : Bool) (kind : Kind) (k : ℕ) (u : Option Tree) → over μ (seen b kind k u) ≤ p + s * site_count b + over μ u
  seen-over b (Sink pin) k u = omega (arith, sited-over b k (sink pin.load.0 pin.due.0), M.pin pin.load.0 pin.due.0)
  seen-over b Driver k none = omega arith
  seen-over b Driver k (some t) = omega (arith, sited-over b k t)
  seen-over b Point k none = omega arith
  seen-over b Point k (some t) = omega (arith, sited-over b k t)

  wired-over : (w : Wire) (u : Option Tree) → over μ (wired w u) ≤ c + over μ u
  wired-over w none = omega arith
  wired-over w (some t) = M.wire w t

  pub hung-over : (x : Row) (k : ℕ) (u : Option Tree) → over μ (hung x k u) ≤ c + p + s * site_count x.site + over μ u
  hung-over x k u = omega (arith, wired-over (wire_of x) (seen x.site x.kind k u), seen-over x.site x.kind k u)

  beside-over : (b : Bool) (u v : Option Tree) → over μ (cond b (beside u v) v) ≤ over μ v + over μ u
  beside-over false u v = omega arith
  beside-over true none v = omega arith
  beside-over true (some a) none = omega arith
  beside-over true (some a) (some b) = omega (arith, M.both a b)

  passed_over : (b : Bool) (u v : Option Tree) → T (not b) → over μ (cond b (beside u v) v) ≤ over μ v
  passed_over false u v h = omega arith
  passed_over true u v h = absurd h

  -- over what hangs under all the rows before i
  pub hangs-sum : (i k : ℕ) (rows : List Row) → sum_to (λ r. over μ (hangs i k rows r)) i ≤ (c + p) * length rows + s * sites_of rows
  unfolding hangs sum_to sites_of
  hangs-sum i k [] = omega (arith, sum-zero i)
  hangs-sum i k (x ∷ rows) = go (hangs-sum (i + 1) (k + site_count x.site) rows)
    where
      f : ℕ → Option Tree
      f = hangs (i + 1) (k + site_count x.site) rows

      g : ℕ → Option Tree
      g = λ r. cond (eqb x.parent r) (beside (hung x k (f i)) (f r)) (f r)

      go : sum_to (λ r. over μ (f r)) (i + 1) ≤ (c + p) * length rows + s * sites_of rows → sum_to (λ r. over μ (g r)) i ≤ (c + p) * suc (length rows) + s * (site_count x.site + sites_of rows)
      go h =
          let more = (sum_one (λ r. over μ (f r)) (λ r. over μ (g r)) x.parent (over μ (hung x k (f i))) (λ r n. passed_over (eqb x.parent r) (hung x k (f i)) (f r) (other (λ e. n (sym e)))) (beside-over (eqb x.parent x.parent) (hung x k (f i)) (f x.parent)) i).1 in
          omega (arith, hung-over x k (f i), sum_more (λ r. over μ (f r)) i)

  -- and so over what hangs under one
  pub hangs-over : (i k : ℕ) (rows : List Row) (r : ℕ) → r < i → over μ (hangs i k rows r) ≤ (c + p) * length rows + s * sites_of rows
  hangs-over i k rows r h = omega (arith, one_of (λ r. over μ (hangs i k rows r)) i r h, hangs-sum i k rows)
