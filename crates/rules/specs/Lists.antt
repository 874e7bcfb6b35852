-- What the other files say of lists: every element, some element, the least; what stands in an area of memory once its start is
-- written; and something that is given when a test holds. Every two of a list in their order is the library's `Pairwise`, and the first
-- of two that is there is its `or_else`. Assumes nothing.
use Rattle.std.specs.Prelude.{◌≡◌, Bool, cond, List, [], ◌∷◌, ◌++◌, ℤ, length, drop, ◌≤ℤ◌}
use Rattle.std.proofs.Math.Option.{Option, none, some}

-- P holds of each element
pub data All {A : Type 0} (P : A → Type 0) : List A → Type 0 where
  nil : All P []
  cons : {x : A} {xs : List A} → P x → All P xs → All P (x ∷ xs)

-- P holds of some element
pub data Any {A : Type 0} (P : A → Type 0) : List A → Type 0 where
  here : {x : A} {xs : List A} → P x → Any P (x ∷ xs)
  there : {x : A} {xs : List A} → Any P xs → Any P (x ∷ xs)

-- m is the least of l
pub record Least (m : ℤ) (l : List ℤ) : Type 0 where
  pub below : All (λ t. m ≤ℤ t) l
  pub among : Any (λ t. m ≡ t) l

-- an area with `new` at its start and the rest unchanged
unfoldable pub written : {A : Type 0} → List A → List A → List A
written new area = new ++ drop (length new) area

-- given when the test holds
abbrev pub given_when : {A : Type 0} → Bool → A → Option A
given_when test a = cond test (some a) none
