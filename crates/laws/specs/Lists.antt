-- Laws of every element, some element, and every two in their order. Assumes nothing.
use Rattle.std.specs.Prelude.{◌≡◌, refl}
use Rattle.std.proofs.Common.{sym, subst, ⊎_elim}
use mathlib.Core.List.Memᴰ
use mathlib.Core.List.{List, [], ◌∷◌, ◌++◌, map, Pairwise, Mem, Memᴰ, mem-cons_self, mem-cons_of_mem}
use Rattle.std.proofs.Math.Logic.{∥∥₁_elim}
use Rattle.rules.specs.Lists.{All, Any, nil, cons, here, there}

-- R holds of each element and each later one: the library's `Pairwise`, told element by element and not by membership
pub data EveryTwo {A : Type 0} (R : A → A → Type 0) : List A → Type 0 where
  ends : EveryTwo R []
  leads : {x : A} {xs : List A} → All (R x) xs → EveryTwo R xs → EveryTwo R (x ∷ xs)

module _ {A : Type 0} where
  all-member : {P : A → Type 0} {l : List A} {a : A} → All P l → Memᴰ a l → P a
  all-member nil m = absurd (Memᴰ.not-nil m)
  all-member {P} (cons p ps) m = ⊎_elim (λ e. subst P (sym e) p) (λ k. all-member ps k) (Memᴰ.cases_cons m)

  members-all : {P : A → Type 0} (l : List A) → ((a : A) → Mem a l → P a) → All P l
  members-all [] f = nil
  members-all (x ∷ l) f = cons (f x mem-cons_self) (members-all l (λ a m. f a (mem-cons_of_mem x m)))

  -- the two say the same, where R has at most one proof
  pub two-pairwise : {R : A → A → Type 0} → ((a b : A) → IsProp (R a b)) → {l : List A} → EveryTwo R l → Pairwise R l
  two-pairwise one ends = Pairwise.nil
  two-pairwise one (leads {x = x} h t) = Pairwise.cons (λ a m. ∥∥₁_elim m (one x a) (all-member h)) (two-pairwise one t)

  pub pairwise-two : {R : A → A → Type 0} {l : List A} → Pairwise R l → EveryTwo R l
  pairwise-two Pairwise.nil = ends
  pairwise-two (Pairwise.cons {l = l} h t) = leads (members-all l h) (pairwise-two t)

module _ {A : Type 0} {P Q : A → Type 0} where
  pub all-imp : {l : List A} → ((x : A) → P x → Q x) → All P l → All Q l
  all-imp f nil = nil
  all-imp f (cons {x = x} h t) = cons (f x h) (all-imp f t)

  pub any-imp : {l : List A} → ((x : A) → P x → Q x) → Any P l → Any Q l
  any-imp f (here {x = x} h) = here (f x h)
  any-imp f (there t) = there (any-imp f t)

  -- the element that is Q is P too
  pub any-all : {l : List A} → All P l → Any Q l → (x : A) × P x × Q x
  any-all nil h = elim h [ ]
  any-all (cons {x = x} h t) (here q) = (x, h, q)
  any-all (cons h t) (there q) = any-all t q

module _ {A : Type 0} {P Q S : A → Type 0} (f : (x : A) → P x → Q x → S x) where
  pub all-with : {l : List A} → All P l → All Q l → All S l
  all-with nil nil = nil
  all-with (cons {x = x} p ps) (cons q qs) = cons (f x p q) (all-with ps qs)

  pub any-with : {l : List A} → All P l → Any Q l → Any S l
  any-with nil h = elim h [ ]
  any-with (cons {x = x} p ps) (here q) = here (f x p q)
  any-with (cons p ps) (there q) = there (any-with ps q)

module _ {A : Type 0} {P : A → Type 0} where
  pub all_head : {x : A} {l : List A} → All P (x ∷ l) → P x
  all_head (cons h t) = h

  pub all_tail : {x : A} {l : List A} → All P (x ∷ l) → All P l
  all_tail (cons h t) = t

  pub all-++ : {l r : List A} → All P l → All P r → All P (l ++ r)
  all-++ nil r = r
  all-++ (cons h t) r = cons h (all-++ t r)

  pub any_left : {l : List A} (r : List A) → Any P l → Any P (l ++ r)
  any_left r (here h) = here h
  any_left r (there t) = there (any_left r t)

  pub any-right : (l : List A) {r : List A} → Any P r → Any P (l ++ r)
  any-right [] h = h
  any-right (x ∷ l) h = there (any-right l h)

module _ {A B : Type 0} {P : A → Type 0} {Q : B → Type 0} (f : A → B) (g : (x : A) → P x → Q (f x)) where
  pub all_map : {l : List A} → All P l → All Q (map f l)
  all_map nil = nil
  all_map (cons {x = x} h t) = cons (g x h) (all_map t)

  pub any-map : {l : List A} → Any P l → Any Q (map f l)
  any-map (here {x = x} h) = here (g x h)
  any-map (there t) = there (any-map t)

-- each element is one of the list's
pub all-self : {A : Type 0} (l : List A) → All (λ m. Any (λ x. x ≡ m) l) l
all-self [] = nil
all-self (x ∷ l) = cons (here refl) (all-imp (λ m h. there h) (all-self l))

-- how two elements of a list stand: they are one, or one of them comes first
pub data Met {A : Type 0} (R : A → A → Type 0) (P Q : A → Type 0) : Type 0 where
  same : (x : A) → P x → Q x → Met R P Q
  first : (x y : A) → R x y → P x → Q y → Met R P Q
  second : (x y : A) → R y x → P x → Q y → Met R P Q

module _ {A : Type 0} {R : A → A → Type 0} {P Q : A → Type 0} where
  met-first : (x : A) {l : List A} → P x → All (R x) l → Any Q l → Met R P Q
  met-first x p nil h = elim h [ ]
  met-first x p (cons {x = y} r t) (here q) = first x y r p q
  met-first x p (cons r t) (there q) = met-first x p t q

  met-second : (y : A) {l : List A} → Q y → All (R y) l → Any P l → Met R P Q
  met-second y q nil h = elim h [ ]
  met-second y q (cons {x = x} r t) (here p) = second x y r p q
  met-second y q (cons r t) (there p) = met-second y q t p

  pub met : {l : List A} → EveryTwo R l → Any P l → Any Q l → Met R P Q
  met ends h k = elim h [ ]
  met (leads {x = x} r t) (here p) (here q) = same x p q
  met (leads {x = x} r t) (here p) (there q) = met-first x p r q
  met (leads {x = x} r t) (there p) (here q) = met-second x q r p
  met (leads r t) (there p) (there q) = met t p q
