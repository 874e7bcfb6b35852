-- What a test that passed says, and one that did not. Assumes nothing.
use Rattle.std.specs.Prelude.{◌≡◌, refl, Bool, true, false, cond, not, ◌&&◌, ◌||◌, ◌≢◌, ◌⊎◌, ℕ, ◌≤◌, T, ltb, eqb}
use Rattle.std.proofs.Common.{true≢false, inl, inr, arith, ltb→lt, eqb→eq}
use Rattle.std.proofs.Math.Option.{Option, none, some, some-ne-none, or_else}
use Rattle.std.proofs.Math.Dec.{not_T, eqb_refl}
use Rattle.rules.specs.Lists.{given_when}

-- neither of two passed
pub not-or : (a b : Bool) → T (not (a || b)) → T (not a) × T (not b)
not-or true b h = absurd h
not-or false b h = (tt, h)

pub neither : (a b : Bool) → T (not a) → T (not b) → T (not (a || b))
neither true b h k = h
neither false b h k = k

-- not both of two passed
pub not-and : (a b : Bool) → T (not (a && b)) → T a → T (not b)
not-and true b h t = h
not-and false b h t = absurd t

-- one of two passed
pub or_left : (a b : Bool) → T a → T (a || b)
or_left true b h = tt
or_left false b h = absurd h

pub or_right : (a b : Bool) → T b → T (a || b)
or_right true b h = tt
or_right false b h = h

pub either : (a b : Bool) → T (a || b) → (T a) ⊎ (T b)
either true b h = inl tt
either false b h = inr h

pub not-not : (b : Bool) → T (not (not b)) → T b
not-not true h = tt
not-not false h = h

-- as equations
pub is_false : (b : Bool) → T (not b) → b ≡ false
is_false true h = absurd h
is_false false h = refl

pub both_false : (a b : Bool) → a || b ≡ false → (a ≡ false) × (b ≡ false)
both_false true b e = absurd (true≢false e)
both_false false b e = (refl, e)

-- tests of numbers
pub same : {m n : ℕ} → m ≡ n → T (eqb m n)
same {m} {n} e = rw e (eqb_refl n)

pub other : {m n : ℕ} → m ≢ n → T (not (eqb m n))
other {m} {n} h = not_T (eqb m n) (λ t. h (eqb→eq m n t))

pub no_more : (n m : ℕ) → m ≤ n → T (not (ltb n m))
no_more n m h = not_T (ltb n m) (λ t. omega (arith, ltb→lt n m t))

-- what a test chooses
pub cond_yes : {A : Type 0} (b : Bool) (a c : A) → T b → cond b a c ≡ a
cond_yes true a c t = refl
cond_yes false a c t = absurd t

pub cond_no : {A : Type 0} (b : Bool) (a c : A) → T (not b) → cond b a c ≡ c
cond_no true a c t = absurd t
cond_no false a c t = refl

-- what would be refused, and is not
pub passes : {A : Type 0} (b : Bool) (a : A) (rest : Option A) → or_else (given_when b a) rest ≡ none → T (not b) × (rest ≡ none)
unfolding or_else
passes true a rest e = absurd (some-ne-none a e)
passes false a rest e = (tt, e)

pub passed : {A : Type 0} (b : Bool) (a : A) → given_when b a ≡ none → T (not b)
passed true a e = some-ne-none a e
passed false a e = tt

-- neither of two is refused
pub none_both : {A : Type 0} (a b : Option A) → or_else a b ≡ none → (a ≡ none) × (b ≡ none)
unfolding or_else
none_both none b e = (refl, e)
none_both (some x) b e = absurd (some-ne-none x e)

pub none-either : {A : Type 0} {a b : Option A} → a ≡ none → b ≡ none → or_else a b ≡ none
unfolding or_else
none-either h k = rw h k
