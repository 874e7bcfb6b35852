-- Placements joined, with one mark set, and cut down to a tree's sites. Assumes nothing.
use Rattle.std.specs.Prelude.{◌≡◌, refl, ◌⊎◌, ℕ}
use Rattle.std.proofs.Common.{inl, inr, ⊎_elim}
use Rattle.std.proofs.Math.Decide.{ℕ_discrete}
use Rattle.std.specs.Int.Bits.{bit_or, or_zero_l, or_zero_r}
use Rattle.rules.specs.Placements.{Placement}
use Rattle.rules.specs.Net.{Tree, sink, site, wire, both}
use Rattle.rules.specs.Pairs.{On}

unfoldable pub keep : {X : Type 0} → Dec X → ℕ → ℕ → ℕ
keep (yes h) a b = a
keep (no h) a b = b

pub keep-yes : {X : Type 0} (d : Dec X) (a b : ℕ) → X → keep d a b ≡ a
unfolding keep
keep-yes (yes h) a b x = refl
keep-yes (no h) a b x = absurd (h x)

pub keep-no : {X : Type 0} (d : Dec X) (a b : ℕ) → ¬ X → keep d a b ≡ b
unfolding keep
keep-no (yes h) a b x = absurd (x h)
keep-no (no h) a b x = refl

-- marks are joined by the same or as words, so that words stand for placements with no side condition
unfoldable pub join_marks : Placement → Placement → Placement
join_marks p q = λ j. bit_or (p j) (q j)

pub join-left : (p q : Placement) (j : ℕ) → q j ≡ 0 → join_marks p q j ≡ p j
unfolding join_marks
join-left p q j e = rw (e, or_zero_r)

pub join-right : (p q : Placement) (j : ℕ) → p j ≡ 0 → join_marks p q j ≡ q j
unfolding join_marks
join-right p q j e = rw (e, or_zero_l)

-- the mark of site k becomes m
unfoldable pub with_mark : (k m : ℕ) → Placement → Placement
with_mark k m p = λ j. keep (ℕ_discrete j k) m (p j)

pub with-mark-here : (k m : ℕ) (p : Placement) → with_mark k m p k ≡ m
unfolding with_mark
with-mark-here k m p = keep-yes (ℕ_discrete k k) m (p k) refl

pub with-mark-there : (k m : ℕ) (p : Placement) (j : ℕ) → ¬ (j ≡ k) → with_mark k m p j ≡ p j
unfolding with_mark
with-mark-there k m p j h = keep-no (ℕ_discrete j k) m (p j) h

-- ---- a tree's sites
dec-or : {A B : Type 0} → Dec A → Dec B → Dec (A ⊎ B)
dec-or (yes a) b = yes (inl a)
dec-or (no a) (yes b) = yes (inr b)
dec-or (no a) (no b) = no (λ s. ⊎_elim a b s)

pub dec-on : (t : Tree) (j : ℕ) → Dec (On t j)
dec-on (sink pin due) j = no (λ h. h)
dec-on (site k t) j = dec-or (ℕ_discrete j k) (dec-on t j)
dec-on (wire w t) j = dec-on t j
dec-on (both s t) j = dec-or (dec-on s j) (dec-on t j)

-- the marks at a tree's sites alone
unfoldable pub cut : Tree → Placement → Placement
cut t p = λ j. keep (dec-on t j) (p j) 0

pub cut_on : (t : Tree) (p : Placement) (j : ℕ) → On t j → cut t p j ≡ p j
unfolding cut
cut_on t p j h = keep-yes (dec-on t j) (p j) 0 h

pub cut_off : (t : Tree) (p : Placement) (j : ℕ) → ¬ (On t j) → cut t p j ≡ 0
unfolding cut
cut_off t p j h = keep-no (dec-on t j) (p j) 0 h
