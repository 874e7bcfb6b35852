-- How an answer is told: three words at the start of the answer's area, and what they say of the call. Assumes nothing.
use Rattle.std.specs.Prelude.{◌≡◌, refl, Bool, true, false, List, [], ◌∷◌, ℕ, ◌≤◌, ◌<◌, ℤ, pos, ltb, length, set}
use Rattle.std.proofs.Common.{sym, ap, subst, ◌∙◌, arith, lt-ltb, le-ltb}
use Rattle.rules.specs.declared.Refusal.{Refusal}
use Rattle.rules.specs.Lists.{written}
use Rattle.rules.specs.Refusals.{number_of, place_of}
use Rattle.rules.specs.Answers.{Figures, refused, done}
use Rattle.rules.specs.Calls.{answer_room, Crossed, Called, refuses, answers}

-- three words stored at the start of an area
pub three-written : (l : List ℤ) (a b c : ℤ) → answer_room ≤ length l → set (set (set l 0 a) 1 b) 2 c ≡ written (a ∷ b ∷ c ∷ []) l
unfolding written
three-written [] a b c h = absurd (omega arith)
three-written (x ∷ []) a b c h = absurd (omega arith)
three-written (x ∷ y ∷ []) a b c h = absurd (omega arith)
three-written (x ∷ y ∷ z ∷ l) a b c h = refl

-- the same words, said otherwise
pub words_are : {x : List ℤ} (l : List ℤ) {a b c a' b' c' : ℤ} → a ≡ a' → b ≡ b' → c ≡ c' → x ≡ written (a ∷ b ∷ c ∷ []) l → x ≡ written (a' ∷ b' ∷ c' ∷ []) l
words_are {x} l {a} {b} {c} {a'} {b'} {c'} p q r e = e ∙ ap (λ (z : ℤ). written (z ∷ b ∷ c ∷ []) l) p ∙ ap (λ (z : ℤ). written (a' ∷ z ∷ c ∷ []) l) q ∙ ap (λ (z : ℤ). written (a' ∷ b' ∷ z ∷ []) l) r

pub called-short : {s : Bool} {U P : Type 0} → s ≡ true → U → Called U P s
called-short {s} {U} {P} e u = subst (λ (b : Bool). Called U P b) (sym e) (refuses u)

pub called : {s : Bool} {U P : Type 0} → s ≡ false → P → Called U P s
called {s} {U} {P} e p = subst (λ (b : Bool). Called U P b) (sym e) (answers p)

-- an area of n words held to the room
pub area-short : {n room : ℕ} → room ≡ answer_room → n < room → ltb n answer_room ≡ true
area-short {n} {room} e h = lt-ltb n answer_room (omega (arith, e, h))

pub area-long : {n room : ℕ} → room ≡ answer_room → room ≤ n → ltb n answer_room ≡ false
area-long {n} {room} e h = le-ltb n answer_room (omega (arith, e, h))

-- an answer with values, and a refusal, as they are told
pub crossed-done : {A : Type 0} {words : A → List ℤ} (v : A) (a b : ℤ) {f : Figures A} {before after : List ℤ} {n : ℕ} → f ≡ done v → words v ≡ (a ∷ b ∷ []) → n ≡ 0 → after ≡ written (pos 0 ∷ a ∷ b ∷ []) before → Crossed words f before after n
unfolding done
crossed-done {A} {words} v a b {f} {before} {after} {n} e w number area = subst (λ (g : Figures A). Crossed words g before after n) (sym e) (record { number_is = number; area_is = area ∙ ap (λ (l : List ℤ). written (pos 0 ∷ l) before) (sym w) })

pub crossed-refused : {A : Type 0} {words : A → List ℤ} (zeros : A) (r : Refusal) {f : Figures A} {before after : List ℤ} {n : ℕ} → f ≡ refused zeros r → words zeros ≡ (pos 0 ∷ pos 0 ∷ []) → (n ≡ number_of r) × (after ≡ written (pos (place_of r) ∷ pos 0 ∷ pos 0 ∷ []) before) → Crossed words f before after n
unfolding refused
crossed-refused {A} {words} zeros r {f} {before} {after} {n} e w told = subst (λ (g : Figures A). Crossed words g before after n) (sym e) (record { number_is = told.0; area_is = told.1 ∙ ap (λ (l : List ℤ). written (pos (place_of r) ∷ l) before) (sym w) })
