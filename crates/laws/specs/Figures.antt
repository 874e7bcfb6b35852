-- The paper's figures determine the answer: a number and a place name one refusal, and no two answers of an entry have the same
-- figures. Assumes nothing.
use Rattle.std.specs.Prelude.{◌≡◌, [], ◌∷◌, ℕ, zero, suc, get_or, Result, Ok, Err}
use Rattle.std.proofs.Math.Path.{refl, ap}
use Rattle.std.proofs.Common.{sym, ap₂, ◌∙◌}
use Rattle.rules.specs.declared.Refusal.{Refusal}
use Rattle.rules.specs.declared.Refusal.TheVariants.{Form, Range, Room, Parent, Childless, Mark, Short, NoRow}
use Rattle.rules.specs.Refusals.{number_of, place_of}
use Rattle.rules.specs.declared.Counted.{Counted}
use Rattle.rules.specs.declared.Timed.{Timed}
use Rattle.rules.specs.Answers.{Figures, refused, done, read_figures, check_figures, slack_figures, plan_figures, list_figures}

-- the refusal of a number and a place
refusal_by : (number place : ℕ) → Refusal
refusal_by number place = get_or (NoRow ∷ Form place ∷ Range place ∷ Room place ∷ Parent place ∷ Childless place ∷ Mark place ∷ Short ∷ []) number NoRow

refusal-back : (r : Refusal) → refusal_by (number_of r) (place_of r) ≡ r
unfolding refusal_by
refusal-back (Form line) = refl
refusal-back (Range line) = refl
refusal-back (Room line) = refl
refusal-back (Parent line) = refl
refusal-back (Childless line) = refl
refusal-back (Mark line) = refl
refusal-back Short = refl
refusal-back NoRow = refl

-- a number and a place name one refusal
pub refusal-figures : (r s : Refusal) → number_of r ≡ number_of s → place_of r ≡ place_of s → r ≡ s
refusal-figures r s n p = sym (refusal-back r) ∙ ap₂ refusal_by n p ∙ refusal-back s

-- 0 is no refusal's number
by_number : {A : Type 0} → ℕ → A → A → A
by_number zero a b = a
by_number (suc n) a b = b

refused-number : {A : Type 0} (r : Refusal) (a b : A) → by_number (number_of r) a b ≡ b
unfolding by_number
refused-number (Form line) a b = refl
refused-number (Range line) a b = refl
refused-number (Room line) a b = refl
refused-number (Parent line) a b = refl
refused-number (Childless line) a b = refl
refused-number (Mark line) a b = refl
refused-number Short a b = refl
refused-number NoRow a b = refl

-- an answer made back from its figures
module _ {A B : Type 0} (success : B → A) (refusal : Refusal → A) where
  answer_by : Figures B → A
  answer_by f = by_number f.number (success f.values) (refusal (refusal_by f.number f.place))

  done-back : (v : B) → answer_by (done v) ≡ success v
  unfolding answer_by by_number done
  done-back v = refl

  refused-back : (zeros : B) (r : Refusal) → answer_by (refused zeros r) ≡ refusal r
  unfolding answer_by refused
  refused-back zeros r = refused-number r _ _ ∙ ap refusal (refusal-back r)

  -- what can be made back from its figures has no other's
  figures-settle : (figures : A → Figures B) → ((a : A) → answer_by (figures a) ≡ a) → (a b : A) → figures a ≡ figures b → a ≡ b
  figures-settle figures back a b e = sym (back a) ∙ ap answer_by e ∙ back b

-- no two answers of read_net have the same figures
pub read-figures : (a b : Result Counted Refusal) → read_figures a ≡ read_figures b → a ≡ b
unfolding read_figures
read-figures = figures-settle (λ v. Ok (record { types = v.types; rows = v.rows })) Err read_figures back
  where
    back : (a : Result Counted Refusal) → answer_by (λ v. Ok (record { types = v.types; rows = v.rows })) Err (read_figures a) ≡ a
    back (Ok v) = done-back _ _ _
    back (Err r) = refused-back _ _ _ r

-- nor of check_net
pub check-figures : (a b : Result (Unit {0}) Refusal) → check_figures a ≡ check_figures b → a ≡ b
unfolding check_figures
check-figures = figures-settle (λ v. (Ok tt)) Err check_figures back
  where
    back : (a : Result (Unit {0}) Refusal) → answer_by (λ (v : Unit {0}). (Ok tt)) Err (check_figures a) ≡ a
    back (Ok v) = done-back _ _ _
    back (Err r) = refused-back _ _ _ r

-- nor of slack_of
pub slack-figures : (a b : Result Timed Refusal) → slack_figures a ≡ slack_figures b → a ≡ b
unfolding slack_figures
slack-figures = figures-settle (λ v. Ok (record { slack = (record { 0 = v.slack }); load = (record { 0 = v.load }) })) Err slack_figures back
  where
    back : (a : Result Timed Refusal) → answer_by (λ v. Ok (record { slack = (record { 0 = v.slack }); load = (record { 0 = v.load }) })) Err (slack_figures a) ≡ a
    back (Ok v) = done-back _ _ _
    back (Err r) = refused-back _ _ _ r

-- nor of plan_net
pub plan-figures : (a b : Result Timed Refusal) → plan_figures a ≡ plan_figures b → a ≡ b
unfolding plan_figures
plan-figures = figures-settle (λ v. Ok (record { slack = (record { 0 = v.slack }); load = (record { 0 = v.load }) })) Err plan_figures back
  where
    back : (a : Result Timed Refusal) → answer_by (λ v. Ok (record { slack = (record { 0 = v.slack }); load = (record { 0 = v.load }) })) Err (plan_figures a) ≡ a
    back (Ok v) = done-back _ _ _
    back (Err r) = refused-back _ _ _ r

-- nor of list_at
pub list-figures : (a b : Result ℕ Refusal) → list_figures a ≡ list_figures b → a ≡ b
unfolding list_figures
list-figures = figures-settle Ok Err list_figures back
  where
    back : (a : Result ℕ Refusal) → answer_by Ok Err (list_figures a) ≡ a
    back (Ok length) = done-back _ _ _
    back (Err r) = refused-back _ _ _ r
