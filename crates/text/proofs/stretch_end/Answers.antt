-- `text::stretch_end` meets its contract: the stretch is as long as the place of the first such byte says. Assumes nothing.
use Rattle.std.proofs.Common.{◌≡◌, refl, sym, ap, ◌∙◌, List, [], ◌∷◌, ℕ, ◌+◌, ◌-◌, rules, arith, length, length-drop, drop, take, take_all, ltb, ltb-false, eqb, Some, None, ◌==◌}
use Rattle.std.specs.List.{position, position_or_len}
use Rattle.std.proofs.lemmas.Iterator.{YieldsList-from_slice}
use Rattle.std.proofs.lemmas.Iterator.Search.{position_from_yields_List}
use Rattle.std.proofs.lemmas.Bool.Decides.{nat_tests}
use Rattle.text.specs.Stretches.{lead, either, lead-le}
use Rattle.text.proofs.stretch_end.Goals as goal
use Rattle.text.proofs.stretch_end.Goals.{After-position}

-- the first such byte stands where the lead ends
place_is : (by : ℕ) (s : List ℕ) → position_or_len (λ b. b == by) s ≡ lead by s
unfolding lead
place_is by [] = refl
place_is by (b ∷ s) = either (eqb b by) (λ e. rw e) (λ e. rw e (omega (arith, place_is by s)))

place-found : (by : ℕ) (s : List ℕ) (k : ℕ) → position (λ b. b == by) s ≡ Some k → k ≡ lead by s
place-found by s k e = either (ltb (position_or_len (λ b. b == by) s) (length s)) (λ t. sym (let g : position_or_len (λ b. b == by) s ≡ k = (let h = rw t at e in cc) in g) ∙ place_is by s) (λ t. (let h = rw t at e in cc))

place_none : (by : ℕ) (s : List ℕ) → position (λ b. b == by) s ≡ None → length s ≡ lead by s
place_none by s e = either (ltb (position_or_len (λ b. b == by) s) (length s)) (λ t. (let h = rw t at e in cc)) (λ t. omega (arith, place_is by s, lead-le by s, ltb-false (position_or_len (λ b. b == by) s) (length s) t))

found : (c : After-position) → c.position.result ≡ position (λ b. b == c.args.by) (drop c.args.from c.args.s.now)
found c =
    let a = c.args in
    let whole : take (length a.s.now - a.from) (drop a.from a.s.now) ≡ drop a.from a.s.now = take_all (length a.s.now - a.from) (drop a.from a.s.now) (omega (arith, length-drop a.from a.s.now)) in
    rw whole at (position_from_yields_List (λ b. b == a.by) _ _ c.position.result c.position.ensures.ran (YieldsList-from_slice _ c.iter.ensures.rest) (λ x b q k. search (rules, nat_tests)))

pub returns-in-Some : goal.returns-in-Some
returns-in-Some c = ap (λ k. c.args.from + k) (place-found c.args.by _ c.in-Some.long (sym (found (goal.at.returns-in-Some c).After-position) ∙ c.in-Some.is))

pub returns-in-None : goal.returns-in-None
returns-in-None c =
    let a = c.args in
    omega (arith, place_none a.by (drop a.from a.s.now) (sym (found (goal.at.returns-in-None c).After-position) ∙ c.in-None.is), length-drop a.from a.s.now)
