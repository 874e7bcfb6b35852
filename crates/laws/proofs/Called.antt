-- Each of the eleven exported calls is settled: two results that its promise allows, what is returned and every lent word, are equal. One
-- theorem says it of any entry that is settled. Assumes nothing.
use Rattle.std.specs.Prelude.{◌≡◌, Bool, true, false, List, ℕ, ltb, ℤ, length, Result}
use Rattle.std.proofs.Common.{sym, ap, ◌∙◌}
use Rattle.rules.specs.Tables.{Tables}
use Rattle.rules.specs.Areas.{Storage, PlanAreas, ListAreas, LoadsAreas}
use Rattle.rules.specs.Answers.{Figures, read_figures, check_figures, slack_figures, plan_figures, list_figures}
use Rattle.rules.specs.Promises.{Handed, ReadPromise, CheckPromise, CountPromise, SlackPromise, PlanPromise, ListPromise, LoadsPromise}
use Rattle.rules.specs.Calls.{answer_room, count_words, no_words, timing_words, length_words, Crossed, Lending, Called, refuses, answers, Call, ReadCall, CheckCall, CountCall, SlackCall, PlanCall, ListCall, LoadsCall}
use Rattle.laws.specs.Settled.{read-settled, check-settled, count-settled, slack-settled, list-settled, loads-settled}
use Rattle.laws.specs.Picked.{Picks, Words64}
use Rattle.rules.specs.declared.Timed.{Timed}
use Rattle.rules.specs.declared.Refusal.{Refusal}
use Rattle.laws.proofs.Picked.{plan-settled}

-- an answer crosses in one way
crossed-same : {A : Type 0} {words : A → List ℤ} {f g : Figures A} {before x y : List ℤ} {r s : ℕ} → f ≡ g → Crossed words f before x r → Crossed words g before y s → (r ≡ s) × (x ≡ y)
crossed-same e c d = let n = c.number_is in let m = d.number_is in let a = c.area_is in let b = d.area_is in (cc, cc)

both-called : {S T P Q X : Type 0} (short : Bool) → (S → T → X) → (P → Q → X) → Called S P short → Called T Q short → X
both-called true f g (refuses u) (refuses v) = f u v
both-called false f g (answers p) (answers q) = g p q

-- a call of an entry whose promise settles its answer and its areas is settled
pub call_settled : {M A B : Type 0} (words : B → List ℤ) (figures : A → Figures B) (Promise : M → A → M → Type 0) → ((m : M) (a b : A) (x y : M) → Promise m a x → Promise m b y → (a ≡ b) × (x ≡ y)) → (before : Lending M) (r s : ℕ) (x y : Lending M) → Call words figures Promise before r x → Call words figures Promise before s y → (r ≡ s) × (x ≡ y)
call_settled {M} {A} words figures Promise settled before r s x y = both-called (ltb (length before.answer) answer_room) (λ (p, e) (q, f). (p ∙ sym q, e ∙ sym f)) answered
  where
    answered : (a : A) × Promise before.areas a x.areas × Crossed words (figures a) before.answer x.answer r → (b : A) × Promise before.areas b y.areas × Crossed words (figures b) before.answer y.answer s → (r ≡ s) × (x ≡ y)
    answered (a, p, i) (b, q, j) =
        let (e, m) = settled before.areas a b x.areas y.areas p q in
        let (u, v) = crossed-same (ap figures e) i j in
        (u, λ z. record { areas = m z; answer = v z })

-- an entry that is lent no area of its own
alone : {A : Type 0} {P : A → Type 0} → ((a b : A) → P a → P b → a ≡ b) → (m : Unit {0}) (a b : A) (x y : Unit {0}) → P a → P b → (a ≡ b) × (x ≡ y)
alone settled m a b x y p q = (settled a b p q, λ i. tt)

-- zombrict_read
pub read-call-settled : (text : List ℕ) (before : Lending Tables) (r s : ℕ) (x y : Lending Tables) → ReadCall text before r x → ReadCall text before s y → (r ≡ s) × (x ≡ y)
read-call-settled text = call_settled count_words read_figures (ReadPromise text) (read-settled text)

-- zombrict_check
pub check-call-settled : (net : Handed) (before : Lending (Unit {0})) (r s : ℕ) (x y : Lending (Unit {0})) → CheckCall net before r x → CheckCall net before s y → (r ≡ s) × (x ≡ y)
check-call-settled net = call_settled no_words check_figures (λ m a n. CheckPromise net a) (alone (check-settled net))

-- zombrict_check_text
pub count-call-settled : (net : Handed) (before : Lending (Unit {0})) (r s : ℕ) (x y : Lending (Unit {0})) → CountCall net before r x → CountCall net before s y → (r ≡ s) × (x ≡ y)
count-call-settled net = call_settled count_words read_figures (λ m a n. CountPromise net a) (alone (count-settled net))

-- zombrict_slack and zombrict_slack_text
pub slack-call-settled : (net : Handed) (words : List ℕ) (before : Lending (Unit {0})) (r s : ℕ) (x y : Lending (Unit {0})) → SlackCall net words before r x → SlackCall net words before s y → (r ≡ s) × (x ≡ y)
slack-call-settled net words = call_settled timing_words slack_figures (λ m a n. SlackPromise net words a) (alone (slack-settled net words))

-- zombrict_list and zombrict_list_text
pub list-call-settled : {W : Type 0} (s : Storage W) (net : Handed) (row : ℕ) (before : Lending (ListAreas W)) (r q : ℕ) (x y : Lending (ListAreas W)) → ListCall s net row before r x → ListCall s net row before q y → (r ≡ q) × (x ≡ y)
list-call-settled s net row = call_settled length_words list_figures (ListPromise s net row) (list-settled s net row)

-- zombrict_loads and zombrict_loads_text
pub loads-call-settled : {W : Type 0} (s : Storage W) (net : Handed) (row : ℕ) (before : Lending (LoadsAreas W)) (r q : ℕ) (x y : Lending (LoadsAreas W)) → LoadsCall s net row before r x → LoadsCall s net row before q y → (r ≡ q) × (x ≡ y)
loads-call-settled s net row = call_settled length_words list_figures (LoadsPromise s net row) (loads-settled s net row)

-- zombrict_plan and zombrict_plan_text: with the clause that says which placement is returned
pub plan-call-settled : {W : Type 0} (s : Storage W) (net : Handed) (before : Lending (PlanAreas W)) (r q : ℕ) (x y : Lending (PlanAreas W))
    → PlanCall s net before r x → PlanCall s net before q y
    → Picks net.entries before.areas.placement x.areas.placement r → Picks net.entries before.areas.placement y.areas.placement q
    → Words64 x.areas.placement → Words64 y.areas.placement → (r ≡ q) × (x ≡ y)
plan-call-settled {W} s net before r q x y c d f g h k = both-called (ltb (length before.answer) answer_room) (λ (p, e) (p', e'). (p ∙ sym p', e ∙ sym e')) answered c d
  where
    answered : (a : Result Timed Refusal) × PlanPromise s net before.areas a x.areas × Crossed timing_words (plan_figures a) before.answer x.answer r → (b : Result Timed Refusal) × PlanPromise s net before.areas b y.areas × Crossed timing_words (plan_figures b) before.answer y.answer q → (r ≡ q) × (x ≡ y)
    answered (a, p, i) (b, p', j) =
        let (e, m) = plan-settled s net before.areas a b x.areas y.areas p p' (λ z. f (i.number_is ∙ z)) (λ z. g (j.number_is ∙ z)) h k in
        let (u, v) = crossed-same (ap plan_figures e) i j in
        (u, λ z. record { areas = m z; answer = v z })
