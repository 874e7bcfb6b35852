-- The promise of each exported call. A caller in C or Rust has numbers and areas only: the refusal's number is returned, its place and the
-- entry's two values stand at the start of the answer's area, and every other area is as the entry promises. Assumes nothing.
use Rattle.std.specs.Prelude.{◌≡◌, Bool, true, false, List, [], ◌∷◌, ℕ, ltb, ℤ, pos, length}
use Rattle.rules.specs.declared.Refusal.TheVariants.{Short}
use Rattle.rules.specs.Lists.{written}
use Rattle.rules.specs.Tables.{Tables, Counts}
use Rattle.rules.specs.Refusals.{number_of}
use Rattle.rules.specs.Areas.{Storage, PlanAreas, ListAreas, LoadsAreas}
use Rattle.rules.specs.Answers.{Figures, Timing, read_figures, check_figures, slack_figures, plan_figures, list_figures}
use Rattle.rules.specs.Promises.{Handed, ReadPromise, CheckPromise, CountPromise, SlackPromise, PlanPromise, ListPromise, LoadsPromise}

-- ---- how an answer crosses
-- room: words of an answer
abbrev pub answer_room : ℕ
answer_room = 3

-- an entry's values as two words
abbrev pub count_words : Counts → List ℤ
count_words v = pos v.types ∷ pos v.rows ∷ []

abbrev pub no_words : Unit {0} → List ℤ
no_words v = pos 0 ∷ pos 0 ∷ []

abbrev pub timing_words : Timing → List ℤ
timing_words v = v.slack ∷ pos v.load ∷ []

abbrev pub length_words : ℕ → List ℤ
length_words n = pos n ∷ pos 0 ∷ []

-- what is returned and written for the figures of an answer; the part of the area beyond its room is unchanged
pub record Crossed {A : Type 0} (words : A → List ℤ) (f : Figures A) (before after : List ℤ) (returned : ℕ) : Type 0 where
  pub number_is : returned ≡ f.number
  pub area_is : after ≡ written (pos f.place ∷ words f.values) before

-- what a call is lent: the areas of its entry, and the area of the answer
pub record Lending (M : Type 0) : Type 0 where
  pub areas : M
  pub answer : List ℤ

abbrev pub lending : {M : Type 0} → (areas : M) (answer : List ℤ) → Lending M
lending areas answer = record { areas = areas; answer = answer }

-- where the answer's area is too short, and where it is not
pub data Called (where_short where_not : Type 0) : (short : Bool) → Type 0 where
  refuses : where_short → Called where_short where_not true
  answers : where_not → Called where_short where_not false

-- an answer's area that is too short is 7, and everything is as it was; else the entry keeps its promise, and its answer crosses
abbrev pub Call : {M A B : Type 0} → (words : B → List ℤ) (figures : A → Figures B) (Promise : M → A → M → Type 0) → (before : Lending M) (returned : ℕ) (after : Lending M) → Type 0
Call {A = A} words figures Promise before returned after =
    Called
    ((returned ≡ number_of Short) × (after ≡ before))
    ((a : A) × Promise before.areas a after.areas × Crossed words (figures a) before.answer after.answer returned)
    (ltb (length before.answer) answer_room)

-- ---- the calls
-- zombrict_read
abbrev pub ReadCall : (text : List ℕ) (before : Lending Tables) (returned : ℕ) (after : Lending Tables) → Type 0
ReadCall text = Call count_words read_figures (ReadPromise text)

-- zombrict_check; and zombrict_check_text, which answers the counts
abbrev pub CheckCall : Handed → (before : Lending (Unit {0})) (returned : ℕ) (after : Lending (Unit {0})) → Type 0
CheckCall net = Call no_words check_figures (λ before a after. CheckPromise net a)

abbrev pub CountCall : Handed → (before : Lending (Unit {0})) (returned : ℕ) (after : Lending (Unit {0})) → Type 0
CountCall net = Call count_words read_figures (λ before a after. CountPromise net a)

-- zombrict_slack and zombrict_slack_text
abbrev pub SlackCall : Handed → (words : List ℕ) (before : Lending (Unit {0})) (returned : ℕ) (after : Lending (Unit {0})) → Type 0
SlackCall net words = Call timing_words slack_figures (λ before a after. SlackPromise net words a)

-- zombrict_plan and zombrict_plan_text
abbrev pub PlanCall : {W : Type 0} → Storage W → Handed → (before : Lending (PlanAreas W)) (returned : ℕ) (after : Lending (PlanAreas W)) → Type 0
PlanCall s net = Call timing_words plan_figures (PlanPromise s net)

-- zombrict_list and zombrict_list_text
abbrev pub ListCall : {W : Type 0} → Storage W → Handed → (row : ℕ) (before : Lending (ListAreas W)) (returned : ℕ) (after : Lending (ListAreas W)) → Type 0
ListCall s net row = Call length_words list_figures (ListPromise s net row)

-- zombrict_loads and zombrict_loads_text
abbrev pub LoadsCall : {W : Type 0} → Storage W → Handed → (row : ℕ) (before : Lending (LoadsAreas W)) (returned : ℕ) (after : Lending (LoadsAreas W)) → Type 0
LoadsCall s net row = Call length_words list_figures (LoadsPromise s net row)
