-- What is true of the placement that is picked: it is as good as any, and the clause that names it leaves nothing of planning open, neither
-- the answer nor a lent word. Assumes nothing.
use Rattle.std.specs.Prelude.{◌≡◌, List, [], ◌∷◌, ◌++◌, ℕ, ◌*◌, ◌^◌, ◌<◌, ℤ, Result, Err}
use Rattle.std.proofs.Common.{sym, ap, ◌∙◌, ⊎_elim, arith}
use Rattle.rules.specs.declared.Refusal.{Refusal}
use Rattle.rules.specs.Lists.{All, nil, cons, written}
use Rattle.rules.specs.Entries.{Entry, Repeater, types_of, rows_of}
use Rattle.rules.specs.Placements.{Placement}
use Rattle.rules.specs.Net.{Tree, driver_ohms}
use Rattle.rules.specs.Pairs.{Planned}
use Rattle.rules.specs.Areas.{Storage, PlanAreas}
use Rattle.rules.specs.Answers.{Figures, Timing, refused, done, plan_figures}
use Rattle.rules.specs.Promises.{Handed, PlanPromise}
use Rattle.laws.specs.Candidates.{Cand, Front}
use Rattle.laws.specs.Method.{Proper, Reaches, cand_of, reaches, empty-legal, front_of, planned}
use Rattle.laws.proofs.Method.{method}
use Rattle.laws.specs.Settled.{one-tree, plan-alike}
use Rattle.laws.specs.Words.{same-words}
use Rattle.laws.specs.Checked.{numbered}
use Rattle.rules.specs.declared.Timed.{Timed}
use Rattle.laws.specs.Picked.{pick_in, pick_of, PickedOf, Picks, Words64}

-- it is as good as any
pub picked-planned : (types : List Repeater) (driver : ℕ) (t : Tree) → Proper t → (slack : ℤ) × (on_driver : ℕ) × Planned types driver t (pick_of types driver t) slack on_driver
unfolding pick_of
picked-planned types driver t ok = go (front_of types t) (method types t ok)
  where
    go : (l : List (Cand Placement)) → Front (Reaches types t) l → (slack : ℤ) × (on_driver : ℕ) × Planned types driver t (pick_in (λ m. driver * m) l) slack on_driver
    go [] F = absurd (elim (F.whole (cand_of types t (λ j. 0)) (reaches types (empty-legal types t))) [ ])
    go (x ∷ l) F = (_, _, planned types driver t F)

all-front : {P : ℕ → Type 0} (l m : List ℕ) → All P (l ++ m) → All P l
all-front [] m a = nil
all-front (x ∷ l) m (cons h t) = cons h (all-front l m t)

-- the words written are words of the area
written_small : (words before after : List ℕ) → after ≡ written words before → All (λ w. w < 2 ^ 64) after → All (λ w. w < 2 ^ 64) words
unfolding written
written_small words before after e a = all-front words _ (rw e at a)

-- so nothing is left open: two areas of 64-bit words that it allows are the same
pub picked-settled : (es : List Entry) (before x y : List ℕ) → PickedOf es before x → PickedOf es before y → All (λ w. w < 2 ^ 64) x → All (λ w. w < 2 ^ 64) y → x ≡ y
picked-settled es before x y f g h k =
    let t = one-tree f.tree_is g.tree_is in
    let m = f.marks_are ∙ ap (pick_of (types_of es) (driver_ohms (rows_of es))) t ∙ sym g.marks_are in
    let s = same-words f.words g.words f.four g.four (written_small f.words before x f.after_is h) (written_small g.words before y g.after_is k) m in
    f.after_is ∙ ap (λ w. written w before) s ∙ sym g.after_is

-- ---- planning, settled
-- a refusal picks nothing
pub refused-picks : (es : List Entry) (before after : List ℕ) (r : Refusal) → Picks es before after (plan_figures (Err r)).number
unfolding plan_figures refused
refused-picks es before after r e = absurd (omega (arith, numbered r, e))

-- nor does a call that returns another number than 0
pub numbered-picks : (es : List Entry) (before after : List ℕ) {number : ℕ} → 0 < number → Picks es before after number
numbered-picks es before after h e = absurd (omega (arith, h, e))

-- with the clause a net and the lent areas settle the answer of planning and every lent word after
pub plan-settled : {W : Type 0} (s : Storage W) (net : Handed) (before : PlanAreas W) (a b : Result Timed Refusal) (x y : PlanAreas W)
    → PlanPromise s net before a x → PlanPromise s net before b y
    → Picks net.entries before.placement x.placement (plan_figures a).number → Picks net.entries before.placement y.placement (plan_figures b).number
    → Words64 x.placement → Words64 y.placement → (a ≡ b) × (x ≡ y)
unfolding done
plan-settled {W} s net before a b x y p q f g h k =
    let S = plan-alike s net before a b x y p q in
    let e : x.placement ≡ y.placement = ⊎_elim (λ e. e) (λ (timing, d, m, n). picked-settled net.entries before.placement x.placement y.placement (f (told a timing d)) (g (told b timing (ap plan_figures (sym S.answer) ∙ d))) h k) S.words in
    (S.answer, λ i. record { placement = e i; work = S.work i })
  where
    told : (c : Result Timed Refusal) (timing : Timing) → plan_figures c ≡ done timing → (plan_figures c).number ≡ 0
    told c timing d = ap (λ (v : Figures Timing). v.number) d
