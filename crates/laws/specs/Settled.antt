-- Each promise settles its entry: two answers, and two memories afterwards, that one promise allows are equal; for planning, with the
-- clause that says which placement is returned. Assumes nothing.
use Rattle.std.specs.Prelude.{◌≡◌, refl, false, ◌||◌, List, map, ◌⊎◌, ℕ, ltb, ℤ, length, Result}
use Rattle.std.proofs.Common.{sym, ap, ◌∙◌, inl, inr, arith}
use Rattle.std.proofs.Math.Option.{Option, none, some}
use Rattle.rules.specs.declared.Refusal.{Refusal}
use Rattle.rules.specs.Lists.{written}
use Rattle.rules.specs.Quantities.{list_room}
use Rattle.rules.specs.Entries.{Entry, Repeater, types_of, rows_of}
use Rattle.rules.specs.Placements.{Placement, marks}
use Rattle.rules.specs.Tables.{Tables, short_tables}
use Rattle.rules.specs.Net.{Tree, driver_ohms}
use Rattle.rules.specs.Slack.{load_of, IsSlack}
use Rattle.rules.specs.Pairs.{Planned}
use Rattle.rules.specs.Areas.{short_placement, Lent, lent_of, short_lent, unseen_times, Storage, PlanAreas, ListAreas, LoadsAreas, list_areas, loads_areas}
use Rattle.rules.specs.Answers.{Timing, no_timing, refused, done, plan_figures, list_figures}
use Rattle.rules.specs.Promises.{Handed, texted, net_refusal, Settled, ReadPromise, CheckPromise, CountPromise, SlackPromise, slack_refusal, TimingOf, PlanPromise, PlanOf, list_refusal, ListPromise, ListOf, LoadsPromise}
use Rattle.laws.specs.Integers.{≤-antisym}
use Rattle.laws.specs.Trees.{least-unique}
use Rattle.laws.specs.Listing.{unbeaten-unique}
use Rattle.rules.specs.declared.Counted.{Counted}
use Rattle.rules.specs.declared.Timed.{Timed}
use Rattle.laws.specs.Figures.{read-figures, check-figures, slack-figures, plan-figures, list-figures}

-- two promises about one refusal, or about none
either : {F G : Refusal → Type 0} {P Q X : Type 0} (o : Option Refusal) → ((r : Refusal) → F r → G r → X) → (P → Q → X) → Settled o F P → Settled o G Q → X
either none f g p q = g p q
either (some r) f g p q = f r p q

-- ---- read_net
-- one text, and tables before, settle the answer and the tables after
pub read-settled : (text : List ℕ) (before : Tables) (a b : Result Counted Refusal) (x y : Tables) → ReadPromise text before a x → ReadPromise text before b y → (a ≡ b) × (x ≡ y)
unfolding ReadPromise
read-settled text before a b x y = either (net_refusal (short_tables before) (texted text)) (λ r (p, m) (q, n). (read-figures a b (p ∙ sym q), m ∙ sym n)) (λ (p, m) (q, n). (read-figures a b (p ∙ sym q), m ∙ sym n))

-- ---- check_net
-- a net settles the answer
pub check-settled : (net : Handed) (a b : Result (Unit {0}) Refusal) → CheckPromise net a → CheckPromise net b → a ≡ b
unfolding CheckPromise
check-settled net a b = either (net_refusal false net) (λ r p q. check-figures a b (p ∙ sym q)) (λ p q. check-figures a b (p ∙ sym q))

-- also where its counts are answered
pub count-settled : (net : Handed) (a b : Result Counted Refusal) → CountPromise net a → CountPromise net b → a ≡ b
unfolding CountPromise
count-settled net a b = either (net_refusal false net) (λ r p q. read-figures a b (p ∙ sym q)) (λ p q. read-figures a b (p ∙ sym q))

-- ---- slack_of
-- a row has one tree
pub one-tree : {s t : Tree} {o : Option Tree} → o ≡ some s → o ≡ some t → s ≡ t
one-tree p q = cc

-- a placement has one slack
pub slack-unique : (types : List Repeater) (p : Placement) (driver : ℕ) (t : Tree) {a b : ℤ} → IsSlack types p driver t a → IsSlack types p driver t b → a ≡ b
unfolding IsSlack
slack-unique types p driver t f g = least-unique f g

-- and one timing
pub timing-unique : (es : List Entry) (words : List ℕ) (v w : Timing) → TimingOf es words v → TimingOf es words w → v ≡ w
timing-unique es words v w f g =
    let e = one-tree f.tree_is g.tree_is in
    let s = slack-unique (types_of es) (marks words) (driver_ohms (rows_of es)) g.tree (rw e at f.slack) g.slack in
    let l : v.load ≡ w.load = f.load ∙ ap (load_of (types_of es) (marks words)) e ∙ sym g.load in
    λ i. record { slack = s i; load = l i }

-- a net and a placement settle the answer
pub slack-settled : (net : Handed) (words : List ℕ) (a b : Result Timed Refusal) → SlackPromise net words a → SlackPromise net words b → a ≡ b
unfolding SlackPromise
slack-settled net words a b = either (slack_refusal net words) (λ r p q. slack-figures a b (p ∙ sym q)) (λ (v, p, f) (w, q, g). slack-figures a b (p ∙ ap done (timing-unique net.entries words v w f g) ∙ sym q))

-- ---- list_at
-- a row has one list, written in one way
pub list-unique : (es : List Entry) (row : ℕ) (before : Lent) (x y : Lent) (m n : ℕ) → ListOf es row before x m → ListOf es row before y n → (m ≡ n) × (x ≡ y)
list-unique es row before x y m n f g = same (unbeaten-unique (rw (one-tree f.tree_is g.tree_is) at f.unbeaten) g.unbeaten)
  where
    loads : f.list ≡ g.list → x.loads ≡ y.loads
    loads l = f.loads ∙ ap (λ k. written (map (λ c. c.load) k) before.loads) l ∙ sym g.loads

    times : f.list ≡ g.list → x.times ≡ y.times
    times l = f.times ∙ ap (λ k. written (map (λ c. c.time) k) before.times) l ∙ sym g.times

    same : f.list ≡ g.list → (m ≡ n) × (x ≡ y)
    same l = (f.long ∙ ap length l ∙ sym g.long, λ i. record { loads = loads l i; times = times l i })

-- a net, a row and the lent areas settle the answer and every lent word after
pub list-settled : {W : Type 0} (s : Storage W) (net : Handed) (row : ℕ) (before : ListAreas W) (a b : Result ℕ Refusal) (x y : ListAreas W) → ListPromise s net row before a x → ListPromise s net row before b y → (a ≡ b) × (x ≡ y)
unfolding ListPromise
list-settled s net row before a b x y = either (list_refusal (short_lent before.list || s.short before.work) net row) (λ r (p, f) (q, g). (list-figures a b (p ∙ sym q), f ∙ sym g)) where_not
  where
    where_not : (len : ℕ) × (list_figures a ≡ done len) × ListOf net.entries row before.list x.list len × (x.work ≡ s.cleared before.work) → (len : ℕ) × (list_figures b ≡ done len) × ListOf net.entries row before.list y.list len × (y.work ≡ s.cleared before.work) → (a ≡ b) × (x ≡ y)
    where_not (i, p, f, h) (j, q, g, k) =
        let e = list-unique net.entries row before.list x.list y.list i j f g in
        (list-figures a b (p ∙ ap done e.0 ∙ sym q), λ z. record { list = e.1 z; work = (h ∙ sym k) z })

-- ---- loads_at
-- of two lists written alike, with the work area, the loads and the work area
loads-alone : {W : Type 0} {x y : Lent} {v w : W} → list_areas x v ≡ list_areas y w → loads_areas x.loads v ≡ loads_areas y.loads w
loads-alone {W} e = ap (λ (m : ListAreas W). loads_areas m.list.loads m.work) e

-- a net, a row and the lent areas settle the answer and every lent word after
pub loads-settled : {W : Type 0} (s : Storage W) (net : Handed) (row : ℕ) (before : LoadsAreas W) (a b : Result ℕ Refusal) (x y : LoadsAreas W) → LoadsPromise s net row before a x → LoadsPromise s net row before b y → (a ≡ b) × (x ≡ y)
unfolding LoadsPromise
loads-settled s net row before a b x y (t, p) (u, q) =
    let (e, m) = list-settled s net row (list_areas (lent_of before.loads unseen_times) before.work) a b (list_areas (lent_of x.loads t) x.work) (list_areas (lent_of y.loads u) y.work) p q in
    (e, loads-alone m)

-- no list depends on what its area of times held, nor on how long that was beyond its room
pub other-times : {W : Type 0} (s : Storage W) (net : Handed) (row : ℕ) (before after : Lent) (work work' : W) (a : Result ℕ Refusal) (times : List ℤ) → ltb (length before.times) list_room ≡ false → ltb (length times) list_room ≡ false
    → ListPromise s net row (list_areas before work) a (list_areas after work') → (times' : List ℤ) × ListPromise s net row (list_areas (lent_of before.loads times) work) a (list_areas (lent_of after.loads times') work')
unfolding ListPromise short_lent
other-times {W} s net row before after work work' a times e f p = rw f (go (list_refusal ((ltb (length before.loads) list_room || false) || s.short work) net row) (rw e at p))
  where
    Stays : List ℤ → Refusal → Type 0
    Stays t r = (list_figures a ≡ refused 0 r) × (list_areas (lent_of after.loads t) work' ≡ list_areas (lent_of before.loads times) work)

    Gives : List ℤ → Type 0
    Gives t = (len : ℕ) × (list_figures a ≡ done len) × ListOf net.entries row (lent_of before.loads times) (lent_of after.loads t) len × (work' ≡ s.cleared work)

    go : (o : Option Refusal) → Settled o (λ r. (list_figures a ≡ refused 0 r) × (list_areas after work' ≡ list_areas before work)) ((len : ℕ) × (list_figures a ≡ done len) × ListOf net.entries row before after len × (work' ≡ s.cleared work)) → (t : List ℤ) × Settled o (Stays t) (Gives t)
    go none (len, g, l, c) = (written (map (λ c. c.time) l.list) times, (len, g, record { tree = l.tree; tree_is = l.tree_is; list = l.list; unbeaten = l.unbeaten; few = l.few; long = l.long; loads = l.loads; times = refl }, c))
    go (some r) (g, m) = (times, (g, ap (λ (x : LoadsAreas W). list_areas (lent_of x.loads times) x.work) (loads-alone m)))

-- so where list_at has room for its times, loads_at gives the same answer and the same loads, and leaves the same work area
pub loads-listed : {W : Type 0} (s : Storage W) (net : Handed) (row : ℕ) (before after : Lent) (work work' : W) (a b : Result ℕ Refusal) (y : LoadsAreas W) → ltb (length before.times) list_room ≡ false
    → ListPromise s net row (list_areas before work) a (list_areas after work') → LoadsPromise s net row (loads_areas before.loads work) b y → (a ≡ b) × (loads_areas after.loads work' ≡ y)
unfolding LoadsPromise
loads-listed s net row before after work work' a b y e p q = loads-settled s net row (loads_areas before.loads work) a b (loads_areas after.loads work') y (other-times s net row before after work work' a unseen_times e refl p) q

-- ---- plan_net
-- two planned placements have one slack and one load
pub planned-unique : (types : List Repeater) (driver : ℕ) (t : Tree) (p q : Placement) (v w : Timing) → Planned types driver t p v.slack v.load → Planned types driver t q w.slack w.load → v ≡ w
planned-unique types driver t p q v w f g =
    let s : v.slack ≡ w.slack = ≤-antisym (g.greatest p v.slack f.legal f.slack_is) (f.greatest q w.slack g.legal g.slack_is) in
    let a = f.least q g.legal (rw s g.slack_is) in
    let b = g.least p f.legal (rw (← s) f.slack_is) in
    let l : v.load ≡ w.load = omega (arith, f.load_is, g.load_is) in
    λ i. record { slack = s i; load = l i }

-- what two results of a plan have alike by the promise alone: the answer, the work area, and the placement, or else both placements are planned
pub record SamePlan {W : Type 0} (es : List Entry) (before : List ℕ) (a b : Result Timed Refusal) (x y : PlanAreas W) : Type 0 where
  pub answer : a ≡ b
  pub work : x.work ≡ y.work
  pub words : (x.placement ≡ y.placement) ⊎ ((timing : Timing) × (plan_figures a ≡ done timing) × PlanOf es before x.placement timing × PlanOf es before y.placement timing)

-- a net and the lent areas settle all but which planned placement is returned
pub plan-alike : {W : Type 0} (s : Storage W) (net : Handed) (before : PlanAreas W) (a b : Result Timed Refusal) (x y : PlanAreas W) → PlanPromise s net before a x → PlanPromise s net before b y → SamePlan net.entries before.placement a b x y
unfolding PlanPromise
plan-alike {W} s net before a b x y = either (net_refusal (short_placement before.placement || s.short before.work) net) where_refused where_not
  where
    where_refused : (r : Refusal) → (plan_figures a ≡ refused no_timing r) × (x ≡ before) → (plan_figures b ≡ refused no_timing r) × (y ≡ before) → SamePlan net.entries before.placement a b x y
    where_refused r (p, f) (q, g) = record { answer = plan-figures a b (p ∙ sym q); work = ap (λ (m : PlanAreas W). m.work) (f ∙ sym g); words = inl (ap (λ (m : PlanAreas W). m.placement) (f ∙ sym g)) }

    where_not : (i : Timing) × (plan_figures a ≡ done i) × PlanOf net.entries before.placement x.placement i × (x.work ≡ s.cleared before.work) → (i : Timing) × (plan_figures b ≡ done i) × PlanOf net.entries before.placement y.placement i × (y.work ≡ s.cleared before.work) → SamePlan net.entries before.placement a b x y
    where_not (i, p, f, h) (j, q, g, k) =
        let e = one-tree f.tree_is g.tree_is in
        let d = planned-unique (types_of net.entries) (driver_ohms (rows_of net.entries)) g.tree (marks f.words) (marks g.words) i j (rw e at f.planned) g.planned in
        record { answer = plan-figures a b (p ∙ ap done d ∙ sym q); work = h ∙ sym k; words = inr (i, p, f, rw (← d) at g) }
