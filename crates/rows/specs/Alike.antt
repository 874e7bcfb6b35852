-- Two trees that differ only in the order of what hangs beside each other: no placement, load, time or size tells one from the other,
-- nor does the method's list, the placements that it carries included. Assumes nothing.
use Rattle.std.specs.Prelude.{◌≡◌, refl, List, [], ◌⊎◌, ℕ, ◌+◌, ℤ}
use Rattle.std.proofs.Common.{sym, ap, ap₂, ◌∙◌, inl, inr, ⊎_elim, arith}
use Rattle.std.proofs.Math.Option.{Option, none, some}
use Rattle.rules.specs.Entries.{Repeater}
use Rattle.rules.specs.Placements.{Placement}
use Rattle.rules.specs.Net.{Tree, beside}
use Rattle.rules.specs.Slack.{load_of}
use Rattle.rules.specs.Pairs.{sites_on}
use Rattle.laws.specs.Lists.{EveryTwo}
use Rattle.laws.specs.Integers.{minℤ, min-swap, min-turn}
use Rattle.laws.specs.Candidates.{Cand, Below}
use Rattle.laws.specs.Steps.{merge}
use Rattle.laws.proofs.Steps.{merge-rising}
use Rattle.laws.specs.Joining.{join_marks}
use Rattle.laws.specs.Merging.{join-swap, join-turn}
use Rattle.laws.proofs.Merging.{merge-swap, merge-turn}
use Rattle.laws.specs.Method.{front_of}
use Rattle.laws.proofs.Method.{method}
use Rattle.laws.specs.Trees.{time}
use Rattle.laws.specs.Ranges.{weight, stages}
use Rattle.laws.specs.Hanging.{OnIf, ProperIf}
use Rattle.laws.specs.Sums.{over}
use Rattle.laws.specs.Within.{Within, InIf}

-- ---- two beside each other, measure by measure
-- the time, if there is one, of what may not be there
abbrev lesser : Option ℤ → Option ℤ → Option ℤ
lesser none b = b
lesser (some a) none = some a
lesser (some a) (some b) = some (minℤ a b)

abbrev pub time_if : List Repeater → Placement → Option Tree → Option ℤ
time_if types p none = none
time_if types p (some t) = some (time types p t)

time-beside : (types : List Repeater) (p : Placement) (u v : Option Tree) → time_if types p (beside u v) ≡ lesser (time_if types p u) (time_if types p v)
unfolding time
time-beside types p none v = refl
time-beside types p (some s) none = refl
time-beside types p (some s) (some t) = refl

load-beside : (types : List Repeater) (p : Placement) (u v : Option Tree) → over (load_of types p) (beside u v) ≡ over (load_of types p) u + over (load_of types p) v
unfolding load_of
load-beside types p none v = omega arith
load-beside types p (some s) none = omega arith
load-beside types p (some s) (some t) = omega arith

pub sites-beside : (u v : Option Tree) → over sites_on (beside u v) ≡ over sites_on u + over sites_on v
unfolding sites_on
sites-beside none v = omega arith
sites-beside (some s) none = omega arith
sites-beside (some s) (some t) = omega arith

weight-beside : (u v : Option Tree) → over weight (beside u v) ≡ over weight u + over weight v
unfolding weight
weight-beside none v = omega arith
weight-beside (some s) none = omega arith
weight-beside (some s) (some t) = omega arith

stages-beside : (u v : Option Tree) → over stages (beside u v) ≡ over stages u + over stages v
unfolding stages
stages-beside none v = omega arith
stages-beside (some s) none = omega arith
stages-beside (some s) (some t) = omega arith

on-left : (u v : Option Tree) (j : ℕ) → OnIf u j → OnIf (beside u v) j
on-left none v j o = absurd o
on-left (some s) none j o = o
on-left (some s) (some t) j o = inl o

on-right : (u v : Option Tree) (j : ℕ) → OnIf v j → OnIf (beside u v) j
on-right none v j o = o
on-right (some s) none j o = absurd o
on-right (some s) (some t) j o = inr o

on-either : (u v : Option Tree) (j : ℕ) → OnIf (beside u v) j → OnIf u j ⊎ OnIf v j
on-either none v j o = inr o
on-either (some s) none j o = inl o
on-either (some s) (some t) j o = o

in_parts : (u v : Option Tree) → InIf (beside u v) → InIf u × InIf v
in_parts none v i = (tt, i)
in_parts (some s) none i = (i, tt)
in_parts (some s) (some t) i = i

in-beside : (u v : Option Tree) → InIf u → InIf v → InIf (beside u v)
in-beside none v a b = b
in-beside (some s) none a b = a
in-beside (some s) (some t) a b = (a, b)

-- no site in common
abbrev pub Apart : (u v : Option Tree) → Type 0
Apart u v = (j : ℕ) → OnIf u j → ¬ (OnIf v j)

pub proper-parts : (u v : Option Tree) → ProperIf (beside u v) → Apart u v × (ProperIf u × ProperIf v)
proper-parts none v p = (λ j o q. o, (tt, p))
proper-parts (some s) none p = (λ j o q. q, (p, tt))
proper-parts (some s) (some t) p = (p.0, (p.1, p.2))

proper-beside : (u v : Option Tree) → Apart u v → ProperIf u → ProperIf v → ProperIf (beside u v)
proper-beside none v a p q = q
proper-beside (some s) none a p q = p
proper-beside (some s) (some t) a p q = (a, p, q)

-- ---- times in another order
lesser-swap : (a b : Option ℤ) → lesser a b ≡ lesser b a
lesser-swap none none = refl
lesser-swap none (some b) = refl
lesser-swap (some a) none = refl
lesser-swap (some a) (some b) = ap some (min-swap a b)

lesser-turn : (a b c : Option ℤ) → lesser (lesser a b) c ≡ lesser b (lesser a c)
lesser-turn none b c = refl
lesser-turn (some a) none c = refl
lesser-turn (some a) (some b) none = ap some (min-swap a b)
lesser-turn (some a) (some b) (some c) = ap some (ap (λ m. minℤ m c) (min-swap a b) ∙ min-turn b a c)

-- ---- the method's lists in another order, the placements that they carry included
abbrev Lists : Type 0
Lists = Option (List (Cand Placement))

abbrev pub list_if : List Repeater → Option Tree → Option (List (Cand Placement))
list_if types none = none
list_if types (some t) = some (front_of types t)

abbrev met : Lists → Lists → Lists
met none b = b
met (some a) none = some a
met (some a) (some b) = some (merge join_marks a b)

abbrev Rises : Lists → Type 0
Rises none = Unit {0}
Rises (some l) = EveryTwo Below l

list-beside : (types : List Repeater) (u v : Option Tree) → list_if types (beside u v) ≡ met (list_if types u) (list_if types v)
unfolding front_of
list-beside types none v = refl
list-beside types (some s) none = refl
list-beside types (some s) (some t) = refl

list-rises : (types : List Repeater) (u : Option Tree) → ProperIf u → Rises (list_if types u)
list-rises types none p = tt
list-rises types (some t) p = (method types t p).rising

met-rises : (a b : Lists) → Rises a → Rises b → Rises (met a b)
met-rises none b p q = q
met-rises (some a) none p q = p
met-rises (some a) (some b) p q = merge-rising join_marks p q

met-swap : (a b : Lists) → Rises a → Rises b → met a b ≡ met b a
met-swap none none p q = refl
met-swap none (some b) p q = refl
met-swap (some a) none p q = refl
met-swap (some a) (some b) p q = ap some (merge-swap join_marks join-swap join-turn p q)

met-turn : (a b c : Lists) → Rises a → Rises b → Rises c → met (met a b) c ≡ met b (met a c)
met-turn none b c p q r = refl
met-turn (some a) none c p q r = refl
met-turn (some a) (some b) none p q r = ap some (merge-swap join_marks join-swap join-turn p q)
met-turn (some a) (some b) (some c) p q r = ap some (ap (λ l. merge join_marks l c) (merge-swap join_marks join-swap join-turn p q) ∙ merge-turn join_marks join-swap join-turn q p r)

met-second : (a b c d : Lists) → Rises a → Rises b → Rises c → Rises d → met (met a (met b c)) d ≡ met (met a c) (met b d)
met-second a b c d p q r s = met-turn a (met b c) d p (met-rises b c q r) s ∙ met-turn b c (met a d) q r (met-rises a d p s) ∙ ap (met c) (sym (met-turn a b d p q s) ∙ ap (λ z. met z d) (met-swap a b p q) ∙ met-turn b a d q p s) ∙ sym (met-turn a c (met b d) p r (met-rises b d q s))

-- ---- alike
pub record Alike (u v : Option Tree) : Type 0 where
  pub on : (j : ℕ) → OnIf u j → OnIf v j
  pub back : (j : ℕ) → OnIf v j → OnIf u j
  pub load : (types : List Repeater) (p : Placement) → over (load_of types p) u ≡ over (load_of types p) v
  pub time : (types : List Repeater) (p : Placement) → time_if types p u ≡ time_if types p v
  pub list : (types : List Repeater) → ProperIf v → list_if types u ≡ list_if types v
  pub sites : over sites_on u ≡ over sites_on v
  pub weight : over weight u ≡ over weight v
  pub stages : over stages u ≡ over stages v
  pub inside : InIf v → InIf u
  pub proper : ProperIf v → ProperIf u

pub alike_same : (u : Option Tree) → Alike u u
alike_same u = record { on = λ j o. o; back = λ j o. o; load = λ types p. refl; time = λ types p. refl; list = λ types p. refl; sites = refl; weight = refl; stages = refl; inside = λ i. i; proper = λ p. p }

pub alike_then : {u v x : Option Tree} → Alike u v → Alike v x → Alike u x
alike_then a b = record {
  on = λ j o. b.on j (a.on j o);
  back = λ j o. a.back j (b.back j o);
  load = λ types p. a.load types p ∙ b.load types p;
  time = λ types p. a.time types p ∙ b.time types p;
  list = λ types p. a.list types (b.proper p) ∙ b.list types p;
  sites = a.sites ∙ b.sites;
  weight = a.weight ∙ b.weight;
  stages = a.stages ∙ b.stages;
  inside = λ i. a.inside (b.inside i);
  proper = λ p. a.proper (b.proper p);
}

-- a measure that adds up
module _ (μ : Tree → ℕ) (adds : (u v : Option Tree) → over μ (beside u v) ≡ over μ u + over μ v) where
  moved-over : (x u v : Option Tree) → over μ (beside (beside x u) v) ≡ over μ (beside u (beside x v))
  moved-over x u v = omega (arith, adds (beside x u) v, adds x u, adds u (beside x v), adds x v)

  second-over : (h x u v : Option Tree) → over μ (beside (beside h (beside x u)) v) ≡ over μ (beside (beside h u) (beside x v))
  second-over h x u v = omega (arith, adds (beside h (beside x u)) v, adds h (beside x u), adds x u, adds (beside h u) (beside x v), adds h u, adds x v)

-- x taken from what comes, and put first of what is there
pub alike-first : (x u v : Option Tree) → Alike (beside (beside x u) v) (beside u (beside x v))
alike-first x u v = record {
  on = λ j o. ⊎_elim (λ a. ⊎_elim (λ b. on-right u (beside x v) j (on-left x v j b)) (λ b. on-left u (beside x v) j b) (on-either x u j a)) (λ a. on-right u (beside x v) j (on-right x v j a)) (on-either (beside x u) v j o);
  back = λ j o. ⊎_elim (λ a. on-left (beside x u) v j (on-right x u j a)) (λ a. ⊎_elim (λ b. on-left (beside x u) v j (on-left x u j b)) (λ b. on-right (beside x u) v j b) (on-either x v j a)) (on-either u (beside x v) j o);
  load = λ types p. moved-over (load_of types p) (load-beside types p) x u v;
  time = λ types p. times types p;
  list = λ types p. lists types (proper-parts u (beside x v) p);
  sites = moved-over sites_on sites-beside x u v;
  weight = moved-over weight weight-beside x u v;
  stages = moved-over stages stages-beside x u v;
  inside = λ i. let (a, b) = in_parts u (beside x v) i in let (c, d) = in_parts x v b in in-beside (beside x u) v (in-beside x u c a) d;
  proper = λ p. propers (proper-parts u (beside x v) p);
}
  where
    times : (types : List Repeater) (p : Placement) → time_if types p (beside (beside x u) v) ≡ time_if types p (beside u (beside x v))
    times types p = rw (time-beside types p (beside x u) v, time-beside types p x u, time-beside types p u (beside x v), time-beside types p x v) (lesser-turn (time_if types p x) (time_if types p u) (time_if types p v))

    lists : (types : List Repeater) → Apart u (beside x v) × (ProperIf u × ProperIf (beside x v)) → list_if types (beside (beside x u) v) ≡ list_if types (beside u (beside x v))
    lists types (a, (p, q)) =
        let (b, (r, s)) = proper-parts x v q in
        list-beside types (beside x u) v ∙ ap (λ z. met z (list_if types v)) (list-beside types x u) ∙ met-turn (list_if types x) (list_if types u) (list_if types v) (list-rises types x r) (list-rises types u p) (list-rises types v s) ∙ ap (met (list_if types u)) (sym (list-beside types x v)) ∙ sym (list-beside types u (beside x v))

    propers : Apart u (beside x v) × (ProperIf u × ProperIf (beside x v)) → ProperIf (beside (beside x u) v)
    propers (a, (p, q)) =
        let (b, (r, s)) = proper-parts x v q in
        proper-beside (beside x u) v
        (λ j o k. ⊎_elim (λ l. b j l k) (λ l. a j l (on-right x v j k)) (on-either x u j o))
        (proper-beside x u (λ j o k. a j k (on-left x v j o)) r p)
        s

-- x taken from what comes, and put second
pub alike-second : (h x u v : Option Tree) → Alike (beside (beside h (beside x u)) v) (beside (beside h u) (beside x v))
alike-second h x u v = record {
  on = λ j o. ⊎_elim (λ a. ⊎_elim (λ b. on-left (beside h u) (beside x v) j (on-left h u j b)) (λ b. ⊎_elim (λ c. on-right (beside h u) (beside x v) j (on-left x v j c)) (λ c. on-left (beside h u) (beside x v) j (on-right h u j c)) (on-either x u j b)) (on-either h (beside x u) j a)) (λ a. on-right (beside h u) (beside x v) j (on-right x v j a)) (on-either (beside h (beside x u)) v j o);
  back = λ j o. ⊎_elim (λ a. on-left (beside h (beside x u)) v j (⊎_elim (λ b. on-left h (beside x u) j b) (λ b. on-right h (beside x u) j (on-right x u j b)) (on-either h u j a))) (λ a. ⊎_elim (λ b. on-left (beside h (beside x u)) v j (on-right h (beside x u) j (on-left x u j b))) (λ b. on-right (beside h (beside x u)) v j b) (on-either x v j a)) (on-either (beside h u) (beside x v) j o);
  load = λ types p. second-over (load_of types p) (load-beside types p) h x u v;
  time = λ types p. times types p;
  list = λ types p. lists types (proper-parts (beside h u) (beside x v) p);
  sites = second-over sites_on sites-beside h x u v;
  weight = second-over weight weight-beside h x u v;
  stages = second-over stages stages-beside h x u v;
  inside = λ i. let (a, b) = in_parts (beside h u) (beside x v) i in let (c, d) = in_parts h u a in let (e, f) = in_parts x v b in in-beside (beside h (beside x u)) v (in-beside h (beside x u) c (in-beside x u e d)) f;
  proper = λ p. propers (proper-parts (beside h u) (beside x v) p);
}
  where
    turned : (a b c d : Option ℤ) → lesser (lesser a (lesser b c)) d ≡ lesser (lesser a c) (lesser b d)
    turned a b c d = lesser-turn a (lesser b c) d ∙ lesser-turn b c (lesser a d) ∙ ap (lesser c) (sym (lesser-turn a b d) ∙ ap (λ z. lesser z d) (lesser-swap a b) ∙ lesser-turn b a d) ∙ sym (lesser-turn a c (lesser b d))

    times : (types : List Repeater) (p : Placement) → time_if types p (beside (beside h (beside x u)) v) ≡ time_if types p (beside (beside h u) (beside x v))
    times types p = rw (time-beside types p (beside h (beside x u)) v, time-beside types p h (beside x u), time-beside types p x u, time-beside types p (beside h u) (beside x v), time-beside types p h u, time-beside types p x v) (turned (time_if types p h) (time_if types p x) (time_if types p u) (time_if types p v))

    lists : (types : List Repeater) → Apart (beside h u) (beside x v) × (ProperIf (beside h u) × ProperIf (beside x v)) → list_if types (beside (beside h (beside x u)) v) ≡ list_if types (beside (beside h u) (beside x v))
    lists types (a, (p, q)) =
        let (b, (r, s)) = proper-parts h u p in
        let (c, (y, z)) = proper-parts x v q in
        list-beside types (beside h (beside x u)) v ∙ ap (λ k. met k (list_if types v)) (list-beside types h (beside x u) ∙ ap (met (list_if types h)) (list-beside types x u)) ∙ met-second (list_if types h) (list_if types x) (list_if types u) (list_if types v) (list-rises types h r) (list-rises types x y) (list-rises types u s) (list-rises types v z) ∙ ap₂ met (sym (list-beside types h u)) (sym (list-beside types x v)) ∙ sym (list-beside types (beside h u) (beside x v))

    propers : Apart (beside h u) (beside x v) × (ProperIf (beside h u) × ProperIf (beside x v)) → ProperIf (beside (beside h (beside x u)) v)
    propers (a, (p, q)) =
        let (b, (r, s)) = proper-parts h u p in
        let (c, (y, z)) = proper-parts x v q in
        proper-beside (beside h (beside x u)) v
        (λ j o k. ⊎_elim (λ l. a j (on-left h u j l) (on-right x v j k)) (λ l. ⊎_elim (λ m. c j m k) (λ m. a j (on-right h u j m) (on-right x v j k)) (on-either x u j l)) (on-either h (beside x u) j o))
        (proper-beside h (beside x u) (λ j o k. ⊎_elim (λ l. a j (on-left h u j o) (on-left x v j l)) (λ l. b j o l) (on-either x u j k)) r (proper-beside x u (λ j o k. a j (on-right h u j k) (on-left x v j o)) y s))
        z

-- ---- what passes from one to the other
-- nothing is like nothing only
pub alike-none : (v : Option Tree) → Alike none v → v ≡ none
alike-none none A = refl
alike-none (some t) A = absurd (let z : ◌≡◌ {A = ℕ} 0 1 = clash (time [] (λ j. 0) t) (A.time [] (λ j. 0)) in omega arith)
  where
    clash : (t : ℤ) → none ≡ some t → ◌≡◌ {A = ℕ} 0 1
    clash t e = cc

pub alike-within : {u v : Option Tree} → Alike u v → Within v → Within u
alike-within A W = record { inside = A.inside W.inside; light = omega (arith, A.weight, W.light); short = omega (arith, A.stages, W.short); few = omega (arith, A.sites, W.few) }

-- and to the one of two beside each other
pub within-left : (u v : Option Tree) → Within (beside u v) → Within u
within-left u v W = record {
  inside = (in_parts u v W.inside).0;
  light = omega (arith, weight-beside u v, W.light);
  short = omega (arith, stages-beside u v, W.short);
  few = omega (arith, sites-beside u v, W.few);
}

pub beside_none : (u : Option Tree) → beside u none ≡ u
beside_none none = refl
beside_none (some t) = refl
