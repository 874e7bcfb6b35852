-- The entries of both storages give the same: one answer, the same words in the lent areas, and work areas that stand alike after. From the
-- contracts, on the same tables, counts and areas, where both work areas are short or both are long enough; of a placement, also from that an
-- area of 64-bit words holds such words. Assumes nothing.
use Rattle.std.specs.Prelude.{◌≡◌, refl, Bool, ◌||◌, List, ℕ, ℤ, Result}
use Rattle.std.proofs.Common.{ap}
use Rattle.rules.specs.declared.Cand.{Cand}
use Rattle.rules.specs.Answers.{plan_figures, list_figures, no_timing}
use Rattle.rules.specs.Areas.{short_placement, Lent, short_lent, Storage, Columns, columns, records, PlanAreas, ListAreas, plan_areas, list_areas}
use Rattle.rules.specs.Promises.{Handed, net_refusal, list_refusal, PlanOf, ListOf, PlanPromise, ListPromise, tabled}
use Rattle.rules.specs.Tables.{tables_of, counts_of}
use Rattle.laws.specs.Picked.{Picks, Words64}
use Rattle.laws.proofs.Picked.{plan-settled}
use Rattle.laws.specs.Settled.{list-settled}
use Rattle.chosen.specs.Promised.{entries_of}
use Rattle.stands.specs.Work.{WorkAlike, Left, untold}
use Rattle.rules.specs.declared.Timed.{Timed}
use Rattle.rules.specs.declared.Refusal.{Refusal}
use Rattle.stands.proofs.Work.{work-alike, left_by, told-by}

-- a net in its tables
abbrev net_of : (types rows : List ℕ) (due : List ℤ) (count n : ℕ) → Handed
net_of types rows due count n = tabled (tables_of types rows due) (counts_of count n)

-- ---- list_at and list_records
module _ {W : Type 0} (s : Storage W) (net : Handed) (row : ℕ) (before after : ListAreas W) (a : Result ℕ Refusal) (p : ListPromise s net row before a after) where
  list-untold : (b : Bool) → s.short before.work ≡ b → ListPromise (untold b) net row (list_areas before.list tt) a (list_areas after.list tt)
  unfolding ListPromise
  list-untold b e = rw (← e) (told-by s (λ (m : ListAreas W). m.work) 0 (list_figures a) (λ len. ListOf net.entries row before.list after.list len) before after (λ (m : ListAreas W). list_areas m.list tt) (list_refusal (short_lent before.list || s.short before.work) net row) p)

  list_left : Left s (list_figures a).number before.work after.work
  unfolding ListPromise
  list_left = left_by s (λ (m : ListAreas W). m.work) 0 (list_figures a) (λ len. ListOf net.entries row before.list after.list len) before after (list_refusal (short_lent before.list || s.short before.work) net row) p

-- one answer, the same words in the areas of the list, and the work areas alike: from the contracts of `list_at` and `list_records`
pub list_same : (types rows : List ℕ) (due : List ℤ) (count n row : ℕ) (before x y : Lent) (c c' : Columns) (r r' : List Cand) (a b : Result ℕ Refusal) → columns.short c ≡ records.short r
    → ListPromise columns (tabled (tables_of types rows due) (counts_of count n)) row (list_areas before c) a (list_areas x c')
    → ListPromise records (tabled (tables_of types rows due) (counts_of count n)) row (list_areas before r) b (list_areas y r')
    → (a ≡ b) × (x ≡ y) × WorkAlike (list_figures a).number c c' r r'
list_same types rows due count n row before x y c c' r r' a b short p q =
    let net = net_of types rows due count n in
    let f = list-untold columns net row (list_areas before c) (list_areas x c') a p (records.short r) short in
    let g = list-untold records net row (list_areas before r) (list_areas y r') b q (records.short r) refl in
    let s = list-settled (untold (records.short r)) net row (list_areas before tt) a b (list_areas x tt) (list_areas y tt) f g in
    let e : a ≡ b = s.0 in
    (e, ap (λ (m : ListAreas (Unit {0})). m.list) s.1, work-alike (list_figures a).number c c' r r' (list_left columns net row (list_areas before c) (list_areas x c') a p) (rw (← e) at (list_left records net row (list_areas before r) (list_areas y r') b q)))

-- ---- plan_net and plan_records
module _ {W : Type 0} (s : Storage W) (net : Handed) (before after : PlanAreas W) (a : Result Timed Refusal) (p : PlanPromise s net before a after) where
  plan-untold : (b : Bool) → s.short before.work ≡ b → PlanPromise (untold b) net (plan_areas before.placement tt) a (plan_areas after.placement tt)
  unfolding PlanPromise
  plan-untold b e = rw (← e) (told-by s (λ (m : PlanAreas W). m.work) no_timing (plan_figures a) (λ v. PlanOf net.entries before.placement after.placement v) before after (λ (m : PlanAreas W). plan_areas m.placement tt) (net_refusal (short_placement before.placement || s.short before.work) net) p)

  plan-left : Left s (plan_figures a).number before.work after.work
  unfolding PlanPromise
  plan-left = left_by s (λ (m : PlanAreas W). m.work) no_timing (plan_figures a) (λ v. PlanOf net.entries before.placement after.placement v) before after (net_refusal (short_placement before.placement || s.short before.work) net) p

-- one answer, the same placement area to the last word, and the work areas alike: from the contracts of `plan_net` and `plan_records`
pub plan-same : (types rows : List ℕ) (due : List ℤ) (count n : ℕ) (before x y : List ℕ) (c c' : Columns) (r r' : List Cand) (a b : Result Timed Refusal) → columns.short c ≡ records.short r
    → PlanPromise columns (tabled (tables_of types rows due) (counts_of count n)) (plan_areas before c) a (plan_areas x c') → Picks (entries_of types rows due count n) before x (plan_figures a).number
    → PlanPromise records (tabled (tables_of types rows due) (counts_of count n)) (plan_areas before r) b (plan_areas y r') → Picks (entries_of types rows due count n) before y (plan_figures b).number
    → Words64 x → Words64 y
    → (a ≡ b) × (x ≡ y) × WorkAlike (plan_figures a).number c c' r r'
plan-same types rows due count n before x y c c' r r' a b short p f q f' h k =
    let net = net_of types rows due count n in
    let g = plan-untold columns net (plan_areas before c) (plan_areas x c') a p (records.short r) short in
    let i = plan-untold records net (plan_areas before r) (plan_areas y r') b q (records.short r) refl in
    let s = plan-settled (untold (records.short r)) net (plan_areas before tt) a b (plan_areas x tt) (plan_areas y tt) g i f f' h k in
    let m : a ≡ b = s.0 in
    (m, ap (λ (z : PlanAreas (Unit {0})). z.placement) s.1, work-alike (plan_figures a).number c c' r r' (plan-left columns net (plan_areas before c) (plan_areas x c') a p) (rw (← m) at (plan-left records net (plan_areas before r) (plan_areas y r') b q)))
