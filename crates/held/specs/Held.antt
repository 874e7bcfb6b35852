-- The run that an entry holds is all zero before its call and after it, whatever the answer: the planner over records leaves a run as it was,
-- or its room all zero. Assumes nothing.
use Rattle.std.specs.Prelude.{◌≡◌, ◌||◌, List, ℕ, length, Result}
use Rattle.std.proofs.Common.{sym, ap, subst, append-nil, arith, drop_of_length-le}
use Rattle.std.proofs.Math.Option.{Option, none, some}
use Rattle.rules.specs.declared.Cand.{Cand}
use Rattle.rules.specs.declared.Refusal.{Refusal}
use Rattle.rules.specs.Lists.{written}
use Rattle.rules.specs.Tables.{Tables, Counts}
use Rattle.rules.specs.Promises.{Settled, list_refusal, PlanPromise, ListPromise, net_refusal, tabled}
use Rattle.rules.specs.declared.Timed.{Timed}
use Rattle.rules.specs.Areas.{short_placement, short_lent, records, blank_run, Lent, PlanAreas, ListAreas, list_areas, plan_areas}

whole : {A : Type 0} (l : List A) → written l l ≡ l
unfolding written
whole l = rw (drop_of_length-le l {i = length l} (omega arith)) (append-nil l)

blank-cleared : records.cleared blank_run ≡ blank_run
unfolding records
blank-cleared = whole blank_run

settled : (o : Option Refusal) {P Q : Refusal → Type 0} {X Y : Type 0} → ((r : Refusal) → P r → Q r) → (X → Y) → Settled o P X → Settled o Q Y
settled none f g h = g h
settled (some r) f g h = f r h

pub plan-held : (t : Tables) (n : Counts) (before after : List ℕ) (answer : Result Timed Refusal) (run run' : List Cand) → run ≡ blank_run → PlanPromise records (tabled t n) (plan_areas before run) answer (plan_areas after run') → PlanPromise records (tabled t n) (plan_areas before blank_run) answer (plan_areas after blank_run)
unfolding PlanPromise
plan-held t n before after answer run run' e kept =
    settled (net_refusal (short_placement before || records.short blank_run) (tabled t n)) (λ r h. (h.0, ap (λ (m : PlanAreas (List Cand)). plan_areas m.placement blank_run) h.1)) (λ h. (h.0, h.1, h.2, sym blank-cleared)) (subst (λ (z : List Cand). PlanPromise records (tabled t n) (plan_areas before z) answer (plan_areas after run')) e kept)

pub list_held : (t : Tables) (n : Counts) (row : ℕ) (before after : Lent) (answer : Result ℕ Refusal) (run run' : List Cand) → run ≡ blank_run → ListPromise records (tabled t n) row (list_areas before run) answer (list_areas after run') → ListPromise records (tabled t n) row (list_areas before blank_run) answer (list_areas after blank_run)
unfolding ListPromise
list_held t n row before after answer run run' e kept =
    settled (list_refusal (short_lent before || records.short blank_run) (tabled t n) row) (λ r h. (h.0, ap (λ (m : ListAreas (List Cand)). list_areas m.list blank_run) h.1)) (λ h. (h.0, h.1, h.2, sym blank-cleared)) (subst (λ (z : List Cand). ListPromise records (tabled t n) row (list_areas before z) answer (list_areas after run')) e kept)
