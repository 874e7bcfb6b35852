-- From what was made at the driver to the promise of `plan_records`, refused or not. Assumes nothing.
use Rattle.std.specs.Prelude.{◌≡◌, Bool, true, false, cond, ◌||◌, List, [], ◌∷◌, ◌++◌, ℕ, ◌+◌, ◌*◌, ◌≤◌, ◌<◌, ltb, ℤ, pos, length, get_or, take, drop, replicate, Result, Ok, Err}
use Rattle.std.proofs.Math.Path.{refl}
use Rattle.std.proofs.Common.{sym, ap, ◌∙◌, arith, length-take-le}
use Rattle.std.proofs.Math.Option.{some}
use borrow.Author.Tests.{ltb-false, le-ltb}
use Rattle.rules.specs.declared.Refusal.{Refusal}
use Rattle.rules.specs.declared.Refusal.TheVariants.{Short}
use Rattle.rules.specs.Lists.{written}
use Rattle.rules.specs.Quantities.{most_ohms, placement_room, work_room}
use Rattle.rules.specs.Answers.{plan_figures}
use Rattle.rules.specs.Promises.{CheckPromise, PlanOf, PlanPromise, net_refusal, tabled}
use Rattle.laws.specs.Steps.{best, value}
use Rattle.laws.specs.Rows.{row_in}
use Rattle.laws.specs.Walk.{no_row}
use Rattle.laws.specs.Tabled.{row_at, rows-length}
use Rattle.laws.specs.Picked.{Picks}
use Rattle.laws.proofs.Picked.{refused-picks}
use Rattle.laws.specs.Checked.{Passed, passed-own, short-own, checked-stopped, checked-passed}
use Rattle.rows.specs.Links.{row_is}
use Rattle.rows.specs.Given.{standing, net-accepted}
use Rattle.columns.specs.Parts.{part}
use Rattle.columns.specs.Run.{blank, words-read, place_at}
use Rattle.columns.specs.Made.{Stand}
use Rattle.columns.specs.Choosing.{delay-driver}
use Rattle.clearing.specs.Clearing.{cleared-written}
use Rattle.picked.specs.Picked.{Choice}
use Rattle.chosen.specs.Promised.{entries_of, timing_of, made-stand, plan-of, pick-of}
use Rattle.rules.specs.declared.Cand.{Cand}
use Rattle.rules.specs.Areas.{short_placement, zeros, records, plan_areas}
use Rattle.rules.specs.Tables.{tables_of, counts_of}
use Rattle.turns.specs.declared.Pass.{Pass}
use Rattle.values.specs.Records.{cand_of, cands}
use Rattle.runs.specs.Cands.{cands-length}
use Rattle.runs.specs.Passes.{Safe, Swept}
use Rattle.units.proofs.Times.{own_of}
use Rattle.runs.specs.Choices.{choices-safe, choices-swept}
use Rattle.runs.specs.Puts.{puts-safe, puts-clear}
use Rattle.sights.specs.Hanging.{Makes, Seen}
use Rattle.rules.specs.declared.Timed.{Timed}
use Rattle.records.specs.Entries.{driver_pass, clear_pass, Chooses, cleared, Plans, Chose, PlansIf, ChoseIf, FourIf, four_of, Told, ToldIf, Verdict, is_accepted, same-safe, same-swept}

-- ---- in the run
module _ (ws : List ℕ) (ds : List ℤ) (ts : List ℕ) (count n : ℕ) (w : List Cand) (P : Plans ws ds ts count n w) where
  pub plans-makes : Makes ws ds ts count n 0 w
  plans-makes = record { passed = P.passed; inside = omega (arith, standing P.passed); long = P.long }

  any-row : 0 < n
  any-row = omega (arith, standing P.passed)

  ohms : (row_at ws ds 0).resistance.0 ≤ most_ohms
  ohms = rw (row_is ws ds n 0 (row_at ws ds 0) any-row refl) at (row_in (net-accepted P.passed) no_row 0 (rw rows-length any-row)).resistance

  module _ (v : List Cand) (same : length v ≡ length w) (len : ℕ) (S : Seen ws ds ts count n 0 0 w v len) where
    long : work_room ≤ length v
    long = rw same P.long

    stand : Stand (cands v) 0 len
    stand = made-stand P.passed 0 any-row (cands w) (cands v) (rw (cands-length v) long) len S.made

    pub plans-chooses : Chooses ws ds len v
    plans-chooses = record {
      words = omega (arith, standing P.passed);
      times = omega (arith, standing P.passed);
      safe = choices-safe (record { 0 = pos 0 }) (row_at ws ds 0).resistance (own_of 0 (omega arith)) ohms v 0 len zeros (record { 0 = pos 0 }) long stand;
    }

    module _ (u : List Cand) (same₂ : length u ≡ length w) (e : Pass) (E : Swept (driver_pass ws ds len) v e u) where
      held : (u ≡ v) × (cand_of e.held ≡ best (λ m. (row_at ws ds 0).resistance.0 * m) (get_or (cands v) 0 blank) (part 1 len (cands v))) × (e.worth.0 ≡ value (λ m. (row_at ws ds 0).resistance.0 * m) (best (λ m. (row_at ws ds 0).resistance.0 * m) (get_or (cands v) 0 blank) (part 1 len (cands v))))
      held =
          let z : 0 + len ≡ len = omega arith in
          rw (delay-driver (row_at ws ds 0).resistance.0, z) at (choices-swept (record { 0 = pos 0 }) (row_at ws ds 0).resistance (own_of 0 (omega arith)) ohms v 0 len zeros (record { 0 = pos 0 }) long stand E)

      pub plans-clears : work_room ≤ length u
      plans-clears = rw same₂ P.long

      pub chose : (x : List Cand) → x ≡ cleared u → Chose ws ds ts count n w x e
      chose x x-is = record {
        run = v;
        len = len;
        long = long;
        seen = S;
        held = held.1;
        worth = rw (← held.1) at held.2;
        cleared = x-is ∙ ap (λ (l : List Cand). replicate work_room zeros ++ l) (ap (drop work_room) held.0 ∙ S.beyond) ∙ cleared-written zeros work_room w;
      }

-- ---- the room cleared
pub clear-safe : {p : Pass} {w : List Cand} → p ≡ clear_pass → work_room ≤ length w → Safe p w
clear-safe {w = w} e long = same-safe e (puts-safe work_room 0 zeros (record { 0 = pos 0 }) w (omega arith) long)

pub clear-done : {p e : Pass} {w x : List Cand} → p ≡ clear_pass → work_room ≤ length w → Swept p w e x → x ≡ cleared w
clear-done {w = w} e long s = puts-clear work_room zeros (record { 0 = pos 0 }) w (omega arith) long (same-swept e s)

-- ---- the four words of a record, copied to the start of an area
four-whole : (words before : List ℕ) → length words ≡ placement_room → words ++ drop placement_room before ≡ written (four_of words) before
unfolding written
four-whole [] before e = absurd (omega arith)
four-whole (a ∷ []) before e = absurd (omega arith)
four-whole (a ∷ b ∷ []) before e = absurd (omega arith)
four-whole (a ∷ b ∷ c ∷ []) before e = absurd (omega arith)
four-whole (a ∷ b ∷ c ∷ d ∷ []) before e = refl
four-whole (a ∷ b ∷ c ∷ d ∷ f ∷ l) before e = absurd (omega arith)

pub four-copied : (words before new : List ℕ) → new ≡ words → length new ≡ length (take placement_room before) → placement_room ≤ length before → new ++ drop placement_room before ≡ written (four_of words) before
four-copied words before new e f h = rw e (four-whole words before (ap length (sym e) ∙ f ∙ length-take-le placement_room before h))

-- ---- the verdict
clash : false ≡ true → ⊥
clash e = let z : ◌≡◌ {A = ℕ} 0 1 = cc in omega arith

pub same-refusal : {a b : Refusal} → ◌≡◌ {A = Result (Unit {0}) Refusal} (Err a) (Err b) → a ≡ b
same-refusal q = cc

accepted : (c : Result (Unit {0}) Refusal) → is_accepted c ≡ true → c ≡ Ok tt
accepted (Ok u) e = refl
accepted (Err r) e = absurd (clash e)

module _ (ts ws : List ℕ) (ds : List ℤ) (count n : ℕ) (before : List ℕ) (w : List Cand) (c : Result (Unit {0}) Refusal) (judged : Verdict ts ws ds count n (length before) (length w) c) where
  module _ (yes : is_accepted c ≡ true) where
    rooms : (placement_room ≤ length before) × ((work_room ≤ length w) × Passed (tables_of ts ws ds) (counts_of count n))
    rooms = go (ltb (length before) placement_room) (ltb (length w) work_room) (ltb-false (length before) placement_room) (ltb-false (length w) work_room) judged
      where
        no : c ≡ Err Short → ⊥
        no e = clash (rw e at yes)

        go : (a b : Bool) → (a ≡ false → placement_room ≤ length before) → (b ≡ false → work_room ≤ length w) → cond a (c ≡ Err Short) (cond b (c ≡ Err Short) (CheckPromise (tabled (tables_of ts ws ds) (counts_of count n)) c)) → (placement_room ≤ length before) × ((work_room ≤ length w) × Passed (tables_of ts ws ds) (counts_of count n))
        go true b f g v = absurd (no v)
        go false true f g v = absurd (no v)
        go false false f g v = (f refl, (g refl, checked-passed (tables_of ts ws ds) (counts_of count n) c v (accepted c yes)))

    P : Passed (tables_of ts ws ds) (counts_of count n)
    P = rooms.1.1

    module _ (w' : List Cand) (e : Pass) (C : Chose ws ds ts count n w w' e) (after : List ℕ) (r : Result Timed Refusal) (D : Told e before after r) where
      pub choice : Choice ws ds (cands C.run) C.len before after e.worth.0 e.held.load.0
      unfolding place_at
      choice = record {
        chosen = cand_of e.held;
        chosen_is = C.held;
        slack_is = C.worth;
        load_is = refl;
        words = four_of e.held.words;
        words_four = refl;
        words_are = words-read e.held.words 0;
        after_is = D.0;
      }

      plan : PlanOf (entries_of ts ws ds count n) before after (timing_of e.worth.0 e.held.load.0)
      plan = plan-of P 0 (omega (arith, standing P)) (cands w) (cands C.run) (rw (cands-length C.run) C.long) C.len C.seen.made refl before after e.worth.0 e.held.load.0 choice

      plan-done : PlanPromise records (tabled (tables_of ts ws ds) (counts_of count n)) (plan_areas before w) r (plan_areas after w')
      unfolding PlanPromise plan_figures records
      plan-done = rw (D.1, le-ltb _ _ rooms.0, le-ltb _ _ rooms.1.0, passed-own (tables_of ts ws ds) (counts_of count n) P) (timing_of e.worth.0 e.held.load.0, refl, plan, C.cleared)

  pub verdict-plans : PlansIf ws ds ts count n w c
  verdict-plans = by c refl
    where
      by : (d : Result (Unit {0}) Refusal) → c ≡ d → PlansIf ws ds ts count n w d
      by (Ok u) e = let r = rooms (ap is_accepted e) in record { passed = r.1.1; long = r.1.0 }
      by (Err d) e = tt

  pub verdict-four : FourIf before c
  verdict-four = by c refl
    where
      by : (d : Result (Unit {0}) Refusal) → c ≡ d → FourIf before d
      by (Ok u) e = (rooms (ap is_accepted e)).0
      by (Err d) e = tt

  module _ (w' : List Cand) (e : Pass) (C : ChoseIf ws ds ts count n w w' c e) (after : List ℕ) (r : Result Timed Refusal) (D : ToldIf c e before after r) where
    stopped : (d : Refusal) → c ≡ Err d → net_refusal (short_placement before || records.short w) (tabled (tables_of ts ws ds) (counts_of count n)) ≡ some d
    unfolding records
    stopped d e = go (ltb (length before) placement_room) (ltb (length w) work_room) judged
      where
        short : c ≡ Err Short → d ≡ Short
        short f = same-refusal (sym e ∙ f)

        go : (a b : Bool) → cond a (c ≡ Err Short) (cond b (c ≡ Err Short) (CheckPromise (tabled (tables_of ts ws ds) (counts_of count n)) c)) → net_refusal (a || b) (tabled (tables_of ts ws ds) (counts_of count n)) ≡ some d
        go true b v = rw (short v) (short-own (tables_of ts ws ds) (counts_of count n))
        go false true v = rw (short v) (short-own (tables_of ts ws ds) (counts_of count n))
        go false false v = checked-stopped (tables_of ts ws ds) (counts_of count n) c v d e

    pub plan-told : PlanPromise records (tabled (tables_of ts ws ds) (counts_of count n)) (plan_areas before w) r (plan_areas after w')
    unfolding PlanPromise plan_figures
    plan-told = by c refl C D
      where
        by : (d : Result (Unit {0}) Refusal) → c ≡ d → ChoseIf ws ds ts count n w w' d e → ToldIf d e before after r → PlanPromise records (tabled (tables_of ts ws ds) (counts_of count n)) (plan_areas before w) r (plan_areas after w')
        by (Ok u) f chosen told = plan-done (ap is_accepted f) w' e chosen after r told
        by (Err d) f same told = rw (stopped d f, told.1, told.0, same) (refl, refl)

-- the placement written is the one that the method carries
pub records-picks : (types rows : List ℕ) (due : List ℤ) (count n : ℕ) (before after : List ℕ) (r r' : List Cand) (verdict : Result (Unit {0}) Refusal) (e : Pass) (b : Result Timed Refusal)
    → Verdict types rows due count n (length before) (length r) verdict → ChoseIf rows due types count n r r' verdict e → ToldIf verdict e before after b
    → Picks (entries_of types rows due count n) before after (plan_figures b).number
records-picks types rows due count n before after r r' verdict e b judged C D = by verdict refl C D
  where
    by : (d : Result (Unit {0}) Refusal) → verdict ≡ d → ChoseIf rows due types count n r r' d e → ToldIf d e before after b → Picks (entries_of types rows due count n) before after (plan_figures b).number
    by (Ok u) f chosen told =
        let P : Plans rows due types count n r = rw f at (verdict-plans types rows due count n before r verdict judged) in
        let k = choice types rows due count n before r verdict judged (ap is_accepted f) r' e chosen after b told in
        λ z. pick-of P.passed 0 (omega (arith, standing P.passed)) (cands r) (cands chosen.run) (rw (cands-length chosen.run) chosen.long) chosen.len chosen.seen.made refl before after e.worth.0 e.held.load.0 k
    by (Err d) f same told = rw told.1 (refused-picks (entries_of types rows due count n) before after d)
