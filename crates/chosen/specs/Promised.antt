-- From what the planner made to what is promised: the placement chosen is planned, the list is the unbeaten pairs, and the work area is
-- all zero. Assumes nothing.
use Rattle.std.specs.Prelude.{◌≡◌, false, List, [], ◌∷◌, ◌++◌, map, ℕ, zero, suc, ◌+◌, ◌*◌, ◌≤◌, ◌<◌, ltb, ℤ, pos, length, get_or, take, drop, replicate, Ok}
use Rattle.std.proofs.Math.Path.{refl, ap, subst}
use Rattle.std.proofs.Common.{sym, ◌∙◌, append-nil, arith, mul-le-mul, drop_of_length-le, length-take-le}
use Rattle.std.proofs.Math.Option.{some, or_else}
use Rattle.std.proofs.lemmas.List.{length-map}
use borrow.Author.Tests.{le-ltb, lt-leb, ltb-false}
use Rattle.rules.specs.declared.Femtofarad.{Femtofarad}
use Rattle.rules.specs.declared.Femtosecond.{Femtosecond}
use Rattle.rules.specs.declared.Row.{Row}
use Rattle.rules.specs.Lists.{written}
use Rattle.rules.specs.Quantities.{placement_room, list_room, work_room}
use Rattle.rules.specs.Entries.{Entry, Repeater, rows_of}
use Rattle.rules.specs.Placements.{Placement}
use Rattle.rules.specs.Tables.{table_entries, tables_of, counts_of}
use Rattle.rules.specs.Net.{Tree, at_row}
use Rattle.rules.specs.Pairs.{Pair}
use Rattle.rules.specs.Answers.{Timing, plan_figures, list_figures}
use Rattle.rules.specs.Promises.{list_refusal, PlanOf, PlanPromise, ListOf, ListPromise, LoadsPromise, tabled}
use Rattle.rules.specs.Areas.{Columns, columns, Lent, lent_of, short_lent, unseen_times, columns_of, list_areas, loads_areas, plan_areas}
use Rattle.laws.specs.Tests.{both_false}
use Rattle.laws.specs.Candidates.{Front}
use Rattle.laws.specs.Method.{Reaches, planned, Proper}
use Rattle.laws.specs.Rows.{row_in}
use Rattle.laws.specs.Whole.{tree-at}
use Rattle.laws.specs.Within.{within-tree}
use Rattle.laws.specs.Listing.{pair_of, front-pairs}
use Rattle.laws.proofs.Listing.{listed-length}
use Rattle.laws.specs.Walk.{no_row, seen_at, at_row-seen}
use Rattle.laws.specs.Tabled.{row_at, rows_from, rows-length, repeaters_from}
use Rattle.laws.specs.Picked.{pick_in, pick_of, PickedOf}
use Rattle.laws.specs.Checked.{Passed, passed-own}
use Rattle.rows.specs.Links.{row_is}
use Rattle.rows.specs.Given.{held, net-accepted, standing, driver_is}
use Rattle.columns.specs.Parts.{part, part-cons, part_length}
use Rattle.columns.specs.Run.{Candidate, blank, run, stack, place_at}
use Rattle.columns.specs.Made.{Room, Stand, room-run}
use Rattle.walks.specs.Shown.{Carried, shows-some, shows-fit}
use Rattle.walks.specs.Made.{Made}
use Rattle.rooms.specs.Rooms.{short_by, short_list_by}
use Rattle.picked.specs.Picked.{Ready, Choice}

abbrev pub entries_of : (types rows : List ℕ) (due : List ℤ) (count n : ℕ) → List Entry
entries_of types rows due count n = table_entries (tables_of types rows due) (counts_of count n)

abbrev pub timing_of : ℤ → ℕ → Timing
timing_of slack load = record { slack = slack; load = load }

-- of the list that list_at writes the loads; its times stand in an area that nobody sees
abbrev pub LoadsOf : (es : List Entry) (row : ℕ) (before after : List ℕ) (len : ℕ) → Type 0
LoadsOf es row before after len = (times : List ℤ) × ListOf es row (lent_of before unseen_times) (lent_of after times) len

-- a work area of exactly its room, and one that is all zero
pub record Exact (ls : List ℕ) (ts : List ℤ) (ws : List ℕ) : Type 0 where
  pub loads : length ls ≡ work_room
  pub times : length ts ≡ work_room
  pub words : length ws ≡ placement_room * work_room

pub record Zeroed (ls : List ℕ) (ts : List ℤ) (ws : List ℕ) : Type 0 where
  pub loads : ls ≡ replicate work_room 0
  pub times : ts ≡ replicate work_room (pos 0)
  pub words : ws ≡ replicate (placement_room * work_room) 0

pub exact-room : {ls : List ℕ} {ts : List ℤ} {ws : List ℕ} → Exact ls ts ws → Room ls ts ws
exact-room e = record { loads = omega (arith, e.loads); times = omega (arith, e.times); words = omega (arith, e.words) }

-- areas that keep their length keep it, and hold their room of candidates
pub exact-kept : {ls ls' : List ℕ} {ts ts' : List ℤ} {ws ws' : List ℕ} → Exact ls ts ws → length ls' ≡ length ls → length ts' ≡ length ts → length ws' ≡ length ws → Exact ls' ts' ws'
exact-kept e a b c = record { loads = a ∙ e.loads; times = b ∙ e.times; words = c ∙ e.words }

pub exact-long : {ls : List ℕ} {ts : List ℤ} {ws : List ℕ} → Exact ls ts ws → work_room ≤ length (run ls ts ws)
exact-long e = room-run work_room (exact-room e) (omega arith)

-- cleared over its room, an area of exactly its room is all zero
cleared-all : {A : Type 0} (n : ℕ) (z : A) (l after : List A) → length l ≡ n → after ≡ replicate n z ++ drop n l → after ≡ replicate n z
cleared-all n z l after e f = f ∙ rw (drop_of_length-le l {i = n} (omega arith)) (append-nil (replicate n z))

pub zeroed : (ls : List ℕ) (ts : List ℤ) (ws ls' : List ℕ) (ts' : List ℤ) (ws' : List ℕ) → Exact ls ts ws → ls' ≡ replicate work_room 0 ++ drop work_room ls → ts' ≡ replicate work_room (pos 0) ++ drop work_room ts → ws' ≡ replicate (4 * work_room) 0 ++ drop (4 * work_room) ws → Zeroed ls' ts' ws'
zeroed ls ts ws ls' ts' ws' e a b c = record { loads = cleared-all work_room 0 ls ls' e.loads a; times = cleared-all work_room (pos 0) ts ts' e.times b; words = cleared-all (placement_room * work_room) 0 ws ws' e.words c }

-- ---- columns as the pairs they hold
part-take : (len : ℕ) (w : List Candidate) → part 0 len w ≡ take len w
unfolding part
part-take len w = refl

run-loads : (ls : List ℕ) (ts : List ℤ) (f : ℕ → Placement) (len : ℕ) → len ≤ length ls → len ≤ length ts → map (λ (c : Pair). c.load) (map pair_of (take len (stack ls ts f))) ≡ take len ls
unfolding stack pair_of
run-loads ls ts f zero h g = refl
run-loads [] ts f (suc len) h g = absurd (omega arith)
run-loads (x ∷ ls) [] f (suc len) h g = absurd (omega arith)
run-loads (x ∷ ls) (t ∷ ts) f (suc len) h g = ap (λ l. x ∷ l) (run-loads ls ts (λ i. f (suc i)) len (omega arith) (omega arith))

run-times : (ls : List ℕ) (ts : List ℤ) (f : ℕ → Placement) (len : ℕ) → len ≤ length ls → len ≤ length ts → map (λ (c : Pair). c.time) (map pair_of (take len (stack ls ts f))) ≡ take len ts
unfolding stack pair_of
run-times ls ts f zero h g = refl
run-times [] ts f (suc len) h g = absurd (omega arith)
run-times (x ∷ ls) [] f (suc len) h g = absurd (omega arith)
run-times (x ∷ ls) (t ∷ ts) f (suc len) h g = ap (λ l. t ∷ l) (run-times ls ts (λ i. f (suc i)) len (omega arith) (omega arith))

part-loads : (ls : List ℕ) (ts : List ℤ) (ws : List ℕ) (len : ℕ) → len ≤ length ls → len ≤ length ts → map (λ (c : Pair). c.load) (map pair_of (part 0 len (run ls ts ws))) ≡ take len ls
unfolding run
part-loads ls ts ws len h g = rw part-take (run-loads ls ts (place_at ws) len h g)

part-times : (ls : List ℕ) (ts : List ℤ) (ws : List ℕ) (len : ℕ) → len ≤ length ls → len ≤ length ts → map (λ (c : Pair). c.time) (map pair_of (part 0 len (run ls ts ws))) ≡ take len ts
unfolding run
part-times ls ts ws len h g = rw part-take (run-times ls ts (place_at ws) len h g)

written_is : {A : Type 0} {len : ℕ} {l : List A} (area new : List A) → l ≡ new → length new ≡ len → l ++ drop len area ≡ written new area
unfolding written
written_is area new f g = rw (f, ← g)

-- ---- the list that was made at a row
module _ {types rows : List ℕ} {due : List ℤ} {count n : ℕ} (P : Passed (tables_of types rows due) (counts_of count n)) (row : ℕ) (inside : row < n) where
  abbrev pub R : List Row
  R = rows_from rows due 0 n

  abbrev pub T : List Repeater
  T = repeaters_from types 0 count

  inside_R : row < length R
  inside_R = rw rows-length inside

  pub tree : (t : Tree) × (at_row R row ≡ some t) × Proper t
  tree = tree-at (net-accepted P) row inside_R

  pub tree-row : at_row (rows_of (entries_of types rows due count n)) row ≡ some tree.0
  tree-row = rw (held P).rows_are tree.1

  module _ (w w₁ : List Candidate) (long : work_room ≤ length w₁) (len : ℕ) (M : Made T (seen_at R row) w w₁ 0 len) where
    carried : Carried T tree.0 (part 0 len w₁)
    carried =
        let z : 0 + len ≡ len = omega arith in
        let e : seen_at R row ≡ some tree.0 = sym (at_row-seen R row inside_R) ∙ tree.1 in
        rw (e, z) at M.shows

    front : Front (Reaches T tree.0) (part 0 len w₁)
    front = carried.front

    pub made-stand : Stand w₁ 0 len
    made-stand =
        let z : 0 + len ≡ len = omega arith in
        record { some = subst-length (shows-some T tree.0 (part 0 len w₁) front); place = M.fits; fit = rw z (shows-fit T (net-accepted P) (some tree.0) (part 0 len w₁) (within-tree (net-accepted P) row inside_R tree.0 tree.1) carried) }
      where
        subst-length : 1 ≤ length (part 0 len w₁) → 1 ≤ len
        subst-length h = omega (arith, part_length 0 len w₁ (omega (arith, M.fits)))

    head-is : part 0 len w₁ ≡ get_or w₁ 0 blank ∷ part 1 len w₁
    head-is = part-cons 0 len w₁ blank made-stand.some (omega (arith, M.fits))

    -- at most 257
    pub made-few : len ≤ list_room
    made-few =
        let h = listed-length T tree.0 tree.2 (map pair_of (part 0 len w₁)) (front-pairs T tree.0 front) in
        let k = within-tree (net-accepted P) row inside_R tree.0 tree.1 in
        omega (arith, h, length-map (part 0 len w₁) pair_of, part_length 0 len w₁ (omega (arith, M.fits)), mul-le-mul (net-accepted P).types_few k.few)

    -- ---- the list
    -- the loads and times that stand there are those of its pairs
    pub list_of : (ls : List ℕ) (ts : List ℤ) (ws : List ℕ) → w₁ ≡ run ls ts ws → Room ls ts ws → (before after : Lent) → after.loads ≡ take len ls ++ drop len before.loads → after.times ≡ take len ts ++ drop len before.times → ListOf (entries_of types rows due count n) row before after len
    list_of ls ts ws e r before after a b = record {
      tree = tree.0;
      tree_is = tree-row;
      list = map pair_of (part 0 len w₁);
      unbeaten = rw (held P).types_are (front-pairs T tree.0 front);
      few = rw (held P).types_are (listed-length T tree.0 tree.2 (map pair_of (part 0 len w₁)) (front-pairs T tree.0 front));
      long = sym (length-map (part 0 len w₁) pair_of ∙ counted);
      loads = a ∙ put before.loads (map (λ (c : Pair). c.load) (map pair_of (part 0 len w₁))) (loads-are ls ts ws e r) (rw (length-map, length-map) counted);
      times = b ∙ put before.times (map (λ (c : Pair). c.time) (map pair_of (part 0 len w₁))) (times-are ls ts ws e r) (rw (length-map, length-map) counted);
    }
      where
        counted : length (part 0 len w₁) ≡ len
        counted = part_length 0 len w₁ (omega (arith, M.fits)) ∙ omega arith

        put : {A : Type 0} {l : List A} (area new : List A) → l ≡ new → length new ≡ len → l ++ drop len area ≡ written new area
        put area new f g = written_is area new f g

        loads-are : (ls : List ℕ) (ts : List ℤ) (ws : List ℕ) → w₁ ≡ run ls ts ws → Room ls ts ws → take len ls ≡ map (λ (c : Pair). c.load) (map pair_of (part 0 len w₁))
        loads-are ls ts ws e r = sym (rw e (part-loads ls ts ws len (omega (arith, M.fits, r.loads)) (omega (arith, M.fits, r.times))))

        times-are : (ls : List ℕ) (ts : List ℤ) (ws : List ℕ) → w₁ ≡ run ls ts ws → Room ls ts ws → take len ts ≡ map (λ (c : Pair). c.time) (map pair_of (part 0 len w₁))
        times-are ls ts ws e r = sym (rw e (part-times ls ts ws len (omega (arith, M.fits, r.loads)) (omega (arith, M.fits, r.times))))

    pub loads-of : (ls : List ℕ) (ts : List ℤ) (ws : List ℕ) → w₁ ≡ run ls ts ws → Room ls ts ws → (before after : List ℕ) → after ≡ take len ls ++ drop len before → LoadsOf (entries_of types rows due count n) row before after len
    loads-of ls ts ws e r before after a = (take len ts ++ drop len unseen_times, list_of ls ts ws e r (lent_of before unseen_times) (lent_of after (take len ts ++ drop len unseen_times)) a refl)

    -- ---- the choice at the driver
    pub plan-of : row ≡ 0 → (before after : List ℕ) (slack : ℤ) (on_driver : ℕ) → Choice rows due w₁ len before after slack on_driver → PlanOf (entries_of types rows due count n) before after (timing_of slack on_driver)
    plan-of z before after slack on_driver C = record {
      tree = tree.0;
      tree_is = subst (λ (r : ℕ). at_row (rows_of (entries_of types rows due count n)) r ≡ some tree.0) z tree-row;
      words = C.words;
      four = C.words_four;
      after_is = C.after_is;
      planned = rw ((held P).types_are, (held P).rows_are, ← (driver_is P), C.words_are, C.slack_is, C.load_is, C.chosen_is) (planned T (row_at rows due 0).resistance.0 tree.0 (rw head-is at front));
    }

    -- and it is the placement that the method carries
    pub pick-of : row ≡ 0 → (before after : List ℕ) (slack : ℤ) (on_driver : ℕ) → Choice rows due w₁ len before after slack on_driver → PickedOf (entries_of types rows due count n) before after
    unfolding pick_of
    pick-of z before after slack on_driver C = record {
      tree = tree.0;
      tree_is = subst (λ (r : ℕ). at_row (rows_of (entries_of types rows due count n)) r ≡ some tree.0) z tree-row;
      words = C.words;
      four = C.words_four;
      after_is = C.after_is;
      marks_are = rw ((held P).types_are, (held P).rows_are, ← (driver_is P)) (C.words_are ∙ ap (λ (c : Candidate). c.place) C.chosen_is ∙ ap (pick_in (λ m. (row_at rows due 0).resistance.0 * m)) (sym head-is ∙ carried.exact));
    }

-- what an accepted net's tables have for the choice
pub ready : {types rows : List ℕ} {due : List ℤ} {count n : ℕ} (P : Passed (tables_of types rows due) (counts_of count n)) (ls : List ℕ) (ts : List ℤ) (ws : List ℕ) (len : ℕ) (placement : List ℕ) → Room ls ts ws → Stand (run ls ts ws) 0 len → placement_room ≤ length placement → Ready rows due ls ts ws len placement
ready {rows = rows} {due} {n = n} P ls ts ws len placement r s f = record {
  row_long = omega (arith, standing P);
  due_long = omega (arith, standing P);
  ohms = rw (row_is rows due n 0 (row_at rows due 0) (standing P).some refl) at (row_in (net-accepted P) no_row 0 (rw rows-length (standing P).some)).resistance;
  room = r;
  stand = s;
  four = f;
}

-- ---- the promises of the entries, of tables that were accepted
-- the rooms of an entry's own areas
room-columns : {ls : List ℕ} {ts : List ℤ} {ws : List ℕ} → Room ls ts ws → columns.short (columns_of ls ts ws) ≡ false
unfolding columns
room-columns r = rw (le-ltb _ _ r.loads, le-ltb _ _ r.times, le-ltb _ _ r.words)

-- a part of exactly its room that is all zero, and the rest as it was
pub cleared-is : (ls : List ℕ) (ts : List ℤ) (ws : List ℕ) {ls' : List ℕ} {ts' : List ℤ} {ws' lp : List ℕ} {tp : List ℤ} {wp : List ℕ} → Zeroed lp tp wp → ls' ≡ lp ++ drop work_room ls → ts' ≡ tp ++ drop work_room ts → ws' ≡ wp ++ drop (placement_room * work_room) ws → columns_of ls' ts' ws' ≡ columns.cleared (columns_of ls ts ws)
unfolding columns written
cleared-is ls ts ws Z a b c = rw (a, b, c, Z.loads, Z.times, Z.words)

module _ {types rows : List ℕ} {due : List ℤ} {count n : ℕ} (P : Passed (tables_of types rows due) (counts_of count n)) {ls : List ℕ} {ts : List ℤ} {ws : List ℕ} (room : Room ls ts ws) where
  pub plan-promise : (before after : List ℕ) (slack : Femtosecond) (load : Femtofarad) (work' : Columns) → placement_room ≤ length before → PlanOf (entries_of types rows due count n) before after (timing_of slack.0 load.0) → work' ≡ columns.cleared (columns_of ls ts ws)
      → PlanPromise columns (tabled (tables_of types rows due) (counts_of count n)) (plan_areas before (columns_of ls ts ws)) (Ok (record { slack = slack; load = load })) (plan_areas after work')
  unfolding PlanPromise plan_figures
  plan-promise before after slack load work' four plan clear = rw (le-ltb _ _ four, room-columns room, passed-own (tables_of types rows due) (counts_of count n) P) (timing_of slack.0 load.0, refl, plan, clear)

  pub list-promise : (row : ℕ) (before after : Lent) (len : ℕ) (work' : Columns) → row < n → list_room ≤ length before.loads → list_room ≤ length before.times → ListOf (entries_of types rows due count n) row before after len → work' ≡ columns.cleared (columns_of ls ts ws)
      → ListPromise columns (tabled (tables_of types rows due) (counts_of count n)) row (list_areas before (columns_of ls ts ws)) (Ok len) (list_areas after work')
  unfolding ListPromise list_figures list_refusal short_lent or_else
  list-promise row before after len work' inside a b list clear = rw (le-ltb _ _ a, le-ltb _ _ b, room-columns room, passed-own (tables_of types rows due) (counts_of count n) P, lt-leb _ _ inside) (len, refl, list, clear)

  pub loads-promise : (row : ℕ) (before after : List ℕ) (len : ℕ) (work' : Columns) → row < n → list_room ≤ length before → LoadsOf (entries_of types rows due count n) row before after len → work' ≡ columns.cleared (columns_of ls ts ws)
      → LoadsPromise columns (tabled (tables_of types rows due) (counts_of count n)) row (loads_areas before (columns_of ls ts ws)) (Ok len) (loads_areas after work')
  unfolding LoadsPromise
  loads-promise row before after len work' inside a (times, list) clear = (times, list-promise row (lent_of before unseen_times) (lent_of after times) len work' inside a (omega arith) list clear)

-- ---- the rooms, from the tests in the code
pub work-room : {ls : List ℕ} {ts : List ℤ} {ws : List ℕ} → short_by (length ls) (length ts) (length ws) ≡ false → Room ls ts ws
work-room {ls} {ts} {ws} e =
    let (a, b) = both_false (ltb (length ls) work_room) _ e in
    let (b, c) = both_false (ltb (length ts) work_room) _ b in
    record { loads = ltb-false _ _ a; times = ltb-false _ _ b; words = ltb-false _ _ c }

pub list-rooms : (ls : List ℕ) (ts : List ℤ) → short_list_by (length ls) (length ts) ≡ false → (list_room ≤ length ls) × (list_room ≤ length ts)
list-rooms ls ts e = let (a, b) = both_false (ltb (length ls) list_room) _ e in (ltb-false _ _ a, ltb-false _ _ b)

-- the parts of a work area that are lent on have exactly its room
pub parts-exact : {ls : List ℕ} {ts : List ℤ} {ws : List ℕ} → Room ls ts ws → Exact (take work_room ls) (take work_room ts) (take (placement_room * work_room) ws)
parts-exact {ls} {ts} {ws} r = record { loads = length-take-le work_room ls r.loads; times = length-take-le work_room ts r.times; words = length-take-le (placement_room * work_room) ws r.words }
