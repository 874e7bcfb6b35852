-- What the planner's entries refuse: refusal 7 for their own areas, what the check of the tables refused, and 8. Assumes nothing.
use Rattle.std.specs.Prelude.{◌≡◌, Bool, true, false, cond, ◌||◌, List, ℕ, ◌≤◌, ◌<◌, leb, ltb, ℤ, length, Result, Ok, Err}
use Rattle.std.proofs.Math.Path.{refl}
use Rattle.std.proofs.Common.{sym, ap, ◌∙◌, arith, leb-true, leb-false, le-leb}
use Rattle.std.proofs.lemmas.Bool.{lt-leb}
use Rattle.std.proofs.Math.Bool.{or-true, or-false}
use Rattle.std.proofs.Math.Option.{Option, none, some, some-ne-none, or_else}
use Rattle.rules.specs.declared.Refusal.{Refusal}
use Rattle.rules.specs.declared.Refusal.TheVariants.{Short, NoRow}
use Rattle.rules.specs.Lists.{given_when}
use Rattle.rules.specs.Quantities.{list_room}
use Rattle.rules.specs.Tables.{Tables, Counts, short_tables, table_entries}
use Rattle.rules.specs.Refusals.{refusal_of}
use Rattle.rules.specs.Answers.{plan_figures, list_figures}
use Rattle.rules.specs.Promises.{CheckPromise, list_refusal, PlanPromise, ListPromise, LoadsPromise, net_refusal, tabled}
use Rattle.rules.specs.Areas.{columns, short_lent, short_placement, unseen_times, columns_of, lent_of, list_areas, loads_areas, plan_areas}
use Rattle.laws.specs.Checked.{Passed, passed-own, short-own, checked-stopped, checked-passed}
use Rattle.rooms.specs.Rooms.{short_by, short_list_by}

-- of tables that were checked, whether the row asked for is beyond them
abbrev pub asked : Result (Unit {0}) Refusal → (beyond : Bool) → Result (Unit {0}) Refusal
asked (Err r) beyond = Err r
asked (Ok v) beyond = cond beyond (Err NoRow) (Ok tt)

-- an answer is one of the two
abbrev accepts : Result (Unit {0}) Refusal → ℕ
accepts (Ok v) = 1
accepts (Err r) = 0

clash : {v : Unit {0}} {r : Refusal} → Ok v ≡ Err r → ⊥
clash e = let z : ◌≡◌ {A = ℕ} 1 0 = ap accepts e in omega arith

module _ (t : Tables) (n : Counts) (ls : List ℕ) (ts : List ℤ) (ws : List ℕ) where
  -- ---- plan_net
  module _ (before : List ℕ) where
    pub plan-refused : (r : Refusal) → net_refusal (short_placement before || columns.short (columns_of ls ts ws)) (tabled t n) ≡ some r → PlanPromise columns (tabled t n) (plan_areas before (columns_of ls ts ws)) (Err r) (plan_areas before (columns_of ls ts ws))
    unfolding PlanPromise plan_figures
    plan-refused r e = rw e (refl, refl)

    pub plan-short-own : short_placement before ≡ true → PlanPromise columns (tabled t n) (plan_areas before (columns_of ls ts ws)) (Err Short) (plan_areas before (columns_of ls ts ws))
    plan-short-own e = plan-refused Short (rw e (short-own t n))

    pub plan-short-work : short_by (length ls) (length ts) (length ws) ≡ true → PlanPromise columns (tabled t n) (plan_areas before (columns_of ls ts ws)) (Err Short) (plan_areas before (columns_of ls ts ws))
    unfolding columns
    plan-short-work e = plan-refused Short (rw (e, or-true (short_placement before)) (short-own t n))

    pub plan-stopped : (r : Refusal) → short_placement before ≡ false → short_by (length ls) (length ts) (length ws) ≡ false → net_refusal false (tabled t n) ≡ some r → PlanPromise columns (tabled t n) (plan_areas before (columns_of ls ts ws)) (Err r) (plan_areas before (columns_of ls ts ws))
    unfolding columns
    plan-stopped r e f g = plan-refused r (rw (e, f) g)

  -- ---- list_at and loads_at
  module _ (row : ℕ) where
    pub list-refused : (lls : List ℕ) (lts : List ℤ) (r : Refusal) → list_refusal (short_list_by (length lls) (length lts) || short_by (length ls) (length ts) (length ws)) (tabled t n) row ≡ some r → ListPromise columns (tabled t n) row (list_areas (lent_of lls lts) (columns_of ls ts ws)) (Err r) (list_areas (lent_of lls lts) (columns_of ls ts ws))
    unfolding ListPromise list_figures short_lent columns
    list-refused lls lts r e = rw e (refl, refl)

    -- with times that have their room
    pub loads-refused : (lls : List ℕ) (r : Refusal) → list_refusal (ltb (length lls) list_room || short_by (length ls) (length ts) (length ws)) (tabled t n) row ≡ some r → LoadsPromise columns (tabled t n) row (loads_areas lls (columns_of ls ts ws)) (Err r) (loads_areas lls (columns_of ls ts ws))
    unfolding LoadsPromise
    loads-refused lls r e = (unseen_times, list-refused lls unseen_times r (rw (or-false (ltb (length lls) list_room)) e))

-- ---- what the check of the tables says, also where an area of the entry's own is short
module _ (t : Tables) (n : Counts) where
  -- nothing is refused: no area is short, and the net is accepted
  pub none-passed : (short : Bool) → net_refusal short (tabled t n) ≡ none → (short ≡ false) × Passed t n
  unfolding net_refusal or_else
  none-passed short = go (short_tables t) short refl
    where
      go : (a b : Bool) → short_tables t ≡ a → or_else (given_when (a || b) Short) (refusal_of (table_entries t n)) ≡ none → (b ≡ false) × Passed t n
      go true b p e = absurd (some-ne-none Short e)
      go false true p e = absurd (some-ne-none Short e)
      go false false p e = (refl, record { long = p; accepted = e })

  module _ (row : ℕ) (short : Bool) where
    pub row-stopped : (r : Refusal) → net_refusal short (tabled t n) ≡ some r → list_refusal short (tabled t n) row ≡ some r
    unfolding list_refusal or_else
    row-stopped r e = rw e

    pub row-beyond : net_refusal short (tabled t n) ≡ none → n.rows ≤ row → list_refusal short (tabled t n) row ≡ some NoRow
    unfolding list_refusal or_else
    row-beyond e h = rw (e, le-leb n.rows row h)

    pub row-inside : net_refusal short (tabled t n) ≡ none → row < n.rows → list_refusal short (tabled t n) row ≡ none
    unfolding list_refusal or_else
    row-inside e h = rw (e, lt-leb n.rows row h)

    -- nothing is refused: the row is in the net too
    pub row-passed : list_refusal short (tabled t n) row ≡ none → (short ≡ false) × Passed t n × (row < n.rows)
    unfolding list_refusal or_else
    row-passed = go (net_refusal short (tabled t n)) refl (leb n.rows row) refl
      where
        go : (o : Option Refusal) → net_refusal short (tabled t n) ≡ o → (b : Bool) → leb n.rows row ≡ b → or_else o (given_when b NoRow) ≡ none → (short ≡ false) × Passed t n × (row < n.rows)
        go (some r) g b h e = absurd (some-ne-none r e)
        go none g true h e = absurd (some-ne-none NoRow e)
        go none g false h e = let (a, p) = none-passed short g in (a, p, leb-false n.rows row h)

-- ---- what a list is refused for, by value
-- 7, then what the check of the tables refused, then 8
abbrev pub judged_by : Result (Unit {0}) Refusal → (own work : Bool) (n row : ℕ) → Result (Unit {0}) Refusal
judged_by checked own work n row = cond own (Err Short) (cond work (Err Short) (asked checked (leb n row)))

module _ (t : Tables) (n : Counts) (row : ℕ) (own work : Bool) (checked : Result (Unit {0}) Refusal) (p : CheckPromise (tabled t n) checked) where
  -- that is the first refusal of the list
  pub judged-stopped : (r : Refusal) → judged_by checked own work n.rows row ≡ Err r → list_refusal (own || work) (tabled t n) row ≡ some r
  unfolding list_refusal or_else
  judged-stopped r = go own work checked refl (leb n.rows row) refl
    where
      same : {s : Refusal} → ◌≡◌ {A = Result (Unit {0}) Refusal} (Err s) (Err r) → s ≡ r
      same e = cc

      go : (a b : Bool) (d : Result (Unit {0}) Refusal) → checked ≡ d → (beyond : Bool) → leb n.rows row ≡ beyond → cond a (Err Short) (cond b (Err Short) (asked d beyond)) ≡ Err r → or_else (net_refusal (a || b) (tabled t n)) (given_when (leb n.rows row) NoRow) ≡ some r
      go true b d f c g e = rw (short-own t n) (ap some (same e))
      go false true d f c g e = rw (short-own t n) (ap some (same e))
      go false false (Err s) f c g e = row-stopped t n row false s (checked-stopped t n checked p s f) ∙ ap some (same e)
      go false false (Ok v) f true g e = row-beyond t n row false (passed-own t n (checked-passed t n checked p f)) (leb-true n.rows row g) ∙ ap some (same e)
      go false false (Ok v) f false g e = absurd (clash e)

  -- and where there is none the areas have their room, the net is accepted, and the row is in it
  pub judged-passed : judged_by checked own work n.rows row ≡ Ok tt → (own ≡ false) × ((work ≡ false) × (Passed t n × (row < n.rows)))
  judged-passed = go own work checked refl (leb n.rows row) refl
    where
      go : (a b : Bool) (d : Result (Unit {0}) Refusal) → checked ≡ d → (beyond : Bool) → leb n.rows row ≡ beyond → cond a (Err Short) (cond b (Err Short) (asked d beyond)) ≡ Ok tt → (a ≡ false) × ((b ≡ false) × (Passed t n × (row < n.rows)))
      go true b d f c g e = absurd (clash (sym e))
      go false true d f c g e = absurd (clash (sym e))
      go false false (Err s) f c g e = absurd (clash (sym e))
      go false false (Ok v) f true g e = absurd (clash (sym e))
      go false false (Ok v) f false g e = (refl, (refl, (checked-passed t n checked p f, leb-false n.rows row g)))
