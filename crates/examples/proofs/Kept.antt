-- At net A each promise is kept by the paper's answer: what rules the stand-ins out is not a promise that nothing can keep. Assumes
-- nothing.
use Rattle.std.specs.Prelude.{◌≡◌, false, List, [], ◌∷◌, ℕ, zero, suc, ◌*◌, ◌/◌, ◌%◌, ◌^◌, ◌<◌, ltb, length, get_or, Ok}
use Rattle.std.proofs.Math.Path.{refl, fun_ext}
use Rattle.std.proofs.Common.{sym, ap, ◌∙◌, arith}
use Rattle.std.proofs.Math.Nat.{zero-div, zero-mod, div-eq_of_lt, pow-le-pow_right}
use Rattle.std.proofs.Math.IntN.{pos}
use Rattle.rules.specs.Lists.{written}
use Rattle.rules.specs.Quantities.{list_room}
use Rattle.rules.specs.Entries.{types_of, rows_of}
use Rattle.rules.specs.Text.{text_entries, lines_of, line_of, lettered, type_line, driver_line, point_line, sink_line, parted, number, more_digits, signed}
use Rattle.rules.specs.Placements.{mark_in, marks}
use Rattle.examples.specs.Texts.{bytes, entries}
use Rattle.rules.specs.Answers.{read_figures, check_figures, slack_figures, plan_figures, list_figures}
use Rattle.rules.specs.Promises.{ReadPromise, CheckPromise, SlackPromise, PlanPromise, ListPromise, LoadsPromise, tabled}
use Rattle.rules.specs.Areas.{Storage, columns, short_placement, Lent, lent_of, short_lent, unseen_times, list_areas, loads_areas, plan_areas}
use Rattle.laws.specs.Method.{Proper}
use Rattle.laws.proofs.Listing.{listed-length}
use Rattle.laws.specs.Settled.{one-tree}
use Rattle.examples.specs.Examples.{net_a, marked, A₁, IsList, paired, examples}
use Rattle.examples.specs.Given.{blank, tables_in, counts_in, plan-taken, list-taken, nets}
use Rattle.examples.specs.Kept.{blank_work}
open nets use {lends_a, text_a, none_a, rows_a, under_a}

-- ---- words for a placement of one mark, and of none
no-mark : (i : ℕ) → mark_in 0 i ≡ 0
unfolding mark_in
no-mark i = rw (zero-div, zero-mod)

last_mark : (i : ℕ) → mark_in 1 (suc i) ≡ 0
unfolding mark_in
last_mark i = let h : 1 < 2 ^ (4 * suc i) = pow-le-pow_right {n = 2} (omega arith) {i = 1} {j = 4 * suc i} (omega arith) in rw (div-eq_of_lt h, zero-mod)

other-words : (w q : ℕ) → get_or (w ∷ 0 ∷ 0 ∷ 0 ∷ []) (suc q) 0 ≡ 0
other-words w zero = refl
other-words w (suc zero) = refl
other-words w (suc (suc zero)) = refl
other-words w (suc (suc (suc q))) = refl

off_zero : (j : ℕ) → ¬ (j ≡ 0) → marked (1 ∷ []) j ≡ 0
unfolding marked
off_zero zero h = absurd (h refl)
off_zero (suc j) h = refl

-- the words 1, 0, 0, 0 have type 1 at site 0
one_at : (j q r : ℕ) → j / 16 ≡ q → j % 16 ≡ r → mark_in (get_or (1 ∷ 0 ∷ 0 ∷ 0 ∷ []) q 0) r ≡ marked (1 ∷ []) j
unfolding mark_in marked
one_at j zero zero e f = let z : j ≡ 0 = omega arith in rw z
one_at j zero (suc r) e f = last_mark r ∙ sym (off_zero j (omega arith))
one_at j (suc q) r e f = ap (λ w. mark_in w r) (other-words 1 q) ∙ no-mark r ∙ sym (off_zero j (omega arith))

pub one-marked : marks (1 ∷ 0 ∷ 0 ∷ 0 ∷ []) ≡ marked (1 ∷ [])
unfolding marks marked
one-marked = fun_ext (λ j. one_at j (j / 16) (j % 16) refl refl)

none-at : (q r : ℕ) → mark_in (get_or (0 ∷ 0 ∷ 0 ∷ 0 ∷ []) q 0) r ≡ 0
none-at zero r = no-mark r
none-at (suc q) r = ap (λ w. mark_in w r) (other-words 0 q) ∙ no-mark r

-- the words 0, 0, 0, 0 have none
pub none-marked : marks (0 ∷ 0 ∷ 0 ∷ 0 ∷ []) ≡ marked []
unfolding marks marked
none-marked = fun_ext (λ j. none-at (j / 16) (j % 16))

-- ---- the answers
-- read_net: one type and three rows, in the tables
pub read_kept : ReadPromise (bytes net_a) blank (Ok (record { types = 1; rows = 3 })) (tables_in net_a)
unfolding ReadPromise tables_in read_figures bytes text_entries lines_of line_of lettered type_line driver_line point_line sink_line parted number more_digits signed types_of rows_of
read_kept = rw text_a (refl, refl)

-- check_net: accepted
pub check-kept : CheckPromise (tabled (tables_in net_a) (counts_in net_a)) (Ok tt)
unfolding CheckPromise check_figures
check-kept = rw lends_a.taken refl

-- slack_of: 430 and 20 without a repeater
pub slack-kept : SlackPromise (tabled (tables_in net_a) (counts_in net_a)) (0 ∷ 0 ∷ 0 ∷ 0 ∷ []) (Ok (record { slack = (record { 0 = pos 430 }); load = (record { 0 = 20 }) }))
unfolding SlackPromise slack_figures
slack-kept = rw (none_a, lends_a.whole) (record { slack = pos 430; load = 20 }, refl, record { tree = examples.P1.tree; tree_is = examples.P1.tree_is; slack = rw none-marked examples.P1.slack_is; load = rw none-marked examples.P1.load_is })

proper-A₁ : Proper A₁
unfolding A₁
proper-A₁ = ((λ h. h), tt)

module _ {W : Type 0} (s : Storage W) (work : W) (room : s.short work ≡ false) where
  -- plan_net: 687 and 7, type 1 at site 0
  pub plan-kept : (before : List ℕ) → short_placement before ≡ false → PlanPromise s (tabled (tables_in net_a) (counts_in net_a)) (plan_areas before work) (Ok (record { slack = (record { 0 = pos 687 }); load = (record { 0 = 7 }) })) (plan_areas (written (1 ∷ 0 ∷ 0 ∷ 0 ∷ []) before) (s.cleared work))
  unfolding PlanPromise plan_figures
  plan-kept before long = rw (plan-taken lends_a s work room before long, lends_a.whole) (record { slack = pos 687; load = 7 }, refl, record { tree = examples.P2.tree; tree_is = examples.P2.tree_is; words = 1 ∷ 0 ∷ 0 ∷ 0 ∷ []; four = refl; after_is = refl; planned = rw one-marked examples.P2.planned }, refl)

  -- list_at row 1: (2, 855), (15, 910)
  pub list-kept : (before : Lent) → short_lent before ≡ false → ListPromise s (tabled (tables_in net_a) (counts_in net_a)) 1 (list_areas before work) (Ok 2) (list_areas (record { loads = written (2 ∷ 15 ∷ []) before.loads; times = written (pos 855 ∷ pos 910 ∷ []) before.times }) (s.cleared work))
  unfolding ListPromise list_figures
  list-kept before long = rw (list-taken lends_a s work room 1 before long rows_a, lends_a.whole) (
    2,
    refl,
    record {
      tree = l.tree;
      tree_is = l.tree_is;
      list = paired (2, 855) ∷ paired (15, 910) ∷ [];
      unbeaten = l.unbeaten;
      few = listed-length (types_of (entries net_a)) l.tree (rw (one-tree l.tree_is under_a) proper-A₁) _ l.unbeaten;
      long = refl;
      loads = refl;
      times = refl;
    },
    refl,
  )
    where
      l : IsList net_a 1 (paired (2, 855) ∷ paired (15, 910) ∷ [])
      l = examples.P3

  -- loads_at row 1: 2, 15
  pub loads-kept : (before : List ℕ) → ltb (length before) list_room ≡ false → LoadsPromise s (tabled (tables_in net_a) (counts_in net_a)) 1 (loads_areas before work) (Ok 2) (loads_areas (written (2 ∷ 15 ∷ []) before) (s.cleared work))
  unfolding LoadsPromise short_lent
  loads-kept before long = (written (pos 855 ∷ pos 910 ∷ []) unseen_times, list-kept (lent_of before unseen_times) (rw long refl))

-- ---- a work area of full room
-- it is not short
pub work-room : columns.short blank_work ≡ false
unfolding columns blank_work
work-room = refl
