-- The paper's examples P1 to P11, and those of its thinning that goes wrong, as one table of statements with one proof. Nets are read
-- from their texts. Assumes nothing.
use Rattle.std.proofs.Math.Path.{◌≡◌}
use Rattle.std.specs.Prelude.{refl, ◌⊎◌, ℕ, zero, suc, ◌+◌, ◌*◌, ◌≤◌, ◌<◌, ℤ, pos, negsuc, length, get_or, ◌≤ℤ◌}
use Rattle.std.proofs.Common.{ap, subst, inl, inr, arith, mul-le-mul_left}
use mathlib.Core.List.{List, [], ◌∷◌, map}
use Rattle.std.proofs.Math.Option.{Option, none, some}
use Prim.Native.String.{String}
use Rattle.std.proofs.Math.Decide.{dec_le, dec_lt}
use Rattle.std.proofs.Math.ListN.{get_or-eq_default}
use Rattle.rules.specs.Quantities.{◌⊖◌}
use Rattle.rules.specs.Lists.{All, Any, nil, cons, here, there}
use Rattle.rules.specs.Entries.{Repeater, types_of, rows_of, row_of}
use Rattle.rules.specs.Text.{text_entries, lines_of, line_of, lettered, type_line, driver_line, point_line, sink_line, parted, number, more_digits, signed}
use Rattle.rules.specs.Placements.{Placement, row_of_site}
use Rattle.rules.specs.Net.{Wire, Tree, sink, site, wire, both, wire_of, hangs, at, at_row, driver_ohms}
use Rattle.rules.specs.Slack.{type_of, seen_load, repeater_delay, wire_delay, IsSlack}
use Rattle.rules.specs.Slack.{load_of}
use Rattle.rules.specs.Pairs.{On, Pair, Beats, Below, Unbeaten, Legal, Reached, Planned}
use Rattle.examples.specs.Texts.{bytes, entries}
use Rattle.laws.specs.Integers.{times, hi, lo, minℤ, ≤-or-<, ≤_trans, order, ⊖-mono}
use Rattle.laws.specs.Candidates.{Cand, Front, thin_in, put, stand, stand_by}
use Rattle.laws.specs.Thinning.{climb, climbed}
use Rattle.laws.specs.Steps.{value, best, pick, buffered, joined, merge, merge_at, next}
use Rattle.laws.specs.Moves.{behind, wire_step, type_step, site_step}
use Rattle.laws.specs.Trees.{slack_is}
use Rattle.laws.specs.Trees.{time as time_of}
use Rattle.laws.specs.Method.{Proper, Reaches, pinned, front_of, planned}
use Rattle.laws.proofs.Method.{method}
use Rattle.laws.specs.Listing.{pair_of, lone, Meets, meeting}
use Rattle.laws.proofs.Listing.{listed, meeting-unbeaten}
use Rattle.laws.specs.Lists.{any-all, EveryTwo, leads, ends}

-- ---- what an example says
-- a placement by the marks of its sites in their order, none past them
unfoldable pub marked : List ℕ → Placement
marked marks j = get_or marks j 0

-- a placement of a net has this slack, and this load on the driver
pub record HasTiming (net : String) (p : Placement) (slack : ℤ) (load : ℕ) : Type 0 where
  pub tree : Tree
  pub tree_is : at_row (rows_of (entries net)) 0 ≡ some tree
  pub slack_is : IsSlack (types_of (entries net)) p (driver_ohms (rows_of (entries net))) tree slack
  pub load_is : load ≡ load_of (types_of (entries net)) p tree

-- no legal placement of the net has more slack, and none of as much less load
pub record IsPlanned (net : String) (p : Placement) (slack : ℤ) (load : ℕ) : Type 0 where
  pub tree : Tree
  pub tree_is : at_row (rows_of (entries net)) 0 ≡ some tree
  pub planned : Planned (types_of (entries net)) (driver_ohms (rows_of (entries net))) tree p slack load

-- the list at a row of the net
pub record IsList (net : String) (row : ℕ) (list : List Pair) : Type 0 where
  pub tree : Tree
  pub tree_is : at_row (rows_of (entries net)) row ≡ some tree
  pub unbeaten : Unbeaten (Reached (types_of (entries net)) tree) list

-- a pair by its load and a time that is not negative
abbrev pub paired : ℕ × ℕ → Pair
paired c = record { load = c.0; time = pos c.1 }

-- of the pairs of two lists that meet at a branch under a driver, the greatest slack
pub record BestMeeting (driver : ℕ) (l m : List Pair) (slack : ℤ) : Type 0 where
  pub had : (c : Pair) × Meets l m c × (slack ≡ c.time ⊖ (driver * c.load))
  pub most : (c : Pair) → Meets l m c → c.time ⊖ (driver * c.load) ≤ℤ slack

-- ---- how one is proved
-- the figures of the first greatest of a list behind a driver
unfoldable pub top : ℕ → List (Cand Placement) → Option Pair
top driver [] = none
top driver (x ∷ l) = some (record { load = (best (λ m. driver * m) x l).load; time = value (λ m. driver * m) (best (λ m. driver * m) x l) })

module _ (types : List Repeater) (driver : ℕ) (t : Tree) where
  -- a placement as good as a planned one is planned
  pub as-planned : {p : Placement} {slack : ℤ} {load : ℕ} (q : Placement) → Planned types driver t p slack load → Legal types t q → IsSlack types q driver t slack → load ≡ load_of types q t → Planned types driver t q slack load
  as-planned q f legal slack load = record { legal = legal; slack_is = slack; load_is = load; greatest = f.greatest; least = f.least }

  slack-by : (p : Placement) (slack : ℤ) → time_of types p t ⊖ (driver * load_of types p t) ≡ slack → IsSlack types p driver t slack
  slack-by p slack e = rw e at (slack_is types p driver t)

  plan-top : (p : Placement) (l : List (Cand Placement)) (c : Pair) → Front (Reaches types t) l → top driver l ≡ some c → Legal types t p → time_of types p t ⊖ (driver * load_of types p t) ≡ c.time → c.load ≡ load_of types p t → Planned types driver t p c.time c.load
  unfolding top
  plan-top p [] c F e legal s k = absurd (let z : ◌≡◌ {A = ℕ} 0 1 = cc in omega arith)
  plan-top p (x ∷ l) c F e legal s k =
      let r : ◌≡◌ {A = Pair} (record { load = (best (λ m. driver * m) x l).load; time = value (λ m. driver * m) (best (λ m. driver * m) x l) }) c = cc in
      as-planned p (subst (λ (d : Pair). Planned types driver t (best (λ m. driver * m) x l).place d.time d.load) r (planned types driver t F)) legal (slack-by p c.time s) k

  -- what the method finds is planned
  pub plan-by : (p : Placement) (slack : ℤ) (load : ℕ) → Proper t → Legal types t p → top driver (front_of types t) ≡ some (record { load = load; time = slack }) → time_of types p t ⊖ (driver * load_of types p t) ≡ slack → load ≡ load_of types p t → Planned types driver t p slack load
  plan-by p slack load ok legal e = plan-top p (front_of types t) (record { load = load; time = slack }) (method types t ok) e legal

-- what the method lists is the list
pub list-by : (types : List Repeater) (t : Tree) (l : List Pair) → Proper t → map pair_of (front_of types t) ≡ l → Unbeaten (Reached types t) l
list-by types t l ok e = rw e at (listed types t ok)

-- the marks listed are types that there are, at sites that there are
pub marked-legal : (types : List Repeater) (t : Tree) (marks : List ℕ) → All (λ m. m ≤ length types) marks → ((j : ℕ) → j < length marks → On t j) → Legal types t (marked marks)
unfolding marked
marked-legal types t marks few on = record { known = known few; only = λ j o. only j o (dec_lt j (length marks)) }
  where
    known : {k : List ℕ} → All (λ m. m ≤ length types) k → (j : ℕ) → get_or k j 0 ≤ length types
    known nil j = omega arith
    known (cons h t) zero = h
    known (cons h t) (suc j) = known t j

    only : (j : ℕ) → ¬ (On t j) → Dec (j < length marks) → get_or marks j 0 ≡ 0
    only j o (yes h) = absurd (o (on j h))
    only j o (no h) = get_or-eq_default marks 0 (omega arith)

best-meeting : (driver : ℕ) {l m list : List Pair} (slack : ℤ) → Unbeaten (Meets l m) list → All (λ c. c.time ⊖ (driver * c.load) ≤ℤ slack) list → Any (λ c. slack ≡ c.time ⊖ (driver * c.load)) list → BestMeeting driver l m slack
best-meeting driver slack u a e = record {
  had = any-all u.reached e;
  most = λ c h. let (d, k, n) = any-all a (u.whole c h) in ≤_trans (⊖-mono n.time (mul-le-mul_left driver n.load)) k;
}

-- ---- the nets
-- `T 2 3 10`, `D 20`, `W 0 4 5 1`, `S 1 6 7 0 8 1000`
abbrev pub net_a : String
net_a = "T\t2\t3\t10\nD\t20\nW\t0\t4\t5\t1\nS\t1\t6\t7\t0\t8\t1000\n"

-- with `D 0`
abbrev pub net_a-strong : String
net_a-strong = "T\t2\t3\t10\nD\t0\nW\t0\t4\t5\t1\nS\t1\t6\t7\t0\t8\t1000\n"

-- with `T 2 3 20` and `D 1`
abbrev pub net_a-even : String
net_a-even = "T\t2\t3\t20\nD\t1\nW\t0\t4\t5\t1\nS\t1\t6\t7\t0\t8\t1000\n"

-- `T 2 3 10`, `D 20`, `W 0 4 5 0`, `S 1 6 7 1 8 1000`, `S 1 0 3 1 30 950`
abbrev pub net_b : String
net_b = "T\t2\t3\t10\nD\t20\nW\t0\t4\t5\t0\nS\t1\t6\t7\t1\t8\t1000\nS\t1\t0\t3\t1\t30\t950\n"

-- `D 20`, `S 0 0 0 0 8 1000`
abbrev pub net_c : String
net_c = "D\t20\nS\t0\t0\t0\t0\t8\t1000\n"

-- their types, and what is at their rows
unfoldable pub types_by : ℕ → List Repeater
types_by own = record { input = 2; resistance = 3; own = own } ∷ []

unfoldable pub wire_by : (resistance capacitance : ℕ) → Wire
wire_by resistance capacitance = record { resistance = resistance; capacitance = capacitance }

unfoldable pub A₁ : Tree
A₁ = site 0 (wire (wire_by 6 7) (sink 8 (pos 1000)))

unfoldable pub A₀ : Tree
A₀ = wire (wire_by 4 5) A₁

unfoldable pub B₂ : Tree
B₂ = site 0 (sink 8 (pos 1000))

unfoldable pub B₁ : Tree
B₁ = both (wire (wire_by 6 7) B₂) (wire (wire_by 0 3) (site 1 (sink 30 (pos 950))))

unfoldable pub B₀ : Tree
B₀ = wire (wire_by 4 5) B₁

unfoldable pub C₀ : Tree
C₀ = wire (wire_by 0 0) (sink 8 (pos 1000))

proper-A : Proper A₀
unfolding A₀ A₁
proper-A = ((λ h. h), tt)

proper-B : Proper B₀
unfolding B₀ B₁ B₂
proper-B = (apart, ((λ h. h), tt), ((λ h. h), tt))
  where
    apart : (j : ℕ) → (j ≡ 0) ⊎ ⊥ → ¬ ((j ≡ 1) ⊎ ⊥)
    apart j (inl e) (inl f) = omega arith
    apart j (inl e) (inr f) = f
    apart j (inr e) f = e

-- ---- the table
pub record Examples : Type 0 where
  -- net A, no repeater: slack 430, driver load 20
  pub P1 : HasTiming net_a (marked []) (pos 430) 20
  -- planned: slack 687, load 7, type 1 at row 1
  pub P2 : IsPlanned net_a (marked (1 ∷ [])) (pos 687) 7
  pub P2-row : row_of_site 0 (rows_of (entries net_a)) 0 ≡ 1
  -- list at row 1: (2, 855), (15, 910)
  pub P3 : IsList net_a 1 (paired (2, 855) ∷ paired (15, 910) ∷ [])
  -- list at row 0: (7, 827), (20, 830)
  pub P4 : IsList net_a 0 (paired (7, 827) ∷ paired (20, 830) ∷ [])
  -- with `D 0`: slack 830, load 20, no repeater
  pub P5 : IsPlanned net_a-strong (marked []) (pos 830) 20
  -- with `T 2 3 20` and `D 1`: both placements have 810; the one of load 7 is returned
  pub P6-none : HasTiming net_a-even (marked []) (pos 810) 20
  pub P6-one : HasTiming net_a-even (marked (1 ∷ [])) (pos 810) 7
  pub P6 : IsPlanned net_a-even (marked (1 ∷ [])) (pos 810) 7
  -- net B, planned: slack 394, load 19, type 1 at rows 2 and 3; list at row 1: (14, 850), (42, 912)
  pub P7 : IsPlanned net_b (marked (1 ∷ 1 ∷ [])) (pos 394) 19
  pub P7-rows : (row_of_site 0 (rows_of (entries net_b)) 0 ≡ 2) × (row_of_site 0 (rows_of (entries net_b)) 1 ≡ 3)
  pub P7-list : IsList net_b 1 (paired (14, 850) ∷ paired (42, 912) ∷ [])
  -- no repeater: slack -362, load 53
  pub P8 : HasTiming net_b (marked []) (negsuc 361) 53
  -- `D 20`, `S 0 0 0 0 8 1000`: slack 840, load 8
  pub P9 : IsPlanned net_c (marked []) (pos 840) 8
  -- lists (5, 10), (9, 20) and (4, 12), (8, 30) meet at a branch: (9, 10), (13, 12), (17, 20); these are the unbeaten ones of all
  -- that meet
  pub P10 : meeting (paired (5, 10) ∷ paired (9, 20) ∷ []) (paired (4, 12) ∷ paired (8, 30) ∷ []) ≡ paired (9, 10) ∷ paired (13, 12) ∷ paired (17, 20) ∷ []
  pub P10-unbeaten : Unbeaten (Meets (paired (5, 10) ∷ paired (9, 20) ∷ []) (paired (4, 12) ∷ paired (8, 30) ∷ [])) (paired (9, 10) ∷ paired (13, 12) ∷ paired (17, 20) ∷ [])
  -- (5, 70) beats (5, 0); (20, 100) beats (45, 50)
  pub P11-equal : Beats (paired (5, 70)) (paired (5, 0))
  pub P11-less : Beats (paired (20, 100)) (paired (45, 50))
  -- lists (1, 0), (2, 10), (3, 100) and (1, 10) meeting under a driver of 1 ohm give slack 7; with the middle pair dropped, 6
  pub convex_kept : BestMeeting 1 (paired (1, 0) ∷ paired (2, 10) ∷ paired (3, 100) ∷ []) (paired (1, 10) ∷ []) (pos 7)
  pub convex_dropped : BestMeeting 1 (paired (1, 0) ∷ paired (3, 100) ∷ []) (paired (1, 10) ∷ []) (pos 6)
  -- a wire can turn a kept pair into a beaten one, as at row 2 of net B: what is kept there, what the wire makes of it, that one of
  -- the two beats the other, and what is kept behind the wire
  pub wire_kept : IsList net_b 2 (paired (2, 966) ∷ paired (8, 1000) ∷ [])
  pub wire_makes : map (λ c. pair_of (behind (wire_by 6 7) (lone c))) (paired (2, 966) ∷ paired (8, 1000) ∷ []) ≡ paired (9, 912) ∷ paired (15, 910) ∷ []
  pub wire_beaten : Beats (paired (9, 912)) (paired (15, 910))
  pub wire_thinned : Unbeaten (Reached (types_by 10) (wire (wire_by 6 7) B₂)) (paired (9, 912) ∷ [])

-- of two pairs of figures, the first no more load and no less time and not both the same
pub beats-by : (a b c d : ℕ) → a ≤ c → d ≤ b → ¬ (a + d ≡ c + b) → Beats (paired (a, b)) (paired (c, d))
unfolding hi lo
beats-by a b c d h k n = record {
  no_worse = record { load = h; time = omega times };
  differ = λ e. let p = ap (λ (x : Pair). x.load) e in let q = ap (λ (x : Pair). x.time) e in n (omega times);
}

below_by : (a b c d : ℕ) → a < c → b < d → Below (paired (a, b)) (paired (c, d))
unfolding hi lo
below_by a b c d h k = record { load = h; time = omega times }

two-below : (a b c d : ℕ) → a < c → b < d → EveryTwo Below (paired (a, b) ∷ paired (c, d) ∷ [])
two-below a b c d h k = leads (cons (below_by a b c d h k) nil) (leads nil ends)

convex : EveryTwo Below (paired (1, 0) ∷ paired (2, 10) ∷ paired (3, 100) ∷ [])
convex = leads (cons (below_by 1 0 2 10 (omega arith) (omega arith)) (cons (below_by 1 0 3 100 (omega arith) (omega arith)) nil)) (two-below 2 10 3 100 (omega arith) (omega arith))

none-legal : (types : List Repeater) (t : Tree) → Legal types t (marked [])
none-legal types t = marked-legal types t [] nil (λ j h. absurd (omega arith))

one-A : (types : List Repeater) → 1 ≤ length types → Legal types A₀ (marked (1 ∷ []))
unfolding A₀ A₁
one-A types h = marked-legal types A₀ (1 ∷ []) (cons h nil) (λ j h. inl (omega arith))

two-B : Legal (types_by 10) B₀ (marked (1 ∷ 1 ∷ []))
unfolding types_by B₀ B₁ B₂
two-B = marked-legal (types_by 10) B₀ (1 ∷ 1 ∷ []) (cons (omega arith) (cons (omega arith) nil)) on
  where
    on : (j : ℕ) → j < 2 → On B₀ j
    on zero h = inl (inl refl)
    on (suc zero) h = inr (inl refl)
    on (suc (suc j)) h = absurd (omega arith)

-- all of it, computed from the definitions
pub examples : Examples
unfolding bytes text_entries lines_of line_of lettered type_line driver_line point_line sink_line parted number more_digits signed types_of rows_of row_of wire_of hangs at at_row row_of_site types_by wire_by A₀ A₁ B₀ B₁ B₂ C₀ marked load_of seen_load time_of top pinned type_of repeater_delay wire_delay front_of site_step type_step wire_step climb climbed behind buffered value best pick thin_in put stand stand_by dec_le ≤-or-< order merge merge_at next joined minℤ hi lo ◌⊖◌ meeting pair_of lone
examples = record {
  P1 = record { tree = A₀; tree_is = refl; slack_is = slack-by _ _ A₀ _ _ refl; load_is = refl };
  P2 = record { tree = A₀; tree_is = refl; planned = plan-by _ _ A₀ _ _ _ proper-A (one-A (types_by 10) (omega arith)) refl refl refl };
  P2-row = refl;
  P3 = record { tree = A₁; tree_is = refl; unbeaten = list-by _ A₁ _ proper-A refl };
  P4 = record { tree = A₀; tree_is = refl; unbeaten = list-by _ A₀ _ proper-A refl };
  P5 = record { tree = A₀; tree_is = refl; planned = plan-by _ _ A₀ _ _ _ proper-A (none-legal (types_by 10) A₀) refl refl refl };
  P6-none = record { tree = A₀; tree_is = refl; slack_is = slack-by _ _ A₀ _ _ refl; load_is = refl };
  P6-one = record { tree = A₀; tree_is = refl; slack_is = slack-by _ _ A₀ _ _ refl; load_is = refl };
  P6 = record { tree = A₀; tree_is = refl; planned = plan-by _ _ A₀ _ _ _ proper-A (one-A (types_by 20) (omega arith)) refl refl refl };
  P7 = record { tree = B₀; tree_is = refl; planned = plan-by _ _ B₀ _ _ _ proper-B two-B refl refl refl };
  P7-rows = (refl, refl);
  P7-list = record { tree = B₁; tree_is = refl; unbeaten = list-by _ B₁ _ proper-B refl };
  P8 = record { tree = B₀; tree_is = refl; slack_is = slack-by _ _ B₀ _ _ refl; load_is = refl };
  P9 = record { tree = C₀; tree_is = refl; planned = plan-by _ _ C₀ _ _ _ tt (none-legal [] C₀) refl refl refl };
  P10 = refl;
  P10-unbeaten = meeting-unbeaten (two-below _ _ _ _ (omega arith) (omega arith)) (two-below _ _ _ _ (omega arith) (omega arith));
  P11-equal = beats-by _ _ _ _ (omega arith) (omega arith) (omega arith);
  P11-less = beats-by _ _ _ _ (omega arith) (omega arith) (omega arith);
  convex_kept = best-meeting 1 _ (meeting-unbeaten convex (leads nil ends)) (cons (omega times) (cons (omega times) nil)) (there (here refl));
  convex_dropped = best-meeting 1 _ (meeting-unbeaten (two-below _ _ _ _ (omega arith) (omega arith)) (leads nil ends)) (cons (omega times) (cons (omega times) nil)) (there (here refl));
  wire_kept = record { tree = B₂; tree_is = refl; unbeaten = list-by _ B₂ _ ((λ h. h), tt) refl };
  wire_makes = refl;
  wire_beaten = beats-by _ _ _ _ (omega arith) (omega arith) (omega arith);
  wire_thinned = list-by _ (wire (wire_by 6 7) B₂) _ ((λ h. h), tt) refl;
}
