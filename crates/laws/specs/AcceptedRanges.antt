-- The ranges that follow from those of what is given, of every net that is not refused and every legal placement of it: a load is at most
-- 51,200,000, the seen one at a row and the one that a repeater or the driver drives; a time and a slack lie between -3 × 10^15 and 10^12.
-- Assumes nothing.
use Rattle.std.specs.Prelude.{◌≡◌, List, ℕ, ◌≤◌, ℤ, ◌≤ℤ◌}
use Rattle.std.proofs.Math.Option.{none, some}
use Rattle.std.proofs.Common.{arith}
use Rattle.rules.specs.Entries.{Entry, types_of, rows_of}
use Rattle.rules.specs.Refusals.{refusal_of}
use Rattle.rules.specs.Placements.{Placement}
use Rattle.rules.specs.Net.{Wire, Tree, site, wire, both, at_row, driver_ohms}
use Rattle.rules.specs.Slack.{load_of, IsSlack}
use Rattle.rules.specs.Pairs.{Pair, Legal, PairOf}
use Rattle.laws.specs.Trees.{time-is, slack_is, least-unique}
use Rattle.laws.specs.Ranges.{most_load, least_slack, most_slack, InRange, weight, load-top}
use Rattle.laws.specs.Accepted.{accepted}
use Rattle.laws.specs.Rows.{type-in}
use Rattle.laws.specs.Hanging.{at-counted}
use Rattle.laws.specs.Within.{Within, within-tree, load-within, time-from, time-to, slack-from, slack-to}

-- s is the tree t or a part of it: a repeater at a site drives what stands below the site, a wire what hangs at its far end, and the
-- driver all that is at row 0
pub data Part (s : Tree) : Tree → Type 0 where
  whole : Part s s
  under_site : {j : ℕ} {t : Tree} → Part s t → Part s (site j t)
  under_wire : {w : Wire} {t : Tree} → Part s t → Part s (wire w t)
  in_left : {t u : Tree} → Part s t → Part s (both t u)
  in_right : {t u : Tree} → Part s u → Part s (both t u)

part_in : {s t : Tree} → Part s t → InRange t → InRange s
part_in whole r = r
part_in (under_site q) r = part_in q r
part_in (under_wire q) r = part_in q r.2
part_in (in_left q) r = part_in q r.0
part_in (in_right q) r = part_in q r.1

part-light : {s t : Tree} → Part s t → weight s ≤ weight t
unfolding weight
part-light whole = omega arith
part-light (under_site q) = part-light q
part-light (under_wire q) = omega (arith, part-light q)
part-light (in_left q) = omega (arith, part-light q)
part-light (in_right q) = omega (arith, part-light q)

module _ (es : List Entry) (taken : refusal_of es ≡ none) (row : ℕ) (t : Tree) (here : at_row (rows_of es) row ≡ some t) (p : Placement) (legal : Legal (types_of es) t p) where
  kept : Within (some t)
  kept = within-tree (accepted es taken) row (at-counted (rows_of es) row t here) t here

  -- the seen load
  pub accepted-load : load_of (types_of es) p t ≤ most_load
  accepted-load = load-within (accepted es taken) p legal.known t kept

  -- the load of every part, so also the one that a repeater, a wire or the driver drives
  pub accepted-driven : (s : Tree) → Part s t → load_of (types_of es) p s ≤ most_load
  accepted-driven s q = omega (arith, load-top (types_of es) (type-in (accepted es taken)) p legal.known s (part_in q kept.inside), part-light q, kept.light)

  -- the time of the pair
  pub accepted-time : (c : Pair) → PairOf (types_of es) t p c → (least_slack ≤ℤ c.time) × (c.time ≤ℤ most_slack)
  accepted-time c q =
      let k = accepted es taken in
      rw (least-unique q.time (time-is (types_of es) p t)) (time-from k p legal.known t kept, time-to k p legal.known t kept)

  -- the slack
  pub accepted-slack : (slack : ℤ) → IsSlack (types_of es) p (driver_ohms (rows_of es)) t slack → (least_slack ≤ℤ slack) × (slack ≤ℤ most_slack)
  unfolding IsSlack
  accepted-slack slack q =
      let k = accepted es taken in
      rw (least-unique q (slack_is (types_of es) p (driver_ohms (rows_of es)) t)) (slack-from k p legal.known t kept, slack-to k p legal.known t kept)
