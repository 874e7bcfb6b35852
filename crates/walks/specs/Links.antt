-- What hangs under a row's parent from that row on, as the links lead to it; and that the room passes along them. Assumes nothing.
use Rattle.std.proofs.Math.Path.{◌≡◌, refl, sym}
use Rattle.std.proofs.Common.{◌∙◌}
use Rattle.std.specs.Prelude.{not, ℕ, ◌+◌, ◌*◌, ◌-◌, ◌≤◌, ◌<◌, T}
use mathlib.Core.List.{List}
use Rattle.std.proofs.Math.Option.{Option, none, some}
use native.Mathlib.Omega.{arith}
use Rattle.std.proofs.Math.Decide.{dec_lt}
use lib.ListN.{length, get_or}
use Rattle.rules.specs.Quantities.{list_room, work_room}
use Rattle.rules.specs.declared.Row.{Row}
use Rattle.rules.specs.Entries.{Repeater, row_of}
use Rattle.rules.specs.Refusals.{is_sink}
use Rattle.rules.specs.Net.{Wire, Tree, wire_of, wired, beside}
use Rattle.rules.specs.Pairs.{sites_on}
use Rattle.laws.specs.Accepted.{Accepted}
use Rattle.laws.specs.Rows.{later-at}
use Rattle.laws.specs.Hanging.{OnIf, ProperIf, hangs-parted, seen-distinct, hung-distinct}
use Rattle.laws.specs.Whole.{tree-at, under-tree}
use Rattle.laws.specs.Sums.{over}
use Rattle.laws.specs.Within.{Within, within-under, within-own}
use Rattle.laws.specs.Room.{HasRoom, room-under}
use Rattle.laws.specs.Walk.{no_row, sites_before, sites_before-step, under, seen_at, child, Child, child-is, under-end, under-taken, at_row-seen}

-- what hangs under the parent of row c, of the rows from c on; nothing past the last row
unfoldable pub from : List Row → (c : ℕ) → Option Tree
from rows c = under rows (get_or rows c no_row).parent c

module _ (rows : List Row) where
  -- the next row under parent p from i on leads to what hangs there
  pub from-child : (p i : ℕ) → i ≤ length rows → from rows (child rows p i) ≡ under rows p i
  unfolding from
  from-child p i h = go (child-is rows p i h) (dec_lt (child rows p i) (length rows))
    where
      go : {c : ℕ} → Child rows p i c → Dec (c < length rows) → under rows (get_or rows c no_row).parent c ≡ under rows p i
      go {c} d (yes l) = rw (d.below l) (sym d.same)
      go {c} d (no l) = under-end rows (get_or rows c no_row).parent c (omega arith) ∙ sym (d.same ∙ under-end rows p c (omega arith))

  -- row c, and what hangs beside it of the rows after it
  pub from_step : (c : ℕ) → c < length rows → from rows c ≡ beside (wired (wire_of (get_or rows c no_row)) (seen_at rows c)) (under rows (get_or rows c no_row).parent (c + 1))
  unfolding from
  from_step c h = under-taken rows (get_or rows c no_row).parent c h refl

-- ---- sites add up
pub besides : (w : Wire) (u v : Option Tree) → over sites_on (beside (wired w u) v) ≡ over sites_on u + over sites_on v
unfolding sites_on
besides w none v = omega arith
besides w (some t) none = omega arith
besides w (some t) (some s) = omega arith

pub sites-step : (rows : List Row) (c : ℕ) → c < length rows → over sites_on (from rows c) ≡ over sites_on (seen_at rows c) + over sites_on (under rows (get_or rows c no_row).parent (c + 1))
sites-step rows c h = rw (from_step rows c h) (besides (wire_of (get_or rows c no_row)) (seen_at rows c) (under rows (get_or rows c no_row).parent (c + 1)))

-- ---- the room passes along the links: rows are left from c on, and after row c
module _ (types : ℕ) (rows : List Row) (c at : ℕ) (h : c < length rows) (room : HasRoom types at (length rows - c) (from rows c)) where
  sum : at + (length rows - c) + types * (over sites_on (seen_at rows c) + over sites_on (under rows (get_or rows c no_row).parent (c + 1))) ≤ work_room - list_room
  sum = rw (← (sites-step rows c h)) room

  -- to the next row under the same parent
  pub room_next : (next : ℕ) → next ≡ child rows (get_or rows c no_row).parent (c + 1) → HasRoom types at (length rows - next) (from rows next)
  room_next next e =
      let d = child-is rows (get_or rows c no_row).parent (c + 1) (omega arith) in
      rw (e, from-child rows (get_or rows c no_row).parent (c + 1) (omega arith)) (omega (arith, sum, d.from))

  -- to the row itself, after m candidates of the rows after it
  pub room-seen : (m : ℕ) → m ≤ 1 + types * over sites_on (under rows (get_or rows c no_row).parent (c + 1)) → HasRoom types (at + m) (length rows - (c + 1)) (seen_at rows c)
  room-seen m g = omega (arith, sum)

  -- or at the place itself, where there is none
  pub room-alone : HasRoom types at (length rows - (c + 1)) (seen_at rows c)
  room-alone = omega (arith, sum)

-- from a row that is no sink to the first row under it
pub room-first : (types : ℕ) (rows : List Row) (r at first : ℕ) → r < length rows → T (not (is_sink (get_or rows r no_row).kind)) → first ≡ child rows r (r + 1) → HasRoom types at (length rows - (r + 1)) (seen_at rows r) → HasRoom types at (length rows - first) (from rows first)
unfolding seen_at
room-first types rows r at first h plain e g =
    let d = child-is rows r (r + 1) (omega arith) in
    let q = room-under types at (length rows - (r + 1)) (get_or rows r no_row).site (get_or rows r no_row).kind (sites_before rows r) (under rows r (r + 1)) plain g in
    rw (e, from-child rows r (r + 1) (omega arith)) (omega (arith, q, d.from))

-- ---- accepted nets
module _ {types : List Repeater} {rows : List Row} (ok : Accepted types rows) where
  -- something is at every row
  pub seen-some : (r : ℕ) → r < length rows → (seen_at rows r ≡ none → ⊥)
  seen-some r h e = let (t, f, p) = tree-at ok r h in let z : ◌≡◌ {A = ℕ} 0 1 = clash t (sym f ∙ at_row-seen rows r h ∙ e) in omega arith
    where
      clash : (t : Tree) → some t ≡ none → ◌≡◌ {A = ℕ} 0 1
      clash t e = cc

  -- and hangs from every row but the driver on
  pub from_some : (c : ℕ) → c < length rows → (from rows c ≡ none → ⊥)
  from_some c h e = go (wired (wire_of (get_or rows c no_row)) (seen_at rows c)) (under rows (get_or rows c no_row).parent (c + 1)) (wired-some (wire_of (get_or rows c no_row)) (seen_at rows c) (seen-some c h)) (sym (from_step rows c h) ∙ e)
    where
      wired-some : (w : Wire) (u : Option Tree) → (u ≡ none → ⊥) → (wired w u ≡ none → ⊥)
      wired-some w none f e = f refl
      wired-some w (some t) f e = let z : ◌≡◌ {A = ℕ} 0 1 = cc in omega arith

      go : (u v : Option Tree) → (u ≡ none → ⊥) → beside u v ≡ none → ⊥
      go none v f e = f refl
      go (some t) none f e = f e
      go (some t) (some s) f e = let z : ◌≡◌ {A = ℕ} 0 1 = cc in omega arith

  -- no site twice, and numbers in their ranges
  pub seen-proper : (r : ℕ) → r < length rows → ProperIf (seen_at rows r)
  unfolding seen_at under
  seen-proper r h = rw (sites_before-step rows r h) (seen-distinct r (sites_before rows r) (get_or rows r no_row) _)

  pub seen-within : (r : ℕ) → r < length rows → Within (seen_at rows r)
  unfolding seen_at under
  seen-within r h = rw (sites_before-step rows r h) (within-own ok no_row r (sites_before rows r) h)

  pub from-proper : (c : ℕ) → 1 ≤ c → c ≤ length rows → ProperIf (from rows c)
  unfolding from under no_row row_of
  from-proper c g h = (hangs-parted c (sites_before rows c) _).proper (get_or rows c no_row).parent (early c g h (dec_lt c (length rows)))
    where
      early : (c : ℕ) → 1 ≤ c → c ≤ length rows → Dec (c < length rows) → (get_or rows c no_row).parent < c
      early c g h (yes l) = (later-at ok no_row c g l).parent
      early c g h (no l) = beyond rows c g (omega arith)
        where
          beyond : (rows : List Row) (c : ℕ) → 1 ≤ c → length rows ≤ c → (get_or rows c no_row).parent < c
          beyond rows c g h = rw (lib.ListN.get_or-eq_default rows no_row {n = c} h) (omega arith)

  -- a row behind its wire has no site in common with the rows after it under the same parent
  pub seen_apart : (c : ℕ) → 1 ≤ c → c < length rows → (j : ℕ) → OnIf (wired (wire_of (get_or rows c no_row)) (seen_at rows c)) j → ¬ (OnIf (under rows (get_or rows c no_row).parent (c + 1)) j)
  unfolding seen_at under
  seen_apart c g h j = rw (sites_before-step rows c h) (hung-distinct c (sites_before rows c) (get_or rows c no_row) _ (get_or rows c no_row).parent j (later-at ok no_row c g h).parent)

  pub from-within : (c : ℕ) → 1 ≤ c → c < length rows → Within (from rows c)
  unfolding from under
  from-within c g h = within-under ok c (sites_before rows c) (get_or rows c no_row).parent g (later-at ok no_row c g h).parent

  -- a row that is no sink has a first row below it
  under_some : (r : ℕ) → r < length rows → T (not (is_sink (get_or rows r no_row).kind)) → (under rows r (r + 1) ≡ none → ⊥)
  unfolding under
  under_some r h plain e = let (t, f) = under-tree ok no_row r (sites_before rows (r + 1)) h plain in let z : ◌≡◌ {A = ℕ} 0 1 = clash t (sym f ∙ e) in omega arith
    where
      clash : (t : Tree) → some t ≡ none → ◌≡◌ {A = ℕ} 0 1
      clash t e = cc

  pub first-inside : (r : ℕ) → r < length rows → T (not (is_sink (get_or rows r no_row).kind)) → (r < child rows r (r + 1)) × (child rows r (r + 1) < length rows)
  first-inside r h plain =
      let d = child-is rows r (r + 1) (omega arith) in
      (omega (arith, d.from), go d (dec_lt (child rows r (r + 1)) (length rows)))
    where
      go : {c : ℕ} → Child rows r (r + 1) c → Dec (c < length rows) → c < length rows
      go d (yes l) = l
      go {c} d (no l) = absurd (under_some r h plain (d.same ∙ under-end rows r c (omega arith)))
