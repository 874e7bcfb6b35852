-- Of an accepted net and a placement that is not refused: the walk over its tree has what it stands on. Assumes nothing.
use Rattle.std.specs.Prelude.{◌≡◌, List, ℤ, length, get_or}
use Rattle.std.proofs.Math.Path.{refl, ap, ap₂}
use Rattle.std.proofs.Common.{sym, ◌∙◌, arith}
use Rattle.std.proofs.Math.Option.{Option, none, some}
use Prim.Native.Nat.{ℕ, zero, suc, ◌+◌, ◌*◌, ◌≤◌, ◌<◌}
use Rattle.rules.specs.declared.Row.{Row}
use Rattle.rules.specs.Quantities.{types_room, placement_room, ◌⊖◌}
use Rattle.rules.specs.Entries.{Repeater}
use Rattle.rules.specs.Placements.{Placement, marks}
use Rattle.rules.specs.Tables.{words_a_type}
use Rattle.rules.specs.Net.{Tree, sink, site, wire, both, wire_of, wired}
use Rattle.rules.specs.Slack.{type_of, seen_load, repeater_delay, wire_delay, load_of}
use Rattle.laws.specs.Integers.{mag-between, minℤ}
use Rattle.laws.specs.Trees.{time}
use Rattle.laws.specs.Accepted.{Accepted}
use Rattle.laws.specs.Rows.{type-in, row_in, later-at}
use Rattle.laws.specs.Within.{Within as WithinTree, within-under, within-row, within-at, load-within, time-from, time-to}
use Rattle.laws.specs.Tabled.{rows_from, rows-length, repeaters_from, repeaters-length}
use Rattle.laws.specs.Walk.{no_row, sites_before, sites_before-step, under, seen_at, at_row-seen}
use Rattle.rows.specs.Links.{Standing}
use Rattle.units.specs.Times.{far_time}
use Rattle.upward.specs.Hung.{Within, seen_as}
use Rattle.slack.specs.Hung.{hung_of, table_types, type-is}
use Rattle.slack.specs.Ready.{Sound, hung_at, hung_own}

-- ---- types past those that are counted are not looked at
module _ (words : List ℕ) (count : ℕ) (few : count ≤ types_room) (p : Placement) (known : (j : ℕ) → p j ≤ count) where
  type-same : (m : ℕ) → m < count → type_of (table_types words) (suc m) ≡ type_of (repeaters_from words 0 count) (suc m)
  type-same m h = type-is words types_room m (omega arith) ∙ sym (type-is words count m h)

  load-same-at : (m d : ℕ) → m ≤ count → seen_load (table_types words) m d ≡ seen_load (repeaters_from words 0 count) m d
  unfolding seen_load
  load-same-at zero d h = refl
  load-same-at (suc m) d h = ap (λ x. x.input) (type-same m h)

  delay-same : (m d : ℕ) → m ≤ count → repeater_delay (table_types words) m d ≡ repeater_delay (repeaters_from words 0 count) m d
  unfolding repeater_delay
  delay-same zero d h = refl
  delay-same (suc m) d h = ap (λ x. x.own + x.resistance * d) (type-same m h)

  load_same : (t : Tree) → load_of (table_types words) p t ≡ load_of (repeaters_from words 0 count) p t
  unfolding load_of
  load_same (sink pin due) = refl
  load_same (site j t) = load-same-at (p j) _ (known j) ∙ ap (seen_load (repeaters_from words 0 count) (p j)) (load_same t)
  load_same (wire w t) = ap (λ l. w.capacitance + l) (load_same t)
  load_same (both s t) = ap₂ ◌+◌ (load_same s) (load_same t)

  time-same : (t : Tree) → time (table_types words) p t ≡ time (repeaters_from words 0 count) p t
  unfolding time
  time-same (sink pin due) = refl
  time-same (site j t) = ap₂ ◌⊖◌ (time-same t) (delay-same (p j) _ (known j) ∙ ap (repeater_delay (repeaters_from words 0 count) (p j)) (load_same t))
  time-same (wire w t) = ap₂ ◌⊖◌ (time-same t) (ap (wire_delay w) (load_same t))
  time-same (both s t) = ap₂ minℤ (time-same s) (time-same t)

  pub hung-same : (u : Option Tree) → hung_of (table_types words) p u ≡ hung_of (repeaters_from words 0 count) p u
  unfolding hung_of
  hung-same none = refl
  hung-same (some t) = ap₂ seen_as (load_same t) (time-same t)

-- ---- all that hangs anywhere is in its ranges
hung-in : {types : List Repeater} {rows : List Row} → Accepted types rows → (p : Placement) → ((j : ℕ) → p j ≤ length types) → (u : Option Tree) → WithinTree u → Within (hung_of types p u)
unfolding hung_of
hung-in ok p known none w = tt
hung-in {types} ok p known (some t) w =
    (load-within ok p known t w, omega (arith, mag-between (time types p t) 2_999_999_999_999_999 1_000_000_000_000 {h = far_time} (time-from ok p known t w) (time-to ok p known t w) (omega arith) (omega arith)))

module _ (rows : List ℕ) (due : List ℤ) (types words : List ℕ) (count n : ℕ) (standing : Standing rows due n) (types_long : words_a_type * types_room ≤ length types) (words_long : placement_room ≤ length words) (few : count ≤ types_room) (ok : Accepted (repeaters_from types 0 count) (rows_from rows due 0 n)) (known : (j : ℕ) → marks words j ≤ count) where
  abbrev net : List Row
  net = rows_from rows due 0 n

  all_in : (u : Option Tree) → WithinTree u → Within (hung_of (table_types types) (marks words) u)
  all_in u w = rw (hung-same types count few (marks words) known u) (hung-in ok (marks words) (λ j. rw repeaters-length (known j)) u w)

  under-within : (r i : ℕ) → r < i → WithinTree (under net r i)
  unfolding under
  under-within r i h = within-under ok i (sites_before net i) r (omega arith) h

  own-within : (i : ℕ) → 1 ≤ i → i < length net → WithinTree (wired (wire_of (get_or net i no_row)) (seen_at net i))
  unfolding seen_at under
  own-within i h g = rw (sites_before-step net i g) (within-row ok no_row i (sites_before net i) h g)

  pub sound : Sound rows due types words n
  unfolding hung_at hung_own
  sound = record {
    standing = standing;
    types_long = types_long;
    words_long = words_long;
    earlier = λ j h g. (later-at ok no_row j h g).parent;
    sites_few = ok.sites_few;
    mark = λ k. omega (arith, known k);
    known = λ k m h. rw (type-is types count m (omega (arith, known k))) at (type-in ok m (rw repeaters-length (omega (arith, known k))));
    row_in = λ i h. row_in ok no_row i (rw rows-length h);
    under_in = λ r i h. all_in (under net r i) (under-within r i h);
    seen_in = λ i h. all_in (seen_at net i) (rw (← (at_row-seen net i (rw rows-length h))) (within-at ok i (rw rows-length h)));
    own_in = λ i h g. all_in (wired (wire_of (get_or net i no_row)) (seen_at net i)) (own-within i h (rw rows-length g));
  }
