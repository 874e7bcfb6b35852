-- What each step of the recursion over the rows needs, and that it makes the list it should. Assumes nothing.
use Rattle.std.specs.Prelude.{◌≡◌, refl, true, not, List, [], ◌∷◌, map, ℕ, ◌+◌, ◌*◌, ◌-◌, ◌≤◌, ◌<◌, T, length, get_or, set}
use Rattle.std.proofs.Common.{◌∙◌, subst, arith, mul-le-mul, mul-add, length-set, get_or-set_same}
use Rattle.std.proofs.Math.Option.{Option, none, some}
use Rattle.rules.specs.declared.Kind.{Kind}
use Rattle.rules.specs.declared.Kind.TheVariants.{Driver, Point, Sink}
use Rattle.rules.specs.declared.Pin.{Pin}
use Rattle.rules.specs.declared.Row.{Row}
use Rattle.rules.specs.Lists.{All, nil, cons}
use Rattle.rules.specs.Quantities.{sites_room, work_room}
use Rattle.rules.specs.Entries.{Repeater, site_count}
use Rattle.rules.specs.Refusals.{is_sink}
use Rattle.rules.specs.Net.{Wire, Tree, wire, wire_of, wired, beside}
use Rattle.rules.specs.Pairs.{sites_on}
use Rattle.laws.specs.Integers.{times, hi, lo}
use Rattle.laws.specs.Lists.{all_map, EveryTwo, ends, leads}
use Rattle.laws.specs.Candidates.{Below}
use Rattle.laws.specs.Joining.{join_marks}
use Rattle.laws.specs.Steps.{merge}
use Rattle.laws.specs.Moves.{behind, wire_step}
use Rattle.laws.specs.Method.{behind-reaches}
use Rattle.laws.specs.Accepted.{Accepted}
use Rattle.laws.specs.Rows.{row_in}
use Rattle.laws.specs.Hanging.{ProperIf}
use Rattle.laws.specs.Sums.{over}
use Rattle.laws.specs.Within.{Within, within-row, reached-within}
use Rattle.laws.specs.Room.{HasRoom}
use Rattle.laws.specs.Whole.{under_sink}
use Rattle.laws.specs.Walk.{no_row, sites_before, sites_before-step, sites_before-most, under, seen_at, child, Child, child-is, under-end}
use Rattle.columns.specs.Parts.{part, part-nil, part-cons, part-over, part_length, part-less, part-part}
use Rattle.columns.specs.Run.{Candidate, candidate, blank}
use Rattle.columns.specs.Made.{Fit, Gives}
use Rattle.walks.specs.Shown.{Shows, start_list, site_list, shows-any, shows-length, shows-fit, shows-seen, shows-alone, shows_beside, shows-wired}
use Rattle.walks.specs.Made.{Made, Wired, Hang, Sited}
use Rattle.walks.specs.Links.{from, from-child, from_step, sites-step, room-seen, room-first, seen-some, from_some, seen-proper, seen-within, from-proper, from-within, seen_apart, first-inside}

-- ---- a list that shows something, as it stands in the run
module _ {types : List Repeater} {rows : List Row} (ok : Accepted types rows) where
  shows-rising : (u : Option Tree) (l : List Candidate) → Shows types u l → EveryTwo Below l
  shows-rising none l s = rw s ends
  shows-rising (some t) l s = s.front.rising

  -- behind a wire its candidates are in their ranges too
  shows-behind : (w : Wire) (u : Option Tree) (l : List Candidate) → Within (wired w u) → Shows types u l → All Fit (map (behind w) l)
  shows-behind w none l h s = rw s nil
  shows-behind w (some t) l h s = all_map (behind w) (λ c r. let q = reached-within ok (wire w t) (behind w c) h (behind-reaches types w r) in record { load = q.0; low = q.1; top = q.2 }) s.front.sound

  at_length : (w : List Candidate) (at len : ℕ) → work_room ≤ length w → at + len ≤ work_room → length (part at (at + len) w) ≡ len
  at_length w at len h g = part_length at (at + len) w (omega arith) ∙ omega arith

  -- so many that they fit
  pub made-few : (u : Option Tree) (w : List Candidate) (at len : ℕ) → work_room ≤ length w → at + len ≤ work_room → ProperIf u → Shows types u (part at (at + len) w) → len ≤ 1 + length types * over sites_on u
  made-few u w at len h g p s = subst (λ (z : ℕ). z ≤ 1 + length types * over sites_on u) (at_length w at len h g) (shows-length types u (part at (at + len) w) p s)

  pub made_some : (u : Option Tree) (w : List Candidate) (at len : ℕ) → work_room ≤ length w → at + len ≤ work_room → (u ≡ none → ⊥) → Shows types u (part at (at + len) w) → 1 ≤ len
  made_some u w at len h g f s = subst (λ (z : ℕ). 1 ≤ z) (at_length w at len h g) (shows-any types u (part at (at + len) w) f s)

  -- ---- at a row: x is row r, and its site, if it has one, is number k
  module _ (r at : ℕ) (inside : r < length rows) (room : HasRoom (length types) at (length rows - (r + 1)) (seen_at rows r)) (x : Row) (x-is : get_or rows r no_row ≡ x) (k : ℕ) (k-is : k ≡ sites_before rows r) where
    number : x.site ≡ true → k < sites_room
    number e =
        let q : sites_before rows (r + 1) ≡ sites_before rows r + site_count true = rw (x-is, e) at (sites_before-step rows r inside) in
        omega (arith, ok.sites_few, sites_before-most rows (r + 1))

    -- what is made there shows the row
    pub seen-made : (w w₁ w₂ : List Candidate) (l : List Candidate) (len : ℕ) → Shows types (under rows r (r + 1)) l → part 0 at w₁ ≡ part 0 at w → Gives w₁ w₂ at len (site_list types x.site k (start_list x.kind l)) → Made types (seen_at rows r) w w₂ at len
    unfolding seen_at
    seen-made w w₁ w₂ l len s b G =
        let S : Shows types (seen_at rows r) (site_list types x.site k (start_list x.kind l)) = rw (k-is, ← x-is) (shows-seen types (get_or rows r no_row).site (get_or rows r no_row).kind (sites_before rows r) (under rows r (r + 1)) l (seen-proper ok r inside) s) in
        let q = shows-length types (seen_at rows r) _ (seen-proper ok r inside) S in
        record { before = G.before ∙ b; shows = rw G.list S; fits = omega (arith, G.count_is, q, ok.types_few) }

    -- ---- a sink: its pin
    module _ (w w₁ : List Candidate) (long : work_room ≤ length w) (pin : Pin) (sink-is : x.kind ≡ Sink pin) (w₁-is : w₁ ≡ set w at (candidate pin.load.0 pin.due.0 (λ j. 0))) where
      there : at < length w
      there = omega (arith, room)

      pub alone : part at (at + 1) w₁ ≡ candidate pin.load.0 pin.due.0 (λ j. 0) ∷ []
      alone = rw w₁-is (part-cons at (at + 1) (set w at (candidate pin.load.0 pin.due.0 (λ j. 0))) blank (omega arith) (rw length-set (omega (arith, there))) ∙ rw (part-nil, get_or-set_same w at (candidate pin.load.0 pin.due.0 (λ j. 0)) blank there))

      pin-fit : Fit (candidate pin.load.0 pin.due.0 (λ j. 0))
      unfolding hi lo
      pin-fit =
          let h = rw (x-is, sink-is) at (row_in ok no_row r inside).kind in
          let a = h.1 in
          let b = h.2 in
          record { load = omega (arith, h.0); low = omega times; top = omega times }

      pub pin-sited : Sited w₁ at 1 (length types) x.site k
      pin-sited = record { some = omega arith; place = omega (arith, room, ok.types_few); fit = rw alone (cons pin-fit nil); rising = rw alone (leads nil ends); number = number }

      pub nothing-under : under rows r (r + 1) ≡ none
      unfolding under
      nothing-under = rw (sites_before-step rows r inside) (under_sink ok no_row r _ inside (rw (x-is, sink-is) tt))

      pub pin-made : (w₂ : List Candidate) (len : ℕ) → Gives w₁ w₂ at len (site_list types x.site k (part at (at + 1) w₁)) → Made types (seen_at rows r) w w₂ at len
      pin-made w₂ len G = seen-made w w₁ w₂ [] len (rw nothing-under refl) (rw w₁-is (part-over 0 at w at _ (omega arith))) (rw sink-is (rw alone at G))

    -- ---- any other row: what hangs under it, from its first row below on
    module _ (plain : T (not (is_sink x.kind))) (first : ℕ) (first-is : first ≡ child rows r (r + 1)) where
      here : T (not (is_sink (get_or rows r no_row).kind))
      here = rw x-is plain

      pub first-there : (r < first) × (first < length rows)
      first-there = rw first-is (first-inside ok r inside here)

      pub first-room : HasRoom (length types) at (length rows - first) (from rows first)
      first-room = room-first (length types) rows r at first inside here first-is room

      module _ (w w₁ : List Candidate) (long : work_room ≤ length w₁) (m : ℕ) (M : Made types (from rows first) w w₁ at m) where
        from_is : from rows first ≡ under rows r (r + 1)
        from_is = rw first-is (from-child rows r (r + 1) (omega arith))

        pub under-sited : Sited w₁ at m (length types) x.site k
        under-sited =
            let f = first-there in
            let q = made-few (from rows first) w₁ at m long M.fits (from-proper ok first (omega arith) (omega arith)) M.shows in
            record {
              some = made_some (from rows first) w₁ at m long M.fits (from_some ok first f.1) M.shows;
              place = omega (arith, first-room, q, ok.types_few);
              fit = shows-fit types ok (from rows first) _ (from-within ok first (omega arith) f.1) M.shows;
              rising = shows-rising (from rows first) _ M.shows;
              number = number;
            }

        pub under-made : (w₂ : List Candidate) (len : ℕ) → Gives w₁ w₂ at len (site_list types x.site k (part at (at + m) w₁)) → Made types (seen_at rows r) w w₂ at len
        under-made w₂ len G = seen-made w w₁ w₂ (part at (at + m) w₁) len (rw (← from_is) M.shows) M.before (rw (starts x.kind plain (part at (at + m) w₁)) G)
          where
            starts : (kind : Kind) → T (not (is_sink kind)) → (l : List Candidate) → start_list kind l ≡ l
            starts Driver h l = refl
            starts Point h l = refl
            starts (Sink pin) h l = absurd h

  -- ---- from row c on, under its parent: the row behind its wire, and the rows after it under the same parent
  module _ (c at : ℕ) (one : 1 ≤ c) (inside : c < length rows) (room : HasRoom (length types) at (length rows - c) (from rows c)) (link : Wire) (link-is : link ≡ wire_of (get_or rows c no_row)) where
    abbrev others : Option Tree
    others = under rows (get_or rows c no_row).parent (c + 1)

    wire-within : Within (wired link (seen_at rows c))
    unfolding seen_at under
    wire-within = rw (link-is, sites_before-step rows c inside) (within-row ok no_row c (sites_before rows c) one inside)

    step : from rows c ≡ beside (wired link (seen_at rows c)) others
    step = rw link-is (from_step rows c inside)

    -- a list that shows the row is ready for its wire
    pub own-wired : (w : List Candidate) (place own : ℕ) → work_room ≤ length w → place + own ≤ work_room → Shows types (seen_at rows c) (part place (place + own) w) → Wired w place own link
    own-wired w place own long g s = record {
      some = made_some (seen_at rows c) w place own long g (seen-some ok c inside) s;
      place = g;
      fit = shows-fit types ok (seen_at rows c) _ (seen-within ok c inside) s;
      behind_fit = shows-behind link (seen_at rows c) _ wire-within s;
    }

    -- what is made fits
    from-fits : (l : List Candidate) (len : ℕ) → length l ≡ len → Shows types (from rows c) l → at + len ≤ work_room
    from-fits l len e s = omega (arith, room, shows-length types (from rows c) l (from-proper ok c one (omega arith)) s)

    -- ---- no row after it is under the same parent
    module _ (next : ℕ) (next-is : next ≡ child rows (get_or rows c no_row).parent (c + 1)) where
      beyond : Child rows (get_or rows c no_row).parent (c + 1) next
      beyond = rw next-is (child-is rows (get_or rows c no_row).parent (c + 1) (omega arith))

      pub next-there : (c < next) × (next ≤ length rows)
      next-there = (omega (arith, beyond.from), beyond.upto)

      module _ (last : next ≡ length rows) (w w₁ : List Candidate) (long : work_room ≤ length w₁) (own : ℕ) (O : Made types (seen_at rows c) w w₁ at own) where
        pub alone-wired : Wired w₁ at own link
        alone-wired = own-wired w₁ at own long O.fits O.shows

        pub alone-made : (w₂ : List Candidate) (len : ℕ) → Gives w₁ w₂ at len (wire_step link (part at (at + own) w₁)) → Made types (from rows c) w w₂ at len
        alone-made w₂ len G =
            let S : Shows types (from rows c) (wire_step link (part at (at + own) w₁)) = rw step (shows-alone types link (seen_at rows c) others _ (beyond.same ∙ under-end rows (get_or rows c no_row).parent next (omega arith)) O.shows) in
            record { before = G.before ∙ O.before; shows = rw G.list S; fits = from-fits _ len G.count_is S }

      -- ---- the next row under the same parent has its list, and the row's own stands after it
      module _ (more : next < length rows) (w w₁ : List Candidate) (long₁ : work_room ≤ length w₁) (later : ℕ) (L : Made types (from rows next) w w₁ at later) where
        next-others : from rows next ≡ others
        next-others = rw next-is (from-child rows (get_or rows c no_row).parent (c + 1) (omega arith))

        few-later : later ≤ 1 + length types * over sites_on others
        few-later = rw (← next-others) (made-few (from rows next) w₁ at later long₁ L.fits (from-proper ok next (omega (arith, next-there)) (omega arith)) L.shows)

        pub own_room : HasRoom (length types) (at + later) (length rows - (c + 1)) (seen_at rows c)
        own_room = room-seen (length types) rows c at inside room later few-later

        module _ (w₂ : List Candidate) (long₂ : work_room ≤ length w₂) (own : ℕ) (O : Made types (seen_at rows c) w₁ w₂ (at + later) own) where
          shows_later : Shows types others (part at (at + later) w₂)
          shows_later = rw (part-part at (at + later) w₁ w₂ O.before, ← next-others) L.shows

          few-own : own ≤ 1 + length types * over sites_on (seen_at rows c)
          few-own = made-few (seen_at rows c) w₂ (at + later) own long₂ O.fits (seen-proper ok c inside) O.shows

          S : Shows types (from rows c) (merge join_marks (wire_step link (part (at + later) (at + later + own) w₂)) (part at (at + later) w₂))
          S = rw step (shows_beside types link (seen_at rows c) others _ _ (seen-some ok c inside) (λ e. from_some ok next more (next-others ∙ e)) (rw link-is (seen_apart ok c one inside)) O.shows shows_later)

          pub beside-hang : Hang w₂ at later own link
          beside-hang = record {
            first = made_some (from rows next) w₁ at later long₁ L.fits (from_some ok next more) L.shows;
            own = own-wired w₂ (at + later) own long₂ O.fits O.shows;
            kept = shows-any types (wired link (seen_at rows c)) _ (wired-some link (seen_at rows c) (seen-some ok c inside)) (shows-wired types link (seen_at rows c) _ O.shows);
            room = omega (arith, few-later, few-own, room, sites-step rows c inside, next-there, mul-le-mul ok.types_few (seen-within-few), both-few);
            fit = shows-fit types ok (from rows c) _ (from-within ok c one inside) S;
          }
            where
              wired-some : (w : Wire) (u : Option Tree) → (u ≡ none → ⊥) → (wired w u ≡ none → ⊥)
              wired-some w none f e = f refl
              wired-some w (some t) f e = let z : ◌≡◌ {A = ℕ} 0 1 = cc in omega arith

              seen-within-few : over sites_on (from rows c) ≤ sites_room
              seen-within-few = (from-within ok c one inside).few

              both-few : length types * over sites_on (from rows c) ≡ length types * over sites_on (seen_at rows c) + length types * over sites_on others
              both-few = rw (sites-step rows c inside) (mul-add (length types) (over sites_on (seen_at rows c)) (over sites_on others))

          pub beside-made : (w₃ : List Candidate) (len : ℕ) → Gives w₂ w₃ at len (merge join_marks (wire_step link (part (at + later) (at + later + own) w₂)) (part at (at + later) w₂)) → Made types (from rows c) w w₃ at len
          beside-made w₃ len G = record { before = G.before ∙ part-less at (at + later) w₁ w₂ (omega arith) O.before ∙ L.before; shows = rw G.list S; fits = from-fits _ len G.count_is S }
