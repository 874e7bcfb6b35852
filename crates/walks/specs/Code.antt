-- The steps of the recursion in the code's own terms: the tables' words, the counts, the links. Assumes nothing.
use Rattle.std.specs.Prelude.{◌≡◌, refl, List, ℕ, ◌+◌, ◌-◌, ◌≤◌, ◌<◌, ℤ, length, get_or}
use Rattle.std.proofs.Common.{sym, ap, ◌∙◌, length-drop}
use native.Mathlib.Omega.{arith}
use Rattle.rules.specs.declared.Row.{Row}
use Rattle.rules.specs.Quantities.{most_ohms, work_room}
use Rattle.rules.specs.Entries.{Repeater}
use Rattle.rules.specs.Net.{wire_of}
use Rattle.rules.specs.Slack.{type_of}
use Rattle.rooms.specs.Links.{next_at, sites_at}
use Rattle.laws.specs.Joining.{join_marks}
use Rattle.laws.specs.Steps.{merge}
use Rattle.laws.specs.Moves.{wire_step}
use Rattle.laws.specs.Accepted.{Accepted}
use Rattle.laws.specs.Rows.{row_in, type-in}
use Rattle.laws.specs.Room.{HasRoom, room_at}
use Rattle.laws.specs.Walk.{no_row, under, seen_at, at_row-seen}
use Rattle.laws.specs.Tabled.{row_at, rows_from, rows-length, repeaters_from, repeaters-length, repeaters-at}
use Rattle.rows.specs.Links.{row_is}
use Rattle.rows.specs.Backward.{rows_left}
use Rattle.columns.specs.Parts.{part}
use Rattle.columns.specs.Run.{Candidate}
use Rattle.columns.specs.Made.{Gives}
use Rattle.walks.specs.Shown.{site_list}
use Rattle.walks.specs.Made.{Given, RowThere, Made, Driven, Wired, Hang, Sited, Started, Typed}
use Rattle.walks.specs.Spine.{Rising, Spine, Above, spine-above, spine-after, spine-room, first-after, first_below, chain-upto, end-sink, above-plain}
use Rattle.walks.specs.Upward.{Siblings, pin-driven, under-driven, driven-made, first-wired, first_made, all_made, next-after, next-room, next-hang, next-made, next-less, made-since}

module _ (ws : List ℕ) (ds : List ℤ) (ts : List ℕ) (count n : ℕ) (ls : List ℕ) (G : Given ws ds ts count n ls) where
  abbrev R : List Row
  R = rows_from ws ds 0 n

  abbrev types : List Repeater
  types = repeaters_from ts 0 count

  rows-n : length R ≡ n
  rows-n = rows-length ws ds 0 n

  types-n : length types ≡ count
  types-n = repeaters-length ts 0 count

  inside-n : {i : ℕ} → i < n → i < length R
  inside-n h = rw rows-n h

  row_n : {i : ℕ} → i < n → get_or R i no_row ≡ row_at ws ds i
  row_n h = row_is ws ds n _ (row_at ws ds _) h refl

  pub typed : Typed ts count
  unfolding type_of
  typed = record {
    few = rw types-n at G.accepted.types_few;
    long = G.types_long;
    inside = λ m h. let z : 0 + m ≡ m = omega arith in rw (repeaters-at ts _ 0 count m h, z) at (type-in G.accepted m (rw types-n h));
  }

  pub row-there : (i : ℕ) → i < n → RowThere ws ds i
  row-there i h = let g = G.standing in (omega (arith, g.few), (omega (arith, g.rows_long), omega (arith, g.due_long)))

  pub ohms-in : (i : ℕ) → i < n → (row_at ws ds i).resistance.0 ≤ most_ohms
  ohms-in i h = rw (row_n h) at (row_in G.accepted no_row i (inside-n h)).resistance

  pub rising : Rising ls n
  rising p h = rw rows-n at (first-after G.linked p (inside-n h))

  -- ---- at a row on the way down
  module _ (row at : ℕ) (h : row < n) (room : HasRoom count at (n - (row + 1)) (seen_at R row)) (r : ℕ) (way : Spine ls n row r) where
    on-way : (r < length R) × HasRoom (length types) at (length R - (r + 1)) (seen_at R r)
    on-way = spine-room G.accepted G.linked (length types) row at r (inside-n h) (rw (types-n, rows-n) room) (rw rows-n way)

    pub way-inside : r < n
    way-inside = rw rows-n at on-way.0

    pub way-after : row ≤ r
    way-after = spine-after rising way

    pub way-room : HasRoom count at (n - (r + 1)) (seen_at R r)
    way-room = rw (types-n, rows-n) at on-way.1

    pub start_fits : at < work_room
    start_fits = omega (arith, on-way.1)

    pub started : (w w₁ : List Candidate) → work_room ≤ length w → get_or ls r 0 ≡ n → Started (row_at ws ds r).kind w w₁ at → Driven types R r w w₁ at 1
    started w w₁ long e s =
        let k = ap (λ x. x.kind) (row_n way-inside) in
        let (pin, q) = end-sink G.linked G.accepted r on-way.0 (e ∙ sym rows-n) (row_at ws ds r).kind k in
        pin-driven G.accepted r at on-way.0 on-way.1 w w₁ long pin (k ∙ q) (rw q at s)

    module _ (w w₁ : List Candidate) (m : ℕ) (D : Driven types R r w w₁ at m) where
      pub driven-sited : Sited w₁ at m count (row_at ws ds r).site (get_or ls (sites_at + r) 0)
      driven-sited = rw (types-n, row_n way-inside, ← (G.linked.sites r on-way.0)) at D.sited

      pub site-made : (w₂ : List Candidate) (len : ℕ) → Gives w₁ w₂ at len (site_list types (row_at ws ds r).site (get_or ls (sites_at + r) 0) (part at (at + m) w₁)) → Made types (seen_at R r) w w₂ at len
      site-made w₂ len g = driven-made G.accepted r at on-way.0 on-way.1 w w₁ w₂ m len D (rw (row_n way-inside, ← (G.linked.sites r on-way.0)) g)

    -- the row above it, and the list of what hangs under that
    module _ (x : Row) (x-is : x ≡ row_at ws ds r) (other : ¬ (r ≡ row)) where
      pub above : Above ls n row r x.parent
      above =
          let (p, A) = spine-above way other in
          let d = first_below G.linked p r (inside-n A.inside) A.first on-way.0 in
          let e : p ≡ x.parent = sym d.parent ∙ ap (λ y. y.parent) (row_n way-inside ∙ sym x-is) in
          rw e at A

  pub under-made : (row at : ℕ) → row < n → HasRoom count at (n - (row + 1)) (seen_at R row) → (p : ℕ) → Spine ls n row p → get_or ls p 0 < n → (w w₁ w₂ : List Candidate) → work_room ≤ length w₂ → (m : ℕ) → part 0 at w₁ ≡ part 0 at w → Made types (under R p (p + 1)) w₁ w₂ at m → Driven types R p w w₂ at m
  under-made row at h room p way below w w₁ w₂ long m b M =
      let (i, r) = on-way row at h room p way in
      under-driven G.accepted p at i r (above-plain G.accepted p (get_or ls p 0) (first_below G.linked p (get_or ls p 0) i refl (inside-n below))) w w₂ long m (made-since w b M)

  -- ---- the rows under one parent
  pub sibling-inside : (p c m at : ℕ) (w w₁ : List Candidate) → Siblings types R ls p c w w₁ at m → c < n
  sibling-inside p c m at w w₁ S = rw rows-n at S.below.inside

  module _ (p at : ℕ) (h : p < n) (room : HasRoom count at (n - (p + 1)) (seen_at R p)) where
    room-p : HasRoom (length types) at (length R - (p + 1)) (seen_at R p)
    room-p = rw (types-n, rows-n) room

    module _ (c : ℕ) (c-is : c ≡ get_or ls p 0) (below : c < n) (w : List Candidate) (long : work_room ≤ length w) (own : ℕ) (O : Made types (seen_at R c) w w at own) where
      pub wire-ready : Wired w at own (wire_of (row_at ws ds c))
      wire-ready = rw (row_n below) at (first-wired G.accepted G.linked p at (inside-n h) room-p c (sym c-is) (inside-n below) w long own O)

      pub wire-made : (w₁ : List Candidate) (m : ℕ) → Gives w w₁ at m (wire_step (wire_of (row_at ws ds c)) (part at (at + own) w)) → Siblings types R ls p c w w₁ at m
      wire-made w₁ m g = first_made G.accepted G.linked p at (inside-n h) room-p c (sym c-is) (inside-n below) w long own O w₁ m (rw (row_n below) g)

    module _ (c : ℕ) (w w₁ : List Candidate) (m : ℕ) (S : Siblings types R ls p c w w₁ at m) (s : ℕ) (s-is : s ≡ get_or ls (next_at + c) 0) where
      pub siblings-made : s ≡ n → Made types (under R p (p + 1)) w w₁ at m
      siblings-made e = all_made G.accepted G.linked p at (inside-n h) room-p c w w₁ m S (sym s-is ∙ e ∙ sym rows-n)

      module _ (more : ¬ (s ≡ n)) where
        pub sibling-more : s < n
        sibling-more = omega (arith, chain-upto S.chain, s-is, rows-n)

        module _ (long₁ : work_room ≤ length w₁) where
          pub sibling-after : p < s
          sibling-after = next-after G.accepted G.linked p at (inside-n h) room-p c w w₁ m S long₁ s (sym s-is) (inside-n sibling-more)

          -- one row less is left
          pub sibling-less : rows_left ls n n (get_or ls (next_at + s) 0) < rows_left ls n n (get_or ls (next_at + c) 0)
          sibling-less = rw rows-n at (next-less G.accepted G.linked p at (inside-n h) room-p c w w₁ m S long₁ s (sym s-is) (inside-n sibling-more))

          pub sibling-room : HasRoom count (at + m) (n - (s + 1)) (seen_at R s)
          sibling-room = rw (types-n, rows-n) at (next-room G.accepted G.linked p at (inside-n h) room-p c w w₁ m S long₁ s (sym s-is) (inside-n sibling-more))

          module _ (w₂ : List Candidate) (long₂ : work_room ≤ length w₂) (own : ℕ) (O : Made types (seen_at R s) w₁ w₂ (at + m) own) where
            pub sibling-hang : Hang w₂ at m own (wire_of (row_at ws ds s))
            sibling-hang = rw (row_n sibling-more) at (next-hang G.accepted G.linked p at (inside-n h) room-p c w w₁ m S long₁ s (sym s-is) (inside-n sibling-more) w₂ long₂ own O)

            pub sibling-made : (w₃ : List Candidate) (len : ℕ) → Gives w₂ w₃ at len (merge join_marks (wire_step (wire_of (row_at ws ds s)) (part (at + m) (at + m + own) w₂)) (part at (at + m) w₂)) → Siblings types R ls p s w w₃ at len
            sibling-made w₃ len g = next-made G.accepted G.linked p at (inside-n h) room-p c w w₁ m S long₁ s (sym s-is) (inside-n sibling-more) w₂ long₂ own O w₃ len (rw (row_n sibling-more) g)

-- the room at the start of the work area
pub start-room : (ws : List ℕ) (ds : List ℤ) (ts : List ℕ) (count n : ℕ) → Accepted (repeaters_from ts 0 count) (rows_from ws ds 0 n) → (row : ℕ) → row < n → HasRoom count 0 (n - (row + 1)) (seen_at (rows_from ws ds 0 n) row)
start-room ws ds ts count n ok row h =
    let r = rows-length ws ds 0 n in
    let g : row < length (rows_from ws ds 0 n) = rw r h in
    rw (← (repeaters-length ts 0 count), ← (at_row-seen (rows_from ws ds 0 n) row g)) (omega (arith, room_at ok row g, length-drop (row + 1) (rows_from ws ds 0 n)))
