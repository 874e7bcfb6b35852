-- Each step of `below` and `beside`: from what their calls give to what the next needs, and to the list from the row on. Assumes nothing.
use Rattle.std.specs.Prelude.{◌≡◌, refl, true, false, List, [], ℕ, ◌+◌, ◌-◌, ◌*◌, ◌^◌, ◌≤◌, ◌<◌, ℤ, length, get_or}
use Rattle.std.proofs.Common.{sym, ap, ◌∙◌, arith, lt-ltb, le-ltb}
use Rattle.std.proofs.Math.Decide.{dec_lt}
use Rattle.rules.specs.declared.Row.{Row}
use Rattle.rules.specs.Quantities.{most_ohms, rows_room, work_room}
use Rattle.rules.specs.Entries.{Repeater}
use Rattle.rules.specs.Net.{Wire, wire_of}
use Rattle.laws.specs.Rows.{row_in}
use Rattle.laws.specs.Room.{HasRoom}
use Rattle.laws.specs.Walk.{no_row, seen_at, child}
use Rattle.laws.specs.Tabled.{row_at, rows_from, repeaters_from}
use Rattle.rows.specs.Links.{row_is}
use Rattle.columns.specs.Parts.{part, part-nil, part_length}
use Rattle.walks.specs.Made.{Made, Wired, Hang}
use Rattle.walks.specs.Links.{from, room_next, room-alone}
use Rattle.walks.specs.Recursion.{next-there, alone-wired, alone-made, own_room, beside-hang, beside-made}
use Rattle.rules.specs.declared.Cand.{Cand}
use Rattle.rooms.specs.Links.{links_room}
use Rattle.values.specs.Records.{cands}
use Rattle.runs.specs.Cands.{cands-length}
use Rattle.stages.specs.declared.Job.{Job}
use Rattle.jobs.specs.Jobs.{RowIn, hang_job, hang_at, Able, Worked}
use Rattle.jobs.specs.JobSteps.{worked-past}
use Rattle.jobs.specs.HangJobs.{alone-able, alone-worked, both-able, both-worked}
use Rattle.sights.specs.Hanging.{Net, next_of, Hangs, Hung, Follows, Sees, Seen}
use Rattle.sights.specs.Sights.{rows-n, types-n, from-none, row-there}

module _ (ws : List ℕ) (ds : List ℤ) (ts ls : List ℕ) (count n c at : ℕ) (w : List Cand) (H : Hangs ws ds ts ls count n c at w) (more : c < n) where
  abbrev R : List Row
  R = rows_from ws ds 0 n

  abbrev types : List Repeater
  types = repeaters_from ts 0 count

  abbrev N : Net ws ds ts ls count n
  N = H.net

  rows : length R ≡ n
  rows = rows-n ws ds ts ls count n N

  kinds : length types ≡ count
  kinds = types-n ws ds ts ls count n N

  row-in-c : RowIn ws ds ls c
  row-in-c = row-there ws ds ts ls count n N c more

  inside : c < length R
  inside = rw rows more

  abbrev x : Row
  x = row_at ws ds c

  x-row : get_or R c no_row ≡ x
  x-row = row_is ws ds n c x more refl

  room-c : HasRoom (length types) at (length R - c) (from R c)
  room-c = rw (kinds, rows) H.room

  abbrev link : Wire
  link = record { resistance = x.resistance.0; capacitance = x.capacitance.0 }

  link_row : link ≡ wire_of (get_or R c no_row)
  unfolding wire_of
  link_row = rw x-row

  ohms : x.resistance.0 ≤ most_ohms
  ohms = rw x-row at (row_in N.accepted no_row c inside).resistance

  abbrev next : ℕ
  next = next_of ls c

  next_row : next ≡ child R (get_or R c no_row).parent (c + 1)
  next_row = N.linked.next c H.one inside

  next-after : (c < next) × (next ≤ n)
  next-after = rw rows at (next-there N.accepted c at H.one inside room-c link link_row next next_row)

  -- ---- the later rows
  pub next-asks : (c < rows_room) × (length ls ≡ links_room)
  next-asks = (row-in-c.few, row-in-c.links_long)

  next-hangs : Hangs ws ds ts ls count n next at w
  next-hangs = record { net = N; one = omega (arith, next-after.0); upto = next-after.1; long = H.long; room = rw (kinds, rows) at (room_next (length types) R c at inside room-c next next_row) }

  next-less : 2 * (n - next) + 1 < 2 * (n - c)
  next-less = omega (arith, next-after.0, next-after.1)

  module _ (r : ℕ) (r-is : r ≡ next) where
    pub later-hangs : Hangs ws ds ts ls count n r at w
    later-hangs = rw r-is next-hangs

    pub later-less : 2 * (n - r) + 1 < 2 * (n - c)
    later-less = rw r-is next-less

    pub later-hung : {w₁ : List Cand} {len : ℕ} → Hung ws ds ts count n r at w w₁ len → Hung ws ds ts count n next at w w₁ len
    later-hung h = rw r-is at h

  -- ---- the row's own list after them
  pub follows : Follows ws ds ts ls count n c at w
  follows = record { hangs = H; more = more }

  pub own-less : 2 * (n - c) < 2 * (n - c) + 1
  own-less = omega arith

  module _ (w₁ : List Cand) (same₁ : length w₁ ≡ length w) (later : ℕ) (L : Hung ws ds ts count n next at w w₁ later) where
    pub mid-fits : at + later < 2 ^ 64
    mid-fits = omega (arith, L.made.fits)

    long₁ : work_room ≤ length (cands w₁)
    long₁ = rw (cands-length w₁, same₁) H.long

    -- no later row: nothing waits
    nothing : next ≡ n → later ≡ 0
    nothing e =
        let s : part at (at + later) (cands w₁) ≡ [] = rw (e, from-none ws ds ts ls count n N) at L.made.shows in
        let l = part_length at (at + later) (cands w₁) (omega (arith, long₁, L.made.fits)) in
        let z : length (part at (at + later) (cands w₁)) ≡ 0 = ap length s in
        omega arith

    own-place : HasRoom count (at + later) (n - (c + 1)) (seen_at R c)
    own-place = go (dec_lt next n)
      where
        go : Dec (next < n) → HasRoom count (at + later) (n - (c + 1)) (seen_at R c)
        go (yes l) = rw (kinds, rows) at (own_room N.accepted c at H.one inside room-c link link_row next next_row (rw rows l) (cands w) (cands w₁) long₁ later L.made)
        go (no l) =
            let z = nothing (omega (arith, l, next-after.1)) in
            let y : at + later ≡ at = omega arith in
            rw y (rw (kinds, rows) at (room-alone (length types) R c at inside room-c))

    pub own-sees : Sees ws ds ts ls count n c (at + later) w₁
    own-sees = record { net = N; inside = more; long = rw same₁ H.long; room = own-place }

    module _ (w₂ : List Cand) (same₂ : length w₂ ≡ length w) (own : ℕ) (O : Seen ws ds ts count n c (at + later) w₁ w₂ own) where
      abbrev hang : Job
      hang = hang_at ws ds ls n c at later own

      long₂ : work_room ≤ length w₂
      long₂ = rw same₂ H.long

      wide₂ : work_room ≤ length (cands w₂)
      wide₂ = rw (cands-length w₂) long₂

      -- ---- no list waits
      module _ (e : next ≡ n) where
        here : at + later ≡ at
        here = let z = nothing e in omega arith

        made-here : Made types (seen_at R c) (cands w) (cands w₂) at own
        made-here = let m = rw here at O.made in record { before = m.before ∙ L.made.before; shows = m.shows; fits = m.fits }

        last_row : next ≡ length R
        last_row = e ∙ sym rows

        wired-here : Wired (cands w₂) (at + later) own link
        wired-here = rw here (alone-wired N.accepted c at H.one inside room-c link link_row next next_row last_row (cands w) (cands w₂) wide₂ own made-here)

        job-alone : hang ≡ hang_job (row_at ws ds c) false at later own
        job-alone = rw (le-ltb next n (omega arith))

        last-able : Able ts hang w₂
        last-able = rw job-alone (alone-able ts N.types_long x ohms at later own w₂ long₂ wired-here)

        last_made : (w₃ : List Cand) (len : ℕ) → Worked ts hang w₂ w₃ len → Made types (from R c) (cands w) (cands w₃) at len
        last_made w₃ len G = alone-made N.accepted c at H.one inside room-c link link_row next next_row last_row (cands w) (cands w₂) wide₂ own made-here (cands w₃) len (rw here at (alone-worked ts N.types_long x ohms at later own w₂ long₂ wired-here (rw job-alone at G)))

      -- ---- a list waits
      module _ (l : next < n) where
        more-row : next < length R
        more-row = rw rows l

        hang-here : Hang (cands w₂) at later own link
        hang-here = beside-hang N.accepted c at H.one inside room-c link link_row next next_row more-row (cands w) (cands w₁) long₁ later L.made (cands w₂) wide₂ own O.made

        job-both : hang ≡ hang_job (row_at ws ds c) true at later own
        job-both = rw (lt-ltb next n l)

        next-able : Able ts hang w₂
        next-able = rw job-both (both-able ts N.types_long x ohms at later own w₂ long₂ hang-here)

        next-made : (w₃ : List Cand) (len : ℕ) → Worked ts hang w₂ w₃ len → Made types (from R c) (cands w) (cands w₃) at len
        next-made w₃ len G = beside-made N.accepted c at H.one inside room-c link link_row next next_row more-row (cands w) (cands w₁) long₁ later L.made (cands w₂) wide₂ own O.made (cands w₃) len (both-worked ts N.types_long x ohms at later own w₂ long₂ hang-here (rw job-both at G))

      hang-able : Able ts hang w₂
      hang-able = go (dec_lt next n)
        where
          go : Dec (next < n) → Able ts hang w₂
          go (yes l) = next-able l
          go (no l) = last-able (omega (arith, l, next-after.1))

      pub hang-asks : RowIn ws ds ls c × Able ts hang w₂
      hang-asks = (row-in-c, hang-able)

      pub hung : (w₃ : List Cand) (len : ℕ) → Worked ts hang w₂ w₃ len → Hung ws ds ts count n c at w w₃ len
      hung w₃ len G = record { made = go (dec_lt next n); beyond = worked-past hang-able G ∙ O.beyond ∙ L.beyond }
        where
          go : Dec (next < n) → Made types (from R c) (cands w) (cands w₃) at len
          go (yes l) = next-made l w₃ len G
          go (no l) = last_made (omega (arith, l, next-after.1)) w₃ len G

-- past the last row
pub hung-none : (ws : List ℕ) (ds : List ℤ) (ts ls : List ℕ) (count n c at : ℕ) (w : List Cand) → Hangs ws ds ts ls count n c at w → n ≤ c → Hung ws ds ts count n c at w w 0
hung-none ws ds ts ls count n c at w H h =
    let e : c ≡ n = omega (arith, H.upto) in
    let z : at + 0 ≡ at = omega arith in
    record { made = record { before = refl; shows = rw (e, from-none ws ds ts ls count n H.net, z) (part-nil at (cands w)); fits = omega (arith, H.room) }; beyond = refl }
