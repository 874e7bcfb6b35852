-- Each step of `seen`: the list at a row, from what hangs under it; and what it needs at the start of the run. Assumes nothing.
use Rattle.std.specs.Prelude.{◌≡◌, List, ℕ, ◌+◌, ◌-◌, ◌*◌, ◌≤◌, ◌<◌, ℤ, length}
use Rattle.std.proofs.Common.{◌∙◌, arith, length-drop}
use Rattle.rules.specs.Quantities.{types_room}
use Rattle.laws.specs.Room.{room_at}
use Rattle.laws.specs.Walk.{at_row-seen}
use Rattle.laws.specs.Tabled.{rows_from, rows-length, repeaters-length}
use Rattle.rows.specs.Links.{Links}
use Rattle.rows.specs.Given.{standing, areas, net-accepted}
use Rattle.rules.specs.declared.Cand.{Cand}
use Rattle.jobs.specs.Jobs.{RowIn, site_at, Able, Worked}
use Rattle.jobs.specs.JobSteps.{worked-past}
use Rattle.sights.specs.Hanging.{first_at, Hangs, Hung, Sees, Seen, Makes}
use Rattle.sights.specs.Sights.{row-there, types_few, first-after, under-hangs, sight-able, sight-made}

module _ (ws : List ℕ) (ds : List ℤ) (ts ls : List ℕ) (count n c at : ℕ) (w : List Cand) (S : Sees ws ds ts ls count n c at w) where
  pub row-asks : RowIn ws ds ls c
  row-asks = row-there ws ds ts ls count n S.net c S.inside

  module _ (first : ℕ) (F : first ≡ first_at ws ds ls n c) where
    pub row-hangs : Hangs ws ds ts ls count n first at w
    row-hangs = under-hangs ws ds ts ls count n S.net c S.inside at S.room first F w S.long

    pub row-less : 2 * (n - first) + 1 < 2 * (n - c)
    row-less = let f = first-after ws ds ts ls count n S.net c S.inside at S.room first F in omega (arith, f.0, f.1)

    module _ (w₁ : List Cand) (same₁ : length w₁ ≡ length w) (under : ℕ) (U : Hung ws ds ts count n first at w w₁ under) where
      row-able : Able ts (site_at ws ds ls count c at under) w₁
      row-able = sight-able ws ds ts ls count n S.net c S.inside at S.room first F w w₁ (rw same₁ S.long) under U

      pub row-site-asks : RowIn ws ds ls c × ((count ≤ types_room) × Able ts (site_at ws ds ls count c at under) w₁)
      row-site-asks = (row-asks, (types_few ws ds ts ls count n S.net, row-able))

      pub seen_by : (w₂ : List Cand) (len : ℕ) → Worked ts (site_at ws ds ls count c at under) w₁ w₂ len → Seen ws ds ts count n c at w w₂ len
      seen_by w₂ len G = record { made = sight-made ws ds ts ls count n S.net c S.inside at S.room first F w w₁ (rw same₁ S.long) under U w₂ len G; beyond = worked-past row-able G ∙ U.beyond }

pub makes-sees : (rows : List ℕ) (due : List ℤ) (types links : List ℕ) (count n row : ℕ) (w : List Cand) → Makes rows due types count n row w → Links (rows_from rows due 0 n) links → Sees rows due types links count n row 0 w
makes-sees rows due types links count n row w m l = record {
  net = record { standing = standing m.passed; types_long = (areas m.passed).types_fit; accepted = net-accepted m.passed; linked = l };
  inside = m.inside;
  long = m.long;
  room =
      let r = rows-length rows due 0 n in
      let g : row < length (rows_from rows due 0 n) = rw r m.inside in
      rw (← (repeaters-length types 0 count), ← (at_row-seen (rows_from rows due 0 n) row g)) (omega (arith, room_at (net-accepted m.passed) row g, length-drop (row + 1) (rows_from rows due 0 n)));
}
