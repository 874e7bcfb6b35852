-- At every row the same list, placements included, by what the recursions of both storages promise. They take the rows below a row in
-- different orders, and the order does not show: both lists are the one that the method carries (`Carried`, `exact`). And a sink's list,
-- which the columns promise in the same words. A slice is as long after a call as before it, and these contracts do not repeat that: so
-- the room of the areas after is a premise here, and in no other step. Assumes nothing.
use Rattle.std.specs.Prelude.{◌≡◌, refl, Bool, true, false, not, List, ℕ, ◌+◌, T, ℤ, length, get_or}
use Rattle.std.proofs.Common.{sym, ap, ◌∙◌, arith}
use Rattle.std.proofs.Math.Option.{Option, none, some}
use Rattle.rules.specs.declared.Cand.{Cand}
use Rattle.rules.specs.declared.Row.{Row}
use Rattle.rules.specs.Areas.{Columns}
use Rattle.rules.specs.Entries.{Repeater}
use Rattle.rules.specs.Net.{Tree}
use Rattle.rules.specs.Refusals.{is_sink}
use Rattle.laws.specs.Walk.{under, seen_at, child}
use Rattle.laws.specs.Tabled.{row_at, rows_from, rows-length, repeaters_from}
use Rattle.rows.specs.Links.{Links, row_is}
use Rattle.columns.specs.Parts.{part, part-nil, part_length}
use Rattle.columns.specs.Run.{Candidate}
use Rattle.columns.specs.Made.{room-run}
use Rattle.walks.specs.Shown.{Shows}
use Rattle.walks.specs.Made.{Given, Made}
use Rattle.walks.specs.Links.{from, from-child}
use Rattle.walks.specs.Spine.{first_below, above-plain, end-sink}
use Rattle.runs.specs.Beyond.{swept-length}
use Rattle.stages.specs.declared.Job.{Job}
use Rattle.jobs.specs.Jobs.{Worked, stop, pass}
use Rattle.sights.specs.Hanging.{Net, Hung, Sees, first_at}
use Rattle.sights.specs.Sights.{from-none}
use Rattle.sights.specs.AtRow.{row-hangs, row-site-asks, seen_by}
use Rattle.stands.specs.Alike.{in_columns, in_records, StandAlike, AlikeAfter, RoomIn, LongIn}
use Rattle.stands.proofs.Alike.{long-run, alike-join}
use Rattle.stands.specs.Rows.{SeenAlike, BelowAlike, MakeAlike, SinkListAlike}

-- ---- what two lists that show the same have alike
-- what hangs somewhere has one list, placements included
shows_same : (types : List Repeater) (u : Option Tree) (l m : List Candidate) → Shows types u l → Shows types u m → l ≡ m
shows_same types none l m s t = s ∙ sym t
shows_same types (some t) l m s k = s.exact ∙ sym k.exact

made_alike : (types : List Repeater) (u : Option Tree) (c c' : Columns) (r r' : List Cand) (at len len' : ℕ) → RoomIn c' → LongIn r' → StandAlike c r at
    → Made types u (in_columns c) (in_columns c') at len → Made types u (in_records r) (in_records r') at len' → AlikeAfter c' r' at len len'
made_alike types u c c' r r' at len len' room long a M N =
    let l = shows_same types u _ _ M.shows N.shows in
    let p : length (part at (at + len) (in_columns c')) ≡ len = part_length at (at + len) (in_columns c') (room-run (at + len) room M.fits) ∙ omega arith in
    let q : length (part at (at + len') (in_records r')) ≡ len' = part_length at (at + len') (in_records r') (long-run r' (at + len') long N.fits) ∙ omega arith in
    let e : len ≡ len' = sym p ∙ ap length l ∙ q in
    let b : StandAlike c' r' at = record { same = M.before ∙ a.same ∙ sym N.before } in
    record { count = e; alike = alike-join at len b (l ∙ sym (ap (λ (n : ℕ). part at (at + n) (in_records r')) e)) p }

-- what the columns' recursion is given, over the records: their links are other ones, and the rest is the same
net-over : {rows : List ℕ} {due : List ℤ} {types links links' : List ℕ} {count n : ℕ} → Given rows due types count n links → Links (rows_from rows due 0 n) links' → Net rows due types links' count n
net-over G L = record { standing = G.standing; types_long = G.types_long; accepted = G.accepted; linked = L }

-- ---- at a row: `walks::seen`, and `sights::seen`
pub seen_alike : SeenAlike
seen_alike rows due types links links' count n row at c r G L h room long a = (
  record { net = net-over G L; inside = h; long = long; room = room },
  λ c' r' len len' room' long' M S.
      made_alike (repeaters_from types 0 count) (seen_at (rows_from rows due 0 n) row) c c' r r' at len len' room' long' a M S.made,
)

-- ---- what hangs under row p: `walks::below`, and `sights::below` from p's first row below on
no-sink : (b : Bool) → T (not b) → b ≡ false
no-sink true h = absurd h
no-sink false h = refl

pub below_alike : BelowAlike
below_alike rows due types links links' count n p at c r G L h below room long a =
    let R = rows_from rows due 0 n in
    let size = rows-length rows due 0 n in
    let sees : Sees rows due types links' count n p at r = record { net = net-over G L; inside = h; long = long; room = room } in
    let plain = above-plain G.accepted p (get_or links p 0) (first_below G.linked p (get_or links p 0) (rw size h) refl (rw size below)) in
    let point : is_sink (row_at rows due p).kind ≡ false = no-sink _ (rw (row_is rows due n p (row_at rows due p) h refl) at plain) in
    let first : first_at rows due links' n p ≡ child R p (p + 1) = rw point (L.first p (rw size h)) in
    let e : from R (first_at rows due links' n p) ≡ under R p (p + 1) = rw first (from-child R p (p + 1) (rw size (omega arith))) in (
      row-hangs rows due types links' count n p at r sees (first_at rows due links' n p) refl,
      λ c' r' len len' room' long' M H.
          made_alike (repeaters_from types 0 count) (under R p (p + 1)) c c' r r' at len len' room' long' a M (rw e at H.made),
    )

-- ---- from the start of the work areas, whatever stood there: `chosen::make`, and `sights::make`
pub make-alike : MakeAlike
make-alike rows due types count n row c r P h long = (
  record { passed = P; inside = h; long = long },
  λ c' r' len len' room' long' M S.
      made_alike (repeaters_from types 0 count) (seen_at (rows_from rows due 0 n) row) c c' r r' 0 len len' room' long' (record { same = part-nil 0 (in_columns c) ∙ sym (part-nil 0 (in_records r)) }) M S.made,
)

-- ---- a sink's list, its pin and its site: `walks::steps::pin_list`, and `jobs::site` as one job
-- a job leaves the run as long as it was
worked-length : {types : List ℕ} {j : Job} {r r' : List Cand} {n : ℕ} → Worked types j r r' n → length r' ≡ length r
worked-length (stop h) = refl
worked-length (pass e l s k h) = worked-length h ∙ swept-length s

pub sink-list-alike : SinkListAlike
sink-list-alike rows due types links links' count n row at c r G L h last room long a =
    let R = rows_from rows due 0 n in
    let size = rows-length rows due 0 n in
    let net = net-over G L in
    let seen = seen_alike rows due types links links' count n row at c r G L h room long a in
    let kind = ap (λ (x : Row). x.kind) (row_is rows due n row (row_at rows due row) h refl) in
    let pin = end-sink G.linked G.accepted row (rw size h) (last ∙ sym size) (row_at rows due row).kind kind in
    let sink : is_sink (row_at rows due row).kind ≡ true = rw pin.1 in
    let z : at + 0 ≡ at = omega arith in
    let nothing : Hung rows due types count n (first_at rows due links' n row) at r r 0 = rw sink (record { made = record { before = refl; shows = rw (from-none rows due types links' count n net, z) (part-nil at (in_records r)); fits = omega (arith, room) }; beyond = refl }) in (
      row-site-asks rows due types links' count n row at r seen.0 (first_at rows due links' n row) refl r refl 0 nothing,
      λ c' r' len len' room' M w.
          seen.1 c' r' len len' room' (rw (worked-length w) long) M (seen_by rows due types links' count n row at r seen.0 (first_at rows due links' n row) refl r refl 0 nothing r' len' w),
    )
