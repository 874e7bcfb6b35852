-- The list at a row of a net in its tables: from what hangs under it, by the passes of its site. Assumes nothing.
use Rattle.std.specs.Prelude.{◌≡◌, refl, Bool, true, false, not, cond, List, ℕ, ◌+◌, ◌-◌, ◌≤◌, ◌<◌, T, ℤ, length, get_or, set}
use Rattle.std.proofs.Common.{◌∙◌, arith}
use Rattle.std.proofs.Math.Option.{none}
use Rattle.std.proofs.Math.ListN.{length-set}
use Rattle.rules.specs.declared.Kind.{Kind}
use Rattle.rules.specs.declared.Kind.TheVariants.{Driver, Point, Sink}
use Rattle.rules.specs.declared.Pin.{Pin}
use Rattle.rules.specs.declared.Row.{Row}
use Rattle.rules.specs.Quantities.{work_room, types_room}
use Rattle.rules.specs.Entries.{Repeater}
use Rattle.rules.specs.Refusals.{is_sink}
use Rattle.rules.specs.Slack.{type_of}
use Rattle.laws.specs.Rows.{type-in}
use Rattle.laws.specs.Room.{HasRoom}
use Rattle.laws.specs.Walk.{no_row, sites_before, seen_at, child, under-end}
use Rattle.laws.specs.Tabled.{row_at, rows_from, rows-length, repeaters_from, repeaters-length, repeaters-at}
use Rattle.marks.specs.Marks.{marks-zero}
use Rattle.rows.specs.Links.{row_is}
use Rattle.columns.specs.Run.{candidate}
use Rattle.walks.specs.Made.{Made, Sited, Typed}
use Rattle.walks.specs.Links.{from}
use Rattle.walks.specs.Recursion.{pin-sited, pin-made, first-there, first-room, under-sited, under-made}
use Rattle.rules.specs.declared.Cand.{Cand}
use Rattle.rooms.specs.Links.{sites_at}
use Rattle.turns.specs.declared.Pass.{Pass}
use Rattle.values.specs.Records.{cands}
use Rattle.runs.specs.Cands.{cands-length, cands-set}
use Rattle.runs.specs.Passes.{Safe, Swept}
use Rattle.runs.specs.Puts.{puts-safe, puts_none, puts_one}
use Rattle.stages.specs.declared.Job.{Job}
use Rattle.stages.specs.Stages.{pin_pass}
use Rattle.jobs.specs.Jobs.{RowIn, pin_of, site_job, Able, Worked}
use Rattle.jobs.specs.SiteJobs.{site-able, site-worked}
use Rattle.sights.specs.Hanging.{Net, Hangs, Hung}

pub past_end : (p : ℕ) → p + 0 ≡ p
past_end p = omega arith

module _ (ws : List ℕ) (ds : List ℤ) (ts ls : List ℕ) (count n : ℕ) (N : Net ws ds ts ls count n) where
  abbrev R : List Row
  R = rows_from ws ds 0 n

  abbrev types : List Repeater
  types = repeaters_from ts 0 count

  pub rows-n : length R ≡ n
  rows-n = rows-length ws ds 0 n

  pub types-n : length types ≡ count
  types-n = repeaters-length ts 0 count

  pub typed : Typed ts count
  unfolding type_of
  typed = record {
    few = rw types-n at N.accepted.types_few;
    long = N.types_long;
    inside = λ m h. let z : 0 + m ≡ m = omega arith in rw (repeaters-at ts _ 0 count m h, z) at (type-in N.accepted m (rw types-n h));
  }

  pub from-none : from R n ≡ none
  unfolding from
  from-none = under-end R _ n (rw rows-n (omega arith))

  pub row-there : (c : ℕ) → c < n → RowIn ws ds ls c
  row-there c h = record { few = omega (arith, N.standing); words = omega (arith, N.standing); times = omega (arith, N.standing); links_long = N.linked.long }

  pub types_few : count ≤ types_room
  types_few = typed.few

  -- ---- at row c, made at p
  module _ (c : ℕ) (h : c < n) (p : ℕ) (room : HasRoom count p (n - (c + 1)) (seen_at R c)) (first : ℕ) (first-is : first ≡ cond (is_sink (row_at ws ds c).kind) n (get_or ls c 0)) where
    abbrev x : Row
    x = row_at ws ds c

    abbrev k : ℕ
    k = get_or ls (sites_at + c) 0

    abbrev a : ℕ
    a = p + 0

    inside : c < length R
    inside = rw rows-n h

    x-row : get_or R c no_row ≡ x
    x-row = row_is ws ds n c x h refl

    k-row : k ≡ sites_before R c
    k-row = N.linked.sites c inside

    room-a : HasRoom (length types) a (length R - (c + 1)) (seen_at R c)
    room-a = rw (types-n, rows-n, past_end p) room

    plain_of : (kind : Kind) → is_sink kind ≡ false → T (not (is_sink kind))
    plain_of Driver e = tt
    plain_of Point e = tt
    plain_of (Sink pin) e = absurd (let z : ◌≡◌ {A = ℕ} 0 1 = cc in omega arith)

    pin-there : (kind : Kind) → is_sink kind ≡ true → (pin : Pin) × (kind ≡ Sink pin)
    pin-there Driver e = absurd (let z : ◌≡◌ {A = ℕ} 0 1 = cc in omega arith)
    pin-there Point e = absurd (let z : ◌≡◌ {A = ℕ} 0 1 = cc in omega arith)
    pin-there (Sink pin) e = (pin, refl)

    first-row : is_sink x.kind ≡ false → first ≡ child R c (c + 1)
    first-row e = first-is ∙ rw e (N.linked.first c inside)

    first-end : is_sink x.kind ≡ true → first ≡ n
    first-end e = first-is ∙ rw e

    -- where the rows below begin
    pub first-after : (c < first) × (first ≤ n)
    first-after = go (is_sink x.kind) refl
      where
        go : (b : Bool) → is_sink x.kind ≡ b → (c < first) × (first ≤ n)
        go true e = let z = first-end e in (omega arith, omega arith)
        go false e = let z = first-there N.accepted c a inside room-a x x-row k k-row (plain_of x.kind e) first (first-row e) in (z.0, omega (arith, z.1, rows-n))

    pub under-hangs : (w : List Cand) → work_room ≤ length w → Hangs ws ds ts ls count n first p w
    under-hangs w long = record { net = N; one = omega (arith, first-after.0); upto = first-after.1; long = long; room = go (is_sink x.kind) refl }
      where
        go : (b : Bool) → is_sink x.kind ≡ b → HasRoom count p (n - first) (from R first)
        go true e = let z = first-end e in rw (z, from-none) (omega (arith, room))
        go false e = rw (types-n, rows-n, past_end p) at (first-room N.accepted c a inside room-a x x-row k k-row (plain_of x.kind e) first (first-row e))

    module _ (w₁ w₂ : List Cand) (long : work_room ≤ length w₂) (below : ℕ) (U : Hung ws ds ts count n first p w₁ w₂ below) where
      abbrev j : Job
      j = site_job x k count p below

      fits : a + below ≤ work_room
      fits = rw (past_end p) U.made.fits

      made-a : Made types (from R first) (cands w₁) (cands w₂) a below
      made-a = rw (past_end p) U.made

      long₂ : work_room ≤ length (cands w₂)
      long₂ = rw (cands-length w₂) long

      -- ---- a sink
      module _ (pin : Pin) (e : x.kind ≡ Sink pin) where
        put : List Cand
        put = set w₂ a (pin_of x.kind)

        put_is : cands put ≡ set (cands w₂) a (candidate pin.load.0 pin.due.0 (λ j. 0))
        unfolding put
        put_is = cands-set w₂ a (pin_of x.kind) ∙ rw (e, marks-zero)

        put_same : length put ≡ length w₂
        unfolding put
        put_same = length-set w₂ a (pin_of x.kind)

        pin-safe : Safe (pin_pass j) w₂
        pin-safe = rw e (puts-safe 1 a (pin_of (Sink pin)) _ w₂ (omega (arith, room)) long)

        pinned : (f : Pass) (v : List Cand) → Swept (pin_pass j) w₂ f v → v ≡ put
        unfolding put
        pinned f v s = rw e (puts_one (rw e at s))

        sited : Sited (cands put) a 1 count x.site k
        sited = rw types-n at (pin-sited N.accepted c a inside room-a x x-row k k-row (cands w₂) (cands put) long₂ pin e put_is)

        one : cond (is_sink x.kind) 1 below ≡ 1
        one = rw e

        sink-able : Able ts j w₂
        sink-able = site-able ts count typed x k p below w₂ long 1 put put_same one fits pin-safe pinned sited

        sink-made : (w₃ : List Cand) (own : ℕ) → Worked ts j w₂ w₃ own → Made types (seen_at R c) (cands w₁) (cands w₃) a own
        sink-made w₃ own g =
            let m = pin-made N.accepted c a inside room-a x x-row k k-row (cands w₂) (cands put) long₂ pin e put_is (cands w₃) own (site-worked ts count typed x k p below w₂ long 1 put put_same one fits pin-safe pinned sited g) in
            record { before = m.before ∙ made-a.before; shows = m.shows; fits = m.fits }

      -- ---- any other row
      module _ (e : is_sink x.kind ≡ false) where
        none-safe : Safe (pin_pass j) w₂
        none-safe = rw e (puts-safe 0 a (pin_of x.kind) _ w₂ (omega (arith, room)) long)

        unpinned : (f : Pass) (v : List Cand) → Swept (pin_pass j) w₂ f v → v ≡ w₂
        unpinned f v s = puts_none (rw e at s)

        plain-sited : Sited (cands w₂) a below count x.site k
        plain-sited = rw types-n at (under-sited N.accepted c a inside room-a x x-row k k-row (plain_of x.kind e) first (first-row e) (cands w₁) (cands w₂) long₂ below made-a)

        same-own : cond (is_sink x.kind) 1 below ≡ below
        same-own = rw e

        plain-able : Able ts j w₂
        plain-able = site-able ts count typed x k p below w₂ long below w₂ refl same-own fits none-safe unpinned plain-sited

        plain-made : (w₃ : List Cand) (own : ℕ) → Worked ts j w₂ w₃ own → Made types (seen_at R c) (cands w₁) (cands w₃) a own
        plain-made w₃ own g = under-made N.accepted c a inside room-a x x-row k k-row (plain_of x.kind e) first (first-row e) (cands w₁) (cands w₂) long₂ below made-a (cands w₃) own (site-worked ts count typed x k p below w₂ long below w₂ refl same-own fits none-safe unpinned plain-sited g)

      pub sight-able : Able ts j w₂
      sight-able = go (is_sink x.kind) refl
        where
          go : (b : Bool) → is_sink x.kind ≡ b → Able ts j w₂
          go true e = let q = pin-there x.kind e in sink-able q.0 q.1
          go false e = plain-able e

      pub sight-made : (w₃ : List Cand) (own : ℕ) → Worked ts j w₂ w₃ own → Made types (seen_at R c) (cands w₁) (cands w₃) p own
      sight-made w₃ own g = rw (past_end p) at (go (is_sink x.kind) refl)
        where
          go : (b : Bool) → is_sink x.kind ≡ b → Made types (seen_at R c) (cands w₁) (cands w₃) a own
          go true e = let q = pin-there x.kind e in sink-made q.0 q.1 w₃ own g
          go false e = plain-made e w₃ own g
