-- The steps of the recursion, by what the code of both storages promises: a row's list behind the row's wire, and joined with the list that
-- waits under the same parent, if one does. For the columns the premises are the `requires` and `ensures` of `walks::steps::wire_row` and
-- `walks::steps::hang`, for the records the `ensures` of `jobs::hang`. Assumes nothing.
use Rattle.std.specs.Prelude.{◌≡◌, List, ◌+◌}
use Rattle.std.proofs.Common.{ap, ap₂, arith}
use Rattle.rules.specs.Net.{wire_of}
use Rattle.laws.specs.Steps.{merge}
use Rattle.laws.specs.Joining.{join_marks}
use Rattle.laws.specs.Moves.{wire_step}
use Rattle.columns.specs.Parts.{part}
use Rattle.columns.specs.Run.{Candidate}
use Rattle.walks.specs.Made.{Wired, Hang}
use Rattle.jobs.specs.HangJobs.{alone-able, alone-worked, both-able, both-worked}
use Rattle.stands.specs.Alike.{in_columns, in_records}
use Rattle.stands.proofs.Alike.{alike-list, alike-less, gives-alike}
use Rattle.stands.specs.Hangs.{AloneAlike, HangAlike}

-- ---- a row x where no list waits: `walks::steps::wire_row`, and `jobs::hang` with no later row
pub alone-alike : AloneAlike
unfolding wire_of
alone-alike types x c r at n types_long long ohms W a =
    let z : at + 0 ≡ at = omega arith in
    let e : part at (at + n) (in_columns c) ≡ part at (at + n) (in_records r) = alike-list at (at + n) a in
    let wired : Wired (in_records r) (at + 0) n (wire_of x) = rw z (record { some = W.some; place = W.place; fit = rw e at W.fit; behind_fit = rw e at W.behind_fit }) in (
      alone-able types types_long x ohms at 0 n r long wired,
      λ c' r' len len' g w.
          let h = rw z at (alone-worked types types_long x ohms at 0 n r long wired w) in
          gives-alike c c' r r' at len len' _ _ (alike-less at (at + n) (omega arith) a) (ap (wire_step (wire_of x)) e) g h,
    )

-- ---- a row x where a list of m waits: `walks::steps::hang`, and `jobs::hang` with a later row
pub hang-alike : HangAlike
unfolding wire_of
hang-alike types x c r at m n types_long long ohms H a =
    let own_same : part (at + m) (at + m + n) (in_columns c) ≡ part (at + m) (at + m + n) (in_records r) = alike-list (at + m) (at + m + n) a in
    let first-same : part at (at + m) (in_columns c) ≡ part at (at + m) (in_records r) = alike-list at (at + m) (alike-less (at + m) (at + m + n) (omega arith) a) in
    let own : Wired (in_records r) (at + m) n (wire_of x) = record { some = H.own.some; place = H.own.place; fit = rw own_same at H.own.fit; behind_fit = rw own_same at H.own.behind_fit } in
    let hangs : Hang (in_records r) at m n (wire_of x) = record { first = H.first; own = own; kept = rw own_same at H.kept; room = H.room; fit = rw (own_same, first-same) at H.fit } in (
      both-able types types_long x ohms at m n r long hangs,
      λ c' r' len len' g w.
          let e = ap₂ (λ (l k : List Candidate). merge join_marks (wire_step (wire_of x) l) k) own_same first-same in
          gives-alike c c' r r' at len len' _ _ (alike-less at (at + m + n) (omega arith) a) e g (both-worked types types_long x ohms at m n r long hangs w),
    )
