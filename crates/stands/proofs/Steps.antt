-- The steps on whole lists, by what the code of both storages promises: where columns and records stand alike and the columns may take a
-- step, the records may take it, and both stand alike after it. For the columns the premises are the `requires` and the `ensures` of the
-- step's function, for the records the `ensures` of `runs::passes::sweep` for the step's pass. Assumes nothing.
use Rattle.std.specs.Prelude.{◌≡◌, map, suc, ◌+◌, ◌-◌, ◌≤◌, ◌<◌, set}
use Rattle.std.proofs.Common.{ap, ap₂, ◌∙◌, arith}
use Rattle.rules.specs.declared.Femtofarad.{Femtofarad}
use Rattle.rules.specs.declared.Femtosecond.{Femtosecond}
use Rattle.rules.specs.Quantities.{work_room}
use Rattle.rules.specs.Lists.{All}
use Rattle.laws.specs.Steps.{merge}
use Rattle.laws.specs.Joining.{join_marks}
use Rattle.laws.specs.Moves.{behind, wire_step}
use Rattle.marks.specs.Marks.{marks-zero}
use Rattle.columns.specs.Parts.{part}
use Rattle.columns.specs.Run.{Candidate, candidate}
use Rattle.columns.specs.Made.{Fit, wire_of, room-run}
use Rattle.branches.specs.Branching.{Pair, join-gives}
use Rattle.values.specs.Records.{cand_of, plain_of}
use Rattle.runs.specs.Cands.{cands-set}
use Rattle.runs.specs.Beyond.{swept-length}
use Rattle.runs.specs.Puts.{puts-safe, puts_one}
use Rattle.runs.specs.Moves.{moves-safe, moves}
use Rattle.runs.specs.Wires.{wires-safe, wires-swept}
use Rattle.runs.specs.Branches.{branches-safe, branches}
use Rattle.stands.specs.Alike.{in_columns, in_records, LongIn}
use Rattle.stands.proofs.Alike.{long-run, alike-list, alike-less, alike-stand, gives-alike, store-alike, moved-alike}
use Rattle.stands.specs.Steps.{PinAlike, WireAlike, JoinAlike, MoveAlike}

-- ---- a pin put down: `columns::cells::put_pin`, and a pass that puts one record
-- a record with no marks, as a candidate
pub plain-is : (load : Femtofarad) (due : Femtosecond) → cand_of (plain_of load due) ≡ candidate load.0 due.0 (λ j. 0)
plain-is load due = ap (candidate load.0 due.0) marks-zero

pub pin-alike : PinAlike
pin-alike c r at load due worth room long h a =
    let x : Candidate = candidate load.0 due.0 (λ j. 0) in (
      puts-safe 1 at (plain_of load due) worth r (omega arith) long,
      λ c' r' q e s.
          let f : in_records r' ≡ set (in_records r) at x = ap in_records (puts_one s) ∙ cands-set r at (plain_of load due) ∙ ap (set (in_records r) at) (plain-is load due) in
          rw (e, f) (store-alike at x (room-run (suc at) room h) (long-run r (suc at) long h) a),
    )

-- ---- a list behind a wire: `wires::wire_list`, and its pass
pub wire-alike : WireAlike
wire-alike c r at n ohms cap held worth long s in-range fit a =
    let e = alike-list at (at + n) a in
    let stand = alike-stand at n a s in
    let fits : All Fit (map (behind (wire_of ohms.0 cap.0)) (part at (at + n) (in_records r))) = rw e at fit in (
      wires-safe ohms cap in-range r at n held worth long stand fits,
      λ c' r' q len g k.
          gives-alike c c' r r' at len (q.to - at) _ _ (alike-less at (at + n) (omega arith) a) (ap (wire_step (wire_of ohms.0 cap.0)) e) g (wires-swept ohms cap in-range r at n held worth long stand fits k).1,
    )

-- ---- two lists joined where branches meet: `branches::join_lists`, and the passes that join them past both and move the joined list down
pub join-alike : JoinAlike
join-alike c r at m n held held₁ worth worth₁ long P a =
    let own_same : part (at + m) (at + m + n) (in_columns c) ≡ part (at + m) (at + m + n) (in_records r) = alike-list (at + m) (at + m + n) a in
    let first-same : part at (at + m) (in_columns c) ≡ part at (at + m) (in_records r) = alike-list at (at + m) (alike-less (at + m) (at + m + n) (omega arith) a) in
    let pair : Pair (in_records r) at m n = record { first = P.first; second = P.second; place = P.place; fit = rw (own_same, first-same) at P.fit } in
    let started : at < work_room = omega (arith, P.place, P.first) in (
      branches-safe r at m n held worth pair long,
      λ r₁ q s.
          let M = branches r at m n held worth pair long s in
          let past : at + m + n + (q.to - (at + m + n)) ≤ work_room = omega (arith, M.top, M.past, P.place) in
          let long₁ : LongIn r₁ = rw (swept-length s) long in (
            moves-safe r₁ (at + m + n) at (q.to - (at + m + n)) (omega arith) past at held₁ worth₁ started long₁,
            λ c' r₂ q₁ len g t.
                let d = moves r₁ (at + m + n) at (q.to - (at + m + n)) (omega arith) past at held₁ worth₁ started long₁ t in
                gives-alike c c' r r₂ at len (q.to - (at + m + n)) _ _ (alike-less at (at + m + n) (omega arith) a) (ap₂ (merge join_marks) own_same first-same) g (join-gives (in_records r) (in_records r₁) (in_records r₂) at m n q.to M d),
          ),
    )

-- ---- a list moved to a lower place, or the same: `columns::moves::move_down` or `move_list`, and its pass. Over records no list is ever moved up:
pub move-alike : MoveAlike
move-alike c r from to n with held worth room long down h w a = (
  moves-safe r from to n down h with held worth w long,
  λ c' r' q m s.
      moved-alike {w' = in_columns c'} {v' = in_records r'} from to n down (room-run (from + n) room h) a m (moves r from to n down h with held worth w long s),
)
