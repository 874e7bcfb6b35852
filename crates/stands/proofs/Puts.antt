-- One put in, by what the code of both storages promises: the best behind a type, into the list that stands there. Where nothing is dropped
-- the columns' list may start later than its place, to which it is moved at the end; the records' list stands at its place all the time.
-- Assumes nothing.
use Rattle.std.specs.Prelude.{◌≡◌, List, ℕ, ◌+◌, ◌-◌, ◌≤◌, ◌<◌, pos, length, get_or, take}
use Rattle.std.proofs.Common.{sym, ap, ap₂, ◌∙◌, arith, length-take, length-drop, lt-ltb, le-ltb}
use Rattle.rules.specs.Quantities.{work_room}
use Rattle.laws.specs.Candidates.{thin_in}
use Rattle.columns.specs.Parts.{part, part_length, part-first}
use Rattle.columns.specs.Run.{Candidate, blank}
use Rattle.columns.specs.Made.{room-run}
use Rattle.turns.specs.declared.Pass.{Pass}
use Rattle.runs.specs.Inserts.{inserts-safe, inserts-swept}
use Rattle.stages.specs.declared.Job.{Job}
use Rattle.stages.specs.Stages.{own_at, unset, insert_pass, begin_of, on_to, Ended}
use Rattle.stands.specs.Alike.{in_columns, in_records, StandAlike}
use Rattle.stands.proofs.Alike.{long-run, alike-join, part-long}
use Rattle.stands.specs.Puts.{PutAlike, SettleAlike}

-- ---- one put in: `inserts::put_in`, and the pass of a job that puts the best behind type t in, with what `stages::ends::end` makes of the job
insert-begins : (types : List ℕ) (j : Job) (t : ℕ) → j.step ≡ j.count + t + 1 → t < j.count → begin_of types j ≡ insert_pass j t
unfolding begin_of
insert-begins types j t e h =
    let z : j.step - j.count - 1 ≡ t = omega arith in
    rw (le-ltb j.step 1 (omega arith), le-ltb j.step (j.count + 1) (omega arith), lt-ltb j.step (j.count + j.count + 1) (omega arith), z)

insert-ends : (types : List ℕ) (j : Job) (t : ℕ) → j.step ≡ j.count + t + 1 → t < j.count → (q : Pass) (j' : Job) → Ended types j q j' → j' ≡ on_to j (q.to - own_at j) 0 j.best
unfolding Ended
insert-ends types j t e h q j' d = rw (le-ltb j.step 1 (omega arith), le-ltb j.step (j.count + 1) (omega arith), lt-ltb j.step (j.count + j.count + 2) (omega arith)) at d

-- how many stand in the columns' list
listed : (start end at n : ℕ) (w v : List Candidate) → end ≤ length w → work_room ≤ length v → at + (end - start) < work_room → part start end w ≡ part at (at + n) v → end - start ≡ n
unfolding part
listed start end at n w v h long room e =
    let k = part_length start end w h in
    let l = ap length e in
    omega (arith, length-drop at (take (at + n) v), length-take (at + n) v)

-- what stands at a place that nothing was stored to
still : (w w' : List Candidate) (i : ℕ) → i + 1 ≤ length w → part i (i + 1) w' ≡ part i (i + 1) w → get_or w' i blank ≡ get_or w i blank
still w w' i h e = let l = part-long i 0 w' (ap length e ∙ part_length i (i + 1) w h ∙ omega arith) in part-first i w w' blank (omega arith) (omega arith) e

pub put-alike : PutAlike
put-alike types c r j t start end by base upto room long low some one fits past top more step going A =
    let at = own_at j in
    let n = j.own in
    let x = get_or j.best t unset in
    let begins = insert-begins types j t step going in
    let own_is : end - start ≡ n = listed start end at n (in_columns c) (in_records r) (room-run end room (omega arith)) (long-run r work_room long (omega arith)) (omega arith) A.list in
    let in-run : at + n < work_room = omega arith in (
      rw begins (inserts-safe r at n x (record { 0 = pos 0 }) in-run long),
      λ c' r' q j' start' end' H s d.
          let made = (inserts-swept r at n x (record { 0 = pos 0 }) in-run long (rw begins at s)).2 in
          rw (insert-ends types j t step going q j' d) (record {
            before = record { same = H.before ∙ A.before.same ∙ sym made.before };
            list = H.list ∙ ap₂ thin_in (A.bests t (omega arith) more) A.list ∙ sym made.list;
            array = A.array;
            bests = λ i h k. still (in_columns c) (in_columns c') (base + i) (room-run (base + i + 1) room (omega arith)) (H.past (base + i) (base + i + 1) (omega arith) (omega arith)) ∙ A.bests i (omega arith) k;
          }),
    )

-- ---- the columns' list moved to its place, at the end of `sites::put_types`; the records' stands there already
pub settle-alike : SettleAlike
settle-alike c c' r chosen at start end n base from upto room long some h fits A m =
    let k : end - start ≡ n = sym (part_length start end (in_columns c) (room-run end room h)) ∙ ap length A.list ∙ part_length at (at + n) (in_records r) (long-run r (at + n) long fits) ∙ omega arith in
    let z : start + (end - start) ≡ end = omega arith in
    let a : StandAlike c' r at = record { same = m.before ∙ A.before.same } in
    let l : part at (at + (end - start)) (in_columns c') ≡ part start end (in_columns c) = rw z at m.list in
    record { count = k; alike = alike-join at (end - start) a (l ∙ A.list ∙ sym (ap (λ (i : ℕ). part at (at + i) (in_records r)) k)) (ap length l ∙ part_length start end (in_columns c) (room-run end room h)) }
