-- The choice at the driver and the area cleared, by what the code of both storages promises: `picked::choose` and `clearing::clear` for the
-- columns, `records::choose` and `records::clear` for the records. Assumes nothing.
use Rattle.std.specs.Prelude.{◌≡◌, refl, List, [], ◌∷◌, ◌++◌, ℕ, zero, suc, ◌+◌, ◌*◌, ◌≤◌, ◌<◌, pos, length, get_or, drop, replicate}
use Rattle.std.proofs.Common.{sym, ap, ap₂, ◌∙◌, arith, length-append}
use Rattle.std.proofs.lemmas.List.{length-replicate}
use Rattle.rules.specs.declared.Cand.{Cand}
use Rattle.rules.specs.Areas.{Columns, zeros}
use Rattle.rules.specs.Quantities.{placement_room, work_room}
use Rattle.rules.specs.Placements.{marks}
use Rattle.units.proofs.Times.{own_of}
use Rattle.laws.specs.Steps.{best, value}
use Rattle.laws.specs.Tabled.{row_at}
use Rattle.marks.specs.Marks.{marks-zero}
use Rattle.columns.specs.Run.{Candidate, place_at, words-read}
use Rattle.columns.specs.Made.{Stand}
use Rattle.columns.specs.Choosing.{delay-driver}
use Rattle.values.specs.Records.{cand_of}
use Rattle.runs.specs.Choices.{choices-safe, choices-swept}
use Rattle.records.specs.Entries.{cleared}
use Rattle.stands.specs.Alike.{in_records, RoomIn, LongIn}
use Rattle.stands.proofs.Alike.{alike-list, alike_at, alike-stand}
use Rattle.stands.specs.Reads.{SameAt}
use Rattle.stands.proofs.EachPlace.{reads-alike}
use Rattle.stands.specs.Ends.{DriverAlike, words_room, ClearAlike}

-- ---- the choice at the driver: `picked::choose`, and `records::choose`
pub driver-alike : DriverAlike
driver-alike rows due c r len before long R a =
    let z : 0 + len ≡ len = omega arith in
    let ohm = (row_at rows due 0).resistance in
    let stand : Stand (in_records r) 0 len = alike-stand 0 len (rw z a) R.stand in
    let none = own_of 0 (omega arith) in (
      record { words = R.row_long; times = R.due_long; safe = choices-safe (record { 0 = pos 0 }) ohm none R.ohms r 0 len zeros (record { 0 = pos 0 }) long stand },
      λ after slack on_driver C q r' s.
          let k = rw (delay-driver ohm.0, z) at (choices-swept (record { 0 = pos 0 }) ohm none R.ohms r 0 len zeros (record { 0 = pos 0 }) long stand s) in
          let e : C.chosen ≡ cand_of q.held = C.chosen_is ∙ ap₂ (best (λ m. ohm.0 * m)) (alike_at len 0 (omega (arith, R.stand.some)) a) (alike-list 1 len a) ∙ sym k.1 in
          record {
            slack_same = C.slack_is ∙ ap (value (λ m. ohm.0 * m)) (e ∙ k.1) ∙ sym k.2;
            load_same = C.load_is ∙ ap (λ (x : Candidate). x.load) e;
            place_same = C.words_are ∙ ap (λ (x : Candidate). x.place) e;
            run_same = k.0;
          },
    )

-- ---- the area cleared: `clearing::clear` over the room, and `records::clear`
-- an area that starts with so many of one thing
repeated : {A : Type 0} (n : ℕ) (x d : A) (l : List A) (i : ℕ) → i < n → get_or (replicate n x ++ l) i d ≡ x
repeated zero x d l i h = absurd (omega arith)
repeated (suc n) x d l zero h = refl
repeated (suc n) x d l (suc i) h = repeated n x d l i (omega arith)

repeated-long : {A : Type 0} (n : ℕ) (x : A) (l : List A) → n ≤ length (replicate n x ++ l)
repeated-long n x l = omega (arith, length-append (replicate n x) l, length-replicate n x)

no-marks : {w x y z : ℕ} → w ≡ 0 → x ≡ 0 → y ≡ 0 → z ≡ 0 → marks (w ∷ x ∷ y ∷ z ∷ []) ≡ (λ j. 0)
no-marks e f g h = rw (e, f, g, h) marks-zero

module _ (c c' : Columns) (r r' : List Cand) (loads : c'.loads ≡ replicate work_room 0 ++ drop work_room c.loads) (times : c'.times ≡ replicate work_room (pos 0) ++ drop work_room c.times)
    (words : c'.words ≡ replicate words_room 0 ++ drop words_room c.words) (records : r' ≡ cleared r) where
  word : (n : ℕ) → n < words_room → get_or c'.words n 0 ≡ 0
  word n h = rw words (repeated words_room 0 0 (drop words_room c.words) n h)

  -- no load, time 0 and no mark at each place of either
  blank-at : (i : ℕ) → i < work_room → SameAt c' r' i
  blank-at i h =
      let e : get_or r' i zeros ≡ zeros = rw records (repeated work_room zeros zeros (drop work_room r) i h) in
      let l : get_or c'.loads i 0 ≡ 0 = rw loads (repeated work_room 0 0 (drop work_room c.loads) i h) in
      let t : get_or c'.times i (pos 0) ≡ pos 0 = rw times (repeated work_room (pos 0) (pos 0) (drop work_room c.times) i h) in
      let p : place_at c'.words i ≡ (λ j. 0) = sym (words-read c'.words i) ∙ no-marks (word (placement_room * i) (omega arith)) (word (placement_room * i + 1) (omega arith)) (word (placement_room * i + 2) (omega arith)) (word (placement_room * i + 3) (omega arith)) in
      record { load = l ∙ sym (ap (λ (x : Cand). x.load.0) e); time = t ∙ sym (ap (λ (x : Cand). x.time.0) e); place = p ∙ sym marks-zero ∙ sym (ap (λ (x : Cand). marks x.words) e) }

  room_after : RoomIn c'
  room_after = record {
    loads = rw loads (repeated-long work_room 0 (drop work_room c.loads));
    times = rw times (repeated-long work_room (pos 0) (drop work_room c.times));
    words = rw words (repeated-long words_room 0 (drop words_room c.words));
  }

  records-long : LongIn r'
  records-long = rw records (repeated-long work_room zeros (drop work_room r))

pub clear-alike : ClearAlike
clear-alike c c' r r' loads times words records =
    reads-alike c' r' work_room (room_after c c' r r' loads times words records) (records-long c c' r r' loads times words records) (omega arith) (blank-at c c' r r' loads times words records)
