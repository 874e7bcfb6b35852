-- What it is to stand alike, place by place: candidate i has the same load, the same time and the same placement; and where words are of 64
-- bits, the same words. Assumes nothing.
use Rattle.std.specs.Prelude.{◌≡◌, refl, List, [], ◌∷◌, ◌++◌, ℕ, zero, suc, ◌+◌, ◌≤◌, ◌<◌, length, get_or}
use Rattle.std.proofs.Common.{sym, ap, ap₂, ◌∙◌, arith}
use Rattle.rules.specs.declared.Cand.{Cand}
use Rattle.rules.specs.Areas.{Columns, zeros}
use Rattle.rules.specs.Quantities.{placement_room, work_room}
use Rattle.laws.specs.Picked.{Words64}
use Rattle.laws.specs.Words.{same-words}
use Rattle.columns.specs.Parts.{part-nil, part-snoc}
use Rattle.columns.specs.Run.{Candidate, blank, run_at, words-read}
use Rattle.columns.specs.Made.{room-run}
use Rattle.picked.specs.Picked.{four_at}
use Rattle.runs.specs.Cands.{cands-length, cands-at}
use Rattle.stands.specs.Alike.{in_columns, in_records, Alike, StandAlike, RoomIn, LongIn}
use Rattle.stands.proofs.Alike.{alike_at}
use Rattle.stands.specs.Reads.{SameAt}

-- the same at each place is the same up to there
each-alike : (w v : List Candidate) (e : ℕ) → e ≤ length w → e ≤ length v → ((i : ℕ) → i < e → get_or w i blank ≡ get_or v i blank) → Alike w v e
each-alike w v zero h k f = record { same = part-nil 0 w ∙ sym (part-nil 0 v) }
each-alike w v (suc e) h k f =
    let z : suc e ≡ e + 1 = omega arith in
    let before = each-alike w v e (omega arith) (omega arith) (λ i g. f i (omega arith)) in
    rw z (record { same = part-snoc 0 e w blank (omega arith) (omega arith) ∙ ap₂ (λ (l : List Candidate) (x : Candidate). l ++ (x ∷ [])) before.same (f e (omega arith)) ∙ sym (part-snoc 0 e v blank (omega arith) (omega arith)) })

module _ (c : Columns) (r : List Cand) (unused : ℕ) (room : RoomIn c) (long : LongIn r) (inside : unused ≤ work_room) where
  -- what stands alike reads the same
  pub alike-reads : StandAlike c r unused → (i : ℕ) → i < unused → SameAt c r i
  alike-reads a i h =
      let f = run_at c.loads c.times c.words i (omega (arith, room.loads)) (omega (arith, room.times)) in
      let e = sym f ∙ alike_at unused i h a ∙ cands-at r i (omega arith) in
      record { load = ap (λ (x : Candidate). x.load) e; time = ap (λ (x : Candidate). x.time) e; place = ap (λ (x : Candidate). x.place) e }

  -- and what reads the same stands alike
  pub reads-alike : ((i : ℕ) → i < unused → SameAt c r i) → StandAlike c r unused
  reads-alike f = each-alike (in_columns c) (in_records r) unused (room-run unused room inside) (rw (cands-length r) (omega arith)) at_place
    where
      at_place : (i : ℕ) → i < unused → get_or (in_columns c) i blank ≡ get_or (in_records r) i blank
      at_place i h =
          let s = f i h in
          run_at c.loads c.times c.words i (omega (arith, room.loads)) (omega (arith, room.times)) ∙ rw (s.load, s.time, s.place) (sym (cands-at r i (omega arith)))

-- the same placement in 64-bit words is the same words
pub words_same : (c : Columns) (r : List Cand) (i : ℕ) → SameAt c r i → length (get_or r i zeros).words ≡ placement_room → Words64 (four_at c.words i) → Words64 (get_or r i zeros).words → four_at c.words i ≡ (get_or r i zeros).words
words_same c r i s four h k = same-words (four_at c.words i) (get_or r i zeros).words refl four h k (words-read c.words i ∙ s.place)
