-- What a work area stands for: the candidates that stand in it before the first unused place, each a load, a time and a placement, in their
-- order. Columns of loads, times and words and a run of records stand alike where these are the same. Assumes nothing.
use Rattle.std.specs.Prelude.{◌≡◌, List, ℕ, ◌+◌, ◌≤◌, length}
use Rattle.rules.specs.declared.Cand.{Cand}
use Rattle.rules.specs.Areas.{Columns}
use Rattle.rules.specs.Quantities.{work_room}
use Rattle.columns.specs.Parts.{part}
use Rattle.columns.specs.Run.{Candidate, run}
use Rattle.columns.specs.Made.{Room}
use Rattle.values.specs.Records.{cands}

-- ---- what a work area stands for
-- the candidates in columns: number i has load i, time i, and the placement that the words from placement_room × i on stand for
abbrev pub in_columns : Columns → List Candidate
in_columns c = run c.loads c.times c.words

-- the candidates in a run of records: each has its record's load, its time, and the placement that its words stand for
abbrev pub in_records : List Cand → List Candidate
in_records r = cands r

-- those that stand before the first unused place
abbrev pub standing : (unused : ℕ) → List Candidate → List Candidate
standing unused w = part 0 unused w

-- two runs of candidates are the same up to there
pub record Alike (w v : List Candidate) (unused : ℕ) : Type 0 where
  pub same : standing unused w ≡ standing unused v

-- columns and records stand for the same candidates up to the first unused place
abbrev pub StandAlike : Columns → List Cand → (unused : ℕ) → Type 0
StandAlike c r unused = Alike (in_columns c) (in_records r) unused

-- after a step on a list at a place: as many candidates are left on either side, and the first unused place is past them
pub record AlikeAfter (c : Columns) (r : List Cand) (at len len' : ℕ) : Type 0 where
  pub count : len ≡ len'
  pub alike : StandAlike c r (at + len)

-- columns that have their room, and a run of records that has its own
abbrev pub RoomIn : Columns → Type 0
RoomIn c = Room c.loads c.times c.words

abbrev pub LongIn : List Cand → Type 0
LongIn r = work_room ≤ length r
