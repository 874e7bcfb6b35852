-- The areas that an entry is lent beside a net's tables: a placement, a list, and the work area. What each is, and when it is shorter than
-- its room. Assumes nothing.
use Rattle.std.specs.Prelude.{Bool, false, ◌||◌, List, [], ◌∷◌, ℕ, ◌*◌, ltb, ℤ, pos, length, replicate}
use Rattle.rules.specs.declared.Cand.{Cand}
use Rattle.rules.specs.Lists.{written}
use Rattle.rules.specs.Quantities.{placement_room, list_room, work_room}

-- ---- a placement, and a list
abbrev pub short_placement : List ℕ → Bool
short_placement words = ltb (length words) placement_room

-- the two areas that a list is written to
pub record Lent : Type 0 where
  pub loads : List ℕ
  pub times : List ℤ

abbrev pub lent_of : (loads : List ℕ) (times : List ℤ) → Lent
lent_of loads times = record { loads = loads; times = times }

unfoldable pub short_lent : Lent → Bool
short_lent a = ltb (length a.loads) list_room || ltb (length a.times) list_room

-- an area for the times of a list that nobody sees: exactly its room, all zero
abbrev pub unseen_times : List ℤ
unseen_times = replicate list_room (pos 0)

-- ---- the work area
-- how a work area is kept: when it is shorter than its room, and what it is when its room is all zero
pub record Storage (W : Type 0) : Type 0 where
  pub short : W → Bool
  pub cleared : W → W

-- columns of loads, times and placement words
pub record Columns : Type 0 where
  pub loads : List ℕ
  pub times : List ℤ
  pub words : List ℕ

abbrev pub columns_of : (loads : List ℕ) (times : List ℤ) (words : List ℕ) → Columns
columns_of loads times words = record { loads = loads; times = times; words = words }

unfoldable pub columns : Storage Columns
columns = record {
  short = λ w. ltb (length w.loads) work_room || (ltb (length w.times) work_room || ltb (length w.words) (placement_room * work_room));
  cleared = λ w. columns_of (written (replicate work_room 0) w.loads) (written (replicate work_room (pos 0)) w.times) (written (replicate (placement_room * work_room) 0) w.words);
}

-- a record of zeros: no load, time 0, no mark
abbrev pub zeros : Cand
zeros = record { load = record { 0 = 0 }; time = record { 0 = pos 0 }; words = 0 ∷ 0 ∷ 0 ∷ 0 ∷ [] }

-- a run of records, each a load, a time and the four words of a placement
unfoldable pub records : Storage (List Cand)
records = record { short = λ w. ltb (length w) work_room; cleared = λ w. written (replicate work_room zeros) w }

-- a run of exactly its room, all zero
abbrev pub blank_run : List Cand
blank_run = replicate work_room zeros

-- none is lent: the call has a work area of its own
unfoldable pub unlent : Storage (Unit {0})
unlent = record { short = λ w. false; cleared = λ w. w }

-- ---- what planning and listing are lent
pub record PlanAreas (W : Type 0) : Type 0 where
  pub placement : List ℕ
  pub work : W

pub record ListAreas (W : Type 0) : Type 0 where
  pub list : Lent
  pub work : W

-- of a list the loads alone
pub record LoadsAreas (W : Type 0) : Type 0 where
  pub loads : List ℕ
  pub work : W

abbrev pub plan_areas : {W : Type 0} → (placement : List ℕ) (work : W) → PlanAreas W
plan_areas placement work = record { placement = placement; work = work }

abbrev pub list_areas : {W : Type 0} → (list : Lent) (work : W) → ListAreas W
list_areas list work = record { list = list; work = work }

abbrev pub loads_areas : {W : Type 0} → (loads : List ℕ) (work : W) → LoadsAreas W
loads_areas loads work = record { loads = loads; work = work }
