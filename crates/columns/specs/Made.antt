-- What the steps on a run ask and give. Assumes nothing.
use Rattle.std.specs.Prelude.{◌≡◌, List, ℕ, ◌+◌, ◌*◌, ◌≤◌, ℤ, ◌≤ℤ◌, length}
use Rattle.std.specs.Int.Signed.{mag}
use Rattle.std.proofs.Common.{arith}
use Rattle.rules.specs.Quantities.{work_room, placement_room}
use Rattle.rules.specs.Lists.{All}
use Rattle.rules.specs.Net.{Wire}
use Rattle.laws.specs.Ranges.{most_load, least_slack, most_slack}
use Rattle.units.specs.Times.{far_time}
use Rattle.laws.specs.Integers.{mag-between}
use Rattle.columns.specs.Parts.{part}
use Rattle.columns.specs.Run.{Candidate, run, run_long}

-- a candidate is in its range
pub record Fit (c : Candidate) : Type 0 where
  pub load : c.load ≤ most_load
  pub low : least_slack ≤ℤ c.time
  pub top : c.time ≤ℤ most_slack

pub fit-near : (c : Candidate) → Fit c → mag c.time ≤ far_time
fit-near c f = let h = mag-between c.time 2_999_999_999_999_999 1_000_000_000_000 {h = far_time} f.low f.top (omega arith) (omega arith) in omega arith

-- a wire by its numbers
abbrev pub wire_of : ℕ → ℕ → Wire
wire_of resistance capacitance = record { resistance = resistance; capacitance = capacitance }

-- the work area has its room
pub record Room (ls : List ℕ) (ts : List ℤ) (ws : List ℕ) : Type 0 where
  pub loads : work_room ≤ length ls
  pub times : work_room ≤ length ts
  pub words : placement_room * work_room ≤ length ws

-- the columns are as long as they were
pub record Sized (ls : List ℕ) (ts : List ℤ) (ws ls' : List ℕ) (ts' : List ℤ) (ws' : List ℕ) : Type 0 where
  pub loads : length ls' ≡ length ls
  pub times : length ts' ≡ length ts
  pub words : length ws' ≡ length ws

pub room-run : {ls : List ℕ} {ts : List ℤ} {ws : List ℕ} (n : ℕ) → Room ls ts ws → n ≤ work_room → n ≤ length (run ls ts ws)
room-run {ls} {ts} {ws} n r h = run_long ls ts ws n (omega arith) (omega arith)

-- n candidates, at least one, stand at a place of the run, in their ranges
pub record Stand (w : List Candidate) (at n : ℕ) : Type 0 where
  pub some : 1 ≤ n
  pub place : at + n ≤ work_room
  pub fit : All Fit (part at (at + n) w)

-- after: `count` candidates at the place, the list l, and all before the place as it was
pub record Gives (w w' : List Candidate) (at count : ℕ) (l : List Candidate) : Type 0 where
  pub before : part 0 at w' ≡ part 0 at w
  pub list : part at (at + count) w' ≡ l
  pub count_is : length l ≡ count
