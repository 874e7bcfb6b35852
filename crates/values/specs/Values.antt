-- What the functions on records by value need and make, as candidates. Assumes nothing.
use Rattle.std.specs.Prelude.{◌≡◌, List, ℕ, ◌+◌, ◌*◌, ◌≤◌, ℤ}
use Rattle.std.proofs.Common.{ap}
use Rattle.std.specs.Int.Signed.{mag}
use Rattle.rules.specs.declared.Ohm.{Ohm}
use Rattle.rules.specs.declared.Femtofarad.{Femtofarad}
use Rattle.rules.specs.declared.Femtosecond.{Femtosecond}
use Rattle.rules.specs.Quantities.{◌⊖◌, most_ohms}
use Rattle.rules.specs.Placements.{marks}
use Rattle.rules.specs.Slack.{wire_delay}
use Rattle.laws.specs.Integers.{minℤ}
use Rattle.units.specs.Times.{Own}
use Rattle.laws.specs.Joining.{join_marks}
use Rattle.laws.specs.Steps.{joined}
use Rattle.laws.specs.Moves.{behind}
use Rattle.columns.specs.Run.{Candidate}
use Rattle.columns.specs.Made.{Fit, wire_of}
use Rattle.rules.specs.declared.Cand.{Cand}
use Rattle.laws.specs.Ranges.{most_load}
use Rattle.values.specs.Records.{cand_of}

-- ---- what they need
-- a candidate, and what a wire makes of it
pub record Wires (r : Ohm) (c : Femtofarad) (x : Candidate) : Type 0 where
  pub ohms : r.0 ≤ most_ohms
  pub fit : Fit x
  pub made : Fit (behind (wire_of r.0 c.0) x)

-- a candidate, and the delay that it is put behind
pub record Chooses (delay : Femtosecond) (r : Ohm) (x : Candidate) : Type 0 where
  pub own : Own delay.0
  pub ohms : r.0 ≤ most_ohms
  pub fit : Fit x

-- ---- what they make
-- the time of x before a delay
abbrev pub worth_of : (own : Femtosecond) → Ohm → Cand → Femtosecond
worth_of own r x = record { 0 = x.time.0 ⊖ (mag own.0 + r.0 * x.load.0) }

-- a time by its number
pub time-is : {t : Femtosecond} {z : ℤ} → t.0 ≡ z → t ≡ record { 0 = z }
time-is {t} {z} e = ap (λ (n : ℤ). record { 0 = n }) e

pub wired-load : (x : Cand) (r : Ohm) (c : Femtofarad) → Wires r c (cand_of x) → c.0 + x.load.0 ≤ most_load
unfolding behind
wired-load x r c h = h.made.load

pub wired-is : (x : Cand) (r : Ohm) (c : Femtofarad) (load : Femtofarad) (time : Femtosecond) → load.0 ≡ c.0 + x.load.0 → time.0 ≡ x.time.0 ⊖ (r.0 * load.0) → cand_of (record { load = load; time = time; words = x.words }) ≡ behind (wire_of r.0 c.0) (cand_of x)
unfolding behind wire_delay
wired-is x r c load time e f = rw (f, e)

pub joined-load : (x y : Cand) → Fit (joined join_marks (cand_of x) (cand_of y)) → x.load.0 + y.load.0 ≤ most_load
unfolding joined
joined-load x y h = h.load

pub joined_is : (x y : Cand) (load : Femtofarad) (time : Femtosecond) (words : List ℕ) → load.0 ≡ x.load.0 + y.load.0 → time.0 ≡ minℤ x.time.0 y.time.0 → marks words ≡ join_marks (marks x.words) (marks y.words) → cand_of (record { load = load; time = time; words = words }) ≡ joined join_marks (cand_of x) (cand_of y)
unfolding joined
joined_is x y load time words e f g = rw (e, f, g)
