-- What each answer means in the paper's figures: the number and place of a refusal, and the values of the entry. Assumes nothing.
use Rattle.std.specs.Prelude.{ℕ, ℤ, pos, Result, Ok, Err}
use Rattle.rules.specs.declared.Refusal.{Refusal}
use Rattle.rules.specs.Tables.{Counts}
use Rattle.rules.specs.declared.Counted.{Counted}
use Rattle.rules.specs.declared.Timed.{Timed}
use Rattle.rules.specs.Refusals.{number_of, place_of}

-- the refusal's number, 0 where there is none, its place, and the other results
pub record Figures (A : Type 0) : Type 0 where
  pub number : ℕ
  pub place : ℕ
  pub values : A

-- a refusal hands back its number and place, all other results zero
unfoldable pub refused : {A : Type 0} → (zeros : A) → Refusal → Figures A
refused zeros r = record { number = number_of r; place = place_of r; values = zeros }

unfoldable pub done : {A : Type 0} → A → Figures A
done v = record { number = 0; place = 0; values = v }

-- the slack and the load on the driver
pub record Timing : Type 0 where
  pub slack : ℤ
  pub load : ℕ

unfoldable pub no_counts : Counts
no_counts = record { types = 0; rows = 0 }

unfoldable pub no_timing : Timing
no_timing = record { slack = pos 0; load = 0 }

unfoldable pub read_figures : Result Counted Refusal → Figures Counts
read_figures (Ok v) = done (record { types = v.types; rows = v.rows })
read_figures (Err r) = refused no_counts r

unfoldable pub check_figures : Result (Unit {0}) Refusal → Figures (Unit {0})
check_figures (Ok v) = done v
check_figures (Err r) = refused tt r

unfoldable pub slack_figures : Result Timed Refusal → Figures Timing
slack_figures (Ok v) = done (record { slack = v.slack.0; load = v.load.0 })
slack_figures (Err r) = refused no_timing r

unfoldable pub plan_figures : Result Timed Refusal → Figures Timing
plan_figures (Ok v) = done (record { slack = v.slack.0; load = v.load.0 })
plan_figures (Err r) = refused no_timing r

unfoldable pub list_figures : Result ℕ Refusal → Figures ℕ
list_figures (Ok length) = done length
list_figures (Err r) = refused 0 r
