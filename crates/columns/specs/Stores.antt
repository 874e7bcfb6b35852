-- What the run is once a candidate's load, time and words are stored. Assumes nothing.
use Rattle.std.specs.Prelude.{◌≡◌, List, ℕ, ◌+◌, ◌*◌, ◌≤◌, ◌<◌, ℤ, pos, length, get_or, set}
use Rattle.std.proofs.Common.{◌∙◌}
use Rattle.std.specs.Int.Signed.{mag}
use Rattle.rules.specs.Quantities.{◌⊖◌}
use Rattle.rules.specs.Placements.{Placement}
use Rattle.rules.specs.Slack.{wire_delay}
use Rattle.laws.specs.Ranges.{most_load}
use Rattle.units.specs.Times.{far_time}
use Rattle.laws.specs.Moves.{behind}
use Rattle.columns.specs.Run.{blank, run, run_at, run-put, place_at, Puts}
use Rattle.columns.specs.Made.{Fit, fit-near, wire_of}

module _ (ls : List ℕ) (ts : List ℤ) (ws : List ℕ) (i : ℕ) (h : i < length ls) (k : i < length ts) where
  -- what a range says of the columns
  pub column-load : Fit (get_or (run ls ts ws) i blank) → get_or ls i 0 ≤ most_load
  column-load f = (rw (run_at ls ts ws i h k) at f).load

  pub column-time : Fit (get_or (run ls ts ws) i blank) → mag (get_or ts i (pos 0)) ≤ far_time
  column-time f = fit-near _ (rw (run_at ls ts ws i h k) at f)

  pub wired-load : (r c : ℕ) → Fit (behind (wire_of r c) (get_or (run ls ts ws) i blank)) → c + get_or ls i 0 ≤ most_load
  unfolding behind
  wired-load r c f = (rw (run_at ls ts ws i h k) at f).load

  pub copy-store : (ws' : List ℕ) (to : ℕ) → Puts ws ws' to (place_at ws i) → run (set ls to (get_or ls i 0)) (set ts to (get_or ts i (pos 0))) ws' ≡ set (run ls ts ws) to (get_or (run ls ts ws) i blank)
  copy-store ws' to p = rw (run_at ls ts ws i h k) (run-put ls ts ws ws' to _ _ _ p)

  pub wired-store : (ws' : List ℕ) (to r c shown : ℕ) (t : ℤ) → shown ≡ c + get_or ls i 0 → t ≡ get_or ts i (pos 0) ⊖ (r * shown) → Puts ws ws' to (place_at ws i)
      → run (set ls to shown) (set ts to t) ws' ≡ set (run ls ts ws) to (behind (wire_of r c) (get_or (run ls ts ws) i blank))
  unfolding behind wire_delay
  wired-store ws' to r c shown t e f p = rw (run_at ls ts ws i h k, f, e) (run-put ls ts ws ws' to _ _ _ p)

-- words put by marks
pub puts-as : {ws ws' : List ℕ} {i : ℕ} {p q : Placement} → Puts ws ws' i p → p ≡ q → Puts ws ws' i q
puts-as {ws} {ws'} {i} {p} {q} h e = record { here = h.here ∙ e; else = h.else }

-- put twice at one place
pub puts-again : {ws ws' ws'' : List ℕ} {i : ℕ} {p q : Placement} → Puts ws ws' i p → Puts ws' ws'' i q → Puts ws ws'' i q
puts-again h k = record { here = k.here; else = λ j n. k.else j n ∙ h.else j n }
