-- What one row's step needs and makes, on the run. Assumes nothing.
use Rattle.std.specs.Prelude.{◌≡◌, refl, Bool, true, false, List, ℕ, ◌+◌, ◌-◌, ◌≤◌, ℤ, length}
use Rattle.std.proofs.Common.{◌∙◌}
use native.Mathlib.Omega.{arith}
use Rattle.rules.specs.Quantities.{work_room}
use Rattle.rules.specs.Net.{Wire}
use Rattle.laws.specs.Joining.{join_marks, with_mark}
use Rattle.laws.specs.Steps.{merge}
use Rattle.laws.specs.Moves.{wire_step, site_step}
use Rattle.laws.specs.Tabled.{repeaters_from}
use Rattle.laws.proofs.Bounds.{wire_step-length}
use Rattle.columns.specs.Parts.{part, part_length, part-less, part-part}
use Rattle.columns.specs.Run.{Candidate}
use Rattle.columns.specs.Made.{Room, Stand, Gives}
use Rattle.branches.specs.Branching.{Pair}
use Rattle.sites.specs.Types.{repeaters_of, TypesIn}
use Rattle.walks.specs.Shown.{site_list}
use Rattle.walks.specs.Made.{Wired, Hang, Sited, Typed}

-- columns that are as long as they were have their room
pub room-kept : {ls : List ℕ} {ts : List ℤ} {ws : List ℕ} (ls' : List ℕ) (ts' : List ℤ) (ws' : List ℕ) → Room ls ts ws → length ls' ≡ length ls → length ts' ≡ length ts → length ws' ≡ length ws → Room ls' ts' ws'
room-kept ls' ts' ws' r a b c = record { loads = omega (arith, r.loads); times = omega (arith, r.times); words = omega (arith, r.words) }

pub wired-stand : {w : List Candidate} {at n : ℕ} {link : Wire} → Wired w at n link → Stand w at n
wired-stand h = record { some = h.some; place = h.place; fit = h.fit }

module _ (w : List Candidate) (at m n : ℕ) (link : Wire) (H : Hang w at m n link) (long : work_room ≤ length w)
    (w₁ : List Candidate) (k : ℕ) (G : Gives w w₁ (at + m) k (wire_step link (part (at + m) (at + m + n) w))) where
  few : k ≤ n
  few =
      let e : length (part (at + m) (at + m + n) w) ≡ at + m + n - (at + m) = part_length (at + m) (at + m + n) w (omega (arith, H.own.place)) in
      omega (arith, G.count_is, wire_step-length link (part (at + m) (at + m + n) w))

  -- the list of the later rows stands as it did
  still : part at (at + m) w₁ ≡ part at (at + m) w
  still = part-part at (at + m) w w₁ G.before

  pub hang-pair : Pair w₁ at m k
  hang-pair = record { first = H.first; second = omega (arith, H.kept, G.count_is); place = omega (arith, H.room, few); fit = rw (G.list, still) H.fit }

  pub hang-gives : (w₂ : List Candidate) (len : ℕ) → Gives w₁ w₂ at len (merge join_marks (part (at + m) (at + m + k) w₁) (part at (at + m) w₁)) → Gives w w₂ at len (merge join_marks (wire_step link (part (at + m) (at + m + n) w)) (part at (at + m) w))
  hang-gives w₂ len J = record { before = J.before ∙ part-less at (at + m) w w₁ (omega arith) G.before; list = rw (G.list, still) at J.list; count_is = rw (G.list, still) at J.count_is }

-- ---- a site
pub sited-types : {types : List ℕ} {count : ℕ} → Typed types count → TypesIn types count
sited-types t = record { few = t.few; long = omega (arith, t.few, t.long); known = t.inside }

module _ (ts : List ℕ) (count : ℕ) (w : List Candidate) (at n k : ℕ) (has_site : Bool) (S : Sited w at n count has_site k) where
  pub sited-stand : Stand w at n
  sited-stand = record { some = S.some; place = omega (arith, S.place); fit = S.fit }

  pub site-put : (w' : List Candidate) (len : ℕ) → has_site ≡ true → Gives w w' at len (site_step (repeaters_of ts count) (with_mark k) (length (repeaters_of ts count)) (part at (at + n) w)) → Gives w w' at len (site_list (repeaters_from ts 0 count) has_site k (part at (at + n) w))
  unfolding site_list repeaters_of
  site-put w' len e g = rw e g

  pub site-none : work_room ≤ length w → has_site ≡ false → Gives w w at n (site_list (repeaters_from ts 0 count) has_site k (part at (at + n) w))
  unfolding site_list
  site-none long e = rw e (record { before = refl; list = refl; count_is = part_length at (at + n) w (omega (arith, S.place)) ∙ omega arith })
