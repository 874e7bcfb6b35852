-- The types of a site put in one after another. Assumes nothing.
use Rattle.std.specs.Prelude.{◌≡◌, refl, List, [], ◌∷◌, ℕ, suc, ◌+◌, ◌-◌, ◌≤◌, ◌<◌, ℤ, length, get_or, set}
use Rattle.std.proofs.Common.{sym, ap₂, ◌∙◌, arith, add-one, get_or-set_same, get_or-set_other}
use Rattle.std.proofs.Math.Path.{ap, fun_ext}
use Rattle.std.proofs.Math.Decide.{dec_lt}
use Rattle.rules.specs.Quantities.{work_room}
use Rattle.rules.specs.Entries.{Repeater}
use Rattle.rules.specs.Placements.{Placement}
use Rattle.rules.specs.Slack.{type_of, repeater_delay}
use Rattle.laws.specs.Lists.{all-self, any-imp, EveryTwo}
use Rattle.laws.specs.Candidates.{Below, thin_in, covers-refl, front-in}
use Rattle.laws.specs.Joining.{with_mark}
use Rattle.laws.specs.Steps.{best, buffered}
use Rattle.laws.specs.Moves.{type_step, site_step}
use Rattle.columns.specs.Parts.{part, part-cons, part-less, part-part, part-over, part_length, part-first}
use Rattle.columns.specs.Run.{Candidate, candidate, blank, run}
use Rattle.columns.specs.Made.{Room, Stand, Gives, room-run}
use Rattle.columns.specs.Choosing.{delay_of, Chosen}
use Rattle.sites.specs.Types.{repeater_at, repeaters_of, repeaters-type, repeaters-length}
use Rattle.columns.specs.Moving.{Moved}
use Rattle.inserts.specs.Gaps.{Thins}

-- the best of a list behind a repeater
unfoldable pub chosen_by : Repeater → (Placement → Placement) → List Candidate → Candidate
chosen_by g m [] = blank
chosen_by g m (x ∷ l) = buffered g.input (delay_of g.own g.resistance) m (best (delay_of g.own g.resistance) x l)

-- as the code makes it
pub chosen-made : (g : Repeater) (m : Placement → Placement) (ls : List ℕ) (ts : List ℤ) (ws : List ℕ) (at n b : ℕ) (v : ℤ) → Room ls ts ws → 1 ≤ n → at + n ≤ work_room → Chosen (delay_of g.own g.resistance) ls ts at n b v
    → candidate g.input v (m (get_or (run ls ts ws) b blank).place) ≡ chosen_by g m (part at (at + n) (run ls ts ws))
unfolding chosen_by buffered
chosen-made g m ls ts ws at n b v r some inside C =
    rw (part-cons at (at + n) (run ls ts ws) blank (omega arith) (room-run (at + n) r inside), C.value_is ws, C.best_is ws)

-- ---- the best of each type, after the list
pub record Chosens (types : List ℕ) (w w' : List Candidate) (at n k base count : ℕ) : Type 0 where
  pub before : part 0 base w' ≡ part 0 base w
  pub made : (j : ℕ) → j < count → get_or w' (base + j) blank ≡ chosen_by (repeater_at types j) (with_mark k (j + 1)) (part at (at + n) w)

pub chosens-start : (types : List ℕ) (w : List Candidate) (at n k base : ℕ) → Chosens types w w at n k base 0
chosens-start types w at n k base = record { before = refl; made = λ j h. absurd (omega arith) }

module _ (types : List ℕ) (w₀ w : List Candidate) (at n k base t : ℕ) (in_list : at + n ≤ base) (C : Chosens types w₀ w at n k base t) where
  still : part at (at + n) w ≡ part at (at + n) w₀
  still = part-part at (at + n) w₀ w (part-less (at + n) base w₀ w in_list C.before)

  pub chosens-stand : Stand w₀ at n → Stand w at n
  chosens-stand s = record { some = s.some; place = s.place; fit = rw still s.fit }

  pub chosens-step : (w' : List Candidate) → base + t < length w → w' ≡ set w (base + t) (chosen_by (repeater_at types t) (with_mark k (t + 1)) (part at (at + n) w)) → Chosens types w₀ w' at n k base (t + 1)
  chosens-step w' long e = rw e (record { before = part-over 0 base w (base + t) _ (omega arith) ∙ C.before; made = λ j h. go j h (dec_lt j t) })
    where
      go : (j : ℕ) → j < t + 1 → Dec (j < t) → get_or (set w (base + t) (chosen_by (repeater_at types t) (with_mark k (t + 1)) (part at (at + n) w))) (base + j) blank ≡ chosen_by (repeater_at types j) (with_mark k (j + 1)) (part at (at + n) w₀)
      go j h (yes l) = get_or-set_other w (base + t) (base + j) _ blank (λ q. omega (arith, q)) ∙ C.made j l
      go j h (no l) = let z : j ≡ t = omega (arith, l) in rw (z, get_or-set_same w (base + t) (chosen_by (repeater_at types t) (with_mark k (t + 1)) (part at (at + n) w)) blank long, still)

-- ---- put in, one after another
thin-rising : (c : Candidate) {l : List Candidate} → EveryTwo Below l → EveryTwo Below (thin_in c l)
thin-rising c {l} r = (front-in c (record { rising = r; sound = all-self l; whole = λ d e. any-imp (λ x q. rw q (covers-refl d)) e })).rising

delay-is : (types : List Repeater) (t : ℕ) → repeater_delay types (suc t) ≡ delay_of (type_of types (suc t)).own (type_of types (suc t)).resistance
unfolding repeater_delay
delay-is types t = fun_ext (λ m. refl)

site-next : (types : List ℕ) (count k t : ℕ) (l : List Candidate) → t < count → 1 ≤ length l
    → site_step (repeaters_of types count) (with_mark k) (suc t) l ≡ thin_in (chosen_by (repeater_at types t) (with_mark k (suc t)) l) (site_step (repeaters_of types count) (with_mark k) t l)
unfolding site_step type_step chosen_by
site-next types count k t [] h some = absurd (omega arith)
site-next types count k t (x ∷ l) h some = rw (delay-is (repeaters_of types count) t, repeaters-type types count t h)

-- w₁ is the run where the walk begins, the best of each type after its list
pub record Typing (types : List ℕ) (count k : ℕ) (w₁ w : List Candidate) (at n t start end : ℕ) : Type 0 where
  pub done : t ≤ count
  pub low : at ≤ start
  pub some : start < end
  pub top : end ≤ at + n + count
  pub slack : end + (count - t) + at ≤ at + n + count + start
  pub before : part 0 at w ≡ part 0 at w₁
  pub made : (j : ℕ) → t ≤ j → j < count → get_or w (at + n + count + j) blank ≡ chosen_by (repeater_at types j) (with_mark k (j + 1)) (part at (at + n) w₁)
  pub list : part start end w ≡ site_step (repeaters_of types count) (with_mark k) t (part at (at + n) w₁)
  pub rising : EveryTwo Below (part start end w)

module _ (types : List ℕ) (count k at n : ℕ) (w₁ : List Candidate) (some : 1 ≤ n) where
  same : (w₀ : List Candidate) → Chosens types w₀ w₁ at n k (at + n + count) count → part at (at + n) w₁ ≡ part at (at + n) w₀
  same w₀ C = part-part at (at + n) w₀ w₁ (part-less (at + n) (at + n + count) w₀ w₁ (omega arith) C.before)

  pub typing-start : (w₀ : List Candidate) → EveryTwo Below (part at (at + n) w₀) → Chosens types w₀ w₁ at n k (at + n + count) count → Typing types count k w₁ w₁ at n 0 at (at + n)
  unfolding site_step
  typing-start w₀ r C = record {
    done = omega arith;
    low = omega arith;
    some = omega arith;
    top = omega arith;
    slack = omega arith;
    before = refl;
    made = λ j h i. C.made j i ∙ ap (chosen_by (repeater_at types j) (with_mark k (j + 1))) (sym (same w₀ C));
    list = refl;
    rising = rw (same w₀ C) r;
  }

  pub typing-step : (w w' : List Candidate) (t start end start' end' : ℕ) → work_room ≤ length w₁ → work_room ≤ length w → work_room ≤ length w' → at + n + count + count ≤ work_room → t < count → Typing types count k w₁ w at n t start end
      → Thins w w' (at + n + count + t) at start end (count - t) start' end' → Typing types count k w₁ w' at n (t + 1) start' end'
  typing-step w w' t start end start' end' long₁ long long' inside h T X =
      let e : part start' end' w' ≡ thin_in (get_or w (at + n + count + t) blank) (part start end w) = X.list in
      let g : 1 ≤ length (part at (at + n) w₁) = rw (part_length at (at + n) w₁ (omega arith)) (omega arith) in
      record {
        done = omega arith;
        low = X.low;
        some = X.some;
        top = X.top (at + n + count) T.top T.slack;
        slack = omega (arith, X.grown, T.slack);
        before = X.before ∙ T.before;
        made = λ j g i. part-first (at + n + count + j) w w' blank (omega arith) (omega arith) (X.past (at + n + count + j) (at + n + count + j + 1) (omega arith) (omega arith)) ∙ T.made j (omega arith) i;
        list = rw add-one (e ∙ ap₂ thin_in (rw add-one at (T.made t (omega arith) h)) T.list ∙ sym (site-next types count k t (part at (at + n) w₁) h g));
        rising = rw e (thin-rising _ T.rising);
      }

  pub typing-end : (w₀ w w' : List Candidate) (t start end : ℕ) → end ≤ length w → Chosens types w₀ w₁ at n k (at + n + count) count → count ≤ t → Typing types count k w₁ w at n t start end → Moved w w' start at (end - start)
      → Gives w₀ w' at (end - start) (site_step (repeaters_of types count) (with_mark k) (length (repeaters_of types count)) (part at (at + n) w₀))
  typing-end w₀ w w' t start end long C h T M =
      let e : t ≡ count = omega (arith, T.done) in
      let z : start + (end - start) ≡ end = omega (arith, T.some) in
      let g : part start end w ≡ site_step (repeaters_of types count) (with_mark k) (length (repeaters_of types count)) (part at (at + n) w₀) = T.list ∙ rw (repeaters-length types count, e, same w₀ C) in
      record { before = M.before ∙ T.before ∙ part-less at (at + n + count) w₀ w₁ (omega arith) C.before; list = M.list ∙ rw z g; count_is = ap length (sym g) ∙ part_length start end w long }
