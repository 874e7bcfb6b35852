-- The list at a row, made by passes: its pin or what hangs under it, the best behind each type chosen, and each put in. Assumes nothing.
use Rattle.std.specs.Prelude.{◌≡◌, Bool, cond, List, [], ◌∷◌, ℕ, suc, ◌+◌, ◌-◌, ◌≤◌, ◌<◌, length, get_or, set, replicate}
use Rattle.std.proofs.Math.Path.{refl, fun_ext}
use Rattle.std.proofs.Common.{sym, ap, ap₂, ◌∙◌, add-one, length-set, get_or-set_same, get_or-set_other, arith}
use Rattle.std.proofs.Math.Bool.{true, false}
use Rattle.std.proofs.Math.Decide.{dec_lt}
use Rattle.std.proofs.Math.IntN.{pos}
use borrow.Author.Tests.{lt-ltb, le-ltb}
use Rattle.rules.specs.declared.Row.{Row}
use Rattle.rules.specs.Quantities.{sites_room, work_room, types_room}
use Rattle.rules.specs.Entries.{Repeater}
use Rattle.rules.specs.Placements.{marks}
use Rattle.rules.specs.Slack.{type_of, repeater_delay}
use Rattle.rules.specs.Refusals.{is_sink}
use Rattle.units.proofs.Times.{own_of}
use Rattle.repeaters.specs.Repeaters.{buffer_of, buffer_at}
use Rattle.laws.specs.Lists.{all-self, any-imp, EveryTwo}
use Rattle.laws.specs.Candidates.{Below, thin_in, covers-refl, front-in}
use Rattle.laws.specs.Joining.{with_mark}
use Rattle.laws.specs.Steps.{best, value, buffered}
use Rattle.laws.specs.Moves.{type_step, site_step}
use Rattle.laws.specs.Tabled.{repeater_at, repeaters_from, repeaters-length, repeaters-at}
use Rattle.columns.specs.Parts.{part, part-cons, part_length}
use Rattle.columns.specs.Run.{Candidate, candidate, blank}
use Rattle.columns.specs.Made.{Stand, Gives}
use Rattle.columns.specs.Choosing.{delay_of}
use Rattle.sites.specs.Sites.{chosen_by}
use Rattle.walks.specs.Shown.{site_list}
use Rattle.walks.specs.Made.{Sited, Typed}
use Rattle.rules.specs.declared.Cand.{Cand}
use Rattle.rules.specs.Areas.{zeros}
use Rattle.turns.specs.declared.Pass.{Pass}
use Rattle.values.specs.Records.{cand_of, cands}
use Rattle.runs.specs.Cands.{cands-length}
use Rattle.runs.specs.Passes.{Safe, Swept}
use Rattle.runs.specs.Beyond.{swept-length}
use Rattle.runs.specs.Choices.{choices-safe, choices-swept}
use Rattle.runs.specs.Inserts.{inserts-safe, inserts-swept}
use Rattle.stages.specs.declared.Job.{Job}
use Rattle.stages.specs.Stages.{unset, pin_pass, choice_pass, insert_pass, begin_of, Chosen, Ended, Inside, Ends}
use Rattle.jobs.specs.Jobs.{Able, Worked, pin_of, site_job}
use Rattle.jobs.specs.JobSteps.{kept-able, kept-worked}

-- ---- the site's step by one type more
delay-is : (types : List Repeater) (t : ℕ) → repeater_delay types (suc t) ≡ delay_of (type_of types (suc t)).own (type_of types (suc t)).resistance
unfolding repeater_delay
delay-is types t = fun_ext (λ m. refl)

type-is : (ts : List ℕ) (count t : ℕ) → t < count → type_of (repeaters_from ts 0 count) (suc t) ≡ repeater_at ts t
unfolding type_of
type-is ts count t h = repeaters-at ts _ 0 count t h ∙ ap (repeater_at ts) (let z : 0 + t ≡ t = omega arith in z)

site-more : (ts : List ℕ) (count k t : ℕ) (l : List Candidate) → t < count → 1 ≤ length l
    → site_step (repeaters_from ts 0 count) (with_mark k) (suc t) l ≡ thin_in (chosen_by (repeater_at ts t) (with_mark k (suc t)) l) (site_step (repeaters_from ts 0 count) (with_mark k) t l)
unfolding site_step type_step chosen_by
site-more ts count k t [] h some = absurd (omega arith)
site-more ts count k t (x ∷ l) h some = rw (delay-is (repeaters_from ts 0 count) t, type-is ts count t h)

thin-rising : (c : Candidate) {l : List Candidate} → EveryTwo Below l → EveryTwo Below (thin_in c l)
thin-rising c {l} r = (front-in c (record { rising = r; sound = all-self l; whole = λ d e. any-imp (λ x q. rw q (covers-refl d)) e })).rising

-- the best as a pass holds it, with its mark
pub chosen_is : (ts : List ℕ) (t k : ℕ) (x : Candidate) (l : List Candidate) (e : Pass) → cand_of e.held ≡ best (delay_of (repeater_at ts t).own (repeater_at ts t).resistance) x l → e.worth.0 ≡ value (delay_of (repeater_at ts t).own (repeater_at ts t).resistance) (best (delay_of (repeater_at ts t).own (repeater_at ts t).resistance) x l)
    → candidate (buffer_at ts t).input.0 e.worth.0 (with_mark k (t + 1) (marks e.held.words)) ≡ chosen_by (repeater_at ts t) (with_mark k (t + 1)) (x ∷ l)
unfolding chosen_by buffered repeater_at buffer_at buffer_of
chosen_is ts t k x l e f g = rw (g, ← f)

module _ (ts : List ℕ) (count : ℕ) (T : Typed ts count) (x : Row) (k at own : ℕ) (w : List Cand) (long : work_room ≤ length w) (n : ℕ) (v₁ : List Cand) (same₁ : length v₁ ≡ length w) (own_is : cond (is_sink x.kind) 1 own ≡ n) (room₀ : at + 0 + own ≤ work_room)
    (pin-safe : Safe (pin_pass (site_job x k count at own)) w) (pinned : (e : Pass) (v : List Cand) → Swept (pin_pass (site_job x k count at own)) w e v → v ≡ v₁) (S : Sited (cands v₁) (at + 0) n count x.site k) where
  abbrev cnt : ℕ
  cnt = cond x.site count 0

  cnt-few : cnt ≤ count
  cnt-few = go x.site
    where
      go : (b : Bool) → cond b count 0 ≤ count
      go true = omega arith
      go false = omega arith

  number : 0 < cnt → k < sites_room
  number = go x.site S.number
    where
      go : (b : Bool) → (b ≡ true → k < sites_room) → 0 < cond b count 0 → k < sites_room
      go true f h = f refl
      go false f h = absurd (omega arith)

  abbrev stage : (s len : ℕ) → List Cand → Job
  stage s len best = record { step = s; steps = cnt + cnt + 1; low = at; later = 0; own = len; made = 0; count = cnt; site = k; sink = is_sink x.kind; pin = pin_of x.kind; resistance = x.resistance; capacitance = x.capacitance; best = best }

  -- the driven list
  abbrev l : List Candidate
  l = part (at + 0) (at + 0 + n) (cands v₁)

  long₁ : at + 0 + n ≤ length (cands v₁)
  long₁ = rw (cands-length v₁, same₁) (omega (arith, S.place))

  stand : Stand (cands v₁) (at + 0) n
  stand = record { some = S.some; place = omega (arith, S.place); fit = S.fit }

  -- the first t types are chosen
  record Choices (t : ℕ) (best : List Cand) : Type 0 where
    four : length best ≡ types_room
    made : (i : ℕ) → i < t → cand_of (get_or best i unset) ≡ chosen_by (repeater_at ts i) (with_mark k (i + 1)) l

  -- and t of them are put in
  record Puts (t len : ℕ) (v : List Cand) : Type 0 where
    same : length v ≡ length w
    few : len ≤ n + t
    before : part 0 (at + 0) (cands v) ≡ part 0 (at + 0) (cands v₁)
    list : part (at + 0) (at + 0 + len) (cands v) ≡ site_step (repeaters_from ts 0 count) (with_mark k) t l
    rising : EveryTwo Below (part (at + 0) (at + 0 + len) (cands v))

  data Inv : Job → List Cand → Type 0 where
    start : Inv (stage 0 own (replicate types_room zeros)) w
    choosing : (s t : ℕ) (best : List Cand) → s ≡ t + 1 → t < cnt → Choices t best → Inv (stage s n best) v₁
    putting : (s t len : ℕ) (best : List Cand) (v : List Cand) → s ≡ cnt + t + 1 → t ≤ cnt → Choices cnt best → Puts t len v → Inv (stage s len best) v

  pin-begins : begin_of ts (stage 0 own (replicate types_room zeros)) ≡ pin_pass (site_job x k count at own)
  unfolding begin_of
  pin-begins = refl

  pin-ends : (e : Pass) (r : Job) → Ended ts (stage 0 own (replicate types_room zeros)) e r → r ≡ stage (0 + 1) (cond (is_sink x.kind) 1 own) (replicate types_room zeros)
  unfolding Ended
  pin-ends e r h = h

  choice-begins : (s t : ℕ) (best : List Cand) → s ≡ t + 1 → t < cnt → begin_of ts (stage s n best) ≡ choice_pass ts (stage s n best) t
  unfolding begin_of
  choice-begins s t best e h = let z : s - 1 ≡ t = omega arith in rw (le-ltb s 1 (omega arith), lt-ltb s (cnt + 1) (omega arith), z)

  choice-ends : (s t : ℕ) (best : List Cand) → s ≡ t + 1 → t < cnt → (e : Pass) (r : Job) → Ended ts (stage s n best) e r → Chosen ts (stage s n best) e t r
  unfolding Ended
  choice-ends s t best e h p r q = let z : s - 1 ≡ t = omega arith in rw (le-ltb s 1 (omega arith), lt-ltb s (cnt + 1) (omega arith), z) at q

  insert-begins : (s t len : ℕ) (best : List Cand) → s ≡ cnt + t + 1 → t < cnt → begin_of ts (stage s len best) ≡ insert_pass (stage s len best) t
  unfolding begin_of
  insert-begins s t len best e h = let z : s - cnt - 1 ≡ t = omega arith in rw (le-ltb s 1 (omega arith), le-ltb s (cnt + 1) (omega arith), lt-ltb s (cnt + cnt + 1) (omega arith), z)

  insert-ends : (s t len : ℕ) (best : List Cand) → s ≡ cnt + t + 1 → t < cnt → (e : Pass) (r : Job) → Ended ts (stage s len best) e r → r ≡ stage (s + 1) (e.to - (at + 0)) best
  unfolding Ended
  insert-ends s t len best e h p r q = rw (le-ltb s 1 (omega arith), le-ltb s (cnt + 1) (omega arith), lt-ltb s (cnt + cnt + 2) (omega arith)) at q

  -- nothing is put in yet
  puts_none : Puts 0 n v₁
  unfolding site_step
  puts_none = record { same = same₁; few = omega arith; before = refl; list = refl; rising = S.rising }

  -- the next type, or the first to be put in
  chosen-to : (s t : ℕ) (best : List Cand) → s ≡ t + 1 → t ≤ cnt → Choices t best → Inv (stage s n best) v₁
  chosen-to s t best e h C = go (dec_lt t cnt)
    where
      go : Dec (t < cnt) → Inv (stage s n best) v₁
      go (yes l) = choosing s t best e l C
      go (no l) = let z : t ≡ cnt = omega (arith, l) in putting s 0 n best v₁ (omega (arith, z)) (omega arith) (rw z at C) puts_none

  going : (s t : ℕ) → s ≡ cnt + t + 1 → s < cnt + cnt + 1 → t < cnt
  going s t e h = omega arith

  inside : (j : Job) (v : List Cand) → Inv j v → j.step < j.steps → Inside ts j
  inside j v start g = record { going = g; few = omega arith; types_few = omega (arith, cnt-few, T.few); types_long = T.long; number = number; room = room₀ }
  inside j v (choosing s t best e h C) g = record { going = g; few = omega arith; types_few = omega (arith, cnt-few, T.few); types_long = T.long; number = number; room = omega (arith, S.place) }
  inside j _ (putting s t len best v e h C P) g = record { going = g; few = omega arith; types_few = omega (arith, cnt-few, T.few); types_long = T.long; number = number; room = omega (arith, S.place, P.few, cnt-few) }

  choose-safe : (t : ℕ) → t < cnt → Safe (choice_pass ts (stage (t + 1) n (replicate types_room zeros)) t) v₁
  unfolding repeater_at buffer_at buffer_of
  choose-safe t h = let g = T.inside t (omega (arith, cnt-few)) in choices-safe (buffer_at ts t).own (buffer_at ts t).resistance (own_of _ g.own) g.resistance v₁ (at + 0) n zeros (record { 0 = pos 0 }) (rw same₁ long) stand

  abbrev delays : ℕ → ℕ → ℕ
  delays t = delay_of (repeater_at ts t).own (repeater_at ts t).resistance

  abbrev best_of : ℕ → Candidate
  best_of t = best (delays t) (get_or (cands v₁) (at + 0) blank) (part (at + 0 + 1) (at + 0 + n) (cands v₁))

  cut : l ≡ get_or (cands v₁) (at + 0) blank ∷ part (at + 0 + 1) (at + 0 + n) (cands v₁)
  cut = part-cons (at + 0) (at + 0 + n) (cands v₁) blank (omega (arith, S.some)) long₁

  chose : (t : ℕ) → t < cnt → (s : ℕ) (best : List Cand) (e : Pass) (u : List Cand) → Swept (choice_pass ts (stage s n best) t) v₁ e u → (u ≡ v₁) × (cand_of e.held ≡ best_of t) × (e.worth.0 ≡ value (delays t) (best_of t))
  unfolding repeater_at buffer_at buffer_of
  chose t h s best e u q = let g = T.inside t (omega (arith, cnt-few)) in choices-swept (buffer_at ts t).own (buffer_at ts t).resistance (own_of _ g.own) g.resistance v₁ (at + 0) n zeros (record { 0 = pos 0 }) (rw same₁ long) stand q

  safe : (j : Job) (v : List Cand) → Inv j v → j.step < j.steps → Safe (begin_of ts j) v
  safe j v start g = rw pin-begins pin-safe
  safe j v (choosing s t best e h C) g = rw (choice-begins s t best e h) (choose-safe t h)
  safe j _ (putting s t len best v e h C P) g = rw (insert-begins s t len best e (going s t e g)) (inserts-safe v (at + 0) len (get_or best t unset) (record { 0 = pos 0 }) (omega (arith, S.place, P.few, going s t e g, cnt-few)) (rw P.same long))

  put_in : (s t len : ℕ) (best : List Cand) (v : List Cand) → s ≡ cnt + t + 1 → t < cnt → Puts t len v → (e : Pass) (u : List Cand) → Swept (begin_of ts (stage s len best)) v e u → (at + 0 ≤ e.to) × (e.to ≤ at + 0 + len + 1) × Gives (cands v) (cands u) (at + 0) (e.to - (at + 0)) (thin_in (cand_of (get_or best t unset)) (part (at + 0) (at + 0 + len) (cands v)))
  put_in s t len best v e h P p u q = inserts-swept v (at + 0) len (get_or best t unset) (record { 0 = pos 0 }) (omega (arith, S.place, P.few, cnt-few)) (rw P.same long) (rw (insert-begins s t len best e h) at q)

  ends : (j : Job) (v : List Cand) → Inv j v → j.step < j.steps → (e : Pass) (u : List Cand) → Swept (begin_of ts j) v e u → Ends j e
  ends j v start g e u q = record { kept = λ a b. absurd (omega arith); past = λ a b. absurd (omega arith) }
  ends j v (choosing s t best z h C) g e u q = record { kept = λ a b. absurd (omega arith); past = λ a b. absurd (omega arith) }
  ends j _ (putting s t len best v z h C P) g e u q = record { kept = λ a b. (put_in s t len best v z (going s t z g) P e u q).0; past = λ a b. absurd (omega arith) }

  step : (j : Job) (v : List Cand) → Inv j v → j.step < j.steps → (e : Pass) (u : List Cand) (r : Job) → Swept (begin_of ts j) v e u → Ended ts j e r → Inv r u
  step j v start g e u r q d = rw (pin-ends e r d, pinned e u (rw pin-begins at q), own_is) (chosen-to (0 + 1) 0 (replicate types_room zeros) (omega arith) (omega arith) (record { four = refl; made = λ i h. absurd (omega arith) }))
  step j v (choosing s t best z h C) g e u r q d = rw (a.2, b.0) (chosen-to (s + 1) (t + 1) (set best t a.0) (omega arith) (omega arith) (record { four = length-set best t a.0 ∙ C.four; made = λ i f. made i f (dec_lt i t) }))
    where
      a : Chosen ts (stage s n best) e t r
      a = choice-ends s t best z h e r d

      b : (u ≡ v₁) × (cand_of e.held ≡ best_of t) × (e.worth.0 ≡ value (delays t) (best_of t))
      b = chose t h s best e u (rw (choice-begins s t best z h) at q)

      new : cand_of a.0 ≡ chosen_by (repeater_at ts t) (with_mark k (t + 1)) l
      new = a.1 ∙ chosen_is ts t k (get_or (cands v₁) (at + 0) blank) (part (at + 0 + 1) (at + 0 + n) (cands v₁)) e b.1 b.2 ∙ ap (chosen_by (repeater_at ts t) (with_mark k (t + 1))) (sym cut)

      made : (i : ℕ) → i < t + 1 → Dec (i < t) → cand_of (get_or (set best t a.0) i unset) ≡ chosen_by (repeater_at ts i) (with_mark k (i + 1)) l
      made i f (yes y) = ap cand_of (get_or-set_other best t i a.0 unset (λ q. omega (arith, q, y))) ∙ C.made i y
      made i f (no y) = let z : i ≡ t = omega (arith, y) in rw (z, get_or-set_same best t a.0 unset (rw C.four (omega (arith, cnt-few, T.few)))) new
  step j _ (putting s t len best v z h C P) g e u r q d =
      let i = going s t z g in
      let G = put_in s t len best v z i P e u q in
      let some : 1 ≤ length l = rw (part_length (at + 0) (at + 0 + n) (cands v₁) long₁) (omega (arith, S.some)) in
      rw (insert-ends s t len best z i e r d)
      (putting (s + 1) (t + 1) (e.to - (at + 0)) best u (omega arith) (omega arith) C (record {
        same = swept-length q ∙ P.same;
        few = omega (arith, G.0, G.1, P.few);
        before = G.2.before ∙ P.before;
        list = G.2.list ∙ ap₂ thin_in (rw add-one at (C.made t i)) P.list ∙ rw add-one (sym (site-more ts count k t l (omega (arith, cnt-few)) some));
        rising = rw G.2.list (thin-rising _ P.rising);
      }))

  pub site-able : Able ts (site_job x k count at own) w
  site-able = kept-able ts Inv inside safe ends step (site_job x k count at own) w start

  list-is : (b : Bool) → site_step (repeaters_from ts 0 count) (with_mark k) (cond b count 0) l ≡ site_list (repeaters_from ts 0 count) b k l
  unfolding site_list site_step
  list-is true = rw (repeaters-length ts 0 count)
  list-is false = refl

  pub site-worked : {w' : List Cand} {len : ℕ} → Worked ts (site_job x k count at own) w w' len → Gives (cands v₁) (cands w') (at + 0) len (site_list (repeaters_from ts 0 count) x.site k l)
  site-worked {w'} {len} h = let e = kept-worked ts Inv inside safe ends step h start in rw e.3 (go e.0 w' e.1 e.2)
    where
      go : (r : Job) (v : List Cand) → Inv r v → r.steps ≤ r.step → Gives (cands v₁) (cands v) (at + 0) r.own (site_list (repeaters_from ts 0 count) x.site k l)
      go r v start g = absurd (omega arith)
      go r v (choosing s t best z h C) g = absurd (omega arith)
      go r _ (putting s t len best v z h C P) g =
          let q : t ≡ cnt = omega arith in
          let f : part (at + 0) (at + 0 + len) (cands v) ≡ site_list (repeaters_from ts 0 count) x.site k l = P.list ∙ rw q (list-is x.site) in
          record { before = P.before; list = f; count_is = ap length (sym f) ∙ part_length (at + 0) (at + 0 + len) (cands v) (rw (cands-length v, P.same) (omega (arith, S.place, P.few, cnt-few))) ∙ omega arith }
