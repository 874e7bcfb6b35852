-- Where a candidate belongs in a list, and how it comes there: between what has less of both and what has more of both. Assumes
-- nothing.
use Rattle.std.specs.Prelude.{◌≡◌, refl, Bool, true, false, cond, ℕ, ◌+◌, ◌-◌, ◌≤◌, ◌<◌, ltb, ℤ, pos, length, get_or, set}
use Rattle.std.proofs.Common.{sym, ◌∙◌, length-set, get_or-set_same, lt-ltb, le-ltb}
use Rattle.std.proofs.Math.Path.{ap}
use mathlib.Core.List.{List, [], ◌∷◌, ◌++◌, append_assoc}
use native.Mathlib.Omega.{arith}
use Rattle.std.proofs.Math.Decide.{dec_lt}
use Rattle.rules.specs.Quantities.{work_room}
use Rattle.rules.specs.Placements.{Placement}
use Rattle.laws.specs.Integers.{times}
use Rattle.laws.specs.Lists.{all_head, EveryTwo, leads}
use Rattle.laws.specs.Candidates.{Covers, Below, thin_in}
use Rattle.laws.proofs.Ties.{thin-covered}
use Rattle.columns.specs.Parts.{part, part-nil, part-cons, part-snoc, part-over, part-under, part-less, part-part, part-split, part-all, part-first}
use Rattle.columns.specs.Run.{Candidate, candidate, blank, run, run_at, run_long, place_at}
use Rattle.pairs.specs.Stands.{is_below, is_covering, is_covered, below-yes, below-no, covering-yes, covering-no, covered-yes, covered-no, thin-aboves, thin-coverings, thin-below, stands-below}
use Rattle.columns.specs.Moving.{Moved}

-- ---- a walk up to the first place where a test fails
pub record Passing (test : ℕ → Bool) (start end p : ℕ) : Type 0 where
  pub low : start ≤ p
  pub high : p ≤ end
  pub passed : (j : ℕ) → start ≤ j → j < p → test j ≡ true

pub record Stops (test : ℕ → Bool) (start end r : ℕ) : Type 0 where
  pub low : start ≤ r
  pub high : r ≤ end
  pub passed : (j : ℕ) → start ≤ j → j < r → test j ≡ true
  pub stopped : r < end → test r ≡ false

module _ (test : ℕ → Bool) (start end : ℕ) where
  pub passing-start : start ≤ end → Passing test start end start
  passing-start h = record { low = omega arith; high = h; passed = λ j a b. absurd (omega arith) }

  pub passing_step : (p : ℕ) → Passing test start end p → p < end → test p ≡ true → Passing test start end (p + 1)
  passing_step p t h e = record { low = omega (arith, t.low); high = omega arith; passed = λ j a b. go j a b (dec_lt j p) }
    where
      go : (j : ℕ) → start ≤ j → j < p + 1 → Dec (j < p) → test j ≡ true
      go j a b (yes l) = t.passed j a l
      go j a b (no l) = let z : j ≡ p = omega (arith, l) in rw z e

  pub passing-end : (p : ℕ) → Passing test start end p → (p < end → test p ≡ false) → Stops test start end p
  passing-end p t h = record { low = t.low; high = t.high; passed = t.passed; stopped = h }

-- ---- the gap
pub record GapAt (ls : List ℕ) (ts : List ℤ) (start end load : ℕ) (time : ℤ) (covered : Bool) (p q : ℕ) : Type 0 where
  pub low : start ≤ p
  pub mid : p ≤ q
  pub high : q ≤ end
  pub kept : covered ≡ true → (ws : List ℕ) (place : Placement) → thin_in (candidate load time place) (part start end (run ls ts ws)) ≡ part start end (run ls ts ws)
  pub opened : covered ≡ false → (ws : List ℕ) (place : Placement) → EveryTwo Below (part start end (run ls ts ws))
      → thin_in (candidate load time place) (part start end (run ls ts ws)) ≡ part start p (run ls ts ws) ++ (candidate load time place ∷ part q end (run ls ts ws))

-- two that follow each other in a rising list
rising-next : (l m : List Candidate) {x y : Candidate} → EveryTwo Below (l ++ (x ∷ y ∷ m)) → Below x y
rising-next [] m (leads h t) = all_head h
rising-next (z ∷ l) m (leads h t) = rising-next l m t

truth : {b : Bool} → b ≡ true → b ≡ false → ⊥
truth e f = let z : ◌≡◌ {A = ℕ} 0 1 = cc in omega arith

module _ (ls : List ℕ) (ts : List ℤ) (start end load : ℕ) (time : ℤ) (inside : end ≤ work_room) (long : work_room ≤ length ls) (longer : work_room ≤ length ts) (p : ℕ)
    (P : Stops (λ j. is_below (get_or ls j 0) (get_or ts j (pos 0)) load time) start end p) where
  module _ (ws : List ℕ) (place : Placement) where
    abbrev w : List Candidate
    w = run ls ts ws

    abbrev c : Candidate
    c = candidate load time place

    abbrev x : ℕ → Candidate
    x j = candidate (get_or ls j 0) (get_or ts j (pos 0)) (place_at ws j)

    here : (j : ℕ) → j < end → get_or (run ls ts ws) j blank ≡ candidate (get_or ls j 0) (get_or ts j (pos 0)) (place_at ws j)
    here j h = run_at ls ts ws j (omega arith) (omega arith)

    room : end ≤ length (run ls ts ws)
    room = run_long ls ts ws end (omega arith) (omega arith)

    past : thin_in (candidate load time place) (part start end (run ls ts ws)) ≡ part start p (run ls ts ws) ++ thin_in (candidate load time place) (part p end (run ls ts ws))
    past =
        rw (part-split start p end w blank P.low P.high room)
        (thin-aboves c (part p end w) (part-all w start p blank (omega (arith, room, P.high)) (λ j h k. rw (here j (omega (arith, P.high))) (below-yes (x j) c (P.passed j h k)))))

    cut : (i : ℕ) → i < end → part i end (run ls ts ws) ≡ candidate (get_or ls i 0) (get_or ts i (pos 0)) (place_at ws i) ∷ part (i + 1) end (run ls ts ws)
    cut i h = rw (← (here i h)) (part-cons i end w blank h room)

  pub gap-kept : cond (ltb p end) (is_covered load time (get_or ls p 0) (get_or ts p (pos 0))) false ≡ true → GapAt ls ts start end load time true p p
  gap-kept e = record { low = P.low; mid = omega arith; high = P.high; kept = λ f ws place. go ws place (dec_lt p end); opened = λ f. absurd (truth refl f) }
    where
      go : (ws : List ℕ) (place : Placement) → Dec (p < end) → thin_in (candidate load time place) (part start end (run ls ts ws)) ≡ part start end (run ls ts ws)
      go ws place (yes h) =
          let k = covered-yes (c ws place) (x ws place p) (rw (lt-ltb p end h) at e) in
          past ws place ∙ rw (part-split start p end (run ls ts ws) blank P.low P.high (room ws place), cut ws place p h, thin-covered (c ws place) (x ws place p) (part (p + 1) end (run ls ts ws)) k)
      go ws place (no h) = absurd (truth e (rw (le-ltb p end (omega (arith, h)))))

  module _ (q : ℕ) (Q : Stops (λ j. is_covering load time (get_or ls j 0) (get_or ts j (pos 0))) p end q) where
    pub gap-open : cond (ltb p end) (is_covered load time (get_or ls p 0) (get_or ts p (pos 0))) false ≡ false → GapAt ls ts start end load time false p q
    unfolding thin_in
    gap-open e = record { low = P.low; mid = Q.low; high = Q.high; kept = λ f. absurd (truth f refl); opened = λ f ws place r. past ws place ∙ ap (λ (l : List Candidate). part start p (run ls ts ws) ++ l) (drops ws place r ∙ stays ws place r (dec_lt q end)) }
      where
        follows : (ws : List ℕ) (place : Placement) → EveryTwo Below (part start end (run ls ts ws)) → (j : ℕ) → p < j → j < end → Below (x ws place (j - 1)) (x ws place j)
        follows ws place r j l h =
            let y : j - 1 + 1 ≡ j = omega arith in
            rising-next (part start (j - 1) (run ls ts ws)) (part (j + 1) end (run ls ts ws)) (rw (part-split start (j - 1) end (run ls ts ws) blank (omega (arith, P.low)) (omega arith) (room ws place), cut ws place (j - 1) (omega arith), y, cut ws place j h) at r)

        -- what it covers it beats: the first by the test, the others since they follow one that it covers
        beaten : (ws : List ℕ) (place : Placement) → EveryTwo Below (part start end (run ls ts ws)) → (j : ℕ) → p ≤ j → j < q → Dec (p < j) → Covers (x ws place j) (c ws place) → ⊥
        beaten ws place r j h k (no l) =
            let z : p ≡ j = omega (arith, l) in
            covered-no (c ws place) (x ws place j) (rw (lt-ltb p end (omega (arith, Q.high)), z) at e)
        beaten ws place r j h k (yes l) =
            let g = covering-yes (c ws place) (x ws place (j - 1)) (Q.passed (j - 1) (omega arith) (omega arith)) in
            let s = follows ws place r j l (omega (arith, Q.high)) in
            λ b. omega times

        drops : (ws : List ℕ) (place : Placement) → EveryTwo Below (part start end (run ls ts ws)) → thin_in (candidate load time place) (part p end (run ls ts ws)) ≡ thin_in (candidate load time place) (part q end (run ls ts ws))
        drops ws place r =
            rw (part-split p q end (run ls ts ws) blank Q.low Q.high (room ws place))
            (thin-coverings (c ws place) (part q end (run ls ts ws)) (part-all (run ls ts ws) p q blank (omega (arith, room ws place, Q.high)) (λ j h k. rw (here ws place j (omega (arith, Q.high))) (covering-yes (c ws place) (x ws place j) (Q.passed j h k), beaten ws place r j h k (dec_lt p j)))))

        uncovered : (ws : List ℕ) (place : Placement) → q < end → Covers (c ws place) (x ws place q) → ⊥
        uncovered ws place h = covering-no (c ws place) (x ws place q) (Q.stopped h)

        more : (ws : List ℕ) (place : Placement) → EveryTwo Below (part start end (run ls ts ws)) → q < end → Dec (p < q) → Below (c ws place) (x ws place q)
        more ws place r h (no l) =
            let z : p ≡ q = omega (arith, l, Q.low) in
            stands-below (c ws place) (x ws place q)
            (rw (← z) (below-no (x ws place p) (c ws place) (P.stopped (omega arith))))
            (uncovered ws place h)
            (covered-no (c ws place) (x ws place q) (rw (lt-ltb p end (omega arith), z) at e))
        more ws place r h (yes l) =
            let y : q - 1 + 1 ≡ q = omega arith in
            let k = covering-yes (c ws place) (x ws place (q - 1)) (Q.passed (q - 1) (omega arith) (omega arith)) in
            let s : Below (x ws place (q - 1)) (x ws place q) = rising-next (part start (q - 1) (run ls ts ws)) (part (q + 1) end (run ls ts ws)) (rw (part-split start (q - 1) end (run ls ts ws) blank (omega (arith, P.low)) (omega arith) (room ws place), cut ws place (q - 1) (omega arith), y, cut ws place q h) at r) in
            stands-below (c ws place) (x ws place q) (λ b. omega times) (uncovered ws place h) (λ b. omega times)

        stays : (ws : List ℕ) (place : Placement) → EveryTwo Below (part start end (run ls ts ws)) → Dec (q < end) → thin_in (candidate load time place) (part q end (run ls ts ws)) ≡ candidate load time place ∷ part q end (run ls ts ws)
        stays ws place r (yes h) = rw (cut ws place q h) (thin-below (c ws place) (x ws place q) (part (q + 1) end (run ls ts ws)) (more ws place r h (dec_lt p q)))
        stays ws place r (no h) = let z : q ≡ end = omega (arith, h, Q.high) in rw (z, part-nil end (run ls ts ws))

-- ---- room made for it
pub record Grows (w w' : List Candidate) (at start p q end by r : ℕ) : Type 0 where
  pub before : part 0 q w' ≡ part 0 q w
  pub list : part (q + r) (end + r) w' ≡ part q end w
  pub past : (a e : ℕ) → end + r ≤ a → a ≤ e → part a e w' ≡ part a e w
  pub free : at + p < q + r + start
  pub top : (b : ℕ) → end ≤ b → end + by + at ≤ b + start → end + r ≤ b

pub grows_none : (w : List Candidate) (at start p q end by : ℕ) → at + p < q + start → Grows w w at start p q end by 0
grows_none w at start p q end by h =
    let a : q + 0 ≡ q = omega arith in
    let b : end + 0 ≡ end = omega arith in
    record { before = refl; list = rw (a, b); past = λ x e k l. refl; free = rw a h; top = λ x k l. rw b k }

pub grows-by : (w w' : List Candidate) (at start p q end by : ℕ) → q ≤ end → 1 ≤ by → start ≤ at → at ≤ start → p ≤ q → Moved w w' q (q + by) (end - q) → Grows w w' at start p q end by by
grows-by w w' at start p q end by h i j k l m =
    let a : q + by + (end - q) ≡ end + by = omega arith in
    let b : q + (end - q) ≡ end = omega arith in
    record {
      before = part-less q (q + by) w w' (omega arith) m.before;
      list = rw (a, b) at m.list;
      past = λ x e g f. m.past x e (omega (arith, a)) f;
      free = omega arith;
      top = λ x g f. omega arith;
    }

-- ---- put there
pub record Fills (w w' : List Candidate) (from start p q r : ℕ) : Type 0 where
  pub place : r + (p - start) + 1 ≡ q
  pub before : part 0 r w' ≡ part 0 r w
  pub list : part r q w' ≡ part start p w ++ (get_or w from blank ∷ [])
  pub past : (a e : ℕ) → q ≤ a → a ≤ e → part a e w' ≡ part a e w

pub fills : (w w₁ w' : List Candidate) (from start p q : ℕ) → start ≤ p → p < q + start → q ≤ from → from < length w → from < length w₁
    → Moved w w₁ start (q - 1 - (p - start)) (p - start) → w' ≡ set w₁ (q - 1) (get_or w₁ from blank) → Fills w w' from start p q (q - 1 - (p - start))
fills w w₁ w' from start p q h i j k l m e =
    let r = q - 1 - (p - start) in
    let x = get_or w₁ from blank in
    let a : r + (p - start) ≡ q - 1 = omega arith in
    let b : start + (p - start) ≡ p = omega arith in
    let z : q - 1 + 1 ≡ q = omega arith in
    let y : x ≡ get_or w from blank = part-first from w w₁ blank k l (m.past from (from + 1) (omega (arith, a)) (omega arith)) in
    let g : part r (q - 1) w₁ ≡ part start p w = rw (a, b) at m.list in
    let s : part r q (set w₁ (q - 1) x) ≡ part start p w ++ (get_or w from blank ∷ []) =
    ap (λ (n : ℕ). part r n (set w₁ (q - 1) x)) (sym z)
    ∙ part-snoc r (q - 1) (set w₁ (q - 1) x) blank (omega (arith, a)) (rw length-set (omega arith))
    ∙ rw (part-over r (q - 1) w₁ (q - 1) x (omega arith), get_or-set_same w₁ (q - 1) x blank (omega arith), g, y) in
    rw e (record {
      place = omega (arith, a);
      before = part-over 0 r w₁ (q - 1) x (omega (arith, a)) ∙ m.before;
      list = s;
      past = λ f n t u. part-under f n w₁ (q - 1) x (omega arith) u ∙ m.past f n (omega (arith, a)) u;
    })

-- ---- the whole: the candidate at `from` thinned into the list
pub record Thins (w w' : List Candidate) (from at start end by start' end' : ℕ) : Type 0 where
  pub before : part 0 at w' ≡ part 0 at w
  pub list : part start' end' w' ≡ thin_in (get_or w from blank) (part start end w)
  pub past : (a e : ℕ) → from ≤ a → a ≤ e → part a e w' ≡ part a e w
  pub low : at ≤ start'
  pub some : start' < end'
  pub grown : end' + start ≤ end + start' + 1
  pub top : (b : ℕ) → end ≤ b → end + by + at ≤ b + start → end' ≤ b

module _ (ls : List ℕ) (ts : List ℤ) (ws : List ℕ) (from at start end by p q : ℕ) (low : at ≤ start) (some : start < end) (inside : from < work_room) (long : work_room ≤ length ls) (longer : work_room ≤ length ts) where
  new : get_or (run ls ts ws) from blank ≡ candidate (get_or ls from 0) (get_or ts from (pos 0)) (place_at ws from)
  new = run_at ls ts ws from (omega arith) (omega arith)

  pub thins-kept : (covered : Bool) → GapAt ls ts start end (get_or ls from 0) (get_or ts from (pos 0)) covered p q → covered ≡ true → Thins (run ls ts ws) (run ls ts ws) from at start end by start end
  thins-kept covered G e = record {
    before = refl;
    list = rw new (sym (G.kept e ws (place_at ws from)));
    past = λ a z h k. refl;
    low = low;
    some = some;
    grown = omega arith;
    top = λ b h k. h;
  }

  pub thins-put : (w₁ w' : List Candidate) (up to : ℕ) (covered : Bool) → GapAt ls ts start end (get_or ls from 0) (get_or ts from (pos 0)) covered p q → covered ≡ false → EveryTwo Below (part start end (run ls ts ws))
      → end + by + at ≤ from + start → end ≤ from → from < length w₁ → work_room ≤ length w'
      → Grows (run ls ts ws) w₁ at start p q end by up → Fills w₁ w' from start p (q + up) to → Thins (run ls ts ws) w' from at start end by to (end + up)
  thins-put w₁ w' up to covered G e rising room below long₁ long' H F =
      let w = run ls ts ws in
      let lw : work_room ≤ length w = run_long ls ts ws work_room long longer in
      let high : end + up ≤ from = H.top from below room in
      let c : get_or w₁ from blank ≡ get_or w from blank = part-first from w w₁ blank (omega arith) long₁ (H.past from (from + 1) high (omega arith)) in
      let d : part start p w₁ ≡ part start p w = part-part start p w w₁ (part-less p q w w₁ G.mid H.before) in
      let f : part to (end + up) w' ≡ part to (q + up) w' ++ part (q + up) (end + up) w' = part-split to (q + up) (end + up) w' blank (omega (arith, F.place)) (omega (arith, G.high)) (omega arith) in
      record {
        before = part-less at to w₁ w' (omega (arith, F.place, H.free, G.low)) F.before ∙ part-less at q w w₁ (omega (arith, G.low, G.mid)) H.before;
        list =
            f
            ∙ rw (F.list, F.past (q + up) (end + up) (omega arith) (omega (arith, G.high)), H.list, d, c, append_assoc)
            (rw new (sym (G.opened e ws (place_at ws from) rising)));
        past = λ a z h k. F.past a z (omega (arith, G.high, high)) k ∙ H.past a z (omega arith) k;
        low = omega (arith, F.place, H.free, G.low);
        some = omega (arith, F.place, G.high);
        grown = omega (arith, F.place, G.low, G.mid);
        top = H.top;
      }
