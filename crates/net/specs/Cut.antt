-- Cutting numbers past every range changes no refusal, and nothing that is in range. Assumes nothing.
use Rattle.std.specs.Prelude.{◌≡◌, refl, Bool, true, false, ◌||◌, List, ℕ, suc, ◌+◌, ◌<◌, min, ltb, ℤ, pos, negsuc, neg_ℤ, length}
use Rattle.std.proofs.Common.{sym, ap, ◌∙◌, true≢false, arith, lt-ltb, le-ltb, ltb-true, ltb-false}
use Rattle.std.proofs.Math.Option.{or_else}
use Rattle.std.specs.Int.Signed.{lt_z}
use Rattle.rules.specs.Quantities.{most_ohms, most_femtofarads, most_own, earliest_due, latest_due, most_parent, most_site}
use Rattle.rules.specs.Entries.{Entry, type, driver, point, sink, malformed, beyond, rows_of}
use Rattle.rules.specs.Refusals.{some?, misplaced, out_of_range, too_many, orphan, line_refusal}
use Rattle.rooms.specs.Cap.{word_cap}
use Rattle.text.specs.Stretches.{either, absurd}
use Rattle.text.specs.Numbers.{cap, capped_time}
use Rattle.entries.specs.Lines.{word, capped}
use Rattle.checks.specs.Checks.{first_of}
use Rattle.net.specs.Passing.{line-refusal-is}

-- ---- tests
pub or_left : (a b : Bool) → (a || b) ≡ false → a ≡ false
or_left true b e = e
or_left false b e = refl

pub or_right : (a b : Bool) → (a || b) ≡ false → b ≡ false
or_right true b e = absurd (true≢false e)
or_right false b e = e

-- ---- words
word_test : (most n : ℕ) → most < word_cap → ltb most (word n) ≡ ltb most n
word_test most n h =
    either (ltb most n)
    (λ t. lt-ltb most (word n) (omega (arith, ltb-true most n t)) ∙ sym t)
    (λ f. le-ltb most (word n) (omega (arith, ltb-false most n f)) ∙ sym f)

word_kept : (most n : ℕ) → most < word_cap → ltb most n ≡ false → word n ≡ n
word_kept most n h f = omega (arith, ltb-false most n f)

-- ---- times
cut_below : (n : ℕ) → neg_ℤ (pos (min (suc n) cap)) ≡ negsuc (min n 9_999_999_999_999)
cut_below n =
    let e : min (suc n) cap ≡ suc (min n 9_999_999_999_999) = omega arith in
    ap (λ (k : ℕ). neg_ℤ (pos k)) e

cut-test : (most n c : ℕ) → most < c → ltb most (min n c) ≡ ltb most n
cut-test most n c h =
    either (ltb most n)
    (λ t. lt-ltb most (min n c) (omega (arith, ltb-true most n t)) ∙ sym t)
    (λ f. le-ltb most (min n c) (omega (arith, ltb-false most n f)) ∙ sym f)

early-test : (z : ℤ) → lt_z (capped_time z) earliest_due ≡ lt_z z earliest_due
early-test (pos n) = refl
early-test (negsuc n) = rw (cut_below n) (cut-test 999_999_999_999 n 9_999_999_999_999 (omega arith))

late-test : (z : ℤ) → lt_z latest_due (capped_time z) ≡ lt_z latest_due z
late-test (pos n) = cut-test 1_000_000_000_000 n cap (omega arith)
late-test (negsuc n) = rw (cut_below n)

time-kept : (z : ℤ) → lt_z z earliest_due ≡ false → lt_z latest_due z ≡ false → capped_time z ≡ z
time-kept (pos n) e l = ap pos (omega (arith, ltb-false 1_000_000_000_000 n l))
time-kept (negsuc n) e l = cut_below n ∙ ap negsuc (omega (arith, ltb-false 999_999_999_999 n e))

-- ---- entries
or_same : (a a' b b' : Bool) → a ≡ a' → b ≡ b' → (a || b) ≡ (a' || b')
or_same a a' b b' e f = rw (e, f)

wire-same : (p r c s : ℕ) → (ltb most_parent (word p) || (ltb most_ohms (word r) || (ltb most_femtofarads (word c) || ltb most_site (word s)))) ≡ (ltb most_parent p || (ltb most_ohms r || (ltb most_femtofarads c || ltb most_site s)))
wire-same p r c s =
    rw (word_test most_parent p (omega arith), word_test most_ohms r (omega arith), word_test most_femtofarads c (omega arith), word_test most_site s (omega arith))

out-same : (e : Entry) → out_of_range (capped e) ≡ out_of_range e
unfolding out_of_range
out-same (type a b c) = rw (word_test most_femtofarads a (omega arith), word_test most_ohms b (omega arith), word_test most_own c (omega arith))
out-same (driver a) = word_test most_ohms a (omega arith)
out-same (point p r c s) = wire-same p r c s
out-same (sink p r c s n z) =
    or_same _ _ _ _ (wire-same p r c s)
    (or_same _ _ _ _ (word_test most_femtofarads n (omega arith)) (or_same _ _ _ _ (early-test z) (late-test z)))
out-same malformed = refl
out-same beyond = refl

misplaced-same : (driven : Bool) (e : Entry) → misplaced driven (capped e) ≡ misplaced driven e
unfolding misplaced
misplaced-same d (type a b c) = refl
misplaced-same d (driver a) = refl
misplaced-same d (point p r c s) = refl
misplaced-same d (sink p r c s n z) = refl
misplaced-same d malformed = refl
misplaced-same d beyond = refl

-- each field of a wire in range
pub record WireIn (p r c s : ℕ) : Type 0 where
  pub parent_in : ltb most_parent p ≡ false
  pub resistance_in : ltb most_ohms r ≡ false
  pub capacitance_in : ltb most_femtofarads c ≡ false
  pub site_in : ltb most_site s ≡ false

pub wire-in : (p r c s : ℕ) → (ltb most_parent p || (ltb most_ohms r || (ltb most_femtofarads c || ltb most_site s))) ≡ false → WireIn p r c s
wire-in p r c s e =
    let e₁ = or_right (ltb most_parent p) (ltb most_ohms r || (ltb most_femtofarads c || ltb most_site s)) e in
    let e₂ = or_right (ltb most_ohms r) (ltb most_femtofarads c || ltb most_site s) e₁ in
    record {
      parent_in = or_left (ltb most_parent p) _ e;
      resistance_in = or_left (ltb most_ohms r) _ e₁;
      capacitance_in = or_left (ltb most_femtofarads c) (ltb most_site s) e₂;
      site_in = or_right (ltb most_femtofarads c) (ltb most_site s) e₂;
    }

-- in range, nothing is cut
pub cut_in : (e : Entry) → out_of_range e ≡ false → capped e ≡ e
unfolding out_of_range
cut_in (type a b c) e =
    let e₁ = or_right (ltb most_femtofarads a) (ltb most_ohms b || ltb most_own c) e in
    rw (word_kept most_femtofarads a (omega arith) (or_left (ltb most_femtofarads a) _ e), word_kept most_ohms b (omega arith) (or_left (ltb most_ohms b) _ e₁), word_kept most_own c (omega arith) (or_right (ltb most_ohms b) _ e₁))
cut_in (driver a) e = ap driver (word_kept most_ohms a (omega arith) e)
cut_in (point p r c s) e =
    let w = wire-in p r c s e in
    rw (word_kept most_parent p (omega arith) w.parent_in, word_kept most_ohms r (omega arith) w.resistance_in, word_kept most_femtofarads c (omega arith) w.capacitance_in, word_kept most_site s (omega arith) w.site_in)
cut_in (sink p r c s n z) e =
    let wire = ltb most_parent p || (ltb most_ohms r || (ltb most_femtofarads c || ltb most_site s)) in
    let times = lt_z z earliest_due || lt_z latest_due z in
    let w = wire-in p r c s (or_left wire (ltb most_femtofarads n || times) e) in
    let e₁ = or_right wire (ltb most_femtofarads n || times) e in
    let e₂ = or_right (ltb most_femtofarads n) times e₁ in
    rw (
      word_kept most_parent p (omega arith) w.parent_in,
      word_kept most_ohms r (omega arith) w.resistance_in,
      word_kept most_femtofarads c (omega arith) w.capacitance_in,
      word_kept most_site s (omega arith) w.site_in,
      word_kept most_femtofarads n (omega arith) (or_left (ltb most_femtofarads n) times e₁),
      time-kept z (or_left (lt_z z earliest_due) (lt_z latest_due z) e₂) (or_right (lt_z z earliest_due) (lt_z latest_due z) e₂),
    )
cut_in malformed e = refl
cut_in beyond e = refl

-- ---- refusals
out-alike : (f m m' p p' : Bool) (place : ℕ) → first_of f true m p place ≡ first_of f true m' p' place
unfolding or_else
out-alike true m m' p p' place = refl
out-alike false m m' p p' place = refl

cut_out : (before : List Entry) (e : Entry) → out_of_range e ≡ true → line_refusal before (capped e) ≡ line_refusal before e
cut_out before e t =
    let f = misplaced (some? (rows_of before)) e in
    let line = length before + 1 in
    let a : line_refusal before (capped e) ≡ first_of f true (too_many before (capped e)) (orphan before (capped e)) line =
    rw (misplaced-same (some? (rows_of before)) e, out-same e, t) at (line-refusal-is before (capped e)) in
    let b : line_refusal before e ≡ first_of f true (too_many before e) (orphan before e) line = rw t at (line-refusal-is before e) in
    a ∙ out-alike f (too_many before (capped e)) (too_many before e) (orphan before (capped e)) (orphan before e) line ∙ sym b

pub cut-refusal : (before : List Entry) (e : Entry) → line_refusal before (capped e) ≡ line_refusal before e
cut-refusal before e = either (out_of_range e) (cut_out before e) (λ f. ap (line_refusal before) (cut_in e f))
