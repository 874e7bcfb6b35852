-- Times are integers and delays naturals. `omega` reads naturals alone, so an integer t is handed to it as the difference of two of
-- them, hi t - lo t: with the rules `times` it proves and uses t ≤ℤ s, t <ℤ s and t ≡ s. Assumes nothing.
use Rattle.std.specs.Prelude.{◌≡◌, refl, Bool, true, false, not, cond, ◌⊎◌, ℕ, zero, suc, ◌+◌, ◌-◌, ◌≤◌, ◌<◌, ℤ, pos, negsuc, ◌≤ℤ◌, ◌<ℤ◌, T, ltb}
use Rattle.std.proofs.Common.{sym, ap, inl, inr, ⊎_elim, arith, le_refl as ≤n-refl, leb→le, le→leb, ltb→lt, lt→ltb, nltb→le}
use Rattle.std.proofs.Math.Logic.{⊎_map}
use Rattle.std.proofs.Math.Decide.{dec_le}
use Rattle.std.proofs.Math.IntN.{sub_ℕ}
use Rattle.std.specs.Int.Signed.{mag, le_z, lt_z, le_z_yes, lt_z_yes}
use Rattle.rules.specs.Quantities.{◌⊖◌}
use Rattle.std.proofs.Math.Dec.{nleb→lt}

unfoldable pub hi : ℤ → ℕ
hi (pos n) = n
hi (negsuc n) = 0

unfoldable pub lo : ℤ → ℕ
lo (pos n) = 0
lo (negsuc n) = suc n

pub ≤-read : {a b : ℤ} → a ≤ℤ b → hi a + lo b ≤ hi b + lo a
unfolding hi lo
≤-read {a = pos m} {b = pos n} h = omega (arith, leb→le m n h.le)
≤-read {a = pos m} {b = negsuc n} h = absurd h.le
≤-read {a = negsuc m} {b = pos n} h = omega arith
≤-read {a = negsuc m} {b = negsuc n} h = omega (arith, leb→le n m h.le)

pub <-read : {a b : ℤ} → a <ℤ b → hi a + lo b < hi b + lo a
unfolding hi lo
<-read {a = pos m} {b = pos n} h = omega (arith, ltb→lt m n h.lt)
<-read {a = pos m} {b = negsuc n} h = absurd h.lt
<-read {a = negsuc m} {b = pos n} h = omega arith
<-read {a = negsuc m} {b = negsuc n} h = omega (arith, ltb→lt n m h.lt)

pub ≡-read : {a b : ℤ} → a ≡ b → hi a + lo b ≡ hi b + lo a
≡-read {a} {b} e = rw e

made : (a b : ℤ) → hi a + lo b ≤ hi b + lo a → T (le_z a b)
unfolding hi lo
made (pos m) (pos n) h = le→leb m n (omega arith)
made (pos m) (negsuc n) h = absurd (omega arith)
made (negsuc m) (pos n) h = tt
made (negsuc m) (negsuc n) h = le→leb n m (omega arith)

pub ≤-made : {a b : ℤ} → hi a + lo b ≤ hi b + lo a → a ≤ℤ b
≤-made {a} {b} h = le_z_yes (made a b h)

made< : (a b : ℤ) → hi a + lo b < hi b + lo a → T (lt_z a b)
unfolding hi lo
made< (pos m) (pos n) h = lt→ltb m n (omega arith)
made< (pos m) (negsuc n) h = absurd (omega arith)
made< (negsuc m) (pos n) h = tt
made< (negsuc m) (negsuc n) h = lt→ltb n m (omega arith)

pub <-made : {a b : ℤ} → hi a + lo b < hi b + lo a → a <ℤ b
<-made {a} {b} h = lt_z_yes (made< a b h)

pub ≡-made : {a b : ℤ} → hi a + lo b ≡ hi b + lo a → a ≡ b
unfolding hi lo
≡-made {a = pos m} {b = pos n} h = ap pos (omega arith)
≡-made {a = pos m} {b = negsuc n} h = absurd (omega arith)
≡-made {a = negsuc m} {b = pos n} h = absurd (omega arith)
≡-made {a = negsuc m} {b = negsuc n} h = ap negsuc (omega arith)

pub ruleset times = (arith, ≤-read, <-read, ≡-read, ≤-made, <-made, ≡-made)

-- ---- a time less a delay
sub_read : (a b : ℕ) → hi (sub_ℕ a b) + b ≡ a + lo (sub_ℕ a b)
unfolding hi lo
sub_read a b = go (ltb a b) (λ t. ltb→lt a b t) (λ t. nltb→le a b t)
  where
    go : (c : Bool) → (T c → a < b) → (T (not c) → b ≤ a) → hi (cond c (negsuc (b - suc a)) (pos (a - b))) + b ≡ a + lo (cond c (negsuc (b - suc a)) (pos (a - b)))
    go true l r = omega (arith, l tt)
    go false l r = omega (arith, r tt)

-- what `omega (times, ⊖-read t d)` is told of t ⊖ d
pub ⊖-read : (t : ℤ) (d : ℕ) → hi (t ⊖ d) + lo t + d ≡ hi t + lo (t ⊖ d)
unfolding hi lo ◌⊖◌
⊖-read (pos a) zero = omega arith
⊖-read (pos a) (suc d) = omega (arith, sub_read a (suc d))
⊖-read (negsuc a) zero = omega (arith, sub_read 0 (suc a))
⊖-read (negsuc a) (suc d) = omega arith

-- ---- the order
pub ≤-refl : (a : ℤ) → a ≤ℤ a
≤-refl a = omega times

pub ≤_trans : {a b c : ℤ} → a ≤ℤ b → b ≤ℤ c → a ≤ℤ c
≤_trans h k = omega times

pub ≤-antisym : {a b : ℤ} → a ≤ℤ b → b ≤ℤ a → a ≡ b
≤-antisym h k = omega times

unfoldable pub ≤-or-< : (a b : ℤ) → (a ≤ℤ b) ⊎ (b <ℤ a)
≤-or-< a b = go (dec_le (hi a + lo b) (hi b + lo a))
  where
    go : Dec (hi a + lo b ≤ hi b + lo a) → (a ≤ℤ b) ⊎ (b <ℤ a)
    go (yes h) = inl (omega times)
    go (no h) = inr (omega times)

pub ⊖-mono : {t s : ℤ} {d e : ℕ} → t ≤ℤ s → e ≤ d → t ⊖ d ≤ℤ s ⊖ e
⊖-mono {t} {s} {d} {e} h k = omega (times, ⊖-read t d, ⊖-read s e)

pub ⊖-⊖ : (t : ℤ) (a b : ℕ) → t ⊖ a ⊖ b ≡ t ⊖ (a + b)
⊖-⊖ t a b = omega (times, ⊖-read t a, ⊖-read (t ⊖ a) b, ⊖-read t (a + b))

pub ⊖-swap : (t : ℤ) (a b : ℕ) → t ⊖ (a + b) ≡ t ⊖ b ⊖ a
⊖-swap t a b = omega (times, ⊖-read t b, ⊖-read (t ⊖ b) a, ⊖-read t (a + b))

pub ⊖-zero : (t : ℤ) → t ⊖ 0 ≡ t
⊖-zero t = omega (times, ⊖-read t 0)

-- ---- the lesser of two times
unfoldable pub minℤ : ℤ → ℤ → ℤ
minℤ a b = cond (le_z a b) a b

-- it is one of the two, and no greater than either
nle : (a b : ℤ) → T (not (le_z a b)) → b ≤ℤ a
nle (pos m) (pos n) t = le_z_yes (le→leb n m (omega (arith, nleb→lt m n t)))
nle (pos m) (negsuc n) t = le_z_yes tt
nle (negsuc m) (pos n) t = absurd t
nle (negsuc m) (negsuc n) t = le_z_yes (le→leb m n (omega (arith, nleb→lt n m t)))

pub record Lesser (a b m : ℤ) : Type 0 where
  pub left : m ≤ℤ a
  pub right : m ≤ℤ b
  pub one : (m ≡ a) ⊎ (m ≡ b)

pub min-lesser : (a b : ℤ) → Lesser a b (minℤ a b)
unfolding minℤ
min-lesser a b = go (le_z a b) (λ t. le_z_yes t) (λ t. nle a b t)
  where
    go : (c : Bool) → (T c → a ≤ℤ b) → (T (not c) → b ≤ℤ a) → Lesser a b (cond c a b)
    go true l r = record { left = ≤-refl a; right = l tt; one = inl refl }
    go false l r = record { left = r tt; right = ≤-refl b; one = inr refl }

pub min-greatest : {a b m : ℤ} → m ≤ℤ a → m ≤ℤ b → m ≤ℤ minℤ a b
min-greatest {a} {b} {m} h k = ⊎_elim (λ e. rw e h) (λ e. rw e k) (min-lesser a b).one

-- what has the two laws of a minimum is the minimum
pub min-unique : {a b m : ℤ} → Lesser a b m → m ≡ minℤ a b
min-unique {a} {b} {m} h = ≤-antisym (min-greatest h.left h.right) (⊎_elim (λ e. rw e (min-lesser a b).left) (λ e. rw e (min-lesser a b).right) h.one)

pub min-⊖ : (a b : ℤ) (d : ℕ) → minℤ (a ⊖ d) (b ⊖ d) ≡ minℤ a b ⊖ d
min-⊖ a b d = sym (min-unique (record { left = ⊖-mono m.left (≤n-refl d); right = ⊖-mono m.right (≤n-refl d); one = ⊎_map (λ e. rw e) (λ e. rw e) m.one }))
  where
    m : Lesser a b (minℤ a b)
    m = min-lesser a b

pub min-above : {a b m : ℤ} → m <ℤ a → m <ℤ b → m <ℤ minℤ a b
min-above {a} {b} {m} h k = ⊎_elim (λ e. rw e h) (λ e. rw e k) (min-lesser a b).one

pub min-mono : {a b c d : ℤ} → a ≤ℤ c → b ≤ℤ d → minℤ a b ≤ℤ minℤ c d
min-mono {a} {b} h k = min-greatest (≤_trans (min-lesser a b).left h) (≤_trans (min-lesser a b).right k)

-- neither the order nor the grouping shows
pub min-swap : (a b : ℤ) → minℤ a b ≡ minℤ b a
min-swap a b =
    let l = min-lesser a b in
    let r = min-lesser b a in
    ≤-antisym (min-greatest l.right l.left) (min-greatest r.right r.left)

pub min-turn : (a b c : ℤ) → minℤ (minℤ a b) c ≡ minℤ a (minℤ b c)
min-turn a b c =
    let ab = min-lesser a b in
    let x = min-lesser (minℤ a b) c in
    let bc = min-lesser b c in
    let y = min-lesser a (minℤ b c) in
    ≤-antisym (min-greatest (≤_trans x.left ab.left) (min-greatest (≤_trans x.left ab.right) x.right)) (min-greatest (min-greatest y.left (≤_trans y.right bc.left)) (≤_trans y.right bc.right))

-- how two times stand
pub data Order (a b : ℤ) : Type 0 where
  less : a <ℤ b → Order a b
  equal : a ≡ b → Order a b
  more : b <ℤ a → Order a b

unfoldable pub order : (a b : ℤ) → Order a b
order a b = go (≤-or-< a b) (≤-or-< b a)
  where
    go : (a ≤ℤ b) ⊎ (b <ℤ a) → (b ≤ℤ a) ⊎ (a <ℤ b) → Order a b
    go (inl h) (inl k) = equal (≤-antisym h k)
    go (inl h) (inr k) = less k
    go (inr h) k = more h

-- ---- a time between bounds fits a signed number
pub mag-between : (z : ℤ) (b a : ℕ) {h : ℕ} → negsuc b ≤ℤ z → z ≤ℤ pos a → a < h → b < h → mag z < h
mag-between (pos n) b a l u p q = omega (arith, leb→le n a u.le)
mag-between (negsuc n) b a l u p q = omega (arith, leb→le n b l.le)
