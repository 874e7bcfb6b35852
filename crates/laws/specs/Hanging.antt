-- What hangs under a row: how it is made row by row, and that its sites have numbers of their own. Assumes nothing.
use Rattle.std.specs.Prelude.{◌≡◌, refl, Bool, true, false, cond, List, [], ◌∷◌, ◌≢◌, ◌⊎◌, ℕ, zero, suc, ◌+◌, ◌≤◌, ◌<◌, T, eqb, length, get_or, take, drop}
use Rattle.std.proofs.Common.{sym, ◌∙◌, inl, inr, ⊎_elim, arith, eqb→eq}
use Rattle.std.proofs.Math.Option.{Option, none, some, some-ne-none}
use Rattle.rules.specs.declared.Kind.{Kind}
use Rattle.rules.specs.declared.Kind.TheVariants.{Driver, Point, Sink}
use Rattle.rules.specs.declared.Row.{Row}
use Rattle.rules.specs.Entries.{site_count, sites_of}
use Rattle.rules.specs.Net.{Wire, Tree, sink, wire_of, sited, seen, wired, beside, hangs, at, at_row}
use Rattle.rules.specs.Pairs.{On}
use Rattle.laws.specs.Tests.{same, other, cond_yes, cond_no}
use Rattle.laws.specs.Method.{Proper}
use Rattle.laws.specs.Taken.{driver_row}

-- a row with its wire, over what hangs under it
abbrev pub hung : Row → (k : ℕ) → (below : Option Tree) → Option Tree
hung x k below = wired (wire_of x) (seen x.site x.kind k below)

-- of no rows nothing hangs
pub hangs-end : (i k r : ℕ) → hangs i k [] r ≡ none
unfolding hangs
hangs-end i k r = refl

module _ (i k : ℕ) (x : Row) (rows : List Row) (r : ℕ) where
  -- a row under r stands beside the later ones
  pub hangs-taken : x.parent ≡ r → hangs i k (x ∷ rows) r ≡ beside (hung x k (hangs (i + 1) (k + site_count x.site) rows i)) (hangs (i + 1) (k + site_count x.site) rows r)
  unfolding hangs
  hangs-taken e = cond_yes (eqb x.parent r) _ _ (same e)

  -- any other row is passed
  pub hangs-passed : x.parent ≢ r → hangs i k (x ∷ rows) r ≡ hangs (i + 1) (k + site_count x.site) rows r
  unfolding hangs
  hangs-passed e = cond_no (eqb x.parent r) _ _ (other e)

  -- what is at the row asked for
  pub at_here : i ≡ r → at i k (x ∷ rows) r ≡ seen x.site x.kind k (hangs (i + 1) (k + site_count x.site) rows i)
  unfolding at
  at_here e = cond_yes (eqb i r) _ _ (same e)

  -- any other row is passed
  pub at-later : i ≢ r → at i k (x ∷ rows) r ≡ at (i + 1) (k + site_count x.site) rows r
  unfolding at
  at-later e = cond_no (eqb i r) _ _ (other e)

at-is : (d : Row) (i k j : ℕ) (rows : List Row) → j < length rows
    → at i k rows (i + j) ≡ seen (get_or rows j d).site (get_or rows j d).kind (k + sites_of (take j rows)) (hangs (i + j + 1) (k + sites_of (take j rows) + site_count (get_or rows j d).site) (drop (j + 1) rows) (i + j))
unfolding sites_of
at-is d i k j [] h = absurd (omega arith)
at-is d i k zero (x ∷ rows) h =
    let z : i + 0 ≡ i = omega arith in
    let y : k + 0 ≡ k = omega arith in
    rw (z, y) (at_here i k x rows i refl)
at-is d i k (suc j) (x ∷ rows) h =
    let z : i + suc j ≡ i + 1 + j = omega arith in
    let y : k + (site_count x.site + sites_of (take j rows)) ≡ k + site_count x.site + sites_of (take j rows) = omega arith in
    let w : suc j + 1 ≡ suc (j + 1) = omega arith in
    at-later i k x rows (i + suc j) (omega arith) ∙ rw (z, y, w) (at-is d (i + 1) (k + site_count x.site) j rows (omega arith))

-- what is at row r: the row, its site numbered after those before it, over what hangs under it
pub at_row-is : (d : Row) (rows : List Row) (r : ℕ) → r < length rows
    → at_row rows r ≡ seen (get_or rows r d).site (get_or rows r d).kind (sites_of (take r rows)) (hangs (r + 1) (sites_of (take r rows) + site_count (get_or rows r d).site) (drop (r + 1) rows) r)
unfolding at_row
at_row-is d rows r h =
    let z : 0 + r ≡ r = omega arith in
    let y : 0 + sites_of (take r rows) ≡ sites_of (take r rows) = omega arith in
    rw (z, y) at (at-is d 0 0 r rows h)

-- a row at which there is a tree is one of the net's
at_from : (i k : ℕ) (rows : List Row) (r : ℕ) (t : Tree) → at i k rows r ≡ some t → r < i + length rows
unfolding at
at_from i k [] r t e = absurd (some-ne-none t (sym e))
at_from i k (x ∷ rows) r t e = go (eqb i r) (eqb→eq i r) (at_from (i + 1) (k + site_count x.site) rows r t) e
  where
    go : (b : Bool) → (T b → i ≡ r) → (at (i + 1) (k + site_count x.site) rows r ≡ some t → r < i + 1 + length rows) → cond b (seen x.site x.kind k (hangs (i + 1) (k + site_count x.site) rows i)) (at (i + 1) (k + site_count x.site) rows r) ≡ some t → r < i + length (x ∷ rows)
    go true s later h = omega (arith, s tt)
    go false s later h = omega (arith, later h)

pub at-counted : (rows : List Row) (r : ℕ) (t : Tree) → at_row rows r ≡ some t → r < length rows
unfolding at_row
at-counted rows r t e = omega (arith, at_from 0 0 rows r t e)

-- ---- the sites
-- of a tree that may not be there
abbrev pub OnIf : Option Tree → (j : ℕ) → Type 0
OnIf none j = ⊥
OnIf (some t) j = On t j

abbrev pub ProperIf : Option Tree → Type 0
ProperIf none = Unit {0}
ProperIf (some t) = Proper t

on-sited : (b : Bool) (k : ℕ) (t : Tree) (j : ℕ) → On (sited b k t) j → ((j ≡ k) × (j < k + site_count b)) ⊎ On t j
on-sited true k t j (inl e) = inl (e, omega arith)
on-sited true k t j (inr h) = inr h
on-sited false k t j h = inr h

proper-sited : (b : Bool) (k : ℕ) (t : Tree) → ((j : ℕ) → On t j → k + site_count b ≤ j) → Proper t → Proper (sited b k t)
proper-sited true k t later p = (λ h. omega (arith, later k h), p)
proper-sited false k t later p = p

on-seen : (b : Bool) (kind : Kind) (k : ℕ) (u : Option Tree) (j : ℕ) → OnIf (seen b kind k u) j → ((j ≡ k) × (j < k + site_count b)) ⊎ OnIf u j
on-seen b (Sink pin) k u j h = ⊎_elim (λ e. inl e) (λ f. absurd f) (on-sited b k (sink pin.load.0 pin.due.0) j h)
on-seen b Driver k none j h = absurd h
on-seen b Driver k (some t) j h = on-sited b k t j h
on-seen b Point k none j h = absurd h
on-seen b Point k (some t) j h = on-sited b k t j h

proper-seen : (b : Bool) (kind : Kind) (k : ℕ) (u : Option Tree) → ((j : ℕ) → OnIf u j → k + site_count b ≤ j) → ProperIf u → ProperIf (seen b kind k u)
proper-seen b (Sink pin) k u later p = proper-sited b k (sink pin.load.0 pin.due.0) (λ j h. absurd h) tt
proper-seen b Driver k none later p = tt
proper-seen b Driver k (some t) later p = proper-sited b k t later p
proper-seen b Point k none later p = tt
proper-seen b Point k (some t) later p = proper-sited b k t later p

on-wired : (w : Wire) (u : Option Tree) (j : ℕ) → OnIf (wired w u) j → OnIf u j
on-wired w none j h = h
on-wired w (some t) j h = h

proper-wired : (w : Wire) (u : Option Tree) → ProperIf u → ProperIf (wired w u)
proper-wired w none p = p
proper-wired w (some t) p = p

on-beside : (b : Bool) (u v : Option Tree) (j : ℕ) → OnIf (cond b (beside u v) v) j → (T b × OnIf u j) ⊎ OnIf v j
on-beside false u v j o = inr o
on-beside true none v j o = inr o
on-beside true (some s) none j o = inl (tt, o)
on-beside true (some s) (some t) j (inl o) = inl (tt, o)
on-beside true (some s) (some t) j (inr o) = inr o

proper-beside : (b : Bool) (u v : Option Tree) → ((j : ℕ) → OnIf u j → ¬ (OnIf v j)) → ProperIf u → ProperIf v → ProperIf (cond b (beside u v) v)
proper-beside false u v part p q = q
proper-beside true none v part p q = q
proper-beside true (some s) none part p q = p
proper-beside true (some s) (some t) part p q = (part, p, q)

-- what hangs under the rows before i has n sites at most, of its own, numbered from k on
pub record Parted (i k n : ℕ) (f : ℕ → Option Tree) : Type 0 where
  pub proper : (r : ℕ) → r < i → ProperIf (f r)
  pub from : (r j : ℕ) → OnIf (f r) j → k ≤ j
  pub up_to : (r j : ℕ) → OnIf (f r) j → j < k + n
  pub apart : (r q j : ℕ) → r < i → q < i → r ≢ q → OnIf (f r) j → ¬ (OnIf (f q) j)

module _ (i k n : ℕ) (x : Row) (f : ℕ → Option Tree) (P : Parted (i + 1) (k + site_count x.site) n f) where
  seen-proper : ProperIf (seen x.site x.kind k (f i))
  seen-proper = proper-seen x.site x.kind k (f i) (P.from i) (P.proper i (omega arith))

  hung-on : (j : ℕ) → OnIf (hung x k (f i)) j → ((j ≡ k) × (j < k + site_count x.site)) ⊎ OnIf (f i) j
  hung-on j h = on-seen x.site x.kind k (f i) j (on-wired (wire_of x) (seen x.site x.kind k (f i)) j h)

  hung-apart : (r j : ℕ) → r < i → OnIf (hung x k (f i)) j → ¬ (OnIf (f r) j)
  hung-apart r j h o q = go (hung-on j o)
    where
      go : ((j ≡ k) × (j < k + site_count x.site)) ⊎ OnIf (f i) j → ⊥
      go (inl e) = omega (arith, P.from r j q)
      go (inr e) = P.apart i r j (omega arith) (omega arith) (omega arith) e q

  parted-step : Parted i k (site_count x.site + n) (λ r. cond (eqb x.parent r) (beside (hung x k (f i)) (f r)) (f r))
  parted-step = record {
    proper = λ r h. proper-beside (eqb x.parent r) (hung x k (f i)) (f r) (λ j. hung-apart r j h) (proper-wired (wire_of x) (seen x.site x.kind k (f i)) seen-proper) (P.proper r (omega arith));
    from = λ r j h. ⊎_elim (λ o. above j (hung-on j o.1)) (λ o. omega (arith, P.from r j o)) (on-beside (eqb x.parent r) (hung x k (f i)) (f r) j h);
    up_to = λ r j h. ⊎_elim (λ o. below j (hung-on j o.1)) (λ o. omega (arith, P.up_to r j o)) (on-beside (eqb x.parent r) (hung x k (f i)) (f r) j h);
    apart = λ r q j a b c h g. two r q j a b c (on-beside (eqb x.parent r) (hung x k (f i)) (f r) j h) (on-beside (eqb x.parent q) (hung x k (f i)) (f q) j g);
  }
    where
      above : (j : ℕ) → ((j ≡ k) × (j < k + site_count x.site)) ⊎ OnIf (f i) j → k ≤ j
      above j (inl e) = omega arith
      above j (inr o) = omega (arith, P.from i j o)

      below : (j : ℕ) → ((j ≡ k) × (j < k + site_count x.site)) ⊎ OnIf (f i) j → j < k + (site_count x.site + n)
      below j (inl e) = omega arith
      below j (inr o) = omega (arith, P.up_to i j o)

      two : (r q j : ℕ) → r < i → q < i → r ≢ q → (T (eqb x.parent r) × OnIf (hung x k (f i)) j) ⊎ OnIf (f r) j → (T (eqb x.parent q) × OnIf (hung x k (f i)) j) ⊎ OnIf (f q) j → ⊥
      two r q j a b c (inl o) (inl e) = c (sym (eqb→eq x.parent r o.0) ∙ eqb→eq x.parent q e.0)
      two r q j a b c (inl o) (inr e) = hung-apart q j b o.1 e
      two r q j a b c (inr o) (inl e) = hung-apart r j a e.1 o
      two r q j a b c (inr o) (inr e) = P.apart r q j (omega arith) (omega arith) c o e

-- what hangs under different rows has no site in common, and no site twice
pub hangs-parted : (i k : ℕ) (rows : List Row) → Parted i k (sites_of rows) (hangs i k rows)
unfolding hangs sites_of
hangs-parted i k [] = record { proper = λ r h. tt; from = λ r j h. absurd h; up_to = λ r j h. absurd h; apart = λ r q j a b c h. absurd h }
hangs-parted i k (x ∷ rows) = parted-step i k (sites_of rows) x (hangs (i + 1) (k + site_count x.site) rows) (hangs-parted (i + 1) (k + site_count x.site) rows)

-- what is seen of a row, over what hangs under it among the rows after it, has no site twice
pub seen-distinct : (i k : ℕ) (x : Row) (rows : List Row) → ProperIf (seen x.site x.kind k (hangs (i + 1) (k + site_count x.site) rows i))
seen-distinct i k x rows = seen-proper i k (sites_of rows) x (hangs (i + 1) (k + site_count x.site) rows) (hangs-parted (i + 1) (k + site_count x.site) rows)

-- a row's own tree has no site in common with what hangs under an earlier row after it
pub hung-distinct : (i k : ℕ) (x : Row) (rows : List Row) (r j : ℕ) → r < i → OnIf (hung x k (hangs (i + 1) (k + site_count x.site) rows i)) j → ¬ (OnIf (hangs (i + 1) (k + site_count x.site) rows r) j)
hung-distinct i k x rows r j = hung-apart i k (sites_of rows) x (hangs (i + 1) (k + site_count x.site) rows) (hangs-parted (i + 1) (k + site_count x.site) rows) r j

-- no row's tree has a site twice
pub at-proper : (rows : List Row) (r : ℕ) → r < length rows → ProperIf (at_row rows r)
at-proper rows r h = rw (at_row-is (driver_row 0) rows r h) (seen-distinct r (sites_of (take r rows)) (get_or rows r (driver_row 0)) (drop (r + 1) rows))
