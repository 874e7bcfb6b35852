-- Of an accepted net: there is a tree at every row, something hangs under each row that is no sink, and every site is one of the
-- driver's tree. Assumes nothing.
use Rattle.std.specs.Prelude.{◌≡◌, refl, Bool, true, false, cond, not, ◌||◌, List, [], ◌∷◌, ◌↔◌, ℕ, ◌+◌, ◌≤◌, ◌<◌, T, eqb, length, get_or, take, drop}
use Rattle.std.proofs.Common.{sym, ap, ◌∙◌, subst, true≢false, inl, inr, arith}
use Rattle.std.proofs.lemmas.Bool.{false≢true}
use Rattle.std.proofs.Math.Option.{Option, none, some}
use Rattle.std.proofs.Math.Decide.{ℕ_discrete, dec_lt}
use Rattle.std.proofs.Math.Dec.{eqb_refl}
use Rattle.rules.specs.declared.Kind.{Kind}
use Rattle.rules.specs.declared.Kind.TheVariants.{Driver, Point, Sink}
use Rattle.rules.specs.declared.Row.{Row}
use Rattle.rules.specs.Entries.{Repeater, row_of, site_count, sites_of}
use Rattle.rules.specs.Refusals.{is_sink, under}
use Rattle.rules.specs.Net.{Wire, Tree, sink, wire_of, sited, seen, wired, beside, hangs, at, at_row, driver_ohms}
use Rattle.rules.specs.Pairs.{On}
use Rattle.laws.specs.Method.{Proper}
use Rattle.laws.specs.Taken.{driver_row}
use Rattle.laws.specs.Accepted.{Earlier, Standing, Accepted}
use Rattle.laws.specs.Rows.{standing-at, standing-from}
use Rattle.laws.specs.Hanging.{hung, OnIf, ProperIf, hangs-parted, at_row-is, at-proper}

-- something is there
abbrev pub there : Option Tree → Bool
there none = false
there (some t) = true

-- and is a tree
pub there-some : (u : Option Tree) → there u ≡ true → (t : Tree) × (u ≡ some t)
there-some none e = absurd (false≢true e)
there-some (some t) e = (t, refl)

-- ---- where something hangs
seen-there : (b : Bool) (kind : Kind) (k : ℕ) (u : Option Tree) → there u ≡ not (is_sink kind) → there (seen b kind k u) ≡ true
seen-there b (Sink pin) k u e = refl
seen-there b Driver k none e = e
seen-there b Driver k (some t) e = refl
seen-there b Point k none e = e
seen-there b Point k (some t) e = refl

wired-there : (w : Wire) (u : Option Tree) → there u ≡ true → there (wired w u) ≡ true
wired-there w none e = e
wired-there w (some t) e = refl

beside-there : (b : Bool) (u v : Option Tree) → there u ≡ true → there (cond b (beside u v) v) ≡ b || there v
beside-there false u v e = refl
beside-there true none v e = absurd (false≢true e)
beside-there true (some s) none e = refl
beside-there true (some s) (some t) e = refl

-- something hangs under r where a row stands under r
pub hangs-there : (i k : ℕ) (rows : List Row) (r : ℕ) → Standing i rows → there (hangs i k rows r) ≡ under r rows
unfolding hangs
hangs-there i k [] r s = refl
hangs-there i k (x ∷ rows) r (a, s) =
    let k' = k + site_count x.site in
    let u = hangs (i + 1) k' rows i in
    let h : there u ≡ not (is_sink x.kind) = hangs-there (i + 1) k' rows i s ∙ a in
    beside-there (eqb x.parent r) (hung x k u) (hangs (i + 1) k' rows r) (wired-there (wire_of x) (seen x.site x.kind k u) (seen-there x.site x.kind k u h)) ∙ ap (λ z. eqb x.parent r || z) (hangs-there (i + 1) k' rows r s)

-- ---- every site
sited-under : (b : Bool) (k : ℕ) (t : Tree) (j : ℕ) → On t j → On (sited b k t) j
sited-under true k t j o = inr o
sited-under false k t j o = o

hung-under : (w : Wire) (b : Bool) (kind : Kind) (k : ℕ) (u : Option Tree) (j : ℕ) → there u ≡ not (is_sink kind) → OnIf u j → OnIf (wired w (seen b kind k u)) j
hung-under w b kind k none j e o = absurd o
hung-under w b (Sink pin) k (some t) j e o = absurd (true≢false e)
hung-under w b Driver k (some t) j e o = sited-under b k t j o
hung-under w b Point k (some t) j e o = sited-under b k t j o

sited-site : (b : Bool) (k : ℕ) (t : Tree) (j : ℕ) → k ≤ j → j < k + site_count b → On (sited b k t) j
sited-site true k t j h g = inl (omega arith)
sited-site false k t j h g = absurd (omega arith)

hung-site : (w : Wire) (b : Bool) (kind : Kind) (k : ℕ) (u : Option Tree) (j : ℕ) → there u ≡ not (is_sink kind) → k ≤ j → j < k + site_count b → OnIf (wired w (seen b kind k u)) j
hung-site w b (Sink pin) k u j e h g = sited-site b k (sink pin.load.0 pin.due.0) j h g
hung-site w b Driver k none j e h g = absurd (false≢true e)
hung-site w b Driver k (some t) j e h g = sited-site b k t j h g
hung-site w b Point k none j e h g = absurd (false≢true e)
hung-site w b Point k (some t) j e h g = sited-site b k t j h g

beside-left : (b : Bool) (u v : Option Tree) (j : ℕ) → T b → OnIf u j → OnIf (cond b (beside u v) v) j
beside-left false u v j t o = absurd t
beside-left true none v j t o = absurd o
beside-left true (some s) none j t o = o
beside-left true (some s) (some t) j _ o = inl o

beside-right : (b : Bool) (u v : Option Tree) (j : ℕ) → OnIf v j → OnIf (cond b (beside u v) v) j
beside-right false u v j o = o
beside-right true none v j o = o
beside-right true (some s) none j o = absurd o
beside-right true (some s) (some t) j o = inr o

-- every site hangs under a row before i
sites-all : (i k : ℕ) (rows : List Row) → Earlier i rows → Standing i rows → (j : ℕ) → k ≤ j → j < k + sites_of rows → (r : ℕ) × (r < i) × OnIf (hangs i k rows r) j
unfolding hangs sites_of
sites-all i k [] e s j h g = absurd (omega arith)
sites-all i k (x ∷ rows) (early, kind, e) (a, s) j h g = go (dec_lt j (k + site_count x.site)) (λ b c. sites-all (i + 1) (k + site_count x.site) rows e s j b c)
  where
    f : ℕ → Option Tree
    f = hangs (i + 1) (k + site_count x.site) rows

    stands : there (f i) ≡ not (is_sink x.kind)
    stands = hangs-there (i + 1) (k + site_count x.site) rows i s ∙ a

    Here : Type 0
    Here = (r : ℕ) × (r < i) × OnIf (cond (eqb x.parent r) (beside (hung x k (f i)) (f r)) (f r)) j

    mine : OnIf (hung x k (f i)) j → Here
    mine o = (x.parent, early, beside-left (eqb x.parent x.parent) (hung x k (f i)) (f x.parent) j (eqb_refl x.parent) o)

    split : (r : ℕ) → r < i + 1 → OnIf (f r) j → Dec (r ≡ i) → Here
    split r b o (yes e) = mine (hung-under (wire_of x) x.site x.kind k (f i) j stands (rw e at o))
    split r b o (no e) = (r, omega arith, beside-right (eqb x.parent r) (hung x k (f i)) (f r) j o)

    go : Dec (j < k + site_count x.site) → (k + site_count x.site ≤ j → j < k + site_count x.site + sites_of rows → (r : ℕ) × (r < i + 1) × OnIf (f r) j) → Here
    go (yes b) ih = mine (hung-site (wire_of x) x.site x.kind k (f i) j stands h b)
    go (no b) ih = let (r, c, o) = ih (omega arith) (omega arith) in split r c o (ℕ_discrete r i)

-- ---- accepted nets
seen-driver : (u : Option Tree) → seen false Driver 0 u ≡ u
seen-driver none = refl
seen-driver (some t) = refl

driver-first : (resistance : ℕ) (rows : List Row) → at_row (driver_row resistance ∷ rows) 0 ≡ hangs 1 0 rows 0
unfolding at_row at driver_row row_of
driver-first resistance rows = seen-driver (hangs 1 0 rows 0)

no_site : (resistance : ℕ) (rows : List Row) → sites_of (driver_row resistance ∷ rows) ≡ sites_of rows
unfolding sites_of driver_row row_of
no_site resistance rows = omega arith

module _ {types : List Repeater} {rows : List Row} (ok : Accepted types rows) where
  -- something hangs under a row where it is no sink, and only there
  pub under-there : (d : Row) (i k : ℕ) → i < length rows → there (hangs (i + 1) k (drop (i + 1) rows) i) ≡ not (is_sink (get_or rows i d).kind)
  under-there d i k h = hangs-there (i + 1) k (drop (i + 1) rows) i (standing-from ok (i + 1)) ∙ standing-at ok d i h

  -- under a sink nothing hangs
  pub under_sink : (d : Row) (i k : ℕ) → i < length rows → T (is_sink (get_or rows i d).kind) → hangs (i + 1) k (drop (i + 1) rows) i ≡ none
  under_sink d i k h t = go (hangs (i + 1) k (drop (i + 1) rows) i) (is_sink (get_or rows i d).kind) t (under-there d i k h)
    where
      go : (u : Option Tree) (b : Bool) → T b → there u ≡ not b → u ≡ none
      go none b t e = refl
      go (some n) true t e = absurd (true≢false e)
      go (some n) false t e = absurd t

  -- under any other row a tree hangs
  pub under-tree : (d : Row) (i k : ℕ) → i < length rows → T (not (is_sink (get_or rows i d).kind)) → (t : Tree) × (hangs (i + 1) k (drop (i + 1) rows) i ≡ some t)
  under-tree d i k h t = there-some (hangs (i + 1) k (drop (i + 1) rows) i) (under-there d i k h ∙ go (is_sink (get_or rows i d).kind) t)
    where
      go : (b : Bool) → T (not b) → not b ≡ true
      go true t = absurd t
      go false t = refl

  -- there is a tree at every row, and no site is twice in it
  pub tree-at : (r : ℕ) → r < length rows → (t : Tree) × (at_row rows r ≡ some t) × Proper t
  tree-at r h =
      let x = get_or rows r (driver_row 0) in
      let k = sites_of (take r rows) in
      let u = hangs (r + 1) (k + site_count x.site) (drop (r + 1) rows) r in
      let (t, e) = there-some (at_row rows r) (ap there (at_row-is (driver_row 0) rows r h) ∙ seen-there x.site x.kind k u (under-there (driver_row 0) r (k + site_count x.site) h)) in
      let p : ProperIf (some t) = rw e at (at-proper rows r h) in
      (t, e, p)

  -- at the driver is what hangs under it
  pub driver_is : at_row rows 0 ≡ hangs 1 0 (drop 1 rows) 0
  driver_is = ap (λ z. at_row z 0) ok.driver ∙ driver-first (driver_ohms rows) (drop 1 rows)

  -- the driver has no site
  pub sites-are : sites_of rows ≡ sites_of (drop 1 rows)
  sites-are = ap sites_of ok.driver ∙ no_site (driver_ohms rows) (drop 1 rows)

  -- the driver's tree has the net's sites, and no others
  pub driver-sites : (t : Tree) → at_row rows 0 ≡ some t → (j : ℕ) → On t j ↔ (j < sites_of rows)
  driver-sites t e j = (λ o. down (subst (λ u. OnIf u j) (sym e ∙ driver_is) o), λ h. up h)
    where
      down : OnIf (hangs 1 0 (drop 1 rows) 0) j → j < sites_of rows
      down o = rw sites-are (omega (arith, (hangs-parted 1 0 (drop 1 rows)).up_to 0 j o))

      up : j < sites_of rows → OnIf (some t) j
      up h =
          let s = sites-are in
          let (r, a, o) = sites-all 1 0 (drop 1 rows) ok.earlier (standing-from ok 1) j (omega arith) (omega arith) in
          let z : r ≡ 0 = omega arith in
          rw (z, ← driver_is, e) at o
