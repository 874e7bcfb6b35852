-- What a net that is not refused is like: its types and numbers, its driver, each later row under an earlier one that is no sink, and
-- a row under each that is no sink. Assumes nothing.
use Rattle.std.specs.Prelude.{◌≡◌, refl, Bool, true, false, not, ◌||◌, List, [], ◌∷◌, ◌++◌, ◌≢◌, ℕ, zero, suc, ◌+◌, ◌≤◌, ◌<◌, T, eqb, length, drop}
use Rattle.std.proofs.Common.{ap, arith, T_not, length-append}
use Rattle.std.proofs.Math.Option.{Option, none, some, some-ne-none}
use Rattle.rules.specs.declared.Row.{Row}
use Rattle.rules.specs.Lists.{All, nil, cons}
use Rattle.rules.specs.Quantities.{types_room, rows_room, sites_room}
use Rattle.rules.specs.Entries.{Entry, Repeater, types_of, rows_of, row_of, site_count, sites_of}
use Rattle.rules.specs.Refusals.{some?, is_sink, no_parent, under, childless, childless_at, last_refusal, refusal_of}
use Rattle.rules.specs.Net.{driver_ohms}
use Rattle.laws.specs.Tests.{not-or, neither, other, passes}
use Rattle.laws.specs.Lists.{all-++}
use Rattle.laws.specs.Ranges.{RepeaterInRange}
use Rattle.laws.specs.Taken.{is_driver, RowIn, driver_row, Taken, nothing, a_type, the_driver, a_row, taken}

-- ---- over the rows that are numbered from i on
-- each is under an earlier row, and is no driver
abbrev pub Earlier : (i : ℕ) → List Row → Type 0
Earlier i [] = Unit {0}
Earlier i (x ∷ rows) = (x.parent < i) × T (not (is_driver x.kind)) × Earlier (i + 1) rows

-- a row stands under each that is no sink, and none under a sink
abbrev pub Standing : (i : ℕ) → List Row → Type 0
Standing i [] = Unit {0}
Standing i (x ∷ rows) = (under i rows ≡ not (is_sink x.kind)) × Standing (i + 1) rows

-- an accepted net
pub record Accepted (types : List Repeater) (rows : List Row) : Type 0 where
  pub types_few : length types ≤ types_room
  pub types_in : All RepeaterInRange types
  -- the first row is the driver, with parent 0 and no site
  pub driver : rows ≡ driver_row (driver_ohms rows) ∷ drop 1 rows
  pub rows_few : length rows ≤ rows_room
  pub rows_in : All RowIn rows
  pub sites_few : sites_of rows ≤ sites_room
  pub earlier : Earlier 1 (drop 1 rows)
  pub standing : Standing 0 rows

-- ---- one row more
sites_of-snoc : (rows : List Row) (x : Row) → sites_of (rows ++ (x ∷ [])) ≡ site_count x.site + sites_of rows
unfolding sites_of
sites_of-snoc [] x = refl
sites_of-snoc (y ∷ rows) x = omega (arith, sites_of-snoc rows x)

sites-more : (rows : List Row) (x : Row) → (T x.site → sites_of rows < sites_room) → sites_of rows ≤ sites_room → sites_of (rows ++ (x ∷ [])) ≤ sites_room
sites-more rows x h k = rw sites_of-snoc (go x.site h)
  where
    go : (b : Bool) → (T b → sites_of rows < sites_room) → site_count b + sites_of rows ≤ sites_room
    go true h = omega (arith, h tt)
    go false h = omega arith

parent-before : (rows : List Row) (p : ℕ) → T (not (no_parent rows p)) → p < length rows
unfolding no_parent
parent-before [] p h = absurd h
parent-before (x ∷ rows) zero h = omega arith
parent-before (x ∷ rows) (suc p) h = omega (arith, parent-before rows p h)

earlier-snoc : (i : ℕ) (rows : List Row) (x : Row) → Earlier i rows → x.parent < i + length rows → T (not (is_driver x.kind)) → Earlier i (rows ++ (x ∷ []))
earlier-snoc i [] x e h k = (omega arith, k, tt)
earlier-snoc i (y ∷ rows) x (a, b, e) h k = (a, b, earlier-snoc (i + 1) rows x e (omega arith) k)

-- nothing stands under a sink
abbrev Bare : (i : ℕ) → List Row → Type 0
Bare i [] = Unit {0}
Bare i (x ∷ rows) = (T (is_sink x.kind) → T (not (under i rows))) × Bare (i + 1) rows

under-snoc : (i : ℕ) (rows : List Row) (x : Row) → T (not (under i rows)) → x.parent ≢ i → T (not (under i (rows ++ (x ∷ []))))
under-snoc i [] x h k = neither (eqb x.parent i) false (other k) tt
under-snoc i (y ∷ rows) x h k = let (a, b) = not-or (eqb y.parent i) (under i rows) h in neither (eqb y.parent i) _ a (under-snoc i rows x b k)

bare-earlier : (i : ℕ) (rows : List Row) (x : Row) → Bare i rows → x.parent < i → Bare i (rows ++ (x ∷ []))
bare-earlier i [] x b h = (λ t. tt, tt)
bare-earlier i (y ∷ rows) x (b, c) h = (λ t. under-snoc i rows x (b t) (omega arith), bare-earlier (i + 1) rows x c (omega arith))

bare-snoc : (i p : ℕ) (rows : List Row) (x : Row) → Bare i rows → x.parent ≡ i + p → T (not (no_parent rows p)) → Bare i (rows ++ (x ∷ []))
unfolding no_parent
bare-snoc i p [] x b e h = absurd h
bare-snoc i zero (y ∷ rows) x (b, c) e h = (λ t. absurd (T_not (is_sink y.kind) h t), bare-earlier (i + 1) rows x c (omega arith))
bare-snoc i (suc p) (y ∷ rows) x (b, c) e h = (λ t. under-snoc i rows x (b t) (omega arith), bare-snoc (i + 1) p rows x c (omega arith) h)

standing-of : (i : ℕ) (rows : List Row) → Bare i rows → childless i rows ≡ none → Standing i rows
unfolding childless
standing-of i [] b h = tt
standing-of i (x ∷ rows) (b, c) h =
    let (t, h) = passes (not (is_sink x.kind || under i rows)) i _ h in
    (go (is_sink x.kind) (under i rows) b t, standing-of (i + 1) rows c h)
  where
    go : (s u : Bool) → (T s → T (not u)) → T (not (not (s || u))) → u ≡ not s
    go true true h t = absurd (h tt)
    go true false h t = refl
    go false true h t = refl
    go false false h t = absurd t

-- the driver, and rows under earlier ones
abbrev First : List Row → Type 0
First [] = Unit {0}
First (x ∷ rows) = (x ≡ driver_row x.resistance.0) × Earlier 1 rows

record Known (types : List Repeater) (rows : List Row) : Type 0 where
  types_few : length types ≤ types_room
  types_in : All RepeaterInRange types
  first : First rows
  rows_few : length rows ≤ rows_room
  rows_in : All RowIn rows
  sites_few : sites_of rows ≤ sites_room
  bare : Bare 0 rows

known : {types : List Repeater} {rows : List Row} → Taken types rows → Known types rows
unfolding sites_of driver_row row_of
known nothing = record { types_few = omega arith; types_in = nil; first = tt; rows_few = omega arith; rows_in = nil; sites_few = omega arith; bare = tt }
known (a_type {types = types} {x = x} t r h) =
    let k = known t in
    record { types_few = omega (arith, length-append types (x ∷ [])); types_in = all-++ k.types_in (cons r nil); first = k.first; rows_few = k.rows_few; rows_in = k.rows_in; sites_few = k.sites_few; bare = k.bare }
known (the_driver {resistance = d} t h) =
    let k = known t in
    record { types_few = k.types_few; types_in = k.types_in; first = (refl, tt); rows_few = omega arith; rows_in = cons {x = driver_row d} (record { parent = omega arith; resistance = h; capacitance = omega arith; kind = tt }) nil; sites_few = omega arith; bare = (λ t. tt, tt) }
known (a_row {rows = rows} {x = x} t f) =
    let k = known t in
    record {
      types_few = k.types_few;
      types_in = k.types_in;
      first = go rows k.first f.driven (parent-before rows x.parent f.parent);
      rows_few = omega (arith, length-append rows (x ∷ []), f.few);
      rows_in = all-++ k.rows_in (cons f.inside nil);
      sites_few = sites-more rows x f.sites k.sites_few;
      bare = bare-snoc 0 x.parent rows x k.bare (omega arith) f.parent;
    }
  where
    go : (rows : List Row) → First rows → T (some? rows) → x.parent < length rows → First (rows ++ (x ∷ []))
    go [] h d p = absurd d
    go (y ∷ rows) (h, e) d p = (h, earlier-snoc 1 rows x e (omega arith) f.kind)

-- what is not refused is accepted
pub accepted : (es : List Entry) → refusal_of es ≡ none → Accepted (types_of es) (rows_of es)
unfolding last_refusal
accepted es h =
    let (t, l) = taken es h in
    let (d, l) = passes (not (some? (rows_of es))) _ _ l in
    let k = known t in
    record {
      types_few = k.types_few;
      types_in = k.types_in;
      driver = (go (rows_of es) k.first d).0;
      rows_few = k.rows_few;
      rows_in = k.rows_in;
      sites_few = k.sites_few;
      earlier = (go (rows_of es) k.first d).1;
      standing = standing-of 0 (rows_of es) k.bare (no-childless (childless 0 (rows_of es)) l);
    }
  where
    no-childless : (o : Option ℕ) → childless_at es o ≡ none → o ≡ none
    no-childless none e = refl
    no-childless (some r) e = absurd (some-ne-none _ e)

    go : (rows : List Row) → First rows → T (not (not (some? rows))) → (rows ≡ driver_row (driver_ohms rows) ∷ drop 1 rows) × Earlier 1 (drop 1 rows)
    go [] h d = absurd d
    go (x ∷ rows) (h, e) d = (ap (λ z. z ∷ rows) h, e)
