-- What the walk over a table's tree stands on, and what each of its calls needs and gives: the load and the time of the tree that hangs
-- there. Assumes nothing.
use Rattle.std.specs.Prelude.{None, ◌≡◌, true, List, ℕ, ◌+◌, ◌*◌, ◌≤◌, ◌<◌, ℤ, length, get_or}
use Rattle.std.proofs.Math.Path.{refl, sym, ap, ap₂}
use Rattle.std.proofs.Common.{◌∙◌, arith}
use Rattle.std.proofs.Math.Decide.{dec_lt}
use Rattle.rules.specs.declared.Kind.{Kind}
use Rattle.rules.specs.declared.Kind.TheVariants.{Driver, Point, Sink}
use Rattle.rules.specs.declared.Row.{Row}
use Rattle.rules.specs.Quantities.{most_ohms, types_room, sites_room, placement_room}
use Rattle.rules.specs.Entries.{sites_of}
use Rattle.rules.specs.Placements.{marks}
use Rattle.rules.specs.Tables.{words_a_type}
use Rattle.rules.specs.Net.{wire_of, wired}
use Rattle.rooms.specs.Links.{next_at, sites_at}
use Rattle.laws.specs.Integers.{mag-between}
use Rattle.laws.specs.Ranges.{RepeaterInRange}
use Rattle.laws.specs.Taken.{RowIn, KindIn}
use Rattle.laws.specs.Tabled.{row_at, rows_from, rows-length, repeater_at}
use Rattle.laws.specs.Walk.{no_row, sites_before, under, under-end, under-taken, seen_at, Child, child-is}
use Rattle.rows.specs.Links.{Links, Earlier, Standing, row_is}
use Rattle.slack.specs.Sites.{site-number}
use Rattle.upward.specs.Hung.{Hung, Within, wire_hung, beside_hung, start_hung}
use Rattle.slack.specs.Hung.{site_hung, hung_of, hung-wired, hung-beside, hung-seen, table_types, Siting}

-- what hangs under the parent of row c among the rows from c on, what is at row i, and row i behind its wire
unfoldable pub hung_below : (rows : List ℕ) (due : List ℤ) (types words : List ℕ) (n c : ℕ) → Hung
hung_below rows due types words n c =
    let net = rows_from rows due 0 n in
    hung_of (table_types types) (marks words) (under net (get_or net c no_row).parent c)

unfoldable pub hung_at : (rows : List ℕ) (due : List ℤ) (types words : List ℕ) (n i : ℕ) → Hung
hung_at rows due types words n i = hung_of (table_types types) (marks words) (seen_at (rows_from rows due 0 n) i)

unfoldable pub hung_own : (rows : List ℕ) (due : List ℤ) (types words : List ℕ) (n i : ℕ) → Hung
hung_own rows due types words n i =
    let net = rows_from rows due 0 n in
    hung_of (table_types types) (marks words) (wired (wire_of (get_or net i no_row)) (seen_at net i))

-- tables and a placement that are not refused: each mark is a type's in its ranges, and so is all that hangs anywhere
pub record Sound (rows : List ℕ) (due : List ℤ) (types words : List ℕ) (n : ℕ) : Type 0 where
  pub standing : Standing rows due n
  pub types_long : words_a_type * types_room ≤ length types
  pub words_long : placement_room ≤ length words
  pub earlier : Earlier (rows_from rows due 0 n)
  pub sites_few : sites_of (rows_from rows due 0 n) ≤ sites_room
  pub mark : (k : ℕ) → marks words k ≤ types_room
  pub known : (k m : ℕ) → m < marks words k → RepeaterInRange (repeater_at types m)
  pub row_in : (i : ℕ) → i < n → RowIn (get_or (rows_from rows due 0 n) i no_row)
  pub under_in : (r i : ℕ) → r < i → Within (hung_of (table_types types) (marks words) (under (rows_from rows due 0 n) r i))
  pub seen_in : (i : ℕ) → i < n → Within (hung_at rows due types words n i)
  pub own_in : (i : ℕ) → 1 ≤ i → i < n → Within (hung_own rows due types words n i)

-- with the table of links that the walk goes by
pub record Ready (rows : List ℕ) (due : List ℤ) (types words links : List ℕ) (n : ℕ) : Type 0 where
  pub sound : Sound rows due types words n
  pub linked : Links (rows_from rows due 0 n) links

-- ---- rows and links
-- the rows from the next one below on hang there, and no others
child-under : (net : List Row) (r i c : ℕ) → Child net r i c → under net (get_or net c no_row).parent c ≡ under net r i
child-under net r i c k = go (dec_lt c (length net))
  where
    go : Dec (c < length net) → under net (get_or net c no_row).parent c ≡ under net r i
    go (yes h) = rw (k.below h) (sym k.same)
    go (no h) = under-end net _ c (omega arith) ∙ sym (under-end net r c (omega arith)) ∙ sym k.same

-- what a row starts from is in its ranges
start-in : (kind : Kind) (h : Hung) → KindIn kind → Within h → Within (start_hung kind h)
start-in Driver h k w = w
start-in Point h k w = w
start-in (Sink pin) h (l, from, to) w = (omega arith, omega (arith, mag-between pin.due.0 999_999_999_999 1_000_000_000_000 {h = 1_000_000_000_001} from to (omega arith) (omega arith)))

-- what the driver needs
pub driver-needs : {rows : List ℕ} {due : List ℤ} {types words : List ℕ} {n : ℕ} {x : Row} {h : Hung} → Sound rows due types words n → x ≡ row_at rows due 0 → h ≡ hung_at rows due types words n 0 → (x.resistance.0 ≤ most_ohms) × Within h
driver-needs {rows} {due} {n = n} {x} S e f = (rw (row_is rows due n 0 x S.standing.some e) at (S.row_in 0 S.standing.some).resistance, rw f (S.seen_in 0 S.standing.some))

-- ---- the calls
module _ {rows : List ℕ} {due : List ℤ} {types words links : List ℕ} {n : ℕ} (R : Ready rows due types words links n) where
  abbrev net : List Row
  net = rows_from rows due 0 n

  long : length net ≡ n
  long = rows-length rows due 0 n

  -- past the last row nothing hangs
  pub below_end : (c : ℕ) → n ≡ c → None ≡ hung_below rows due types words n c
  unfolding hung_below hung_of
  below_end c e = rw (under-end net (get_or net c no_row).parent c (rw long (omega arith)))

  -- the next row under the same parent
  pub next-child : (c : ℕ) {next : ℕ} → 1 ≤ c → c < n → next ≡ get_or links (next_at + c) 0 → Child net (get_or net c no_row).parent (c + 1) next
  next-child c h g e = rw (e, R.linked.next c h (rw long g)) (child-is net (get_or net c no_row).parent (c + 1) (rw long (omega arith)))

  -- the first row below row r
  pub first-child : (r : ℕ) {first : ℕ} → r < n → first ≡ get_or links r 0 → Child net r (r + 1) first
  first-child r g e = rw (e, R.linked.first r (rw long g)) (child-is net r (r + 1) (rw long (omega arith)))

  below_is : (r i c : ℕ) → Child net r i c → hung_below rows due types words n c ≡ hung_of (table_types types) (marks words) (under net r i)
  unfolding hung_below
  below_is r i c k = ap (hung_of (table_types types) (marks words)) (child-under net r i c k)

  module _ (c : ℕ) {x : Row} (some : 1 ≤ c) (inside : c < n) (x-is : x ≡ row_at rows due c) where
    row : get_or net c no_row ≡ x
    row = row_is rows due n c x inside x-is

    -- row c behind its wire
    pub own_is : {h own : Hung} → h ≡ hung_at rows due types words n c → own ≡ wire_hung x.resistance.0 x.capacitance.0 h → own ≡ hung_own rows due types words n c
    unfolding hung_at hung_own wire_of
    own_is e f = f ∙ rw (e, ← row) (sym (hung-wired (table_types types) (marks words) (wire_of (get_or net c no_row)) (seen_at net c)))

    -- what the wire of row c needs
    pub wire-needs : {h : Hung} → h ≡ hung_at rows due types words n c → (x.resistance.0 ≤ most_ohms) × (Within h × Within (wire_hung x.resistance.0 x.capacitance.0 h))
    wire-needs e = (rw row at (R.sound.row_in c inside).resistance, (rw e (R.sound.seen_in c inside), rw (own_is e refl) (R.sound.own_in c some inside)))

  module _ (c : ℕ) {own later : Hung} {next : ℕ} (some : 1 ≤ c) (inside : c < n) (own-by : own ≡ hung_own rows due types words n c) (next-is : next ≡ get_or links (next_at + c) 0) (later-is : later ≡ hung_below rows due types words n next) where
    -- row c behind its wire, beside those after it
    pub below_step : {all : Hung} → all ≡ beside_hung own later → all ≡ hung_below rows due types words n c
    unfolding hung_below hung_own
    below_step e =
        let t = under-taken net (get_or net c no_row).parent c (rw long inside) refl in
        e ∙ ap₂ beside_hung own-by (later-is ∙ below_is (get_or net c no_row).parent (c + 1) next (next-child c some inside next-is))
        ∙ sym (hung-beside (table_types types) (marks words) (wired (wire_of (get_or net c no_row)) (seen_at net c)) (under net (get_or net c no_row).parent (c + 1)))
        ∙ ap (hung_of (table_types types) (marks words)) (sym t)

    -- which is in its ranges
    pub beside-needs : Within (beside_hung own later)
    unfolding hung_below
    beside-needs = rw (below_step refl) (R.sound.under_in (get_or net c no_row).parent c (R.sound.earlier c some (rw long inside)))

  module _ (i : ℕ) {x : Row} {below : Hung} {k : ℕ} (inside : i < n) (x-is : x ≡ row_at rows due i) (below_by : below ≡ hung_below rows due types words n (get_or links i 0)) (k-is : k ≡ get_or links (sites_at + i) 0) where
    there : get_or net i no_row ≡ x
    there = row_is rows due n i x inside x-is

    number : k ≡ sites_before net i
    number = k-is ∙ R.linked.sites i (rw long inside)

    hanging : below ≡ hung_of (table_types types) (marks words) (under net i (i + 1))
    hanging = below_by ∙ below_is i (i + 1) (get_or links i 0) (first-child i inside refl)

    -- what the site of row i needs
    pub site-needs : {driven : Hung} → driven ≡ start_hung x.kind below → x.site ≡ true → Siting types words k driven
    site-needs e s = record {
      types_long = R.sound.types_long;
      words_long = R.sound.words_long;
      inside = rw e (start-in x.kind below (rw there at (R.sound.row_in i inside).kind) (rw hanging (R.sound.under_in i (i + 1) (omega arith))));
      site = omega (arith, number, R.sound.sites_few, site-number net i (rw long inside) (rw there s));
      mark = R.sound.mark k;
      known = R.sound.known k;
    }

    -- the pin of row i, or what hangs under it, with its repeater
    pub seen_step : {driven there : Hung} → driven ≡ start_hung x.kind below → there ≡ site_hung (table_types types) x.site (marks words k) driven → there ≡ hung_at rows due types words n i
    unfolding hung_at seen_at
    seen_step e f = rw (f, e, hanging, number, ← there) (sym (hung-seen (table_types types) (marks words) (get_or net i no_row).site (get_or net i no_row).kind (sites_before net i) (under net i (i + 1))))
