-- What one line more adds to a net that was not refused so far, and so what the types and rows are made of when no line is. Assumes
-- nothing.
use Rattle.std.specs.Prelude.{◌≡◌, refl, Bool, true, false, not, List, [], ◌∷◌, ◌++◌, ℕ, ◌≤◌, ◌<◌, T, leb, ltb, eqb, length, ◌≤ℤ◌}
use Rattle.std.proofs.Common.{append-nil, nltb→le}
use Rattle.std.proofs.Math.Option.{Option, none, some, some-ne-none, or_else}
use Rattle.std.proofs.Math.Dec.{nleb→lt}
use Rattle.std.proofs.Math.Seq.{append_snoc}
use Rattle.std.specs.Int.Signed.{lt_z, lt_z_no}
use Rattle.rules.specs.declared.Kind.{Kind}
use Rattle.rules.specs.declared.Kind.TheVariants.{Driver, Point, Sink}
use Rattle.rules.specs.declared.Refusal.{Refusal}
use Rattle.rules.specs.declared.Row.{Row}
use Rattle.rules.specs.Quantities.{most_ohms, most_femtofarads, most_own, earliest_due, latest_due, most_parent, types_room, rows_room, sites_room}
use Rattle.rules.specs.Entries.{Entry, type, driver, point, sink, malformed, beyond, Repeater, types_of, rows_of, row_of, sites_of}
use Rattle.rules.specs.Refusals.{some?, misplaced, wire_out, out_of_range, row_too_many, too_many, no_parent, orphan, line_refusal, last_refusal, first_refusal, refusal_of}
use Rattle.laws.specs.Tests.{not-or, not-and, not-not, passes, passed}
use Rattle.laws.specs.Ranges.{RepeaterInRange}

-- ---- ranges
abbrev pub is_driver : Kind → Bool
is_driver Driver = true
is_driver Point = false
is_driver (Sink pin) = false

-- only a sink has numbers
abbrev pub KindIn : Kind → Type 0
KindIn Driver = Unit {0}
KindIn Point = Unit {0}
KindIn (Sink pin) = (pin.load.0 ≤ most_femtofarads) × (earliest_due ≤ℤ pin.due.0) × (pin.due.0 ≤ℤ latest_due)

-- a row's numbers are in their ranges
pub record RowIn (x : Row) : Type 0 where
  pub parent : x.parent ≤ most_parent
  pub resistance : x.resistance.0 ≤ most_ohms
  pub capacitance : x.capacitance.0 ≤ most_femtofarads
  pub kind : KindIn x.kind

-- the driver's row
unfoldable pub driver_row : (resistance : ℕ) → Row
driver_row resistance = row_of 0 resistance 0 0 Driver

-- what a row after `rows` is
pub record Further (rows : List Row) (x : Row) : Type 0 where
  pub driven : T (some? rows)
  pub kind : T (not (is_driver x.kind))
  pub inside : RowIn x
  pub few : length rows < rows_room
  pub sites : T x.site → sites_of rows < sites_room
  pub parent : T (not (no_parent rows x.parent))

-- types and rows, as the lines add them
pub data Taken : List Repeater → List Row → Type 0 where
  nothing : Taken [] []
  a_type : {types : List Repeater} {rows : List Row} {x : Repeater} → Taken types rows → RepeaterInRange x → length types < types_room → Taken (types ++ (x ∷ [])) rows
  the_driver : {types : List Repeater} {resistance : ℕ} → Taken types [] → resistance ≤ most_ohms → Taken types (driver_row resistance ∷ [])
  a_row : {types : List Repeater} {rows : List Row} {x : Row} → Taken types rows → Further rows x → Taken types (rows ++ (x ∷ []))

-- ---- the lines
types_of-append : (a b : List Entry) → types_of (a ++ b) ≡ types_of a ++ types_of b
unfolding types_of
types_of-append [] b = refl
types_of-append (type input resistance own ∷ a) b = rw (types_of-append a b)
types_of-append (driver resistance ∷ a) b = types_of-append a b
types_of-append (point parent resistance capacitance site ∷ a) b = types_of-append a b
types_of-append (sink parent resistance capacitance site pin due ∷ a) b = types_of-append a b
types_of-append (malformed ∷ a) b = types_of-append a b
types_of-append (beyond ∷ a) b = types_of-append a b

rows_of-append : (a b : List Entry) → rows_of (a ++ b) ≡ rows_of a ++ rows_of b
unfolding rows_of
rows_of-append [] b = refl
rows_of-append (type input resistance own ∷ a) b = rows_of-append a b
rows_of-append (driver resistance ∷ a) b = rw (rows_of-append a b)
rows_of-append (point parent resistance capacitance site ∷ a) b = rw (rows_of-append a b)
rows_of-append (sink parent resistance capacitance site pin due ∷ a) b = rw (rows_of-append a b)
rows_of-append (malformed ∷ a) b = rows_of-append a b
rows_of-append (beyond ∷ a) b = rows_of-append a b

-- none of the four of a line
pub record Fine (before : List Entry) (e : Entry) : Type 0 where
  pub placed : T (not (misplaced (some? (rows_of before)) e))
  pub inside : T (not (out_of_range e))
  pub few : T (not (too_many before e))
  pub parent : T (not (orphan before e))

pub fine : (before : List Entry) (e : Entry) → line_refusal before e ≡ none → Fine before e
unfolding line_refusal
fine before e h =
    let (a, h) = passes (misplaced (some? (rows_of before)) e) _ _ h in
    let (b, h) = passes (out_of_range e) _ _ h in
    let (c, h) = passes (too_many before e) _ _ h in
    record { placed = a; inside = b; few = c; parent = passed (orphan before e) _ h }

no_rows : (rows : List Row) → T (not (some? rows)) → rows ≡ []
no_rows [] h = refl
no_rows (x ∷ rows) h = absurd h

further : (rows : List Row) (parent resistance capacitance site : ℕ) (kind : Kind) → T (some? rows) → T (not (is_driver kind)) → KindIn kind → T (not (wire_out parent resistance capacitance site)) → T (not (row_too_many rows site)) → T (not (no_parent rows parent)) → Further rows (row_of parent resistance capacitance site kind)
unfolding row_of
further rows parent resistance capacitance site kind driven later inside out many under =
    let (a, out) = not-or (ltb most_parent parent) _ out in
    let (b, out) = not-or (ltb most_ohms resistance) _ out in
    let (c, out) = not-or (ltb most_femtofarads capacitance) _ out in
    let (d, many) = not-or (leb rows_room (length rows)) _ many in
    record {
      driven = driven;
      kind = later;
      inside = record { parent = nltb→le most_parent parent a; resistance = nltb→le most_ohms resistance b; capacitance = nltb→le most_femtofarads capacitance c; kind = inside };
      few = nleb→lt rows_room (length rows) d;
      sites = λ t. nleb→lt sites_room (sites_of rows) (not-and (eqb site 1) _ many t);
      parent = under;
    }

one_more : (before : List Entry) (e : Entry) → Fine before e → Taken (types_of before) (rows_of before) → Taken (types_of before ++ types_of (e ∷ [])) (rows_of before ++ rows_of (e ∷ []))
unfolding types_of rows_of misplaced out_of_range too_many orphan driver_row
one_more before (type input resistance own) f t =
    let (a, out) = not-or (ltb most_femtofarads input) _ f.inside in
    let (b, c) = not-or (ltb most_ohms resistance) _ out in
    rw append-nil (a_type t (record { input = nltb→le most_femtofarads input a; resistance = nltb→le most_ohms resistance b; own = nltb→le most_own own c }) (nleb→lt types_room _ f.few))
one_more before (driver resistance) f t = let e = no_rows (rows_of before) f.placed in rw (append-nil, e) (the_driver (rw e at t) (nltb→le most_ohms resistance f.inside))
one_more before (point parent resistance capacitance site) f t = rw append-nil (a_row t (further (rows_of before) parent resistance capacitance site Point (not-not (some? (rows_of before)) f.placed) tt tt f.inside f.few f.parent))
one_more before (sink parent resistance capacitance site pin due) f t =
    let (wires, out) = not-or (wire_out parent resistance capacitance site) _ f.inside in
    let (a, out) = not-or (ltb most_femtofarads pin) _ out in
    let (b, c) = not-or (lt_z due earliest_due) _ out in
    rw append-nil (a_row t (further (rows_of before) parent resistance capacitance site (Sink (record { load = record { 0 = pin }; due = record { 0 = due } })) (not-not (some? (rows_of before)) f.placed) tt (nltb→le most_femtofarads pin a, lt_z_no b, lt_z_no c) wires f.few f.parent))
one_more before malformed f t = absurd f.placed
one_more before beyond f t = absurd f.few

walked : (before rest : List Entry) → first_refusal before rest ≡ none → Taken (types_of before) (rows_of before) → Taken (types_of (before ++ rest)) (rows_of (before ++ rest)) × (last_refusal (before ++ rest) ≡ none)
unfolding first_refusal or_else
walked before [] h t = rw append-nil (t, h)
walked before (e ∷ rest) h t =
    let (l, h) = go (line_refusal before e) refl h in
    rw (← append_snoc before e rest) (walked (before ++ (e ∷ [])) rest h (rw (types_of-append, rows_of-append) (one_more before e (fine before e l) t)))
  where
    go : (o : Option Refusal) → line_refusal before e ≡ o → or_else o (first_refusal (before ++ (e ∷ [])) rest) ≡ none → (line_refusal before e ≡ none) × (first_refusal (before ++ (e ∷ [])) rest ≡ none)
    go none l h = (l, h)
    go (some r) l h = absurd (some-ne-none r h)

-- a net that is not refused is made so, and nothing is wrong after its last line
pub taken : (es : List Entry) → refusal_of es ≡ none → Taken (types_of es) (rows_of es) × (last_refusal es ≡ none)
unfolding refusal_of types_of rows_of
taken es h = walked [] es h nothing
