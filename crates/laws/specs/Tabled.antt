-- Tables that are not refused: their types and rows are those that the words state, each read by its place. Assumes nothing.
use Rattle.std.specs.Prelude.{◌≡◌, true, false, ◌&&◌, List, [], ◌∷◌, ◌++◌, eqb, ltb, T, ℤ, pos, length, get_or}
use Rattle.std.proofs.Math.Path.{refl, ap}
use Rattle.std.proofs.Common.{ap₂, ◌∙◌, arith, eqb→eq, ltb-false}
use Rattle.std.proofs.Math.Bool.{Bool, cond}
use Rattle.std.proofs.Math.Option.{Option, none, some, or_else}
use Prim.Native.Nat.{ℕ, zero, suc, ◌+◌, ◌*◌, ◌≤◌, ◌<◌, min}
use Rattle.rules.specs.declared.Kind.{Kind}
use Rattle.rules.specs.declared.Kind.TheVariants.{Driver, Point, Sink}
use Rattle.rules.specs.declared.Row.{Row}
use Rattle.rules.specs.Quantities.{types_room, rows_room}
use Rattle.rules.specs.Entries.{Entry, type, driver, point, sink, malformed, beyond, Repeater, types_of, rows_of, row_of}
use Rattle.rules.specs.Tables.{Tables, Counts, words_a_type, words_a_row, type_entry, row_by, row_entry, from, counted, table_entries, is_zero, type_resistance, type_own, row_parent, row_resistance, row_capacitance, row_site, row_pin, driver_kind, point_kind}
use Rattle.rules.specs.Refusals.{refusal_of, first_refusal, line_refusal, misplaced, out_of_range, too_many}

-- by its number a driver, a plain point, else a sink
unfoldable pub kind_of : (kind pin : ℕ) (due : ℤ) → Kind
kind_of kind pin due = cond (eqb kind driver_kind) Driver (cond (eqb kind point_kind) Point (Sink (record { load = record { 0 = pin }; due = record { 0 = due } })))

-- row i of the words
unfoldable pub row_at : List ℕ → List ℤ → (i : ℕ) → Row
row_at words due i =
    row_of (get_or words (words_a_row * i + row_parent) 0) (get_or words (words_a_row * i + row_resistance) 0) (get_or words (words_a_row * i + row_capacitance) 0) (get_or words (words_a_row * i + row_site) 0)
    (kind_of (get_or words (words_a_row * i + 0) 0) (get_or words (words_a_row * i + row_pin) 0) (get_or due i (pos 0)))

-- n rows from row i on
unfoldable pub rows_from : List ℕ → List ℤ → (i n : ℕ) → List Row
rows_from words due i zero = []
rows_from words due i (suc n) = row_at words due i ∷ rows_from words due (i + 1) n

-- type i of the words, and n types from type i on
unfoldable pub repeater_at : List ℕ → (i : ℕ) → Repeater
repeater_at words i = record { input = get_or words (words_a_type * i) 0; resistance = get_or words (words_a_type * i + type_resistance) 0; own = get_or words (words_a_type * i + type_own) 0 }

unfoldable pub repeaters_from : List ℕ → (i n : ℕ) → List Repeater
repeaters_from words i zero = []
repeaters_from words i (suc n) = repeater_at words i ∷ repeaters_from words (i + 1) n

pub rows-length : (words : List ℕ) (due : List ℤ) (i n : ℕ) → length (rows_from words due i n) ≡ n
unfolding rows_from
rows-length words due i zero = refl
rows-length words due i (suc n) = ap suc (rows-length words due (i + 1) n)

pub rows_at : (words : List ℕ) (due : List ℤ) (d : Row) (i n j : ℕ) → j < n → get_or (rows_from words due i n) j d ≡ row_at words due (i + j)
unfolding rows_from
rows_at words due d i zero j h = absurd (omega arith)
rows_at words due d i (suc n) zero h = let e : i + 0 ≡ i = omega arith in rw e
rows_at words due d i (suc n) (suc j) h = let e : i + suc j ≡ i + 1 + j = omega arith in rw e (rows_at words due d (i + 1) n j (omega arith))

pub repeaters-length : (words : List ℕ) (i n : ℕ) → length (repeaters_from words i n) ≡ n
unfolding repeaters_from
repeaters-length words i zero = refl
repeaters-length words i (suc n) = ap suc (repeaters-length words (i + 1) n)

pub repeaters-at : (words : List ℕ) (d : Repeater) (i n j : ℕ) → j < n → get_or (repeaters_from words i n) j d ≡ repeater_at words (i + j)
unfolding repeaters_from
repeaters-at words d i zero j h = absurd (omega arith)
repeaters-at words d i (suc n) zero h = let e : i + 0 ≡ i = omega arith in rw e
repeaters-at words d i (suc n) (suc j) h = let e : i + suc j ≡ i + 1 + j = omega arith in rw e (repeaters-at words d (i + 1) n j (omega arith))

-- ---- what no refusal says of the entries: each has a form, and none is past the room
abbrev pub Formed : Entry → Type 0
Formed (type input resistance own) = Unit {0}
Formed (driver resistance) = Unit {0}
Formed (point parent resistance capacitance site) = Unit {0}
Formed (sink parent resistance capacitance site pin due) = Unit {0}
Formed malformed = ⊥
Formed beyond = ⊥

abbrev pub AllFormed : List Entry → Type 0
AllFormed [] = Unit {0}
AllFormed (e ∷ es) = Formed e × AllFormed es

never : {A : Type 0} {a : A} → some a ≡ none → ⊥
never e = let z : ◌≡◌ {A = ℕ} 0 1 = cc in omega arith

first-none : {A : Type 0} (a b : Option A) → or_else a b ≡ none → (a ≡ none) × (b ≡ none)
unfolding or_else
first-none none b e = (refl, e)
first-none (some x) b e = absurd (never e)

formed-line : (before : List Entry) (e : Entry) → line_refusal before e ≡ none → Formed e
unfolding line_refusal misplaced out_of_range too_many or_else
formed-line before (type input resistance own) q = tt
formed-line before (driver resistance) q = tt
formed-line before (point parent resistance capacitance site) q = tt
formed-line before (sink parent resistance capacitance site pin due) q = tt
formed-line before malformed q = never q
formed-line before beyond q = never q

pub formed : (before rest : List Entry) → first_refusal before rest ≡ none → AllFormed rest
unfolding first_refusal
formed before [] q = tt
formed before (e ∷ rest) q =
    let h = first-none (line_refusal before e) (first_refusal (before ++ (e ∷ [])) rest) q in
    (formed-line before e h.0, formed (before ++ (e ∷ [])) rest h.1)

formed-left : (es fs : List Entry) → AllFormed (es ++ fs) → AllFormed es
formed-left [] fs a = tt
formed-left (e ∷ es) fs a = (a.0, formed-left es fs a.1)

formed-right : (es fs : List Entry) → AllFormed (es ++ fs) → AllFormed fs
formed-right [] fs a = a
formed-right (e ∷ es) fs a = formed-right es fs a.1

-- as many as are counted are in the room
pub counted-all : (entry : ℕ → Entry) (room count : ℕ) → AllFormed (counted entry room count) → (count ≤ room) × (counted entry room count ≡ from entry 0 count)
unfolding counted
counted-all entry room count a = go (ltb room count) refl a
  where
    nil_end : (es : List Entry) → es ++ [] ≡ es
    nil_end [] = refl
    nil_end (e ∷ es) = ap (λ r. e ∷ r) (nil_end es)

    go : (b : Bool) → ltb room count ≡ b → AllFormed (from entry 0 (min count room) ++ cond b (beyond ∷ []) []) → (count ≤ room) × (from entry 0 (min count room) ++ cond b (beyond ∷ []) [] ≡ from entry 0 count)
    go true e a = absurd (formed-right (from entry 0 (min count room)) (beyond ∷ []) a).0
    go false e a =
        let h : count ≤ room = ltb-false room count e in
        let m : min count room ≡ count = omega arith in
        (h, nil_end (from entry 0 (min count room)) ∙ ap (from entry 0) m)

-- ---- types
types-append : (es fs : List Entry) → types_of (es ++ fs) ≡ types_of es ++ types_of fs
unfolding types_of
types-append [] fs = refl
types-append (type i r o ∷ es) fs = ap (λ l. record { input = i; resistance = r; own = o } ∷ l) (types-append es fs)
types-append (driver r ∷ es) fs = types-append es fs
types-append (point p r c s ∷ es) fs = types-append es fs
types-append (sink p r c s n d ∷ es) fs = types-append es fs
types-append (malformed ∷ es) fs = types-append es fs
types-append (beyond ∷ es) fs = types-append es fs

rows_append : (es fs : List Entry) → rows_of (es ++ fs) ≡ rows_of es ++ rows_of fs
unfolding rows_of
rows_append [] fs = refl
rows_append (type i r o ∷ es) fs = rows_append es fs
rows_append (driver r ∷ es) fs = ap (λ l. row_of 0 r 0 0 Driver ∷ l) (rows_append es fs)
rows_append (point p r c s ∷ es) fs = ap (λ l. row_of p r c s Point ∷ l) (rows_append es fs)
rows_append (sink p r c s n d ∷ es) fs = ap (λ l. row_of p r c s (Sink (record { load = record { 0 = n }; due = record { 0 = d } })) ∷ l) (rows_append es fs)
rows_append (malformed ∷ es) fs = rows_append es fs
rows_append (beyond ∷ es) fs = rows_append es fs

module _ (t : Tables) where
  types-types : (i n : ℕ) → types_of (from (type_entry t) i n) ≡ repeaters_from t.types i n
  unfolding types_of from type_entry repeaters_from repeater_at
  types-types i zero = refl
  types-types i (suc n) = ap (λ l. repeater_at t.types i ∷ l) (types-types (i + 1) n)

  rows-types : (i n : ℕ) → rows_of (from (type_entry t) i n) ≡ []
  unfolding rows_of from type_entry
  rows-types i zero = refl
  rows-types i (suc n) = rows-types (i + 1) n

  -- ---- rows
  both_true : (a b : Bool) → T (a && b) → T a × T b
  both_true true b h = (tt, h)
  both_true false b h = absurd h

  -- an entry of a form is the row of its words
  row_is : (kind parent resistance capacitance site pin : ℕ) (due : ℤ) (es : List Entry) → Formed (row_by kind parent resistance capacitance site pin due)
      → (rows_of (row_by kind parent resistance capacitance site pin due ∷ es) ≡ row_of parent resistance capacitance site (kind_of kind pin due) ∷ rows_of es) × (types_of (row_by kind parent resistance capacitance site pin due ∷ es) ≡ types_of es)
  unfolding row_by rows_of types_of kind_of
  row_is kind parent resistance capacitance site pin due es f = go (eqb kind 0) (eqb kind 1) (eqb kind 2) f
    where
      K : Bool → Bool → Kind
      K a b = cond a Driver (cond b Point (Sink (record { load = record { 0 = pin }; due = record { 0 = due } })))

      E : Bool → Bool → Bool → Entry
      E a b c = cond a (cond (eqb parent 0 && (eqb capacitance 0 && (eqb site 0 && (eqb pin 0 && is_zero due)))) (driver resistance) malformed) (cond b (cond (eqb pin 0 && is_zero due) (point parent resistance capacitance site) malformed) (cond c (sink parent resistance capacitance site pin due) malformed))

      go : (a b c : Bool) → Formed (E a b c) → (rows_of (E a b c ∷ es) ≡ row_of parent resistance capacitance site (K a b) ∷ rows_of es) × (types_of (E a b c ∷ es) ≡ types_of es)
      go true b c f = drives (eqb parent 0 && (eqb capacitance 0 && (eqb site 0 && (eqb pin 0 && is_zero due)))) (λ h. h) f
        where
          drives : (z : Bool) → (T z → T (eqb parent 0 && (eqb capacitance 0 && (eqb site 0 && (eqb pin 0 && is_zero due))))) → Formed (cond z (driver resistance) malformed)
              → (rows_of (cond z (driver resistance) malformed ∷ es) ≡ row_of parent resistance capacitance site Driver ∷ rows_of es) × (types_of (cond z (driver resistance) malformed ∷ es) ≡ types_of es)
          drives true g f =
              let h = both_true (eqb parent 0) _ (g tt) in
              let k = both_true (eqb capacitance 0) _ h.1 in
              let l = both_true (eqb site 0) _ k.1 in
              let p : parent ≡ 0 = eqb→eq parent 0 h.0 in
              let c : capacitance ≡ 0 = eqb→eq capacitance 0 k.0 in
              let s : site ≡ 0 = eqb→eq site 0 l.0 in
              (rw (p, c, s), refl)
          drives false g f = absurd f
      go false true c f = points (eqb pin 0 && is_zero due) f
        where
          points : (z : Bool) → Formed (cond z (point parent resistance capacitance site) malformed) → (rows_of (cond z (point parent resistance capacitance site) malformed ∷ es) ≡ row_of parent resistance capacitance site Point ∷ rows_of es) × (types_of (cond z (point parent resistance capacitance site) malformed ∷ es) ≡ types_of es)
          points true f = (refl, refl)
          points false f = absurd f
      go false false true f = (refl, refl)
      go false false false f = absurd f

  rows-rows : (i n : ℕ) → AllFormed (from (row_entry t) i n) → (rows_of (from (row_entry t) i n) ≡ rows_from t.rows t.due i n) × (types_of (from (row_entry t) i n) ≡ [])
  unfolding from row_entry rows_from row_at rows_of types_of
  rows-rows i zero a = (refl, refl)
  rows-rows i (suc n) a =
      let h = row_is (get_or t.rows (words_a_row * i + 0) 0) (get_or t.rows (words_a_row * i + row_parent) 0) (get_or t.rows (words_a_row * i + row_resistance) 0) (get_or t.rows (words_a_row * i + row_capacitance) 0) (get_or t.rows (words_a_row * i + row_site) 0) (get_or t.rows (words_a_row * i + row_pin) 0) (get_or t.due i (pos 0)) (from (row_entry t) (i + 1) n) a.0 in
      let k = rows-rows (i + 1) n a.1 in
      (h.0 ∙ ap (λ l. row_at t.rows t.due i ∷ l) k.0, h.1 ∙ k.1)

-- tables that are not refused have the types and rows of their words
pub record Tabled (t : Tables) (n : Counts) : Type 0 where
  pub types_few : n.types ≤ types_room
  pub rows_few : n.rows ≤ rows_room
  pub types_are : types_of (table_entries t n) ≡ repeaters_from t.types 0 n.types
  pub rows_are : rows_of (table_entries t n) ≡ rows_from t.rows t.due 0 n.rows

pub tabled : (t : Tables) (n : Counts) → refusal_of (table_entries t n) ≡ none → Tabled t n
unfolding refusal_of table_entries
tabled t n e =
    let a = formed [] (table_entries t n) e in
    let ts = counted (type_entry t) types_room n.types in
    let rs = counted (row_entry t) rows_room n.rows in
    let h = counted-all (type_entry t) types_room n.types (formed-left ts rs a) in
    let k = counted-all (row_entry t) rows_room n.rows (formed-right ts rs a) in
    let r = rows-rows t 0 n.rows (rw k.1 at (formed-right ts rs a)) in
    record {
      types_few = h.0;
      rows_few = k.0;
      types_are = types-append ts rs ∙ ap₂ ◌++◌ (ap types_of h.1 ∙ types-types t 0 n.types) (ap types_of k.1 ∙ r.1) ∙ nil_end (repeaters_from t.types 0 n.types);
      rows_are = rows_append ts rs ∙ ap₂ ◌++◌ (ap rows_of h.1 ∙ rows-types t 0 n.types) (ap rows_of k.1 ∙ r.0);
    }
  where
    nil_end : (es : List Repeater) → es ++ [] ≡ es
    nil_end [] = refl
    nil_end (e ∷ es) = ap (λ r. e ∷ r) (nil_end es)
