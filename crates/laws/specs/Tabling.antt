-- From text to tables: the tables that a net's entries are written into state the same entries in the same order. Assumes nothing.
use Rattle.std.specs.Prelude.{◌≡◌, refl, cond, ℕ, zero, suc, ◌+◌, ◌*◌, ◌≤◌, min, eqb, ℤ, pos, length}
use Rattle.std.proofs.Common.{sym, ap, ◌∙◌, arith, length-append, get_or-append-add, le-ltb}
use Rattle.std.proofs.Math.Path.{ap₂}
use mathlib.Core.List.{List, [], ◌∷◌, ◌++◌, append-nil, append_assoc}
use Rattle.std.proofs.Math.Option.{none}
use Rattle.std.proofs.Math.ListN.{get_or}
use Rattle.rules.specs.Lists.{All, cons, written}
use Rattle.rules.specs.Quantities.{types_room, rows_room}
use Rattle.rules.specs.Entries.{Entry, type, driver, point, sink, types_of, rows_of, row_of}
use Rattle.rules.specs.Tables.{Tables, type_entry, row_by, row_entry, from, counted, table_entries, is_zero, type_table, row_table, due_table, filled, counts_in}
use Rattle.rules.specs.Refusals.{refusal_of}
use Rattle.laws.specs.Accepted.{accepted}
use Rattle.laws.specs.Ordered.{IsType, of_type, IsRow, of_driver, of_point, of_sink, ordered, types-apart, rows_apart}

-- ---- one entry after a front
-- what is read n places after a front
past : {A : Type 0} (front rest : List A) (d : A) (i n : ℕ) → i ≡ length front + n → get_or (front ++ rest) i d ≡ get_or rest n d
past front rest d i n e = ap (λ (k : ℕ). get_or (front ++ rest) k d) e ∙ get_or-append-add front rest n d

-- types after i others
types-back : (rows : List ℕ) (due : List ℤ) (es : List Entry) (front rest : List ℕ) (i : ℕ) → All IsType es → length front ≡ 3 * i
    → from (type_entry (record { types = front ++ (type_table (types_of es) ++ rest); rows = rows; due = due })) i (length (types_of es)) ≡ es
unfolding from type_entry type_table types_of
types-back rows due [] front rest i a l = refl
types-back rows due (_ ∷ es) front rest i (cons (of_type x y z) a) l =
    let one = x ∷ y ∷ z ∷ [] in
    let more = type_table (types_of es) ++ rest in
    let p = past front (one ++ more) 0 (3 * i) 0 (omega arith) in
    let q = past front (one ++ more) 0 (3 * i + 1) 1 (omega arith) in
    let r = past front (one ++ more) 0 (3 * i + 2) 2 (omega arith) in
    ap₂ {C = List Entry} (λ (e : Entry) (l : List Entry). e ∷ l) (λ k. type (p k) (q k) (r k))
    (ap (λ (w : List ℕ). from (type_entry (record { types = w; rows = rows; due = due })) (i + 1) (length (types_of es))) (sym (append_assoc front one more))
    ∙ types-back rows due es (front ++ one) rest (i + 1) a (omega (arith, length-append front one)))

-- a site field of 0 or 1 as it is written
site-back : (site : ℕ) → site ≤ 1 → cond (eqb site 1) 1 0 ≡ site
site-back zero h = refl
site-back (suc zero) h = refl
site-back (suc (suc site)) h = absurd (omega arith)

-- six words and a required time, after i rows, read as the entry that they state
module _ (types front rest : List ℕ) (times more : List ℤ) (i : ℕ) (words_long : length front ≡ 6 * i) (times_long : length times ≡ i) (e : Entry) (kind parent resistance capacitance site pin : ℕ) (due : ℤ) (states : row_by kind parent resistance capacitance site pin due ≡ e) where
  abbrev words : List ℕ
  words = kind ∷ parent ∷ resistance ∷ capacitance ∷ site ∷ pin ∷ []

  abbrev here : Tables
  here = record { types = types; rows = front ++ (words ++ rest); due = times ++ (due ∷ more) }

  row_back : row_entry here i ≡ e
  unfolding row_entry
  row_back =
      let word : (w : ℕ) → get_or here.rows (6 * i + w) 0 ≡ get_or (words ++ rest) w 0 = λ w. past front (words ++ rest) 0 (6 * i + w) w (omega arith) in
      let time = past times (due ∷ more) (pos 0) i 0 (omega arith) in
      let same : row_entry here i ≡ row_by kind parent resistance capacitance site pin due = λ k. row_by (word 0 k) (word 1 k) (word 2 k) (word 3 k) (word 4 k) (word 5 k) (time k) in
      same ∙ states

  -- and the rows after it
  row-then : (es : List Entry) (n : ℕ) → from (row_entry (record { types = types; rows = (front ++ words) ++ rest; due = (times ++ (due ∷ [])) ++ more })) (i + 1) n ≡ es → from (row_entry here) i (suc n) ≡ e ∷ es
  unfolding from
  row-then es n k =
      ap₂ {C = List Entry} (λ (x : Entry) (xs : List Entry). x ∷ xs) row_back
      (ap₂ (λ (w : List ℕ) (d : List ℤ). from (row_entry (record { types = types; rows = w; due = d })) (i + 1) n) (sym (append_assoc front words rest)) (sym (append_assoc times (due ∷ []) more)) ∙ k)

-- rows after i others
rows_back : (types : List ℕ) (es : List Entry) (front rest : List ℕ) (times more : List ℤ) (i : ℕ) → All IsRow es → length front ≡ 6 * i → length times ≡ i
    → from (row_entry (record { types = types; rows = front ++ (row_table (rows_of es) ++ rest); due = times ++ (due_table (rows_of es) ++ more) })) i (length (rows_of es)) ≡ es
unfolding row_table due_table rows_of row_of from row_by is_zero
rows_back types [] front rest times more i a l m = refl
rows_back types (_ ∷ es) front rest times more i (cons (of_driver r) a) l m =
    let words : List ℕ = 0 ∷ 0 ∷ r ∷ 0 ∷ 0 ∷ 0 ∷ [] in
    row-then types front (row_table (rows_of es) ++ rest) times (due_table (rows_of es) ++ more) i l m (driver r) 0 0 r 0 0 0 (pos 0) refl es (length (rows_of es))
    (rows_back types es (front ++ words) rest (times ++ (pos 0 ∷ [])) more (i + 1) a (omega (arith, length-append front words)) (omega (arith, length-append times (pos 0 ∷ []))))
rows_back types (_ ∷ es) front rest times more i (cons (of_point p r c s h) a) l m =
    let site : ℕ = cond (eqb s 1) 1 0 in
    let words : List ℕ = 1 ∷ p ∷ r ∷ c ∷ site ∷ 0 ∷ [] in
    row-then types front (row_table (rows_of es) ++ rest) times (due_table (rows_of es) ++ more) i l m (point p r c s) 1 p r c site 0 (pos 0) (ap (λ (k : ℕ). point p r c k) (site-back s h)) es (length (rows_of es))
    (rows_back types es (front ++ words) rest (times ++ (pos 0 ∷ [])) more (i + 1) a (omega (arith, length-append front words)) (omega (arith, length-append times (pos 0 ∷ []))))
rows_back types (_ ∷ es) front rest times more i (cons (of_sink p r c s n d h) a) l m =
    let site : ℕ = cond (eqb s 1) 1 0 in
    let words : List ℕ = 2 ∷ p ∷ r ∷ c ∷ site ∷ n ∷ [] in
    row-then types front (row_table (rows_of es) ++ rest) times (due_table (rows_of es) ++ more) i l m (sink p r c s n d) 2 p r c site n d (ap (λ (k : ℕ). sink p r c k n d) (site-back s h)) es (length (rows_of es))
    (rows_back types es (front ++ words) rest (times ++ (d ∷ [])) more (i + 1) a (omega (arith, length-append front words)) (omega (arith, length-append times (d ∷ []))))

-- ---- the whole
-- as many as are in the room are all read
counted-in : (entry : ℕ → Entry) (room count : ℕ) → count ≤ room → counted entry room count ≡ from entry 0 count
unfolding counted
counted-in entry room count h =
    let all : min count room ≡ count = omega arith in
    rw (le-ltb room count h, all) (append-nil (from entry 0 count))

both-back : (ts rs : List Entry) (t : Tables) → All IsType ts → All IsRow rs → length (types_of (ts ++ rs)) ≤ types_room → length (rows_of (ts ++ rs)) ≤ rows_room → table_entries (filled (ts ++ rs) t) (counts_in (ts ++ rs)) ≡ ts ++ rs
unfolding table_entries filled written
both-back ts rs t a b h k =
    let f = filled (ts ++ rs) t in
    let p : from (type_entry f) 0 (length (types_of (ts ++ rs))) ≡ ts = rw (types-apart ts rs a b) (types-back _ _ ts [] _ 0 a refl) in
    let q : from (row_entry f) 0 (length (rows_of (ts ++ rs))) ≡ rs = rw (rows_apart ts rs a) (rows_back _ rs [] _ [] _ 0 b refl refl) in
    ap₂ ◌++◌ (counted-in (type_entry f) types_room (length (types_of (ts ++ rs))) h ∙ p) (counted-in (row_entry f) rows_room (length (rows_of (ts ++ rs))) k ∙ q)

-- entries that are not refused, written into tables, whatever stood there and however long they are, are what the tables state
pub tables-back : (es : List Entry) (t : Tables) → refusal_of es ≡ none → table_entries (filled es t) (counts_in es) ≡ es
tables-back es t h =
    let o = ordered es h in
    let k = accepted es h in
    rw o.are (both-back o.types o.rows t o.types_are o.rows_are (rw o.are at k.types_few) (rw o.are at k.rows_few))
