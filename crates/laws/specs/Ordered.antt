-- The order of entries that are not refused: first the types, then the driver and the rows, and a site field is 0 or 1. Assumes nothing.
use Rattle.std.specs.Prelude.{◌≡◌, refl, not, List, [], ◌∷◌, ◌++◌, ℕ, ◌≤◌, T, ltb, ℤ}
use Rattle.std.proofs.Common.{ap, ◌∙◌, sym, append-nil, append_assoc, nltb→le}
use Rattle.std.proofs.Math.Option.{none}
use Rattle.std.proofs.Math.Seq.{append_snoc}
use Rattle.rules.specs.Lists.{All, nil, cons}
use Rattle.rules.specs.Quantities.{most_parent, most_ohms, most_femtofarads, most_site}
use Rattle.rules.specs.Entries.{Entry, type, driver, point, sink, malformed, beyond, types_of, rows_of}
use Rattle.rules.specs.Refusals.{some?, misplaced, wire_out, out_of_range, too_many, line_refusal, first_refusal, refusal_of}
use Rattle.laws.specs.Tests.{not-or, none_both}
use Rattle.laws.specs.Lists.{all-++}
use Rattle.laws.specs.Taken.{Fine, fine}

pub data IsType : Entry → Type 0 where
  of_type : (input resistance own : ℕ) → IsType (type input resistance own)

pub data IsRow : Entry → Type 0 where
  of_driver : (resistance : ℕ) → IsRow (driver resistance)
  of_point : (parent resistance capacitance site : ℕ) → site ≤ 1 → IsRow (point parent resistance capacitance site)
  of_sink : (parent resistance capacitance site pin : ℕ) (due : ℤ) → site ≤ 1 → IsRow (sink parent resistance capacitance site pin due)

pub record Ordered (es : List Entry) : Type 0 where
  pub types : List Entry
  pub rows : List Entry
  pub are : es ≡ types ++ rows
  pub types_are : All IsType types
  pub rows_are : All IsRow rows

-- ---- what stands apart
pub types-apart : (ts rs : List Entry) → All IsType ts → All IsRow rs → types_of (ts ++ rs) ≡ types_of ts
unfolding types_of
types-apart [] [] a b = refl
types-apart [] (_ ∷ rs) a (cons (of_driver r) b) = types-apart [] rs a b
types-apart [] (_ ∷ rs) a (cons (of_point p r c s h) b) = types-apart [] rs a b
types-apart [] (_ ∷ rs) a (cons (of_sink p r c s n d h) b) = types-apart [] rs a b
types-apart (_ ∷ ts) rs (cons (of_type i r o) a) b = rw (types-apart ts rs a b)

pub rows_apart : (ts rs : List Entry) → All IsType ts → rows_of (ts ++ rs) ≡ rows_of rs
unfolding rows_of
rows_apart [] rs a = refl
rows_apart (_ ∷ ts) rs (cons (of_type i r o) a) = rows_apart ts rs a

no_rows : (rs : List Entry) → All IsRow rs → T (not (some? (rows_of rs))) → rs ≡ []
unfolding rows_of
no_rows [] b h = refl
no_rows (_ ∷ rs) (cons (of_driver r) b) h = absurd h
no_rows (_ ∷ rs) (cons (of_point p r c s k) b) h = absurd h
no_rows (_ ∷ rs) (cons (of_sink p r c s n d k) b) h = absurd h

-- ---- one more line
-- a type, where no row stands before it
more-types : (before : List Entry) (e : Entry) → Ordered before → T (not (some? (rows_of before))) → IsType e → Ordered (before ++ (e ∷ []))
more-types before e o h k =
    let none_yet = no_rows o.rows o.rows_are (rw (o.are, rows_apart o.types o.rows o.types_are) at h) in
    let only : before ≡ o.types = o.are ∙ ap (λ (l : List Entry). o.types ++ l) none_yet ∙ append-nil o.types in
    record { types = o.types ++ (e ∷ []); rows = []; are = ap (λ (l : List Entry). l ++ (e ∷ [])) only ∙ sym (append-nil (o.types ++ (e ∷ []))); types_are = all-++ o.types_are (cons k nil); rows_are = nil }

more_rows : (before : List Entry) (e : Entry) → Ordered before → IsRow e → Ordered (before ++ (e ∷ []))
more_rows before e o k = record { types = o.types; rows = o.rows ++ (e ∷ []); are = ap (λ (l : List Entry). l ++ (e ∷ [])) o.are ∙ append_assoc o.types o.rows (e ∷ []); types_are = o.types_are; rows_are = all-++ o.rows_are (cons k nil) }

site_in : (parent resistance capacitance site : ℕ) → T (not (wire_out parent resistance capacitance site)) → site ≤ 1
site_in parent resistance capacitance site out =
    let (a, out) = not-or (ltb most_parent parent) _ out in
    let (b, out) = not-or (ltb most_ohms resistance) _ out in
    let (c, out) = not-or (ltb most_femtofarads capacitance) _ out in
    nltb→le most_site site out

one_more : (before : List Entry) (e : Entry) → Fine before e → Ordered before → Ordered (before ++ (e ∷ []))
unfolding misplaced out_of_range too_many
one_more before (type i r w) f o = more-types before (type i r w) o f.placed (of_type i r w)
one_more before (driver r) f o = more_rows before (driver r) o (of_driver r)
one_more before (point p r c s) f o = more_rows before (point p r c s) o (of_point p r c s (site_in p r c s f.inside))
one_more before (sink p r c s n d) f o = more_rows before (sink p r c s n d) o (of_sink p r c s n d (site_in p r c s (not-or (wire_out p r c s) _ f.inside).0))
one_more before malformed f o = absurd f.placed
one_more before beyond f o = absurd f.few

walked : (before rest : List Entry) → first_refusal before rest ≡ none → Ordered before → Ordered (before ++ rest)
unfolding first_refusal
walked before [] h o = rw append-nil o
walked before (e ∷ rest) h o =
    let (l, h) = none_both (line_refusal before e) (first_refusal (before ++ (e ∷ [])) rest) h in
    rw (← append_snoc before e rest) (walked (before ++ (e ∷ [])) rest h (one_more before e (fine before e l) o))

-- entries that are not refused are in this order
pub ordered : (es : List Entry) → refusal_of es ≡ none → Ordered es
unfolding refusal_of
ordered es h = walked [] es h (record { types = []; rows = []; are = refl; types_are = nil; rows_are = nil })
