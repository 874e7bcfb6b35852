-- From what was made at a row to the promise of `list_records`, refused or not. Assumes nothing.
use Rattle.std.specs.Prelude.{◌≡◌, Bool, true, false, cond, ◌||◌, ℕ, zero, suc, ◌+◌, ◌≤◌, ◌<◌, ltb, leb, ℤ, length, take, Result, Ok, Err}
use Rattle.std.proofs.Math.Path.{refl, ap}
use Rattle.std.proofs.Common.{sym, ◌∙◌, arith}
use mathlib.Core.List.{List, [], ◌∷◌, ◌++◌, map}
use Rattle.std.proofs.Math.Option.{some, or_else}
use Rattle.std.proofs.Math.ListN.{replicate}
use Rattle.std.proofs.lemmas.List.{length-map}
use borrow.Author.Tests.{ltb-false, leb-false, le-ltb, lt-leb}
use Rattle.rules.specs.declared.Net.{Net}
use Rattle.rules.specs.declared.Refusal.{Refusal}
use Rattle.rules.specs.declared.Refusal.TheVariants.{Short, NoRow}
use Rattle.rules.specs.declared.Row.{Row}
use Rattle.rules.specs.Lists.{written}
use Rattle.rules.specs.Quantities.{list_room, work_room}
use Rattle.rules.specs.Entries.{Repeater}
use Rattle.rules.specs.Pairs.{Pair}
use Rattle.rules.specs.Answers.{list_figures}
use Rattle.rules.specs.Promises.{CheckPromise, list_refusal, ListOf, ListPromise, tabled}
use Rattle.laws.specs.Candidates.{Front}
use Rattle.laws.specs.Method.{Reaches}
use Rattle.laws.specs.Listing.{pair_of, front-pairs}
use Rattle.laws.proofs.Listing.{listed-length}
use Rattle.laws.specs.Walk.{seen_at, at_row-seen}
use Rattle.laws.specs.Tabled.{rows_from, rows-length, repeaters_from}
use Rattle.laws.specs.Checked.{Passed, passed-own, short-own, checked-stopped, checked-passed}
use Rattle.rows.specs.Given.{held}
use Rattle.columns.specs.Parts.{part, part_length}
use Rattle.columns.specs.Run.{Candidate}
use Rattle.clearing.specs.Clearing.{cleared-written}
use Rattle.chosen.specs.Promised.{entries_of, tree, tree-row, made-few}
use Rattle.rules.specs.declared.Cand.{Cand}
use Rattle.rules.specs.Areas.{short_lent, zeros, records, lent_of, list_areas}
use Rattle.rules.specs.Tables.{tables_of, counts_of}
use Rattle.turns.specs.declared.Pass.{Pass}
use Rattle.values.specs.Records.{cands}
use Rattle.copying.specs.Copied.{copied, loads_of, times_of}
use Rattle.runs.specs.Cands.{cands-length}
use Rattle.runs.specs.Passes.{Safe, over, Swept}
use Rattle.runs.specs.Puts.{puts_none}
use Rattle.sights.specs.Hanging.{Seen}
use Rattle.records.specs.Entries.{is_accepted, same-safe, same-swept}
use Rattle.records.specs.Planning.{same-refusal, clear-safe, clear-done}
use Rattle.records.specs.Listings.{clear_of, answer_of, RowVerdict, ListVerdict, ListVerdictIn, MakesIf, SeenIf, ClearsIf, ClearedIf, Lists, ListsIf, ListedIf}

copied-written : {A : Type 0} (len : ℕ) (from to new : List A) → take len from ≡ new → length new ≡ len → copied len from to ≡ written new to
unfolding written
copied-written len from to new e f = rw (e, ← f)

pair-loads : (len : ℕ) (v : List Cand) → take len (loads_of v) ≡ map (λ (c : Pair). c.load) (map pair_of (take len (cands v)))
unfolding pair_of
pair-loads zero v = refl
pair-loads (suc len) [] = refl
pair-loads (suc len) (x ∷ v) = ap (λ l. x.load.0 ∷ l) (pair-loads len v)

pair-times : (len : ℕ) (v : List Cand) → take len (times_of v) ≡ map (λ (c : Pair). c.time) (map pair_of (take len (cands v)))
unfolding pair_of
pair-times zero v = refl
pair-times (suc len) [] = refl
pair-times (suc len) (x ∷ v) = ap (λ l. x.time.0 ∷ l) (pair-times len v)

part-take : (len : ℕ) (w : List Candidate) → part 0 len w ≡ take len w
unfolding part
part-take len w = refl

clash : false ≡ true → ⊥
clash e = let z : ◌≡◌ {A = ℕ} 0 1 = cc in omega arith

differ : (r : Refusal) → ◌≡◌ {A = Result (Unit {0}) Refusal} (Ok tt) (Err r) → ⊥
differ r e = clash (sym (ap is_accepted e))

module _ (ts ws : List ℕ) (ds : List ℤ) (count n row : ℕ) (lls : List ℕ) (lts : List ℤ) (w : List Cand) where
  fine : (c : Result (Unit {0}) Refusal) → ListVerdict ts ws ds count n row (length lls) (length lts) (length w) c → c ≡ Ok tt → Lists ws ds ts count n row w lls lts
  fine c judged e = go (ltb (length lls) list_room) (ltb (length lts) list_room) (ltb (length w) work_room) (ltb-false (length lls) list_room) (ltb-false (length lts) list_room) (ltb-false (length w) work_room) judged
    where
      no : (r : Refusal) → c ≡ Err r → ⊥
      no r f = differ r (sym e ∙ f)

      there : (b : Bool) → (b ≡ false → row < n) → c ≡ cond b (Err NoRow) (Ok tt) → row < n
      there true f k = absurd (no NoRow k)
      there false f k = f refl

      last : (checked : Result (Unit {0}) Refusal) → CheckPromise (tabled (tables_of ts ws ds) (counts_of count n)) checked → RowVerdict ts ws ds count n row checked c → Passed (tables_of ts ws ds) (counts_of count n) × (row < n)
      last (Err r) p k = absurd (no r k)
      last (Ok u) p k = (checked-passed (tables_of ts ws ds) (counts_of count n) (Ok tt) p refl, there (leb n row) (leb-false n row) k)

      go : (a b d : Bool) → (a ≡ false → list_room ≤ length lls) → (b ≡ false → list_room ≤ length lts) → (d ≡ false → work_room ≤ length w)
          → cond a (c ≡ Err Short) (cond b (c ≡ Err Short) (cond d (c ≡ Err Short) ((checked : Result (Unit {0}) Refusal) × CheckPromise (tabled (tables_of ts ws ds) (counts_of count n)) checked × RowVerdict ts ws ds count n row checked c))) → Lists ws ds ts count n row w lls lts
      go true b d f g h k = absurd (no Short k)
      go false true d f g h k = absurd (no Short k)
      go false false true f g h k = absurd (no Short k)
      go false false false f g h k = let q = last k.0 k.1 k.2 in record { loads = f refl; times = g refl; makes = record { passed = q.0; inside = q.1; long = h refl } }

  -- what is refused, in its order
  stopped : (c : Result (Unit {0}) Refusal) → ListVerdict ts ws ds count n row (length lls) (length lts) (length w) c → (r : Refusal) → c ≡ Err r → list_refusal (short_lent (lent_of lls lts) || records.short w) (tabled (tables_of ts ws ds) (counts_of count n)) row ≡ some r
  unfolding list_refusal short_lent records or_else
  stopped c judged r e = go (ltb (length lls) list_room) (ltb (length lts) list_room) (ltb (length w) work_room) judged
    where
      short : c ≡ Err Short → r ≡ Short
      short f = same-refusal (sym e ∙ f)

      there : (b : Bool) → c ≡ cond b (Err NoRow) (Ok tt) → (b ≡ true) × (r ≡ NoRow)
      there true k = (refl, same-refusal (sym e ∙ k))
      there false k = absurd (differ r (sym k ∙ e))

      last : (checked : Result (Unit {0}) Refusal) → CheckPromise (tabled (tables_of ts ws ds) (counts_of count n)) checked → RowVerdict ts ws ds count n row checked c → list_refusal false (tabled (tables_of ts ws ds) (counts_of count n)) row ≡ some r
      last (Err d) p k = rw (checked-stopped (tables_of ts ws ds) (counts_of count n) (Err d) p d refl) (ap some (same-refusal (sym k ∙ e)))
      last (Ok u) p k = let q = there (leb n row) k in rw (passed-own (tables_of ts ws ds) (counts_of count n) (checked-passed (tables_of ts ws ds) (counts_of count n) (Ok tt) p refl), q.0, q.1) refl

      go : (a b d : Bool) → cond a (c ≡ Err Short) (cond b (c ≡ Err Short) (cond d (c ≡ Err Short) ((checked : Result (Unit {0}) Refusal) × CheckPromise (tabled (tables_of ts ws ds) (counts_of count n)) checked × RowVerdict ts ws ds count n row checked c))) → list_refusal ((a || b) || d) (tabled (tables_of ts ws ds) (counts_of count n)) row ≡ some r
      go true b d k = rw (short k, short-own (tables_of ts ws ds) (counts_of count n)) refl
      go false true d k = rw (short k, short-own (tables_of ts ws ds) (counts_of count n)) refl
      go false false true k = rw (short k, short-own (tables_of ts ws ds) (counts_of count n)) refl
      go false false false k = last k.0 k.1 k.2

  pub list-asks : (c : Result (Unit {0}) Refusal) → ListVerdict ts ws ds count n row (length lls) (length lts) (length w) c → ListsIf ws ds ts count n row w lls lts c
  list-asks c judged = by c refl
    where
      by : (d : Result (Unit {0}) Refusal) → c ≡ d → ListsIf ws ds ts count n row w lls lts d
      by (Ok u) e = fine c judged e
      by (Err r) e = tt

  -- ---- step by step
  pub list-makes : (c : Result (Unit {0}) Refusal) → ListsIf ws ds ts count n row w lls lts c → MakesIf ws ds ts count n row w c
  list-makes (Ok u) I = I.makes
  list-makes (Err r) I = tt

  module _ (v : List Cand) (same : length v ≡ length w) (len : ℕ) where
    long : Lists ws ds ts count n row w lls lts → work_room ≤ length v
    long f = rw same f.makes.long

    pub list-few : (c : Result (Unit {0}) Refusal) → ListsIf ws ds ts count n row w lls lts c → SeenIf ws ds ts count n row w v c len → len ≤ list_room
    list-few (Ok u) f s = made-few f.makes.passed row f.makes.inside (cands w) (cands v) (rw (cands-length v) (long f)) len s.made
    list-few (Err r) f s = omega (arith, s.1)

    pub list-places : (c : Result (Unit {0}) Refusal) → ListsIf ws ds ts count n row w lls lts c → SeenIf ws ds ts count n row w v c len → (len ≤ length v) × ((len ≤ length lls) × (len ≤ length lts))
    list-places (Ok u) f s = let h = list-few (Ok tt) f s in (omega (arith, long f, s.made.fits), (omega (arith, f.loads), omega (arith, f.times)))
    list-places (Err r) f s = (omega (arith, s.1), (omega (arith, s.1), omega (arith, s.1)))

    pub list-clears : (c : Result (Unit {0}) Refusal) → ListsIf ws ds ts count n row w lls lts c → ClearsIf v c
    list-clears (Ok u) f = long f
    list-clears (Err r) f = tt

    module _ (s : Seen ws ds ts count n row 0 w v len) (f : Lists ws ds ts count n row w lls lts) where
      abbrev R : List Row
      R = rows_from ws ds 0 n

      abbrev types : List Repeater
      types = repeaters_from ts 0 count

      abbrev P : Passed (tables_of ts ws ds) (counts_of count n)
      P = f.makes.passed

      inside_R : row < length R
      inside_R = rw rows-length f.makes.inside

      front : Front (Reaches types (tree P row f.makes.inside).0) (part 0 len (cands v))
      front =
          let z : 0 + len ≡ len = omega arith in
          let e : seen_at R row ≡ some (tree P row f.makes.inside).0 = sym (at_row-seen R row inside_R) ∙ (tree P row f.makes.inside).1 in
          (rw (e, z) at s.made.shows).front

      counted : length (part 0 len (cands v)) ≡ len
      counted = part_length 0 len (cands v) (rw (cands-length v) (omega (arith, long f, s.made.fits))) ∙ omega arith

      list_of : ListOf (entries_of ts ws ds count n) row (lent_of lls lts) (lent_of (copied len (loads_of v) lls) (copied len (times_of v) lts)) len
      list_of = record {
        tree = (tree P row f.makes.inside).0;
        tree_is = tree-row P row f.makes.inside;
        list = map pair_of (part 0 len (cands v));
        unbeaten = rw (held P).types_are (front-pairs types (tree P row f.makes.inside).0 front);
        few = rw (held P).types_are (listed-length types (tree P row f.makes.inside).0 (tree P row f.makes.inside).2 (map pair_of (part 0 len (cands v))) (front-pairs types (tree P row f.makes.inside).0 front));
        long = sym (length-map (part 0 len (cands v)) pair_of ∙ counted);
        loads = copied-written len (loads_of v) lls _ (rw (part-take len (cands v)) (pair-loads len v)) (rw (length-map, length-map) counted);
        times = copied-written len (times_of v) lts _ (rw (part-take len (cands v)) (pair-times len v)) (rw (length-map, length-map) counted);
      }

  -- ---- the end
  module _ (c : Result (Unit {0}) Refusal) (judged : ListVerdict ts ws ds count n row (length lls) (length lts) (length w) c) (x : List Cand) (lls' : List ℕ) (lts' : List ℤ) (len : ℕ) (I : ListedIf ws ds ts count n row w x lls lls' lts lts' c len) where
    pub list_done : (r : Result ℕ Refusal) → r ≡ answer_of c len → ListPromise records (tabled (tables_of ts ws ds) (counts_of count n)) row (list_areas (lent_of lls lts) w) r (list_areas (lent_of lls' lts') x)
    unfolding ListPromise list_figures list_refusal short_lent records or_else
    list_done r r-is = by c refl I.seen I.cleared
      where
        by : (d : Result (Unit {0}) Refusal) → c ≡ d → SeenIf ws ds ts count n row w I.run d len → ClearedIf I.run x d → ListPromise records (tabled (tables_of ts ws ds) (counts_of count n)) row (list_areas (lent_of lls lts) w) r (list_areas (lent_of lls' lts') x)
        by (Ok u) e s k =
            let f = fine c judged e in
            let clear : x ≡ written (replicate work_room zeros) w = k ∙ ap (λ (l : List Cand). replicate work_room zeros ++ l) s.beyond ∙ cleared-written zeros work_room w in
            rw (r-is, e, I.loads, I.times, le-ltb _ _ f.loads, le-ltb _ _ f.times, le-ltb _ _ f.makes.long, passed-own (tables_of ts ws ds) (counts_of count n) f.makes.passed, lt-leb _ _ f.makes.inside) (len, refl, list_of I.run I.same len s f, clear)
        by (Err d) e s k = rw (r-is, e, stopped c judged d e, I.loads, I.times, s.1, k, s.0) (refl, refl)

-- ---- the room cleared
pub clear-if-safe : {p : Pass} {w : List Cand} (c : Result (Unit {0}) Refusal) → p ≡ clear_of c → ClearsIf w c → Safe p w
clear-if-safe (Ok u) e long = clear-safe e long
clear-if-safe (Err r) e long = same-safe e (over {p = clear_of (Err r)} (omega arith))

pub clear-if-done : {p e : Pass} {w x : List Cand} (c : Result (Unit {0}) Refusal) → p ≡ clear_of c → ClearsIf w c → Swept p w e x → ClearedIf w x c
clear-if-done (Ok u) e long s = clear-done e long s
clear-if-done (Err r) e long s = puts_none (same-swept e s)

-- ---- of a net that is handed as one, where nothing is refused
pub lists-in : (net : Net) (row : ℕ) (lls : List ℕ) (lts : List ℤ) (w : List Cand) → ListVerdictIn net row (length lls) (length lts) (length w) (Ok tt) → Lists net.rows.now net.due.now net.types.now net.type_count net.row_count row w lls lts
lists-in net row lls lts w judged = list-asks net.types.now net.rows.now net.due.now net.type_count net.row_count row lls lts w (Ok tt) judged
