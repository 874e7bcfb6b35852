-- The stand-ins for a list, each ruled out by list_at's promise: only the best pair, an empty list, an invented length, and thinning at
-- some rows with copying at the others. Assumes nothing.
use Rattle.std.specs.Prelude.{◌≡◌, false, ◌||◌, List, [], ◌∷◌, map, ℕ, zero, suc, ◌<◌, leb, Result, Ok}
use Rattle.std.proofs.Math.Path.{ap}
use Rattle.std.proofs.Common.{◌∙◌, arith}
use Rattle.std.proofs.Math.Option.{none, some}
use Prim.Native.String.{String}
use Rattle.std.proofs.Math.ListN.{length, get_or, get_or-append, get_or-map}
use Rattle.std.proofs.lemmas.List.{length-map}
use Rattle.rules.specs.Lists.{All, Any, written, nil, cons, here, there}
use Rattle.rules.specs.Entries.{types_of, rows_of}
use Rattle.rules.specs.Tables.{Tables, Counts, table_entries}
use Rattle.rules.specs.Net.{Tree, at_row, wire}
use Rattle.rules.specs.Pairs.{Pair, Beats, Unbeaten, Reached}
use Rattle.examples.specs.Texts.{entries}
use Rattle.rules.specs.Answers.{done, list_figures}
use Rattle.rules.specs.Promises.{list_refusal, ListPromise, ListOf, tabled}
use Rattle.rules.specs.Areas.{Storage, Lent, short_lent, list_areas}
use Rattle.laws.specs.Lists.{all_head}
use Rattle.laws.specs.Listing.{NoneBeats, unbeaten-unique, listed-unbeaten, unbeaten-listed}
use Rattle.laws.specs.Settled.{one-tree}
use Rattle.laws.specs.Figures.{list-figures}
use Rattle.examples.specs.Examples.{net_a, net_b, types_by, wire_by, B₂, IsList, paired, beats-by, examples}
use Rattle.examples.specs.Given.{tables_in, counts_in, Lends, done-same, list-given, list-taken, nets}
use Rattle.rules.specs.declared.Refusal.{Refusal}
use Rattle.examples.specs.StandInLists.{pair_at}
open nets use {lends_a, lends_b, rows_a, rows_b}

-- ---- only the best pair, an empty list, an invented length
module _ {net : String} (lends : Lends net) {W : Type 0} (s : Storage W) (work work' : W) (room : s.short work ≡ false) (row : ℕ) (inside : leb (counts_in net).rows row ≡ false) (before after : Lent) (long : short_lent before ≡ false) where
  -- the list handed out is the row's, and nothing else
  pub listed-exactly : (l : List Pair) (a : Result ℕ Refusal) → IsList net row l → ListPromise s (tabled (tables_in net) (counts_in net)) row (list_areas before work) a (list_areas after work') → (a ≡ Ok (length l)) × (after.loads ≡ written (map (λ c. c.load) l) before.loads) × (after.times ≡ written (map (λ c. c.time) l) before.times)
  unfolding list_figures
  listed-exactly l a f p =
      let (len, e, g, w) = list-given (tables_in net) (counts_in net) s work row before a after work' (list-taken lends s work room row before long inside) p in
      of len e (rw lends.whole at g)
    where
      of : (len : ℕ) → list_figures a ≡ done len → ListOf (entries net) row before after len → (a ≡ Ok (length l)) × (after.loads ≡ written (map (λ c. c.load) l) before.loads) × (after.times ≡ written (map (λ c. c.time) l) before.times)
      of len e g =
          let same : g.list ≡ l = unbeaten-unique (rw (one-tree g.tree_is f.tree_is) at g.unbeaten) f.unbeaten in
          (list-figures a (Ok (length l)) (e ∙ ap done (g.long ∙ ap length same)), rw (← same) g.loads, rw (← same) g.times)

module _ {W : Type 0} (s : Storage W) (work work' : W) (room : s.short work ≡ false) (before after : Lent) (long : short_lent before ≡ false) where
  -- the list at row 1 of net A has two pairs, whatever length is claimed
  pub invented-length : (len : ℕ) → ¬ (len ≡ 2) → ¬ (ListPromise s (tabled (tables_in net_a) (counts_in net_a)) 1 (list_areas before work) (Ok len) (list_areas after work'))
  invented-length len other p = let (e, l, t) = listed-exactly lends_a s work work' room 1 rows_a before after long (paired (2, 855) ∷ paired (15, 910) ∷ []) (Ok len) examples.P3 p in other (cc)

  -- so it is not empty
  pub empty-list : ¬ (ListPromise s (tabled (tables_in net_a) (counts_in net_a)) 1 (list_areas before work) (Ok 0) (list_areas after work'))
  empty-list = invented-length 0 (omega arith)

  -- nor one pair alone
  pub only-the-best : ¬ (ListPromise s (tabled (tables_in net_a) (counts_in net_a)) 1 (list_areas before work) (Ok 1) (list_areas after work'))
  only-the-best = invented-length 1 (omega arith)

-- ---- thinning at some rows and copying at the others
all-at : {A : Type 0} {P : A → Type 0} (d : A) {l : List A} → All P l → (i : ℕ) → i < length l → P (get_or l i d)
all-at d nil i h = absurd (omega arith)
all-at d (cons p t) zero h = p
all-at d (cons p t) (suc i) h = all-at d t i (omega arith)

any_at : {A : Type 0} (d : A) {c : A} {l : List A} → Any (λ m. m ≡ c) l → (i : ℕ) × (i < length l) × (get_or l i d ≡ c)
any_at d (here e) = (0, omega arith, e)
any_at d (there t) = let (i, h, e) = any_at d t in (suc i, omega arith, e)

written_at : {A : Type 0} (f : Pair → A) (list : List Pair) (before after : List A) (i : ℕ) (d : Pair) → after ≡ written (map f list) before → i < length list → get_or after i (f d) ≡ f (get_or list i d)
unfolding written
written_at f list before after i d e h = ap (λ l. get_or l i (f d)) e ∙ get_or-append (map f list) _ (f d) i (omega (arith, length-map list f)) ∙ get_or-map f list i d

module _ (t : Tables) (n : Counts) {W : Type 0} (s : Storage W) (work work' : W) (row : ℕ) (before after : Lent) (taken : list_refusal (short_lent before || s.short work) (tabled t n) row ≡ none) (len : ℕ) (tree : Tree) (tree_is : at_row (rows_of (table_entries t n)) row ≡ some tree) (promise : ListPromise s (tabled t n) row (list_areas before work) (Ok len) (list_areas after work')) where
  -- the unbeaten pairs stand in the areas
  stand : (list : List Pair) × Unbeaten (Reached (types_of (table_entries t n)) tree) list × (len ≡ length list) × ((i : ℕ) → i < length list → pair_at after i ≡ get_or list i (paired (0, 0)))
  unfolding list_figures pair_at
  stand = let (m, e, f, w) = list-given t n s work row before (Ok len) after work' taken promise in (f.list, rw (one-tree f.tree_is tree_is) at f.unbeaten, done-same len m e ∙ f.long, λ i h. of m f i h)
    where
      of : (m : ℕ) (f : ListOf (table_entries t n) row before after m) (i : ℕ) → i < length f.list → pair_at after i ≡ get_or f.list i (paired (0, 0))
      of m f i h = λ k. record { load = written_at (λ c. c.load) f.list before.loads after.loads i (paired (0, 0)) f.loads h k; time = written_at (λ c. c.time) f.list before.times after.times i (paired (0, 0)) f.times h k }

  -- at every row of every net, each pair handed out is reached and none that is reached beats it
  pub handed_out : (i : ℕ) → i < len → NoneBeats (Reached (types_of (table_entries t n)) tree) (pair_at after i)
  handed_out i h = let (list, u, e, at) = stand in let inside : i < length list = omega arith in rw (at i inside) (all-at (paired (0, 0)) (listed-unbeaten u) i inside)

  -- and each that is reached and that none beats is handed out
  pub none-missing : (c : Pair) → NoneBeats (Reached (types_of (table_entries t n)) tree) c → (i : ℕ) × (i < len) × (pair_at after i ≡ c)
  none-missing c b = let (list, u, e, at) = stand in let (i, h, k) = any_at (paired (0, 0)) (unbeaten-listed c u b) in (i, omega arith, at i h ∙ k)

  -- so one that only copies breaks the promise where it copies a beaten pair
  pub copied : (i : ℕ) → i < len → (d : Pair) → Reached (types_of (table_entries t n)) tree d → Beats d (pair_at after i) → ⊥
  copied i h d = (handed_out i h).none d

-- at row 1 of net B, a copy of what meets there keeps (20, 850), which (14, 850) beats
pub copied-B : {W : Type 0} (s : Storage W) (work work' : W) → s.short work ≡ false → (before after : Lent) → short_lent before ≡ false → (len i : ℕ) → i < len → pair_at after i ≡ paired (20, 850) → ¬ (ListPromise s (tabled (tables_in net_b) (counts_in net_b)) 1 (list_areas before work) (Ok len) (list_areas after work'))
copied-B s work work' room before after long len i h e p =
    copied (tables_in net_b) (counts_in net_b) s work work' 1 before after (list-taken lends_b s work room 1 before long rows_b) len l.tree (rw lends_b.whole l.tree_is) p i h (paired (14, 850)) (rw lends_b.whole (all_head l.unbeaten.reached)) (rw e (beats-by 14 850 20 850 (omega arith) (omega arith) (omega arith)))
  where
    l : IsList net_b 1 (paired (14, 850) ∷ paired (42, 912) ∷ [])
    l = examples.P7-list

-- behind the wire of row 2 of net B, a copy of what was kept before the wire is not the unbeaten pairs
pub copied-wire : ¬ (Unbeaten (Reached (types_by 10) (wire (wire_by 6 7) B₂)) (paired (9, 912) ∷ paired (15, 910) ∷ []))
copied-wire u = let e : ◌≡◌ {A = ℕ} 2 1 = ap length (unbeaten-unique u examples.wire_thinned) in omega arith
