-- The stand-ins for the loads of a list alone, each ruled out by loads_at's promise: one that refuses, an invented length, the load of the
-- best time alone, an empty list, and the load of a pair that another beats; and when its area is too short. Assumes nothing.
use Rattle.std.proofs.Math.Path.{◌≡◌}
use Rattle.std.specs.Prelude.{refl, true, false, List, [], ◌∷◌, ℕ, ltb, length, get_or, replicate, Result, Ok, Err}
use Rattle.std.proofs.Common.{ap}
use Rattle.std.proofs.Math.Option.{or_else}
use native.Mathlib.Omega.{arith}
use Rattle.rules.specs.declared.Refusal.{Refusal}
use Rattle.rules.specs.declared.Refusal.TheVariants.{Short}
use Rattle.rules.specs.Lists.{written}
use Rattle.rules.specs.Quantities.{list_room}
use Rattle.rules.specs.Tables.{Tables, Counts}
use Rattle.rules.specs.Areas.{Storage, ListAreas, LoadsAreas, lent_of, short_lent, unseen_times, loads_areas}
use Rattle.rules.specs.Answers.{refused, list_figures}
use Rattle.rules.specs.Promises.{list_refusal, ListPromise, LoadsPromise, tabled}
use Rattle.laws.specs.Checked.{short-own}
use Rattle.examples.specs.Examples.{net_a, net_b, paired, examples}
use Rattle.examples.specs.Given.{tables_in, counts_in, nets}
use Rattle.examples.proofs.StandIns.{listing-refused}
use Rattle.examples.proofs.StandInLists.{listed-exactly}
use Rattle.examples.proofs.ExactLoads.{loads-exactly}
open nets use {lends_a, lends_b, rows_a, rows_b}

module _ {W : Type 0} (s : Storage W) (work work' : W) (room : s.short work ≡ false) (before after : List ℕ) (long : ltb (length before) list_room ≡ false) where
  -- at row 1 of net A there is nothing to refuse
  pub loads-refused : (r : Refusal) → ¬ (LoadsPromise s (tabled (tables_in net_a) (counts_in net_a)) 1 (loads_areas before work) (Err r) (loads_areas after work'))
  unfolding LoadsPromise short_lent
  loads-refused r (times, p) = listing-refused s work work' room lends_a r 1 (lent_of before unseen_times) (lent_of after times) (rw long refl) rows_a p

  -- its loads are 2 and 15, and nothing else, so no other length is told
  pub invented-loads : (len : ℕ) → ¬ (len ≡ 2) → ¬ (LoadsPromise s (tabled (tables_in net_a) (counts_in net_a)) 1 (loads_areas before work) (Ok len) (loads_areas after work'))
  invented-loads len other p = let (e, l) = loads-exactly s work work' room before after long (Ok len) p in other (cc)

  -- not that of the load of the best time alone
  pub best-load-only : ¬ (LoadsPromise s (tabled (tables_in net_a) (counts_in net_a)) 1 (loads_areas before work) (Ok 1) (loads_areas after work'))
  best-load-only = invented-loads 1 (omega arith)

  -- nor none
  pub no-loads : ¬ (LoadsPromise s (tabled (tables_in net_a) (counts_in net_a)) 1 (loads_areas before work) (Ok 0) (loads_areas after work'))
  no-loads = invented-loads 0 (omega arith)

  -- at row 1 of net B the second load is 42: one that keeps the 20 of the pair (20, 850), which (14, 850) beats, is ruled out
  pub beaten-load : (a : Result ℕ Refusal) → get_or after 1 0 ≡ 20 → ¬ (LoadsPromise s (tabled (tables_in net_b) (counts_in net_b)) 1 (loads_areas before work) a (loads_areas after work'))
  unfolding LoadsPromise short_lent written
  beaten-load a e (times, p) =
      let (f, l, t) = listed-exactly lends_b s work work' room 1 rows_b (lent_of before unseen_times) (lent_of after times) (rw long refl) (paired (14, 850) ∷ paired (42, 912) ∷ []) a examples.P7-list p in
      let z : ◌≡◌ {A = ℕ} 42 20 = rw l at e in
      omega arith

-- ---- the area's room
-- of whatever net and row: an area shorter than its room is 7, and nothing is written anywhere
pub loads-short : (t : Tables) (n : Counts) (row : ℕ) {W : Type 0} (s : Storage W) (before : LoadsAreas W) (after : LoadsAreas W) (a : Result ℕ Refusal) → ltb (length before.loads) list_room ≡ true → LoadsPromise s (tabled t n) row before a after → (list_figures a ≡ refused 0 Short) × (after ≡ before)
unfolding LoadsPromise ListPromise list_refusal short_lent or_else
loads-short t n row {W} s before after a e (times, p) = let (f, m) = rw (e, short-own t n) at p in (f, ap (λ (x : ListAreas W). loads_areas x.list.loads x.work) m)

-- so 256 words are too few, and 257 are enough
pub loads-256 : {W : Type 0} (s : Storage W) (work : W) (after : LoadsAreas W) (a : Result ℕ Refusal) → LoadsPromise s (tabled (tables_in net_a) (counts_in net_a)) 1 (loads_areas (replicate 256 0) work) a after → list_figures a ≡ refused 0 Short
loads-256 s work after a p = (loads-short (tables_in net_a) (counts_in net_a) 1 s (loads_areas (replicate 256 0) work) after a refl p).0

pub loads-257 : {W : Type 0} (s : Storage W) (work : W) → s.short work ≡ false → (after : LoadsAreas W) (a : Result ℕ Refusal) → LoadsPromise s (tabled (tables_in net_a) (counts_in net_a)) 1 (loads_areas (replicate 257 0) work) a after → a ≡ Ok 2
loads-257 s work room after a p = (loads-exactly s work after.work room (replicate 257 0) after.loads refl a p).0
