-- What loads_at hands out at row 1 of net A: its two loads, and nothing else. Assumes nothing.
use Rattle.std.proofs.Math.Path.{◌≡◌}
use Rattle.std.specs.Prelude.{refl, false, List, [], ◌∷◌, ℕ, ltb, length, Result, Ok}
use Rattle.rules.specs.Lists.{written}
use Rattle.rules.specs.Quantities.{list_room}
use Rattle.rules.specs.Areas.{Storage, lent_of, short_lent, unseen_times, loads_areas}
use Rattle.rules.specs.Promises.{LoadsPromise, tabled}
use Rattle.examples.specs.Examples.{net_a, paired, examples}
use Rattle.examples.specs.Given.{tables_in, counts_in, nets}
use Rattle.rules.specs.declared.Refusal.{Refusal}
use Rattle.examples.proofs.StandInLists.{listed-exactly}
open nets use {lends_a, rows_a}

module _ {W : Type 0} (s : Storage W) (work work' : W) (room : s.short work ≡ false) (before after : List ℕ) (long : ltb (length before) list_room ≡ false) where
  -- the loads are 2 and 15
  pub loads-exactly : (a : Result ℕ Refusal) → LoadsPromise s (tabled (tables_in net_a) (counts_in net_a)) 1 (loads_areas before work) a (loads_areas after work') → (a ≡ Ok 2) × (after ≡ written (2 ∷ 15 ∷ []) before)
  unfolding LoadsPromise short_lent
  loads-exactly a (times, p) =
      let (e, l, t) = listed-exactly lends_a s work work' room 1 rows_a (lent_of before unseen_times) (lent_of after times) (rw long refl) (paired (2, 855) ∷ paired (15, 910) ∷ []) a examples.P3 p in
      (e, l)
