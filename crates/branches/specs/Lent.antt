-- A turn of the branch step: the loads and times from the first unused place on are lent, and the run that the columns are once they are
-- back. Assumes nothing.
use Rattle.std.specs.Prelude.{◌≡◌, List, ◌++◌, ℕ, ◌+◌, ◌-◌, ◌≤◌, ◌<◌, ℤ, pos, length, get_or, take, drop, set}
use Rattle.std.proofs.Common.{sym, ap₂, ◌∙◌, append-nil, arith, length-drop, take-append-drop, drop_of_length-le, take_all}
use Rattle.std.proofs.lemmas.List.{take-set-le, drop-set-add}
use Rattle.laws.specs.Ranges.{most_load}
use Rattle.laws.specs.Integers.{minℤ}
use Rattle.laws.specs.Joining.{join_marks}
use Rattle.laws.specs.Steps.{joined}
use Rattle.columns.specs.Run.{blank, run, run_at, run-put, place_at, Puts}
use Rattle.columns.specs.Made.{Fit}

-- a column whose part from place o on was lent: what came back stored at the part's start is stored at o
lent_back : {A : Type 0} (l part : List A) (o : ℕ) (x : A) → part ≡ set (take (length l - o) (drop o l)) 0 x → take o l ++ (part ++ drop (length l - o) (drop o l)) ≡ set l o x
lent_back l part o x e =
    let all = take_all (length l - o) (drop o l) (omega (arith, length-drop o l)) in
    let none = drop_of_length-le (drop o l) {i = length l - o} (omega (arith, length-drop o l)) in
    let start : o + 0 ≡ o = omega arith in
    rw (e, all, none, append-nil) (ap₂ ◌++◌ (sym (take-set-le o l o x (omega arith))) (sym (rw start at (drop-set-add o l 0 x))) ∙ take-append-drop o (set l o x))

module _ (ls : List ℕ) (ts : List ℤ) (ws : List ℕ) (i j : ℕ) (il : i < length ls) (it : i < length ts) (jl : j < length ls) (jt : j < length ts) where
  -- what a range says of the two loads
  pub joined-load : Fit (joined join_marks (get_or (run ls ts ws) i blank) (get_or (run ls ts ws) j blank)) → get_or ls i 0 + get_or ls j 0 ≤ most_load
  unfolding joined
  joined-load f = (rw (run_at ls ts ws i il it, run_at ls ts ws j jl jt) at f).load

  -- the two joined at the start of both parts, and their words joined at o
  pub turned : (loads : List ℕ) (times : List ℤ) (ws' : List ℕ) (o : ℕ)
      → loads ≡ set (take (length ls - o) (drop o ls)) 0 (get_or ls i 0 + get_or ls j 0)
      → times ≡ set (take (length ts - o) (drop o ts)) 0 (minℤ (get_or ts i (pos 0)) (get_or ts j (pos 0)))
      → Puts ws ws' o (join_marks (place_at ws i) (place_at ws j))
      → run (take o ls ++ (loads ++ drop (length ls - o) (drop o ls))) (take o ts ++ (times ++ drop (length ts - o) (drop o ts))) ws' ≡ set (run ls ts ws) o (joined join_marks (get_or (run ls ts ws) i blank) (get_or (run ls ts ws) j blank))
  unfolding joined
  turned loads times ws' o e f p =
      rw (lent_back ls loads o _ e, lent_back ts times o _ f, run_at ls ts ws i il it, run_at ls ts ws j jl jt) (run-put ls ts ws ws' o _ _ _ p)
