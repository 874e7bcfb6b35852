-- How long the lists can be: a branch's at most the two lengths less one, a row's at most one and one for each type at each site at or
-- below. Assumes nothing.
use Rattle.std.specs.Prelude.{◌≡◌}
use Rattle.std.proofs.Common.{sym, ap, ◌∙◌}
use mathlib.Core.List.{List, [], ◌∷◌, map}
use Prim.Native.Nat.{ℕ, zero, suc, pred, ◌+◌, ◌*◌, ◌≤◌}
use native.Mathlib.Omega.{arith}
use Rattle.std.proofs.Math.Nat.{le_trans}
use Rattle.std.proofs.Math.ListN.{length, length-map}
use Rattle.rules.specs.Entries.{Repeater}
use Rattle.rules.specs.Placements.{Placement}
use Rattle.rules.specs.Net.{Wire, Tree, sink, site, wire, both}
use Rattle.rules.specs.Pairs.{sites_on}
use Rattle.laws.specs.Candidates.{Cand, Front, Stand, covers, covered, below, above, stand, put, thin_in, pair, front-unique}
use Rattle.laws.specs.Thinning.{climbed, climb-length}
use Rattle.laws.specs.Steps.{Joins, merge}
use Rattle.laws.proofs.Steps.{merge-length, front-merge}
use Rattle.laws.specs.Moves.{behind, wire_step, type_step, site_step}
use Rattle.laws.specs.Joining.{join_marks, with_mark}
use Rattle.laws.specs.Method.{Proper, Reaches, front_of}
use Rattle.laws.proofs.Method.{method}

module _ {W : Type 0} where
  -- two fronts of R are as long
  pub front_length : {R : Cand W → Type 0} (l m : List (Cand W)) → Front R l → Front R m → length l ≡ length m
  front_length l m F G = sym (length-map l pair) ∙ ap length (front-unique F G) ∙ length-map m pair

  -- a branch's list holds at most the two lengths less one, whatever the lengths
  pub branch-length : {R S : Cand W → Type 0} (join_marks : W → W → W) (l m k : List (Cand W)) → Front R l → Front S m → Front (Joins join_marks R S) k → length k ≤ pred (length l + length m)
  branch-length join_marks l m k F G H = rw (front_length k (merge join_marks l m) H (front-merge join_marks F G)) (merge-length join_marks l m)

  thin_in-length : (c : Cand W) (l : List (Cand W)) → length (thin_in c l) ≤ suc (length l)
  unfolding thin_in put
  thin_in-length c [] = omega arith
  thin_in-length c (x ∷ l) = go (stand c x) (thin_in c l) (thin_in-length c l)
    where
      go : (s : Stand c x) (r : List (Cand W)) → length r ≤ suc (length l) → length (put c x l r s) ≤ suc (suc (length l))
      go (covers h) r k = omega arith
      go (covered h) r k = omega arith
      go (below h) r k = omega arith
      go (above h) r k = omega arith

  pub wire_step-length : (w : Wire) (l : List (Cand W)) → length (wire_step w l) ≤ length l
  unfolding wire_step climbed
  wire_step-length w [] = omega arith
  wire_step-length w (x ∷ l) = omega (arith, climb-length (behind w x) (map (behind w) l), length-map l (behind w))

  pub site_step-length : (types : List Repeater) (mark : ℕ → W → W) (n : ℕ) (l : List (Cand W)) → length (site_step types mark n l) ≤ n + length l
  unfolding site_step type_step
  site_step-length types mark zero l = omega arith
  site_step-length types mark (suc n) [] = omega (arith, site_step-length types mark n [])
  site_step-length types mark (suc n) (x ∷ l) = le_trans (thin_in-length _ (site_step types mark n (x ∷ l))) (omega (arith, site_step-length types mark n (x ∷ l)))

module _ (types : List Repeater) where
  front_of-length : (t : Tree) → length (front_of types t) ≤ 1 + length types * sites_on t
  unfolding front_of sites_on
  front_of-length (sink pin due) = omega arith
  front_of-length (site k t) = omega (arith, site_step-length types (with_mark k) (length types) (front_of types t), front_of-length t)
  front_of-length (wire w t) = omega (arith, wire_step-length w (front_of types t), front_of-length t)
  front_of-length (both s t) = omega (arith, merge-length join_marks (front_of types s) (front_of types t), front_of-length s, front_of-length t)

  -- the list at any place of a net
  pub reached-length : (t : Tree) (l : List (Cand Placement)) → Proper t → Front (Reaches types t) l → length l ≤ 1 + length types * sites_on t
  reached-length t l ok F = rw (front_length l (front_of types t) F (method types t ok)) (front_of-length t)
