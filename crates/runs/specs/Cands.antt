-- What a run of records is as a run of candidates: its length, what stands at a place, and what a store makes. Assumes nothing.
use Rattle.std.specs.Prelude.{◌≡◌, refl, List, [], ◌∷◌, ℕ, zero, suc, ◌<◌, length, get_or, set}
use Rattle.std.proofs.Common.{ap, arith}
use Rattle.std.proofs.lemmas.List.{length-map}
use Rattle.columns.specs.Run.{Candidate, blank}
use Rattle.rules.specs.declared.Cand.{Cand}
use Rattle.rules.specs.Areas.{zeros}
use Rattle.values.specs.Records.{cand_of, cands}

pub cands-length : (w : List Cand) → length (cands w) ≡ length w
cands-length w = length-map w cand_of

pub cands-at : (w : List Cand) (i : ℕ) → i < length w → get_or (cands w) i blank ≡ cand_of (get_or w i zeros)
cands-at [] i h = absurd (omega arith)
cands-at (x ∷ w) zero h = refl
cands-at (x ∷ w) (suc i) h = cands-at w i (omega arith)

pub cands-set : (w : List Cand) (i : ℕ) (x : Cand) → cands (set w i x) ≡ set (cands w) i (cand_of x)
cands-set [] i x = refl
cands-set (y ∷ w) zero x = refl
cands-set (y ∷ w) (suc i) x = ap (λ (l : List Candidate). cand_of y ∷ l) (cands-set w i x)
