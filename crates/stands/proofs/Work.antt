-- The work areas after a call of an entry, by its promise: all zero over the room where nothing was refused, as they were where something was.
-- And the promise with the work area left out, which is the same on every storage. Assumes nothing.
use Rattle.std.specs.Prelude.{◌≡◌, refl, List, ℕ, ◌*◌, pos}
use Rattle.std.proofs.Common.{sym, arith}
use Rattle.std.proofs.Math.Path.{ap}
use Rattle.std.proofs.Math.Option.{Option, none, some}
use Rattle.rules.specs.declared.Cand.{Cand}
use Rattle.rules.specs.declared.Refusal.{Refusal}
use Rattle.rules.specs.Answers.{Figures, done, refused}
use Rattle.rules.specs.Areas.{Storage, Columns, columns, records, zeros}
use Rattle.rules.specs.Promises.{Settled}
use Rattle.rules.specs.Quantities.{placement_room, work_room}
use Rattle.rules.specs.Refusals.{number_of}
use Rattle.laws.specs.Checked.{numbered}
use Rattle.clearing.specs.Clearing.{cleared-written}
use Rattle.stands.specs.Alike.{StandAlike}
use Rattle.stands.proofs.Ends.{clear-alike}
use Rattle.stands.specs.Work.{WorkAlike, Left}

cleared-alike : (c : Columns) (r : List Cand) → StandAlike (columns.cleared c) (records.cleared r) work_room
unfolding columns records
cleared-alike c r =
    clear-alike c (columns.cleared c) r (records.cleared r) (sym (cleared-written 0 work_room c.loads)) (sym (cleared-written (pos 0) work_room c.times))
    (sym (cleared-written 0 (placement_room * work_room) c.words)) (sym (cleared-written zeros work_room r))

pub work-alike : (number : ℕ) (c c' : Columns) (r r' : List Cand) → Left columns number c c' → Left records number r r' → WorkAlike number c c' r r'
work-alike number c c' r r' a b = record {
  columns_zero = a.zero;
  records_zero = b.zero;
  alike = λ e. rw (a.zero e, b.zero e) (cleared-alike c r);
  columns_kept = a.kept;
  records_kept = b.kept;
}

-- of an entry with so many figures, areas M of which one is the work area, and a promise P where nothing is refused
module _ {A M W : Type 0} (s : Storage W) (work : M → W) (none_told : A) (figures : Figures A) (P : A → Type 0) (before after : M) where
  abbrev Promised : Option Refusal → Type 0
  Promised o = Settled o (λ r. (figures ≡ refused none_told r) × (after ≡ before)) ((v : A) × (figures ≡ done v) × P v × (work after ≡ s.cleared (work before)))

  pub left_by : (o : Option Refusal) → Promised o → Left s figures.number (work before) (work after)
  unfolding refused done
  left_by none p = let z : figures.number ≡ 0 = ap (λ (f : Figures A). f.number) p.1 in record { zero = λ e. p.3; kept = λ h. absurd (omega arith) }
  left_by (some r) p = let z : figures.number ≡ number_of r = ap (λ (f : Figures A). f.number) p.0 in record { zero = λ e. absurd (omega (arith, numbered r)); kept = λ h. ap work p.1 }

  -- with the work area left out of the areas
  pub told-by : {N : Type 0} (rest : M → N) (o : Option Refusal) → Promised o
      → Settled o (λ r. (figures ≡ refused none_told r) × (rest after ≡ rest before)) ((v : A) × (figures ≡ done v) × P v × (◌≡◌ {A = Unit {0}} tt tt))
  told-by rest none p = (p.0, p.1, p.2, refl)
  told-by rest (some r) p = (p.0, ap rest p.1)
