-- A list of the run shows what hangs somewhere: nothing where nothing hangs, else the front of what legal placements reach there. What
-- each step of the recursion makes of such lists. Assumes nothing.
use Rattle.std.proofs.Math.Path.{◌≡◌, refl, ap, ap₂}
use Rattle.std.specs.Prelude.{Bool, List, [], ◌∷◌, ℤ, length}
use Rattle.std.proofs.Math.Bool.{true, false}
use Rattle.std.proofs.Math.Option.{Option, none, some}
use Prim.Native.Nat.{ℕ, zero, suc, ◌+◌, ◌*◌, ◌≤◌}
use Rattle.std.proofs.Common.{arith}
use Rattle.rules.specs.declared.Kind.{Kind}
use Rattle.rules.specs.declared.Kind.TheVariants.{Driver, Point, Sink}
use Rattle.rules.specs.declared.Row.{Row}
use Rattle.rules.specs.Lists.{All, Any, here, there, nil}
use Rattle.rules.specs.Entries.{Repeater}
use Rattle.rules.specs.Net.{Wire, Tree, sink, wire, both, sited, seen, wired, beside}
use Rattle.rules.specs.Pairs.{On, sites_on}
use Rattle.laws.specs.Lists.{all-imp}
use Rattle.laws.specs.Candidates.{Front}
use Rattle.laws.specs.Thinning.{climbed}
use Rattle.laws.specs.Steps.{merge}
use Rattle.laws.specs.Moves.{wire_step, site_step, type_step}
use Rattle.laws.specs.Joining.{join_marks, with_mark}
use Rattle.laws.specs.Method.{Proper, Reaches, pinned, cand_of, reaches, empty-legal, front-sink, front_of}
use Rattle.laws.proofs.Method.{front-wire, front-both, front-site}
use Rattle.laws.proofs.Bounds.{reached-length}
use Rattle.laws.specs.Accepted.{Accepted}
use Rattle.laws.specs.Hanging.{OnIf, ProperIf}
use Rattle.laws.specs.Sums.{over}
use Rattle.laws.specs.Within.{Within, reached-within}
use Rattle.columns.specs.Run.{Candidate}
use Rattle.columns.specs.Made.{Fit}

-- ---- the steps on lists, with nothing for nothing
-- a sink's pin, or what hangs under the row
abbrev pub start_list : Kind → List Candidate → List Candidate
start_list Driver l = l
start_list Point l = l
start_list (Sink pin) l = record { load = pin.load.0; time = pin.due.0; place = λ j. 0 } ∷ []

unfoldable pub site_list : List Repeater → Bool → (k : ℕ) → List Candidate → List Candidate
site_list types true k l = site_step types (with_mark k) (length types) l
site_list types false k l = l

module _ (types : List Repeater) where
  -- the front of what legal placements reach there, and of several placements of a pair the one that the method carries
  pub record Carried (t : Tree) (l : List Candidate) : Type 0 where
    pub front : Front (Reaches types t) l
    pub exact : l ≡ front_of types t

  abbrev pub Shows : Option Tree → List Candidate → Type 0
  Shows none l = l ≡ []
  Shows (some t) l = Carried t l

  -- ---- what is known of a list that shows something
  some-there : {P : Candidate → Type 0} {l : List Candidate} → Any P l → 1 ≤ length l
  some-there (here h) = omega arith
  some-there (there t) = omega arith

  -- some placement is legal everywhere, so no front is empty
  pub shows-some : (t : Tree) (l : List Candidate) → Front (Reaches types t) l → 1 ≤ length l
  shows-some t l F = some-there (F.whole (cand_of types t (λ j. 0)) (reaches types (empty-legal types t)))

  pub shows-length : (u : Option Tree) (l : List Candidate) → ProperIf u → Shows u l → length l ≤ 1 + length types * over sites_on u
  shows-length none l p s = rw s (omega arith)
  shows-length (some t) l p s = reached-length types t l p s.front

  pub shows-fit : {rows : List Row} → Accepted types rows → (u : Option Tree) (l : List Candidate) → Within u → Shows u l → All Fit l
  shows-fit ok none l w s = rw s nil
  shows-fit ok (some t) l w s = all-imp (λ c r. let q = reached-within ok t c w r in record { load = q.0; low = q.1; top = q.2 }) s.front.sound

  -- ---- the steps
  shows-sited : (b : Bool) (k : ℕ) (t : Tree) (l : List Candidate) → Proper (sited b k t) → Carried t l → Carried (sited b k t) (site_list types b k l)
  unfolding site_list front_of
  shows-sited true k t l p F = record { front = front-site types k t p.0 F.front; exact = ap (site_step types (with_mark k) (length types)) F.exact }
  shows-sited false k t l p F = F

  nothing-typed : (k n : ℕ) → site_step types (with_mark k) n [] ≡ []
  unfolding site_step type_step
  nothing-typed k zero = refl
  nothing-typed k (suc n) = nothing-typed k n

  pub nothing-sited : (b : Bool) (k : ℕ) → site_list types b k [] ≡ []
  unfolding site_list
  nothing-sited true k = nothing-typed k (length types)
  nothing-sited false k = refl

  front-pin : (load : ℕ) (due : ℤ) → Carried (sink load due) (record { load = load; time = due; place = λ j. 0 } ∷ [])
  unfolding pinned front_of
  front-pin load due = record { front = front-sink types load due; exact = refl }

  carried-wire : (w : Wire) (t : Tree) (l : List Candidate) → Carried t l → Carried (wire w t) (wire_step w l)
  unfolding front_of
  carried-wire w t l s = record { front = front-wire types w s.front; exact = ap (wire_step w) s.exact }

  carried-both : (a b : Tree) (l m : List Candidate) → ((j : ℕ) → On a j → ¬ (On b j)) → Carried a l → Carried b m → Carried (both a b) (merge join_marks l m)
  unfolding front_of
  carried-both a b l m apart s r = record { front = front-both types a b apart s.front r.front; exact = ap₂ (merge join_marks) s.exact r.exact }

  -- a row: its pin or what hangs under it, then its site
  pub shows-seen : (b : Bool) (kind : Kind) (k : ℕ) (u : Option Tree) (l : List Candidate) → ProperIf (seen b kind k u) → Shows u l → Shows (seen b kind k u) (site_list types b k (start_list kind l))
  shows-seen b Driver k none l p s = rw s (nothing-sited b k)
  shows-seen b Driver k (some t) l p s = shows-sited b k t l p s
  shows-seen b Point k none l p s = rw s (nothing-sited b k)
  shows-seen b Point k (some t) l p s = shows-sited b k t l p s
  shows-seen b (Sink pin) k u l p s = shows-sited b k (sink pin.load.0 pin.due.0) _ p (front-pin pin.load.0 pin.due.0)

  -- a row behind its wire, where it is the last under its parent
  pub shows-alone : (w : Wire) (u v : Option Tree) (l : List Candidate) → v ≡ none → Shows u l → Shows (beside (wired w u) v) (wire_step w l)
  unfolding wire_step climbed
  shows-alone w none none l e s = rw s
  shows-alone w none (some t) l e s = absurd (let z : ◌≡◌ {A = ℕ} 0 1 = cc in omega arith)
  shows-alone w (some t) none l e s = carried-wire w t l s
  shows-alone w (some t) (some r) l e s = absurd (let z : ◌≡◌ {A = ℕ} 0 1 = cc in omega arith)

  -- and where rows after it are under the same parent
  pub shows_beside : (w : Wire) (u v : Option Tree) (l m : List Candidate) → (u ≡ none → ⊥) → (v ≡ none → ⊥) → ((j : ℕ) → OnIf (wired w u) j → ¬ (OnIf v j)) → Shows u l → Shows v m → Shows (beside (wired w u) v) (merge join_marks (wire_step w l) m)
  shows_beside w none v l m f g apart a b = absurd (f refl)
  shows_beside w (some t) none l m f g apart a b = absurd (g refl)
  shows_beside w (some t) (some s) l m f g apart a b = carried-both (wire w t) s _ m apart (carried-wire w t l a) b

  pub shows-wired : (w : Wire) (u : Option Tree) (l : List Candidate) → Shows u l → Shows (wired w u) (wire_step w l)
  unfolding wire_step climbed
  shows-wired w none l s = rw s
  shows-wired w (some t) l s = carried-wire w t l s

  -- a list that shows something is not empty
  pub shows-any : (u : Option Tree) (l : List Candidate) → (u ≡ none → ⊥) → Shows u l → 1 ≤ length l
  shows-any none l f s = absurd (f refl)
  shows-any (some t) l f s = shows-some t l s.front
