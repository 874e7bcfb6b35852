-- A row's own list behind its wire, and joined with the list that waits before it. Assumes nothing.
use Rattle.std.specs.Prelude.{◌≡◌, Bool, true, false, cond, List, ℕ, ◌+◌, ◌-◌, ◌≤◌, ◌<◌, ◌*◌, pos, length}
use Rattle.std.proofs.Math.Path.{refl}
use Rattle.std.proofs.Common.{ap, ◌∙◌, arith}
use Rattle.rules.specs.Tables.{words_a_type}
use Rattle.rules.specs.declared.Row.{Row}
use Rattle.rules.specs.Quantities.{most_ohms, work_room, types_room}
use Rattle.rules.specs.Net.{Wire}
use Rattle.laws.specs.Joining.{join_marks}
use Rattle.laws.specs.Steps.{merge}
use Rattle.laws.specs.Moves.{wire_step}
use Rattle.laws.proofs.Bounds.{wire_step-length}
use Rattle.columns.specs.Parts.{part, part-less, part-part, part_length}
use Rattle.columns.specs.Run.{Candidate}
use Rattle.columns.specs.Made.{Stand, Gives, wire_of}
use Rattle.branches.specs.Branching.{Pair, Merged, join-gives}
use Rattle.walks.specs.Made.{Wired, Hang}
use Rattle.rules.specs.declared.Cand.{Cand}
use Rattle.rules.specs.Areas.{zeros}
use Rattle.turns.specs.declared.Pass.{Pass}
use Rattle.values.specs.Records.{cands}
use Rattle.runs.specs.Cands.{cands-length}
use Rattle.runs.specs.Passes.{Safe, Swept}
use Rattle.runs.specs.Beyond.{swept-length}
use Rattle.runs.specs.Wires.{wires-safe, wires-swept}
use Rattle.runs.specs.Branches.{branches-safe, branches}
use Rattle.runs.specs.Moves.{moves-safe, moves}
use Rattle.stages.specs.declared.Job.{Job}
use Rattle.stages.specs.Stages.{on_to, wire_pass, branch_pass, move_pass, begin_of, Ended, Inside, Ends}
use Rattle.jobs.specs.Jobs.{Able, over, more, Worked, stop, pass, hang_job}

module _ (ts : List ℕ) (types_long : words_a_type * types_room ≤ length ts) (x : Row) (ohms : x.resistance.0 ≤ most_ohms) where
  abbrev link : Wire
  link = wire_of x.resistance.0 x.capacitance.0

  module _ (b : Bool) (at m own : ℕ) (w : List Cand) (long : work_room ≤ length w) (W : Wired (cands w) (at + m) own link) where
    abbrev j : Job
    j = hang_job x b at m own

    begins : begin_of ts j ≡ wire_pass j
    unfolding begin_of
    begins = refl

    few : (b : Bool) → (1 < cond b 4 2) × (cond b 4 2 ≤ 0 + 0 + 4)
    few true = (omega arith, omega arith)
    few false = (omega arith, omega arith)

    inside : Inside ts j
    inside = record { going = (few b).0; few = (few b).1; types_few = omega arith; types_long = types_long; number = λ h. absurd (omega arith); room = W.place }

    stand : Stand (cands w) (at + m) own
    stand = record { some = W.some; place = W.place; fit = W.fit }

    safe : Safe (begin_of ts j) w
    safe = rw begins (wires-safe x.resistance x.capacitance ohms w (at + m) own zeros (record { 0 = pos 0 }) long stand W.behind_fit)

    wired : {e : Pass} {v : List Cand} → Swept (begin_of ts j) w e v → (at + m ≤ e.to) × Gives (cands w) (cands v) (at + m) (e.to - (at + m)) (wire_step link (part (at + m) (at + m + own) (cands w)))
    wired s = wires-swept x.resistance x.capacitance ohms w (at + m) own zeros (record { 0 = pos 0 }) long stand W.behind_fit (rw begins at s)

    ends : (e : Pass) (v : List Cand) → Swept (begin_of ts j) w e v → Ends j e
    ends e v s = record { kept = λ h k. (wired s).0; past = λ h k. absurd (omega arith) }

    ended : (e : Pass) (r : Job) → Ended ts j e r → r ≡ on_to j (e.to - (at + m)) 0 j.best
    unfolding Ended
    ended e r h = h

  -- ---- no list waits
  module _ (at m own : ℕ) (w : List Cand) (long : work_room ≤ length w) (W : Wired (cands w) (at + m) own link) where
    pub alone-able : Able ts (hang_job x false at m own) w
    alone-able = more (inside false at m own w long W) (safe false at m own w long W) (ends false at m own w long W) (λ e v r s k. over {j = r} (rw (ended false at m own w long W e r k) (omega arith)))

    pub alone-worked : {w' : List Cand} {n : ℕ} → Worked ts (hang_job x false at m own) w w' n → Gives (cands w) (cands w') (at + m) n (wire_step link (part (at + m) (at + m + own) (cands w)))
    alone-worked (stop h) = absurd (omega arith)
    alone-worked (pass {r = r} e l s k (stop h)) = let z = ended false at m own w long W e r k in rw (ap (λ (j : Job). j.own) z) (wired false at m own w long W s).1
    alone-worked (pass {r = r} e l s k (pass f g t u h)) = absurd (let z = ended false at m own w long W e r k in let a = ap (λ (j : Job). j.step) z in let b = ap (λ (j : Job). j.steps) z in omega arith)

  -- ---- a list waits
  module _ (at m own : ℕ) (w : List Cand) (long : work_room ≤ length w) (H : Hang (cands w) at m own link) where
    abbrev whole : List Candidate
    whole = merge join_marks (wire_step link (part (at + m) (at + m + own) (cands w))) (part at (at + m) (cands w))

    abbrev begun : Job
    begun = hang_job x true at m own

    -- behind the wire, where k are left
    abbrev joins : ℕ → Job
    joins k = on_to begun k 0 begun.best

    module _ (v : List Cand) (same : length v ≡ length w) (k : ℕ) (G : Gives (cands w) (cands v) (at + m) k (wire_step link (part (at + m) (at + m + own) (cands w)))) where
      kept : part at (at + m) (cands v) ≡ part at (at + m) (cands w)
      kept = part-part at (at + m) (cands w) (cands v) G.before

      fewer : k ≤ own
      fewer =
          let a = wire_step-length link (part (at + m) (at + m + own) (cands w)) in
          let b = part_length (at + m) (at + m + own) (cands w) (rw (cands-length w) (omega (arith, H.own.place))) in
          omega (arith, G.count_is)

      pair : Pair (cands v) at m k
      pair = record { first = H.first; second = rw G.count_is at H.kept; place = omega (arith, H.room, fewer); fit = rw (G.list, kept) H.fit }

      still : work_room ≤ length v
      still = rw same long

      branches-begin : begin_of ts (joins k) ≡ branch_pass (joins k)
      unfolding begin_of
      branches-begin = refl

      join-safe : Safe (begin_of ts (joins k)) v
      join-safe = rw branches-begin (branches-safe v at m k zeros (record { 0 = pos 0 }) pair still)

      join-inside : Inside ts (joins k)
      join-inside = record { going = omega arith; few = omega arith; types_few = omega arith; types_long = types_long; number = λ h. absurd (omega arith); room = omega (arith, pair.place, pair.first, pair.second) }

      merged : {e : Pass} {u : List Cand} → Swept (begin_of ts (joins k)) v e u → Merged (cands v) (cands u) at m k e.to
      merged s = branches v at m k zeros (record { 0 = pos 0 }) pair still (rw branches-begin at s)

      join-ends : (e : Pass) (u : List Cand) → Swept (begin_of ts (joins k)) v e u → Ends (joins k) e
      join-ends e u s = record { kept = λ h k. absurd (omega arith); past = λ h k. (merged s).past }

      -- joined past both, up to o
      abbrev lowers : ℕ → Job
      lowers o = on_to (joins k) k (o - (at + m + k)) begun.best

      join-ended : (e : Pass) (r : Job) → Ended ts (joins k) e r → r ≡ lowers e.to
      unfolding Ended
      join-ended e r h = h

      module _ (u : List Cand) (same₂ : length u ≡ length w) (o : ℕ) (M : Merged (cands v) (cands u) at m k o) where
        moves-begin : begin_of ts (lowers o) ≡ move_pass (lowers o)
        unfolding begin_of
        moves-begin = refl

        inside-work : at + m + k + (o - (at + m + k)) ≤ work_room
        inside-work = omega (arith, M.past, M.top, pair.place)

        lower-safe : Safe (begin_of ts (lowers o)) u
        lower-safe = rw moves-begin (moves-safe u (at + m + k) at (o - (at + m + k)) (omega arith) inside-work at zeros (record { 0 = pos 0 }) (omega (arith, inside-work, pair.first)) (rw same₂ long))

        lower-ended : (e : Pass) (r : Job) → Ended ts (lowers o) e r → r ≡ on_to (lowers o) (o - (at + m + k)) (o - (at + m + k)) begun.best
        unfolding Ended
        lower-ended e r h = h

        lower-able : Able ts (lowers o) u
        lower-able =
            more {j = lowers o} (record { going = omega arith; few = omega arith; types_few = omega arith; types_long = types_long; number = λ h. absurd (omega arith); room = omega (arith, inside-work) }) lower-safe
            (λ e v s. record { kept = λ h k. absurd (omega arith); past = λ h k. absurd (omega arith) })
            (λ e v r s q. over {j = r} (rw (lower-ended e r q) (omega arith)))

        lowered : {e : Pass} {z : List Cand} → Swept (begin_of ts (lowers o)) u e z → Gives (cands w) (cands z) at (o - (at + m + k)) whole
        lowered {e} {z} s =
            let d = moves u (at + m + k) at (o - (at + m + k)) (omega arith) inside-work at zeros (record { 0 = pos 0 }) (omega (arith, inside-work, pair.first)) (rw same₂ long) (rw moves-begin at s) in
            let g = join-gives (cands v) (cands u) (cands z) at m k o M d in
            record { before = g.before ∙ part-less at (at + m) (cands w) (cands v) (omega arith) G.before; list = g.list ∙ rw (G.list, kept); count_is = rw (G.list, kept) at g.count_is }

        lower-worked : {w' : List Cand} {n : ℕ} → Worked ts (lowers o) u w' n → Gives (cands w) (cands w') at n whole
        lower-worked (stop h) = absurd (omega arith)
        lower-worked (pass {r = r} e l s q (stop h)) = rw (ap (λ (j : Job). j.own) (lower-ended e r q)) (lowered s)
        lower-worked (pass {r = r} e l s q (pass f g t y h)) = absurd (let z = lower-ended e r q in let a = ap (λ (j : Job). j.step) z in let b = ap (λ (j : Job). j.steps) z in omega arith)

      join-able : Able ts (joins k) v
      join-able = more join-inside join-safe join-ends (λ e u r s q. rw (join-ended e r q) (lower-able u (swept-length s ∙ same) e.to (merged s)))

      join-worked : {w' : List Cand} {n : ℕ} → Worked ts (joins k) v w' n → Gives (cands w) (cands w') at n whole
      join-worked (stop h) = absurd (omega arith)
      join-worked (pass {r = r} {v = u} e l s q h) = lower-worked u (swept-length s ∙ same) e.to (merged s) (rw (join-ended e r q) at h)

    pub both-able : Able ts begun w
    both-able = more (inside true at m own w long H.own) (safe true at m own w long H.own) (ends true at m own w long H.own) (λ e v r s q. rw (ended true at m own w long H.own e r q) (join-able v (swept-length s) (e.to - (at + m)) (wired true at m own w long H.own s).1))

    pub both-worked : {w' : List Cand} {n : ℕ} → Worked ts begun w w' n → Gives (cands w) (cands w') at n whole
    both-worked (stop h) = absurd (omega arith)
    both-worked (pass {r = r} {v = v} e l s q h) = join-worked v (swept-length s) (e.to - (at + m)) (wired true at m own w long H.own s).1 (rw (ended true at m own w long H.own e r q) at h)
