-- The best behind each type of a site, by what the code of both storages promises, and what stands alike while a site is put on a list: the
-- columns keep the chosen ones past the list, the records in the job; and while they are put in the columns' list may start later than
-- its place. Assumes nothing.
use Rattle.std.specs.Prelude.{◌≡◌, List, ℕ, suc, ◌+◌, ◌-◌, ◌≤◌, ◌<◌, length, get_or, set}
use Rattle.std.proofs.Common.{sym, ap, ◌∙◌, arith, length-set, get_or-set_same, get_or-set_other, lt-ltb, le-ltb}
use Rattle.std.proofs.Math.Decide.{dec_lt}
use Rattle.std.proofs.Math.IntN.{pos}
use Rattle.rules.specs.declared.Cand.{Cand}
use Rattle.rules.specs.Areas.{zeros}
use Rattle.rules.specs.Placements.{marks}
use Rattle.units.proofs.Times.{own_of}
use Rattle.repeaters.specs.Repeaters.{buffer_of, buffer_at}
use Rattle.laws.specs.Joining.{with_mark}
use Rattle.laws.specs.Ranges.{RepeaterInRange}
use Rattle.laws.specs.Steps.{best, value}
use Rattle.columns.specs.Parts.{part, part-cons, part-over}
use Rattle.columns.specs.Run.{Candidate, candidate, blank}
use Rattle.columns.specs.Made.{Stand, room-run}
use Rattle.columns.specs.Choosing.{delay_of}
use Rattle.sites.specs.Types.{repeater_at}
use Rattle.sites.specs.Sites.{chosen_by}
use Rattle.turns.specs.declared.Step.TheVariants.{FirstChoice}
use Rattle.turns.specs.declared.Pass.{Pass}
use Rattle.values.specs.Records.{cand_of}
use Rattle.runs.specs.Passes.{Safe, Swept}
use Rattle.runs.specs.Choices.{choices-safe, choices-swept}
use Rattle.stages.specs.declared.Job.{Job}
use Rattle.stages.specs.Stages.{own_at, unset, pass_at, choice_pass, begin_of, Chosen, Ended}
use Rattle.jobs.specs.SiteJobs.{chosen_is}
use Rattle.stands.specs.Alike.{in_columns, in_records, LongIn}
use Rattle.stands.proofs.Alike.{long-run, alike-list, alike-less}
use Rattle.stands.specs.Choices.{SiteBegins, ChoiceAlike}

pub site-begins : SiteBegins
site-begins c r chosen at n base l a = record { before = alike-less at (at + n) (omega arith) a; list = alike-list at (at + n) a; array = l; bests = λ i h k. absurd (omega arith) }

-- ---- the best behind type t: `sites::put_choice`, and the pass of a job that chooses it, with what `stages::ends::end` makes of the job
choice-begins : (types : List ℕ) (j : Job) (t : ℕ) → j.step ≡ t + 1 → t < j.count → begin_of types j ≡ choice_pass types j t
unfolding begin_of
choice-begins types j t e h = let z : j.step - 1 ≡ t = omega arith in rw (le-ltb j.step 1 (omega arith), lt-ltb j.step (j.count + 1) (omega arith), z)

choice-ends : (types : List ℕ) (j : Job) (t : ℕ) → j.step ≡ t + 1 → t < j.count → (q : Pass) (j' : Job) → Ended types j q j' → Chosen types j q t j'
unfolding Ended
choice-ends types j t e h q j' d = let z : j.step - 1 ≡ t = omega arith in rw (le-ltb j.step 1 (omega arith), lt-ltb j.step (j.count + 1) (omega arith), z) at d

-- the pass over the list for type t: it may be made, and holds the best behind the type
module _ (types : List ℕ) (t : ℕ) (ranged : RepeaterInRange (repeater_at types t)) (r : List Cand) (at n : ℕ) (long : LongIn r) (S : Stand (in_records r) at n) where
  abbrev type_pass : Pass
  type_pass = pass_at (FirstChoice (buffer_at types t).own (buffer_at types t).resistance) n at at at zeros

  type-safe : Safe type_pass r
  unfolding repeater_at buffer_at buffer_of
  type-safe = choices-safe (buffer_at types t).own (buffer_at types t).resistance (own_of _ ranged.own) ranged.resistance r at n zeros (record { 0 = pos 0 }) long S

  abbrev delays : ℕ → ℕ
  delays = delay_of (repeater_at types t).own (repeater_at types t).resistance

  abbrev best_of : Candidate
  best_of = best delays (get_or (in_records r) at blank) (part (at + 1) (at + n) (in_records r))

  type-swept : {r' : List Cand} {q : Pass} → Swept type_pass r q r' → (r' ≡ r) × (cand_of q.held ≡ best_of) × (q.worth.0 ≡ value delays best_of)
  unfolding repeater_at buffer_at buffer_of
  type-swept s = choices-swept (buffer_at types t).own (buffer_at types t).resistance (own_of _ ranged.own) ranged.resistance r at n zeros (record { 0 = pos 0 }) long S s

  -- with its mark it is what the columns choose
  type-chosen : {r' : List Cand} {q : Pass} (k : ℕ) (x : Cand) → Swept type_pass r q r' → cand_of x ≡ candidate (buffer_at types t).input.0 q.worth.0 (with_mark k (t + 1) (marks q.held.words))
      → cand_of x ≡ chosen_by (repeater_at types t) (with_mark k (t + 1)) (part at (at + n) (in_records r))
  type-chosen {q = q} k x s e =
      let cut = part-cons at (at + n) (in_records r) blank (omega (arith, S.some)) (long-run r (at + n) long S.place) in
      e ∙ chosen_is types t k _ _ q (type-swept s).1 (type-swept s).2 ∙ ap (chosen_by (repeater_at types t) (with_mark k (t + 1))) (sym cut)

-- one more is chosen
bests-more : (w : List Candidate) (chosen : List Cand) (base t : ℕ) (y : Candidate) (x : Cand) → base + t < length w → t < length chosen → cand_of x ≡ y → ((i : ℕ) → 0 ≤ i → i < t → get_or w (base + i) blank ≡ cand_of (get_or chosen i unset))
    → (i : ℕ) → i < t + 1 → Dec (i < t) → get_or (set w (base + t) y) (base + i) blank ≡ cand_of (get_or (set chosen t x) i unset)
bests-more w chosen base t y x h k e f i l (yes d) = get_or-set_other w (base + t) (base + i) y blank (λ z. omega (arith, z, d)) ∙ f i (omega arith) d ∙ sym (ap cand_of (get_or-set_other chosen t i x unset (λ z. omega (arith, z, d))))
bests-more w chosen base t y x h k e f i l (no d) = let z : i ≡ t = omega (arith, d) in rw z (get_or-set_same w (base + t) y blank h ∙ sym e ∙ sym (ap cand_of (get_or-set_same chosen t x unset k)))

pub choice-alike : ChoiceAlike
choice-alike types c r j t base T room long S past top step some A =
    let at = own_at j in
    let n = j.own in
    let g = T.known t (omega arith) in
    let begins = choice-begins types j t step some in
    let stand : Stand (in_records r) at n = record { some = S.some; place = S.place; fit = rw A.list at S.fit } in (
      rw begins (type-safe types t g r at n long stand),
      λ c' r' q j' put s d.
          let new = choice-ends types j t step some q j' d in
          let s' = rw begins at s in
          let kept : r' ≡ r = (type-swept types t g r at n long stand s').0 in
          let e = type-chosen types t g r at n long stand j.site new.0 s' new.1 ∙ ap (chosen_by (repeater_at types t) (with_mark j.site (t + 1))) (sym A.list) in
          record {
            before = record { same = rw put (part-over 0 at (in_columns c) (base + t) _ (omega arith)) ∙ A.before.same ∙ sym (ap (λ (v : List Cand). part 0 at (in_records v)) kept) };
            list = rw put (part-over at (at + n) (in_columns c) (base + t) _ (omega arith)) ∙ A.list ∙ sym (ap (λ (v : List Cand). part at (at + n) (in_records v)) kept);
            array = ap (λ (i : Job). length i.best) new.2 ∙ length-set j.best t new.0 ∙ A.array;
            bests = λ i f h.
                ap (λ (w : List Candidate). get_or w (base + i) blank) put
                ∙ bests-more (in_columns c) j.best base t _ new.0 (room-run (suc (base + t)) room top) (rw A.array (omega (arith, T.few))) e A.bests i h (dec_lt i t)
                ∙ sym (ap (λ (k : Job). cand_of (get_or k.best i unset)) new.2);
          },
    )
