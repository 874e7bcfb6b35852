-- The list at a row, from what hangs under it, by what the code of both storages promises: the repeaters of its site, and where it is a sink
-- its pin. For the columns the premises are the `requires` and `ensures` of the functions of `walks::steps`, for the records the `ensures`
-- of `jobs::site`, which is all passes of one job. In the code x is the row as it stands in the tables and k the number of its site as
-- it stands in the links. Assumes nothing.
use Rattle.std.specs.Prelude.{◌≡◌, refl, cond, List, ℕ, suc, ◌+◌, set}
use Rattle.std.proofs.Common.{sym, ap, ◌∙◌, arith, length-set}
use Rattle.rules.specs.declared.Cand.{Cand}
use Rattle.rules.specs.Refusals.{is_sink}
use Rattle.laws.specs.Tabled.{repeaters_from}
use Rattle.columns.specs.Parts.{part}
use Rattle.columns.specs.Run.{Candidate, candidate}
use Rattle.columns.specs.Made.{room-run}
use Rattle.walks.specs.Shown.{site_list}
use Rattle.walks.specs.Made.{Sited}
use Rattle.turns.specs.declared.Pass.{Pass}
use Rattle.values.specs.Records.{plain_of}
use Rattle.runs.specs.Cands.{cands-set}
use Rattle.runs.specs.Passes.{Safe, Swept}
use Rattle.runs.specs.Puts.{puts-safe, puts_none, puts_one}
use Rattle.stages.specs.Stages.{pin_pass}
use Rattle.jobs.specs.Jobs.{site_job}
use Rattle.jobs.specs.SiteJobs.{site-able, site-worked}
use Rattle.stands.specs.Alike.{in_columns, in_records, StandAlike}
use Rattle.stands.proofs.Alike.{long-run, alike-list, alike-less, gives-alike, store-alike}
use Rattle.stands.proofs.Steps.{plain-is}
use Rattle.stands.specs.Jobs.{SameSite, RepeatersAlike, SinkAlike}

-- a row's own list stands at the place itself
here : (at : ℕ) → at + 0 ≡ at
here at = omega arith

pub same-site : SameSite
same-site rows links links' row B L h = B.sites row h ∙ sym (L.sites row h)

-- ---- the repeaters of a site, of a row x that is no sink, with site number k: `walks::steps::put_site`, and `jobs::site`
pub repeaters-alike : RepeatersAlike
repeaters-alike types count x c r k at n T long plain S a =
    let e : part at (at + n) (in_columns c) ≡ part at (at + n) (in_records r) = alike-list at (at + n) a in
    let sited : Sited (in_records r) (at + 0) n count x.site k = rw (here at) (record { some = S.some; place = S.place; fit = rw e at S.fit; rising = rw e at S.rising; number = S.number }) in
    let no_pin : Safe (pin_pass (site_job x k count at n)) r = rw plain (puts-safe 0 (at + 0) _ _ r (omega (arith, S.place)) long) in
    let none-put : (q : Pass) (v : List Cand) → Swept (pin_pass (site_job x k count at n)) r q v → v ≡ r = λ q v s. puts_none (rw plain at s) in
    let kept : cond (is_sink x.kind) 1 n ≡ n = rw plain in (
      site-able types count T x k at n r long n r refl kept (omega (arith, S.place)) no_pin none-put sited,
      λ c' r' len len' g w.
          let h = rw (here at) at (site-worked types count T x k at n r long n r refl kept (omega (arith, S.place)) no_pin none-put sited w) in
          gives-alike c c' r r' at len len' _ _ (alike-less at (at + n) (omega arith) a) (ap (site_list (repeaters_from types 0 count) x.site k) e) g h,
    )

-- ---- a sink's pin and its site: `walks::steps::start` and then `put_site`, and `jobs::site` as one job
pub sink-alike : SinkAlike
sink-alike types count x pin c c₁ r k at under T room long sink fits a put S =
    let y : Candidate = candidate pin.load.0 pin.due.0 (λ j. 0) in
    let r₁ : List Cand = set r at (plain_of pin.load pin.due) in
    let e : in_columns c₁ ≡ set (in_columns c) at y = rw sink at put in
    let f : in_records r₁ ≡ set (in_records r) at y = cands-set r at (plain_of pin.load pin.due) ∙ ap (set (in_records r) at) (plain-is pin.load pin.due) in
    let b : StandAlike c₁ r₁ (at + 1) = rw (e, f) (store-alike at y (room-run (suc at) room (omega (arith, S.place))) (long-run r (suc at) long (omega (arith, S.place))) a) in
    let l : part at (at + 1) (in_columns c₁) ≡ part at (at + 1) (in_records r₁) = alike-list at (at + 1) b in
    let sited : Sited (in_records r₁) (at + 0) 1 count x.site k = rw (here at) (record { some = S.some; place = S.place; fit = rw l at S.fit; rising = rw l at S.rising; number = S.number }) in
    let pin-safe : Safe (pin_pass (site_job x k count at under)) r = rw sink (puts-safe 1 (at + 0) (plain_of pin.load pin.due) _ r (omega (arith, S.place)) long) in
    let pin-put : (q : Pass) (v : List Cand) → Swept (pin_pass (site_job x k count at under)) r q v → v ≡ r₁ = λ q v s. rw (here at) at (puts_one (rw sink at s)) in
    let one : cond (is_sink x.kind) 1 under ≡ 1 = rw sink in (
      site-able types count T x k at under r long 1 r₁ (length-set r at _) one (omega arith) pin-safe pin-put sited,
      λ c' r' len len' g w.
          let h = rw (here at) at (site-worked types count T x k at under r long 1 r₁ (length-set r at _) one (omega arith) pin-safe pin-put sited w) in
          gives-alike c₁ c' r₁ r' at len len' _ _ (alike-less at (at + 1) (omega arith) b) (ap (site_list (repeaters_from types 0 count) x.site k) l) g h,
    )
