-- `sites::put_choice` meets its contract. Assumes nothing.
use Rattle.std.proofs.Common.{ap, ◌∙◌, ◌+◌, ℕ, List, ℤ, set, arith}
use Rattle.std.specs.Int.Signed.{mag}
use Rattle.rules.specs.Entries.{Repeater}
use Rattle.laws.specs.Joining.{with_mark}
use Rattle.units.proofs.Times.{own_of}
use Rattle.repeaters.specs.declared.Buffer.{Buffer}
use Rattle.repeaters.specs.Repeaters.{IsBuffer, is-buffer}
use Rattle.sites.specs.Sites.{chosen-made}
use Rattle.sites.specs.Types.{repeater_at}
use Rattle.columns.specs.Choosing.{Chosen, delay_of, stand-columns}
use Rattle.columns.specs.Run.{run}
use Rattle.sites.proofs.put_choice.Goals as goal

-- what is chosen behind a type, by the quantities that were read
chosen-behind : {g : Repeater} {b : Buffer} {ls : List ℕ} {ts : List ℤ} {at n i : ℕ} {v : ℤ} → IsBuffer g b → Chosen (delay_of (mag b.own.0) b.resistance.0) ls ts at n i v → Chosen (delay_of g.own g.resistance) ls ts at n i v
chosen-behind i h = rw (i.own, i.resistance) at h

-- first what is put: its time is worked out from the load driven
pub returns : goal.returns
returns c =
    let a = c.args in
    let g = is-buffer a.types.now a.t c.type_at-b.ensures in
    let p = c.requires.stand in
    rw g.input at c.typed_at.ensures ∙ ap (set (run a.loads.now a.times.now a.words.now) a.to) (chosen-made (repeater_at a.types.now a.t) (with_mark a.k (a.t + 1)) a.loads.now a.times.now a.words.now a.at a.n c.best_from-best.result.at c.best_from-best.result.value.0 c.requires.room p.some p.place (chosen-behind g c.best_from-best.ensures))

pub best_from-best-requires : goal.best_from-best-requires
best_from-best-requires c =
    let g = is-buffer c.args.types.now c.args.t c.type_at-b.ensures in
    let k = c.requires.types_in.known c.args.t (omega arith) in
    record { columns = stand-columns c.requires.room c.requires.stand; own = (rw g.own (own_of _ k.own), rw g.resistance k.resistance) }
