-- `entries::words::check_words` meets its contract: a word that is no kind's states no line. Assumes nothing.
use Rattle.std.proofs.Common.{arith}
use Rattle.entries.specs.EntryLaws.{other_row, form-refused}
use Rattle.entries.proofs.words.check_words.Goals as goal

pub returns-in_default : goal.returns-in_default
returns-in_default c =
    let a = c.args in
    form-refused a.rows.now a.n _ c.place_of.result c.place_of.ensures (other_row a.w.parent a.w.resistance.0 a.w.capacitance.0 a.w.site a.pin a.due a.kind (λ e. omega arith) (λ e. omega arith) (λ e. omega arith))
