-- `entries::words::check_sink_words` meets its contract: a sink has every word. Assumes nothing.
use Rattle.rules.specs.Entries.{sink}
use Rattle.text.specs.Numbers.{bits_back}
use Rattle.entries.specs.Lines.{wire_of, pin_of}
use Rattle.entries.specs.EntryLaws.{sink-row, stated-checked}
use Rattle.entries.proofs.words.check_sink_words.Goals as goal

pub returns : goal.returns
unfolding wire_of pin_of
returns c =
    let a = c.args in
    stated-checked a.rows.now a.n _ (sink a.w.parent a.w.resistance.0 a.w.capacitance.0 a.w.site a.pin a.due) c.check_row.result (rw (c.sink_out.ensures, bits_back a.due c.ranges.due.sfits) at c.check_row.ensures) (sink-row a.w.parent a.w.resistance.0 a.w.capacitance.0 a.w.site a.pin a.due)
