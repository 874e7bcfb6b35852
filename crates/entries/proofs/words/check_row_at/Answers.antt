-- `entries::words::check_row_at` meets its contract. Assumes nothing.
use Rattle.std.proofs.Common.{arith, get_or, pos}
use Rattle.text.specs.Numbers.{bits_back}
use Rattle.entries.specs.Lines.{wire_of}
use Rattle.entries.proofs.words.check_row_at.Goals as goal

pub returns : goal.returns
unfolding wire_of
returns c =
    let a = c.args in
    rw (c.wire_at.ensures, bits_back (get_or a.net.now.due.now a.i (pos 0)) (omega arith)) at c.check_words.ensures
