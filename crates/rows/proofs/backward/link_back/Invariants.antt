-- `rows::backward::link_back` meets its contract. The loop's invariant: the rows passed are linked. Assumes nothing.
use Rattle.laws.specs.Tabled.{rows_from}
use Rattle.rows.specs.Backward.{Backing}
use Rattle.rows.proofs.backward.link_back.Given as goal

abbrev pub invariant-loop-i : goal.invariant-loop-i
invariant-loop-i l = Backing (rows_from l.net.rows.now l.net.due.now 0 l.n) l.links l.i l.k
