-- `rows::count_sites` meets its contract. The loop's invariant: the rows passed are counted. Assumes nothing.
use Rattle.laws.specs.Tabled.{rows_from}
use Rattle.rows.specs.Links.{Counting}
use Rattle.rows.proofs.count_sites.Given as goal

abbrev pub invariant-loop-i : goal.invariant-loop-i
invariant-loop-i l = Counting (rows_from l.net.rows.now l.net.due.now 0 l.n) l.links l.i l.k
