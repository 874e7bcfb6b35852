-- `rows::link_rows` meets its contract. The loop's invariant: the rows passed are linked. Assumes nothing.
use Rattle.laws.specs.Tabled.{rows_from}
use Rattle.rows.specs.Links.{Linking}
use Rattle.rows.proofs.link_rows.Given as goal

abbrev pub invariant-loop-m : goal.invariant-loop-m
invariant-loop-m l = Linking (rows_from l.net.rows.now l.net.due.now 0 l.n) l.links l.m
