-- The loop's invariant: the types before i have passed. Assumes nothing.
use Rattle.std.proofs.Common.{◌≡◌, ℕ, List, [], ℤ}
use Rattle.rules.specs.Tables.{from, type_entry, tables_of}
use Rattle.checks.specs.Checks.{FewPassed}
use Rattle.net.specs.TableSteps.{Through}
use Rattle.net.proofs.tables.take_types.Given as goal

abbrev pub invariant-loop-i : goal.invariant-loop-i
invariant-loop-i l = FewPassed l.n × (l.n.rows ≡ 0) × (l.n.types ≡ l.i) × ((rows : List ℕ) (due : List ℤ) → Through (tables_of l.types rows due) [] (from (type_entry (tables_of l.types rows due)) 0 l.i) l.n)
