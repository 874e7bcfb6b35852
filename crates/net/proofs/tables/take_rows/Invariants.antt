-- The loop's invariant: the rows before i have passed after the types. Assumes nothing.
use Rattle.std.proofs.Common.{◌≡◌, ℕ, List}
use Rattle.rules.specs.Entries.{Entry}
use Rattle.rules.specs.Tables.{from, row_entry, tables_of}
use Rattle.checks.specs.Checks.{FewPassed}
use Rattle.entries.specs.Held.{Holds}
use Rattle.net.specs.TableSteps.{Through}
use Rattle.net.proofs.tables.take_rows.Given as goal

abbrev pub invariant-loop-i : goal.invariant-loop-i
invariant-loop-i l =
    FewPassed l.m × (l.m.rows ≡ l.i)
    × ((types : List ℕ) (before : List Entry) → Holds before types l.net.rows.now l.net.due.now l.fn.n → Through (tables_of types l.net.rows.now l.net.due.now) before (from (row_entry (tables_of types l.net.rows.now l.net.due.now)) 0 l.i) l.m)
