-- The same of a walk, which has the tables, the words of the marks and the links. Assumes nothing.
use Rattle.std.specs.Prelude.{ℕ}
use Rattle.upward.specs.Hung.{Hung}
use Rattle.slack.specs.declared.tree.Walk.{Walk}
use Rattle.slack.specs.Ready.{Ready, hung_below, hung_at, hung_own}

abbrev pub ReadyIn : Walk → Type 0
ReadyIn w = Ready w.net.now.rows.now w.net.now.due.now w.net.now.types.now w.words.now w.links.now w.net.now.row_count

abbrev pub below_in : Walk → (c : ℕ) → Hung
below_in w c = hung_below w.net.now.rows.now w.net.now.due.now w.net.now.types.now w.words.now w.net.now.row_count c

abbrev pub at_in : Walk → (i : ℕ) → Hung
at_in w i = hung_at w.net.now.rows.now w.net.now.due.now w.net.now.types.now w.words.now w.net.now.row_count i

abbrev pub own_in : Walk → (i : ℕ) → Hung
own_in w i = hung_own w.net.now.rows.now w.net.now.due.now w.net.now.types.now w.words.now w.net.now.row_count i
