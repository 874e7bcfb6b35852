-- `slack::legal::check_marks` meets its contract. The loop's invariant: the rows before i have passed, with the sites on them. Assumes nothing.
use Rattle.std.proofs.Common.{sym, ◌∙◌, arith}
use Rattle.slack.specs.Marked.{passed_start, passed-all, sites-room, site-inside, row-stop, row-pass}
use Rattle.slack.proofs.legal.check_marks.Goals as goal

pub loop-i-init : goal.loop-i-init
loop-i-init c = passed_start c.requires

pub is_over-requires-clause-k_lt_sites_room : goal.is_over-requires-clause-k_lt_sites_room
is_over-requires-clause-k_lt_sites_room c = site-inside c.requires c.loop-i.invariant c.loop-i-test.true c.row_at-x.ensures

pub returns-then-is_over : goal.returns-then-is_over
returns-then-is_over c = row-stop c.requires c.loop-i.invariant c.loop-i-test.true c.row_at-x.ensures (sym c.is_over.ensures ∙ c.if-is_over.true) c.line_of.ensures

pub next_site-k-requires : goal.next_site-k-requires
next_site-k-requires c = omega (arith, sites-room c.requires c.loop-i.invariant)

pub loop-i-preserved : goal.loop-i-preserved
loop-i-preserved c = row-pass c.requires c.loop-i.invariant c.loop-i-test.true c.row_at-x.ensures (sym c.is_over.ensures ∙ c.if-is_over.false) c.next_site-k.ensures

pub check_past-requires : goal.check_past-requires
check_past-requires c = (sites-room c.requires c.loop-i.invariant, c.requires.words_long)

pub returns : goal.returns
returns c = passed-all c.requires c.loop-i.invariant (omega arith) c.check_past.ensures
