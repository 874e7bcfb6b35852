-- `ending::first_childless` meets its contract. Assumes nothing.
use Rattle.std.proofs.Common.{refl, ◌≡◌, ◌<◌, ◌+◌, ◌-◌, ◌*◌, ℕ, arith, get_or}
use Rattle.std.proofs.lemmas.List.{length-replicate}
use Rattle.rules.specs.Tables.{words_a_row, row_parent}
use Rattle.ending.specs.BelowLaws.{From, from_end, from_back, marked-room, found_in}
use Rattle.ending.proofs.first_childless.Goals as goal

pub loop-i-init : goal.loop-i-init
loop-i-init c = (length-replicate {A = ℕ} 256 0, from_end c.args.rows.now c.args.count _ refl, tt)

pub loop-i-preserved : goal.loop-i-preserved
loop-i-preserved c =
    let a = c.args in
    let i = c.loop-i.i - 1 in
    let back : c.loop-i.i ≡ i + 1 = omega arith in
    let inside : i < a.count = omega arith in (
      rw c.mark.ensures (marked-room (get_or a.rows.now (words_a_row * i + row_parent) 0) c.loop-i.below c.loop-i.invariant.0),
      rw (c.mark.ensures, c.found_with-found.ensures) (from_back a.rows.now a.count c.loop-i.i i c.loop-i.below c.loop-i.found back c.loop-i.invariant.1 c.requires.0 inside),
      rw c.found_with-found.ensures (found_in (get_or a.rows.now (words_a_row * i) 0) (get_or c.loop-i.below i 0) i a.count c.loop-i.found inside c.loop-i.invariant.2),
    )

pub returns : goal.returns
returns c =
    let e : c.loop-i.i ≡ 0 = omega arith in
    let s : From c.args.rows.now c.args.count 0 c.loop-i.below c.loop-i.found = rw e at c.loop-i.invariant.1 in
    record { first = s.found_is; among = c.loop-i.invariant.2 }
