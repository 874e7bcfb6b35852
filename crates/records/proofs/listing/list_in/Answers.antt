-- `records::listing::list_in` meets its contract: each step has what it asks, and gives its part of the list. Assumes nothing.
use Rattle.std.proofs.Common.{arith, Ok}
use Rattle.records.specs.Listed.{list-makes, list-places, list-few, list-clears}
use Rattle.records.proofs.listing.list_in.Goals as goal

pub make-len-requires : goal.make-len-requires
make-len-requires c = list-makes _ _ _ _ _ _ _ _ _ (Ok tt) c.requires

pub copy_pairs-requires : goal.copy_pairs-requires
copy_pairs-requires c = list-places _ _ _ _ _ _ _ _ _ c.make-len.new.run (omega arith) c.make-len.result (Ok tt) c.requires c.make-len.ensures

pub clear-requires : goal.clear-requires
clear-requires c = list-clears _ _ _ _ _ _ _ _ _ c.make-len.new.run (omega arith) c.make-len.result (Ok tt) c.requires

pub returns : goal.returns
returns c =
    let m = c.make-len in
    record {
      run = m.new.run;
      same = omega arith;
      seen = m.ensures;
      few = list-few _ _ _ _ _ _ _ _ _ m.new.run (omega arith) m.result (Ok tt) c.requires m.ensures;
      loads = c.copy_pairs.ensures.0;
      times = c.copy_pairs.ensures.1;
      cleared = c.clear.ensures;
    }
