-- `records::plan_in` meets its contract. Assumes nothing.
use Rattle.std.proofs.Common.{arith}
use Rattle.records.specs.Planning.{plans-makes, plans-chooses, plans-clears, chose}
use Rattle.records.proofs.plan_in.Goals as goal

pub make-len-requires : goal.make-len-requires
make-len-requires c = plans-makes _ _ _ _ _ _ c.requires

pub choose-e-requires : goal.choose-e-requires
choose-e-requires c = plans-chooses _ _ _ _ _ _ c.requires c.make-len.new.run (omega arith) c.make-len.result c.make-len.ensures

pub clear-requires : goal.clear-requires
clear-requires c = plans-clears _ _ _ _ _ _ c.requires c.make-len.new.run (omega arith) c.make-len.result c.make-len.ensures c.choose-e.new.run (omega arith) c.choose-e.result c.choose-e.ensures

pub returns : goal.returns
returns c = chose _ _ _ _ _ _ c.requires c.make-len.new.run (omega arith) c.make-len.result c.make-len.ensures c.choose-e.new.run (omega arith) c.choose-e.result c.choose-e.ensures c.clear.new.run c.clear.ensures
