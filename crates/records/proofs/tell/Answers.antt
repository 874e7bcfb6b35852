-- `records::tell` meets its contract: the four words are copied. Assumes nothing.
use Rattle.std.proofs.Common.{refl}
use Rattle.records.specs.Planning.{four-copied}
use Rattle.records.proofs.tell.Goals as goal

pub returns : goal.returns
returns c = (four-copied c.args.e.held.words c.args.placement.now _ c.copy_from_slice.ensures.after c.copy_from_slice.ensures.len c.requires, refl)
