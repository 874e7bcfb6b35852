-- `records::clear` meets its contract: it clears as the entries clear where nothing is refused. Assumes nothing.
use Rattle.std.proofs.Common.{refl, Ok}
use Rattle.records.specs.Listed.{clear-if-safe, clear-if-done}
use Rattle.records.proofs.clear.Goals as goal

pub sweep-requires : goal.sweep-requires
sweep-requires c = rw c.idle_at.ensures (clear-if-safe (Ok tt) refl c.requires)

pub returns : goal.returns
returns c = clear-if-done (Ok tt) refl c.requires (rw c.idle_at.ensures at c.sweep.ensures)
