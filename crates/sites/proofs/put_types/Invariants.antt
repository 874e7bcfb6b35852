-- `sites::put_types` meets its contract. Assumes nothing.
use Rattle.sites.specs.Sites.{Typing}
use Rattle.columns.specs.Run.{run}
use Rattle.sites.proofs.put_types.Given as goal

abbrev pub invariant-loop-t : goal.invariant-loop-t
invariant-loop-t l =
    Typing l.net.types.now l.net.type_count l.k (run l.initial.loads l.initial.times l.initial.words) (run l.loads l.times l.words) l.at l.n l.t l.list.start l.list.end
