-- `sites::put_choices` meets its contract. Assumes nothing.
use Rattle.sites.specs.Sites.{Chosens}
use Rattle.columns.specs.Run.{run}
use Rattle.sites.proofs.put_choices.Given as goal

abbrev pub invariant-loop-t : goal.invariant-loop-t
invariant-loop-t l =
    Chosens l.net.types.now (run l.initial.loads l.initial.times l.initial.words) (run l.loads l.times l.words) l.at l.n l.k l.base l.t
