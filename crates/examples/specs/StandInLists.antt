-- What a list says that is handed out in two areas: the pair at each place of them. Assumes nothing.
use Rattle.std.specs.Prelude.{ℕ, pos}
use Rattle.std.proofs.Math.ListN.{get_or}
use Rattle.rules.specs.Pairs.{Pair}
use Rattle.rules.specs.Areas.{Lent}

-- the pair at place i of the areas
unfoldable pub pair_at : Lent → ℕ → Pair
pair_at area i = record { load = get_or area.loads i 0; time = get_or area.times i (pos 0) }
