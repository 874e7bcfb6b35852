-- `sights::make` meets its contract. Assumes nothing.
use Rattle.rows.specs.Given.{standing, earlier}
use Rattle.sights.specs.AtRow.{makes-sees}
use Rattle.sights.proofs.make.Goals as goal

pub links_of-requires : goal.links_of-requires
links_of-requires c = (standing c.requires.passed, earlier c.requires.passed)

pub seen-requires : goal.seen-requires
seen-requires c = makes-sees _ _ _ _ _ _ _ _ c.requires c.links_of.ensures
