-- `answers::put` meets its contract: three words stored are the area written at its start. Assumes nothing.
use Rattle.std.proofs.Common.{to_z-of_z}
use Rattle.answers.specs.Crossing.{three-written, words_are}
use Rattle.answers.proofs.put.Goals as goal

pub returns : goal.returns
returns c = words_are _ (to_z-of_z c.ranges.place) (to_z-of_z c.ranges.first) (to_z-of_z c.ranges.second) (three-written _ _ _ _ c.requires)
