-- `slack::timing` meets its contract. Assumes nothing.
use Rattle.slack.specs.Ready.{driver-needs}
use Rattle.slack.proofs.timing.Goals as goal

pub slack_at-requires : goal.slack_at-requires
slack_at-requires c = driver-needs c.requires c.row_at-driver.ensures c.at_driver-h.ensures
