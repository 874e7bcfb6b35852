-- `upward::slack_at` meets its contract. Assumes nothing.
use Rattle.std.proofs.Common.{◌∙◌}
use Rattle.units.proofs.Times.{less-⊖}
use Rattle.upward.specs.Hung.{slack_hung, slack-seen}
use Rattle.upward.proofs.slack_at.Goals as goal

pub returns-in_default : goal.returns-in_default
unfolding slack_hung
returns-in_default c = rw c.in_default.is

pub returns : goal.returns
returns c =
    slack-seen c.args.driver.0 c.in-Some.is (c.less-slack.ensures.value ∙ less-⊖ _ c.delay.result.0 _ c.delay.ensures.value)
