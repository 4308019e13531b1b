-- `descriptions::group_for` meets its contract: one case a form. Assumes nothing.
use Rattle.descriptions.specs.DescriptionsJudged.{group_for}
use Rattle.descriptions.proofs.group_for.Goals as goal

pub returns-in-Channels : goal.returns-in-Channels
unfolding group_for
returns-in-Channels c = simp (group_for, c.in-Channels.is)

pub returns-in-Electrodes : goal.returns-in-Electrodes
unfolding group_for
returns-in-Electrodes c = simp (group_for, c.in-Electrodes.is)
