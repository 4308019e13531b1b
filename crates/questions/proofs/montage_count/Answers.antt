-- `questions::montage_count` meets its contract: from the recording found, by the laws of Replies.
-- Assumes nothing.
use Rattle.std.proofs.Common.{Ok}
use mathlib.Core.Path.{ap, ◌∙◌}
use Rattle.recordings.specs.Answers.{value}
use Rattle.recordings.specs.Found.{RecordingFoundAs}
use Rattle.questions.proofs.Replies.{montage-inside, montage-count-told}
use Rattle.questions.proofs.montage_count.Goals as goal
use Rattle.questions.proofs.montage_count.Goals.{In_ok-order}

-- the recording found
known : (x : In_ok-order) → RecordingFoundAs x.args.file.now x.args.recording (Ok (x.in_ok-order.order, x.in_ok-order.q))
known x = x.in_ok-order.ensures

pub montage_channels-requires : goal.montage_channels-requires
montage_channels-requires c = montage-inside (known (goal.at.montage_channels-requires c).In_ok-order).1

pub returns : goal.returns
returns c = ap value c.montage_channels.ensures ∙ montage-count-told (known (goal.at.returns c).In_ok-order).1
