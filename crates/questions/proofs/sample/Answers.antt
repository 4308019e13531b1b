-- `questions::sample` meets its contract: from the samples found, by the laws of Replies.
-- Assumes nothing.
use Rattle.std.proofs.Common.{Ok}
use Rattle.samples.specs.Asked.{SamplesFoundAs}
use Rattle.questions.proofs.Replies.{sample-outside}
use Rattle.questions.proofs.sample.Goals as goal
use Rattle.questions.proofs.sample.Goals.{Else-place-sample, In_ok-order}

-- the samples found
known : (x : In_ok-order) →
    SamplesFoundAs x.args.file.now x.args.recording x.args.frame x.args.channel (Ok (x.in_ok-order.order, x.in_ok-order.field-0-1, x.in_ok-order.run'))
known x = x.in_ok-order.ensures

pub returns-then-place-sample : goal.returns-then-place-sample
returns-then-place-sample c =
    let y = known (goal.at.returns-then-place-sample c).In_ok-order in
    sample-outside y.1 _ c.if-place-sample.true
