-- `questions::channel` meets its contract: from the recording found, by the laws of Replies.
-- Assumes nothing.
use Rattle.std.proofs.Common.{Ok}
use mathlib.Core.Path.{◌≡◌, sym, ◌∙◌}
use mathlib.Core.Bool.{true}
use Prim.Native.Nat.{◌≤◌}
use native.Mathlib.Omega.{arith}
use lib.ListN.{length}
use Rattle.rules.specs.Rules as R
use Rattle.records.proofs.Facts.{between_in}
use Rattle.records.specs.Says.{subs_at, ChannelsIn}
use Rattle.recordings.specs.Found.{RecordingFoundAs}
use Rattle.questions.proofs.Replies.{channel-outside, channel-told}
use Rattle.questions.proofs.channel.Goals as goal
use Rattle.questions.proofs.channel.Goals.{After-struct_known-1, After-within, Else-not-within}

-- the recording found
known : (x : After-within) → RecordingFoundAs x.args.file.now x.args.recording (Ok (x.in_ok-order.order, x.in_ok-order.q))
known x = x.in_ok-order.ensures

-- the channel's number is inside its range
ranged : (c : Else-not-within) →
    R.between 1 c.in_ok-order.q.count c.args.channel ≡ true
ranged c = sym c.within.ensures ∙ c.if-not-within.false

-- the channels have room in the file, and the one asked for is among them
roomy : (c : After-struct_known-1) →
    let x = c in
    let z = x in
    ChannelsIn (length z.args.file.now) (subs_at x.in_ok-order.q.channels x.in_ok-order.q.count) × (1 ≤ z.args.channel) × (z.args.channel ≤ x.in_ok-order.q.count)
roomy c =
    let y = known (goal.at.After-struct_known-1 c).After-within in
    let l = between_in _ _ _ (ranged (goal.at.After-struct_known-1 c).Else-not-within) in
    (y.1.owned.room, l.0, l.1)

pub returns-then-not-within : goal.returns-then-not-within
returns-then-not-within c =
    let y = known (goal.at.returns-then-not-within c).After-within in
    channel-outside y.1 _ (sym c.within.ensures ∙ c.if-not-within.true)

pub overflow_sub-at : goal.overflow_sub-at
overflow_sub-at c = omega (arith, roomy c)

pub overflow_mul-at : goal.overflow_mul-at
overflow_mul-at c = record { fits = omega (arith, roomy c, c.well_formed) }

pub overflow_add-at-2 : goal.overflow_add-at-2
overflow_add-at-2 c = record { fits = omega (arith, roomy c, c.well_formed) }

pub descriptor_at-requires : goal.descriptor_at-requires
descriptor_at-requires c = omega (arith, roomy c)

pub returns : goal.returns
returns c =
    let y = known (goal.at.returns c).After-within in
    channel-told y.1 _ (ranged (goal.at.returns c).Else-not-within) _ c.descriptor_at.ensures
