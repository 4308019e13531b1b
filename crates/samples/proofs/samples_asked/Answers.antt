-- `samples::samples_asked` meets its contract: from the frame found, by the laws of Sampling.
-- Assumes nothing.
use Rattle.std.proofs.Common.{Ok}
use mathlib.Core.Path.{◌≡◌, sym, ◌∙◌}
use mathlib.Core.Bool.{true}
use Prim.Native.Nat.{◌≤◌}
use native.Mathlib.Omega.{arith}
use lib.ListN.{length}
use Rattle.rules.specs.Rules as R
use Rattle.records.proofs.Facts.{between_in}
use Rattle.records.specs.Says.{subs_at, ChannelsIn}
use Rattle.samples.specs.Asked.{FrameFoundAs}
use Rattle.samples.proofs.Sampling.{samples-outside, samples-found-at}
use Rattle.samples.proofs.samples_asked.Goals as goal
use Rattle.samples.proofs.samples_asked.Goals.{After-struct_known-1, After-within, Else-not-within}

-- the frame found
known : (x : After-within) →
    FrameFoundAs x.args.file.now x.args.recording x.args.frame (Ok (x.in_ok-order.order, x.in_ok-order.q, x.in_ok-order.at))
known x = x.in_ok-order.ensures

-- the channel's number is inside its range
ranged : (c : Else-not-within) →
    R.between 1 c.in_ok-order.q.count c.args.channel ≡ true
ranged c = sym c.within.ensures ∙ c.if-not-within.false

-- the channels have room in the file, and the one asked for is among them
roomy : (c : After-struct_known-1) →
    let x = c in
    let z = x in
    ChannelsIn (length z.args.file.now) (subs_at x.in_ok-order.q.channels x.in_ok-order.q.count) × (1 ≤ z.args.channel) × (z.args.channel ≤ x.in_ok-order.q.count)
roomy c =
    let y = known (goal.at.After-struct_known-1 c).After-within in
    let l = between_in _ _ _ (ranged (goal.at.After-struct_known-1 c).Else-not-within) in
    (y.1.found.owned.room, l.0, l.1)

pub returns-then-not-within : goal.returns-then-not-within
returns-then-not-within c =
    let y = known (goal.at.returns-then-not-within c).After-within in
    samples-outside y.1 _ (sym c.within.ensures ∙ c.if-not-within.true)

pub overflow_sub-c : goal.overflow_sub-c
overflow_sub-c c = omega (arith, roomy c)

pub overflow_cast-c : goal.overflow_cast-c
overflow_cast-c c = record { fits = omega (arith, roomy c) }

pub run_at-requires : goal.run_at-requires
run_at-requires c =
    let y = known (goal.at.run_at-requires c).After-within in
    record { described = omega (arith, roomy c); channels = omega (arith, roomy c); seconds = y.1.found.seconds; frame = omega (arith, y.1.inside) }

pub returns : goal.returns
returns c =
    let y = known (goal.at.returns c).After-within in
    samples-found-at y.1 _ (ranged (goal.at.returns c).Else-not-within) _ c.run_at.ensures
