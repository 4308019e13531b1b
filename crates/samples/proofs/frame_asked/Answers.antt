-- `samples::frame_asked` meets its contract: from the recording found, by the laws of Framing.
-- Assumes nothing.
use Rattle.std.proofs.Common.{Ok}
use mathlib.Core.Path.{◌≡◌, sym, ◌∙◌}
use mathlib.Core.Bool.{true}
use Prim.Native.Nat.{◌+◌, ◌-◌, ◌*◌, ◌≤◌}
use native.Mathlib.Nat.{mul-le-mul_left}
use native.Mathlib.Omega.{arith}
use Rattle.rules.specs.Rules as R
use Rattle.samples.specs.Asked.{FrameFoundAs}
use Rattle.recordings.specs.Found.{RecordingFoundAs}
use Rattle.samples.proofs.Framing.{frame-outside, frame-found-at}
use Rattle.samples.proofs.frame_asked.Goals as goal
use Rattle.samples.proofs.frame_asked.Goals.{After-less-before, After-within}

-- the recording found
known : (x : After-within) → RecordingFoundAs x.args.file.now x.args.recording (Ok (x.in_ok-order.order, x.in_ok-order.q))
known x = x.in_ok-order.ensures

-- its number is inside its range
ranged : (c : After-less-before) →
    R.between 1 c.in_ok-order.q.total c.args.frame ≡ true
ranged c = sym c.within.ensures ∙ c.if-not-within.false

-- the frame, where the code looks for it
framed : (c : After-less-before) →
    let x = c in
    let z = x in
    FrameFoundAs z.args.file.now z.args.recording z.args.frame
    (Ok (x.in_ok-order.order, x.in_ok-order.q, (x.in_ok-order.q.frames + 32 + x.in_ok-order.q.frame * (z.args.frame - 1))))
framed c =
    let y = known (goal.at.After-less-before c).After-within in
    frame-found-at y.1 _ (ranged c)

-- the frames that the code passes are no more than those before it
passed : (c : goal.After-struct_known-2-1) →
    let q = c.in_ok-order.q in
    q.frame * c.less-before.result ≤ q.frame * (c.args.frame - 1)
passed c = mul-le-mul_left _ (omega (arith, c.less-before.ensures))

pub returns-then-not-within : goal.returns-then-not-within
returns-then-not-within c =
    let y = known (goal.at.returns-then-not-within c).After-within in
    frame-outside y.1 _ (sym c.within.ensures ∙ c.if-not-within.true)

pub overflow_add-at : goal.overflow_add-at
overflow_add-at c = record { fits = omega (arith, (framed (goal.at.overflow_add-at c).After-less-before).1.inside, c.well_formed) }

pub overflow_mul-at : goal.overflow_mul-at
overflow_mul-at c = record { fits = omega (arith, passed c, (framed (goal.at.overflow_mul-at c).After-less-before).1.inside, c.well_formed) }

pub overflow_add-at-2 : goal.overflow_add-at-2
overflow_add-at-2 c = record { fits = omega (arith, passed c, (framed (goal.at.overflow_add-at-2 c).After-less-before).1.inside, c.well_formed) }

pub returns : goal.returns
returns c = rw c.less-before.ensures (framed (goal.at.returns c).After-less-before)
