-- `transcripts::sized_channels` meets its contract: a record with subs that the walk accepts has the length that its count asks for.
-- Assumes nothing.
use native.Mathlib.Omega.{arith}
use Rattle.transcripts.proofs.Transcribing.{channels-counted}
use Rattle.transcripts.proofs.sized_channels.Goals as goal

pub returns-then-s-lt-BODY_SUBS : goal.returns-then-s-lt-BODY_SUBS
returns-then-s-lt-BODY_SUBS c =
    let a = c.args in
    λ d k b l e g. absurd (omega (arith, c.if-s-lt-BODY_SUBS.true, channels-counted a.w.from b a.s.now d _ g))

pub returns-then-s-count : goal.returns-then-s-count
returns-then-s-count c =
    let a = c.args in
    λ d k b l e g. absurd (c.if-s-count.true (omega (arith, c.number-count.ensures.0, channels-counted a.w.from b a.s.now d _ g)))
