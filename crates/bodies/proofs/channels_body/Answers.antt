-- `bodies::channels_body` meets its contract: after i turns i subs are written behind the front.
-- Assumes nothing.
use mathlib.Core.Path.{sym, ◌∙◌}
use Prim.Native.Nat.{◌+◌, ◌-◌}
use native.Mathlib.Omega.{arith}
use Rattle.bodies.proofs.Pieces.{channels-front, channels-more, channels-all}
use Rattle.bodies.proofs.channels_body.Goals as goal

pub loop-i-init : goal.loop-i-init
loop-i-init c =
    let a = c.args in
    channels-front a.w a.k a.m a.s.now a.d.now _ _ c.requires.source (c.requires.room ∙ sym c.requires.source) (c.d-2-1.given.1 ∙ c.d-1.given.1)
    c.numbers.ensures c.reserved.ensures

pub loop-i-preserved : goal.loop-i-preserved
loop-i-preserved c =
    let l = c.loop-i in
    let a = c.args in
    channels-more a.w a.k a.m a.s.now l.d l.at l._i (l.at + 256 - l.at) (l.at + 256) _ c.loop-i-test.true (omega arith) (omega arith) c.d-in-loop-i-1.given.1
    c.channel.ensures l.invariant

pub returns : goal.returns
returns c =
    let l = c.loop-i in
    let a = c.args in
    channels-all a.w a.k a.m a.s.now l.d l.at l._i (omega arith) l.invariant
