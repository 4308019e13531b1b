-- `signals::frames::all_sampled` meets its contract. The loop's invariant: the channels up to i are tested, and stand before byte p.
-- Assumes nothing.
use mathlib.Core.Path.{sym, ◌∙◌}
use native.Mathlib.Omega.{arith}
use Rattle.signals.proofs.Sampled.{sampled-none, sampled-stop, sampled-more}
use Rattle.signals.proofs.frames.all_sampled.Goals as goal

pub returns-then-not-sampled : goal.returns-then-not-sampled
returns-then-not-sampled c =
    λ ch st. sampled-stop (c.loop-i.invariant.left ch st)
    (λ d f r. c.sampled.ensures d (f ∙ sym c.number-flags.ensures.0) (r ∙ sym c.number-rate.ensures.0))
    (omega arith)
    (c.if-not-sampled.true)

pub loop-i-preserved : goal.loop-i-preserved
loop-i-preserved c =
    record {
      few = omega arith;
      place = omega (arith, c.loop-i.invariant.place);
      left = λ ch st. sampled-more (c.loop-i.invariant.left ch st)
          (λ d f r. c.sampled.ensures d (f ∙ sym c.number-flags.ensures.0) (r ∙ sym c.number-rate.ensures.0))
          _
          (omega arith)
          (c.if-not-sampled.false);
    }

pub returns : goal.returns
returns c = let l = c.loop-i-test.false in λ ch st. sampled-none (c.loop-i.invariant.left ch st) (omega arith)
