-- `bodies::widths_of` meets its contract: whether all channels have the width of the first is whether those have it that are left.
-- Assumes nothing.
use mathlib.Core.Path.{◌≡◌, sym, ap, ◌∙◌}
use Prim.Native.Nat.{suc, ◌+◌, ◌-◌}
use native.Mathlib.Omega.{arith}
use borrow.Author.Rules.{rules}
use Rattle.rules.specs.Rules as R
use Rattle.bodies.proofs.Filling.{widths-none, widths-several, widths-one, wide-none, wide-more, wide-other}
use Rattle.bodies.proofs.widths_of.Goals as goal

pub returns-then-cs-eq0 : goal.returns-then-cs-eq0
returns-then-cs-eq0 c = widths-none _ _ _ _ c.if-cs-eq0.true

pub returns-then-width : goal.returns-then-width
returns-then-width c =
    let l = c.loop-i in
    widths-several _ _ _ _ _ (c.args.cs.count - 1) (omega arith) l.invariant.3
    (l.invariant.4 ∙ wide-other _ _ _ _ _ (c.args.cs.count - l._i - 1) (omega arith)
    (λ e. c.if-width.true (c.width.ensures.0 ∙ (ap R.width c.number-in-loop-i.ensures.0 ∙ e))))

pub loop-i-preserved : goal.loop-i-preserved
loop-i-preserved c =
    let l = c.loop-i in
    let m : c.args.cs.count - l._i ≡ suc (c.args.cs.count - (l._i + 1)) = omega arith in
    let e = sym (c.width.ensures.0 ∙ ap R.width c.number-in-loop-i.ensures.0) ∙ c.if-width.false in
    (search rules, l.invariant.1, omega arith, l.invariant.3, l.invariant.4 ∙ wide-more _ _ _ _ _ (c.args.cs.count - (l._i + 1)) m e)

pub returns : goal.returns
returns c =
    let l = c.loop-i in
    let n : c.args.cs.count - l._i ≡ 0 = omega (arith, c.loop-i-test.false) in
    widths-one _ _ _ _ _ (c.args.cs.count - 1) (omega arith) l.invariant.3 (l.invariant.4 ∙ wide-none _ _ _ _ _ n)
