-- `records::frames::frames_from` meets its contract: the frames up to i are passed. Assumes nothing.
use Rattle.rules.proofs.Handed.{handed}
use Rattle.records.proofs.Steps.{series-stop, series-go, series-none}
use borrow.Author.Rules.{rules}
use native.Mathlib.Numerals.{add-one}
use native.Mathlib.Nat.{mul-suc}
use mathlib.Core.Path.{◌≡◌, ◌∙◌}
use Prim.Native.Nat.{◌+◌, ◌*◌}
use native.Mathlib.Omega.{arith}
use Rattle.records.proofs.frames.frames_from.Goals as goal

pub returns-in_err-p : goal.returns-in_err-p
returns-in_err-p c =
    rw (handed _ c.from_residual.ensures) (record { seen = (λ t cs e. c.loop-i.invariant.3 t cs e ∙ series-stop _ _ _ _ _ _ _ _ _ _ _ c.loop-i-test.true ((c.in_err-p.ensures.seen t cs e))); stands = tt })

pub loop-i-preserved : goal.loop-i-preserved
loop-i-preserved c =
    let v = c.in_ok-p.ensures.stands in
    let m : c.args.size * (c.loop-i.i + 1) ≡ c.args.size * c.loop-i.i + c.args.size = rw add-one (mul-suc c.args.size c.loop-i.i) in
    (search rules, omega arith, v.1, λ t cs e. c.loop-i.invariant.3 t cs e ∙ series-go _ _ _ _ _ _ _ _ _ c.loop-i-test.true v.0 ((c.in_ok-p.ensures.seen t cs e)))

pub returns : goal.returns
returns c =
    let n : c.loop-i.i ≡ c.args.count = omega arith in
    record { seen = (λ t cs e. c.loop-i.invariant.3 t cs e ∙ series-none _ _ _ _ _ _ _ _ _ c.loop-i-test.false); stands = (rw n at c.loop-i.invariant.1, c.loop-i.invariant.2) }
