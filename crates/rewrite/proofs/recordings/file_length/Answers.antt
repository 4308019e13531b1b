-- `rewrite::recordings::file_length` meets its contract. The loop's invariant: the sum is what the header and the recordings that are passed take.
-- Assumes nothing.
use mathlib.Core.Path.{refl}
use Prim.Native.Nat.{◌+◌, ◌-◌}
use native.Mathlib.Omega.{arith}
use Rattle.walk.specs.Walk.{size}
use Rattle.rules.specs.Canonical as C
use Rattle.children.proofs.Again.{along-start, along-stop, along-next, along-end}
use Rattle.rewrite.proofs.Files.{length_most, counted_next}
use Rattle.rewrite.proofs.recordings.file_length.Goals as goal

pub loop-i-init : goal.loop-i-init
unfolding size C.recording_events
loop-i-init c = record { most = omega arith; along = along-start (omega arith) refl }

pub returns-in_default : goal.returns-in_default
returns-in_default c =
    λ ps e g. along-stop c.loop-i.invariant.along c.loop-i-test.true _ c.recording_again.ensures c.in_default.is g

pub loop-i-preserved : goal.loop-i-preserved
loop-i-preserved c =
    let l = c.loop-i in
    let r = c.recording_again in
    let a = c.measure_at in
    record {
      most = omega (arith, l.invariant.most, c.measured_length-sum.ensures, length_most (c.in-Ok.q.end - (l.p + 16)) a.result a.ensures.bounds);
      along = along-next l.invariant.along c.loop-i-test.true _ r.ensures c.in-Ok.is
          (λ held done _ x many n h. counted_next done many n _ a.result a.ensures c.measured_length-sum.ensures h);
    }

pub returns : goal.returns
returns c = λ ps e g. along-end c.loop-i.invariant.along c.loop-i-test.false ps e g
