-- `judge::recording::recording_again` meets its contract: a head that is refused is none that was accepted, or the body says what it is.
-- x: behind the head. Assumes nothing.
use Rattle.std.proofs.Common.{Ok}
use Rattle.rules.proofs.Handed.{handed}
use native.Mathlib.Omega.{arith}
use lib.ListN.{take, drop}
use Prim.Native.Nat.{◌+◌, ◌-◌}
use Rattle.rules.specs.declared.Kind.TheVariants as Kind
use Rattle.records.specs.Says.{OpenAt}
use Rattle.judge.specs.Recorded.{BodyIn}
use Rattle.judge.proofs.Recorded.{body-asked, again-refused, again-body}
use Rattle.judge.proofs.recording.recording_again.Goals as goal
use Rattle.judge.proofs.recording.recording_again.Goals.{In_ok-end}

-- the head that passed, and what its body is
begun : (x : In_ok-end) →
    let a = x.args in
    OpenAt a.o 0 a.file.now a.p Kind.Any (Ok (x.in_ok-end.field-0-0, x.in_ok-end.end))
begun x = x.in_ok-end.ensures

asked : (x : In_ok-end) →
    let a = x.args in
    let q = x.in_ok-end.end in
    BodyIn a.file.now (take (q - (a.p + 16)) (drop (a.p + 16) a.file.now)) a.p a.before
asked x =
    let st = (begun x).stands in
    body-asked x.args.file.now x.args.p x.in_ok-end.end (omega arith) st.inside x.requires

pub returns-in_err-end : goal.returns-in_err-end
returns-in_err-end c =
    rw (handed _ c.from_residual.ensures) (again-refused (c.in_err-end.ensures))

pub returns : goal.returns
returns c =
    again-body (begun (goal.at.returns c).In_ok-end) (asked (goal.at.returns c).In_ok-end) c.body_again.ensures
