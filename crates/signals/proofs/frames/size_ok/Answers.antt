-- `signals::frames::size_ok` meets its contract: a frame of this length holds so many bytes of samples, and at most 127 bytes more.
use Prim.Native.Nat.{◌+◌, ◌<◌, ◌≤◌}
use native.Mathlib.Omega.{arith}
use Rattle.walk.proofs.Seen.{tests}
use Rattle.rules.specs.Rules.{between}
use Rattle.signals.proofs.frames.size_ok.Goals as goal

pub returns-then-size-lt-SAMPLES : goal.returns-then-size-lt-SAMPLES
unfolding between
returns-then-size-lt-SAMPLES c =
    let h : c.args.size < 24 + c.args.bytes = omega arith in
    simp (tests, h)

pub returns-then-rest-bytes : goal.returns-then-rest-bytes
unfolding between
returns-then-rest-bytes c =
    let h : c.args.size < 24 + c.args.bytes = omega arith in
    simp (tests, h)

pub returns-then-rest-bytes-gt-MOST_PADDING : goal.returns-then-rest-bytes-gt-MOST_PADDING
unfolding between
returns-then-rest-bytes-gt-MOST_PADDING c =
    let h : 24 + c.args.bytes ≤ c.args.size = omega arith in
    let k : 24 + c.args.bytes + 127 < c.args.size = omega arith in
    simp (tests, h, k)

pub returns : goal.returns
unfolding between
returns c =
    let h : 24 + c.args.bytes ≤ c.args.size = omega arith in
    let k : c.args.size ≤ 24 + c.args.bytes + 127 = omega arith in
    simp (tests, h, k)
