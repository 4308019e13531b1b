-- `transcripts::head` meets its contract: the head at byte p of s, if there is room for it.
use Prim.Native.Nat.{◌+◌}
use native.Mathlib.Omega.{arith}
use Rattle.transcripts.proofs.Transcribing.{head-written, head-full}
use Rattle.transcripts.proofs.head.Goals as goal

pub returns-then-out-k-lt-LENGTH : goal.returns-then-out-k-lt-LENGTH
returns-then-out-k-lt-LENGTH c =
    let a = c.args in
    let p = c.requires in
    (p.target, λ b room. head-full a.w b a.s.now a.p room p.source a.out.now a.k c.if-out-k-lt-LENGTH.true)

pub returns : goal.returns
returns c =
    let a = c.args in
    let p = c.requires in
    (omega arith, λ b room. head-written a.w b a.s.now a.p room p.source a.out.now a.k _ (c.numbers.ensures (b + a.p)))
