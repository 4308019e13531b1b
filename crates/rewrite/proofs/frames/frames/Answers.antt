-- `rewrite::frames::frames` meets its contract: where there is room, the head and the body of the 140 are written one behind the other.
-- Assumes nothing.
use Prim.Native.Nat.{◌+◌, ◌-◌}
use native.Mathlib.Omega.{arith}
use Rattle.words.specs.Numbers.{Bytes}
use Rattle.words.proofs.Words.{bytes}
use Rattle.rewrite.proofs.Bodied.{signals-full, signals-written}
use Rattle.rewrite.proofs.frames.frames.Goals as goal
use Rattle.rewrite.proofs.frames.frames.Goals.{After-struct_known-1}

is-bytes : (c : After-struct_known-1) → Bytes c.args.s.now
is-bytes c = bytes c.args.s.now (λ i. (c.type_inv.s i).fits)

pub returns-then-out-k : goal.returns-then-out-k
returns-then-out-k c = signals-full _ _ _ _ _ _ _ (is-bytes (goal.at.returns-then-out-k c).After-struct_known-1) c.requires.target c.if-out-k.true

pub returns : goal.returns
returns c =
    let a = c.args in
    signals-written a.w a.file.now a.s.now a.cs a.f a.out.now _ _ a.k (a.k + 16 - a.k) (a.k + a.f.signals.length - (a.k + 16))
    (is-bytes (goal.at.returns c).After-struct_known-1) (omega arith) (omega (arith, c.requires.bounds.signals))
    (omega (arith, c.if-out-k.false, c.requires.target))
    c.out-1.given.1 c.put_head.ensures c.frames_body.ensures
