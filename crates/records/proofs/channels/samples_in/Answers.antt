-- `records::channels::samples_in` meets its contract: no rate, Hz, or a period. Assumes nothing.
use Prim.Native.Nat.{◌*◌}
use native.Mathlib.Nat.{div-le_self}
use Rattle.walk.proofs.Seen.{tests}
use Rattle.rules.specs.Rules.{samples_of}
use Rattle.records.proofs.Facts.{samples-short}
use native.Mathlib.Omega.{arith}
use borrow.Author.Tests.{eq-eqb}
use Rattle.records.proofs.channels.samples_in.Goals as goal

pub returns-then-rate-eq0 : goal.returns-then-rate-eq0
unfolding samples_of
returns-then-rate-eq0 c = (simp (tests, eq-eqb _ _ c.if-rate-eq0.true), omega arith)

pub returns-then-flags-eq0 : goal.returns-then-flags-eq0
unfolding samples_of
returns-then-flags-eq0 c = (simp (tests, eq-eqb _ _ c.if-flags-eq0.true, c.if-rate-eq0.false), samples-short c.args.rate c.args.t (omega arith) (omega arith))

pub returns : goal.returns
unfolding samples_of
returns c = (simp (tests, c.if-flags-eq0.false, c.if-rate-eq0.false), omega (arith, div-le_self (c.args.t * 1000000) c.args.rate))
