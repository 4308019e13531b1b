-- `records::admit_with` meets its contract: one case for each test, in the order of the rules. Assumes nothing.
use Rattle.walk.proofs.Seen.{leb-fits, walks, tests}
use Rattle.rules.specs.Rules.{admit}
use native.Mathlib.Omega.{arith}
use Rattle.records.proofs.kinds.admit_with.Goals as goal

pub returns-then-most-h : goal.returns-then-most-h
unfolding admit
returns-then-most-h c = ((λ o b s. simp (walks, tests, c.if-most-h.true)), tt)

pub returns-then-h-ge-LIMIT : goal.returns-then-h-ge-LIMIT
unfolding admit
returns-then-h-ge-LIMIT c =
    ((λ o b s. simp (walks, tests, c.if-h-ge-LIMIT.true, c.if-most-h.false)), tt)

pub returns-then-not-length_ok : goal.returns-then-not-length_ok
unfolding admit
returns-then-not-length_ok c =
    ((λ o b s. simp (walks, tests, c.if-not-length_ok.true, ← c.length_ok.ensures, ← c.span-length.ensures.0, c.if-h-ge-LIMIT.false, c.if-most-h.false)), tt)

pub returns-then-n-h : goal.returns-then-n-h
unfolding admit
returns-then-n-h c =
    ((λ o b s. simp (walks, tests, leb-fits _ _ c.requires.head.low, c.if-n-h.true, c.if-not-length_ok.false, ← c.length_ok.ensures, ← c.span-length.ensures.0, c.if-h-ge-LIMIT.false, c.if-most-h.false)), tt)

pub returns-then-not-serial_ok : goal.returns-then-not-serial_ok
unfolding admit
returns-then-not-serial_ok c =
    ((λ o b s. simp (walks, tests, leb-fits _ _ c.requires.head.low, c.if-not-serial_ok.true, ← c.serial_ok.ensures, c.if-n-h.false, c.if-not-length_ok.false, ← c.length_ok.ensures, ← c.span-length.ensures.0, c.if-h-ge-LIMIT.false, c.if-most-h.false)), tt)

pub returns : goal.returns
unfolding admit
returns c =
    ((λ o b s. simp (walks, tests, leb-fits _ _ c.requires.head.low, c.if-not-serial_ok.false, ← c.serial_ok.ensures, c.if-n-h.false, c.if-not-length_ok.false, ← c.length_ok.ensures, ← c.span-length.ensures.0, c.if-h-ge-LIMIT.false, c.if-most-h.false)), (simp c.span-length.ensures.0, omega arith, simp (← c.span-length.ensures.0, ← c.length_ok.ensures, c.if-not-length_ok.false)))
