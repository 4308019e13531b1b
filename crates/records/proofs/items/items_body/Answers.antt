-- `records::items::items_body` meets its contract: the count, the items, and where they end. Assumes nothing.
use Rattle.rules.proofs.Handed.{handed}
use Prim.Native.Nat.{ℕ, ◌+◌}
use lib.Dec.{eqb}
use lib.ListN.{length}
use mathlib.Core.Path.{◌≡◌, ap, ◌∙◌}
use Rattle.walk.specs.See.{goes, gate, see, ends}
use Rattle.walk.proofs.Seen.{gates, tests}
use Rattle.rules.specs.Rules.{items_body}
use Rattle.records.specs.Says.{ok_of}
use Rattle.records.proofs.Steps.{items-many, items-stop, items-end}
use native.Mathlib.Omega.{arith}
use borrow.Author.Tests.{eq-eqb}
use Rattle.records.proofs.items.items_body.Goals as goal
use Rattle.records.proofs.items.items_body.Goals.{In_ok-q}

-- the items are as many as the count says: what their end decides
passed : (x : In_ok-q) →
    let a = x.args in
    let s = a.s.now in
    let q = x.in_ok-q.q in
    ends (see a.o (a.at + 16) s (a.at + 16) (items_body (ok_of a.k) (16 + length s))) ≡ gate (eqb q (length s)) (goes tt (a.at + 16 + q)) 14 (a.at + 16)
passed x =
    let n = x.field-count.ensures.0 in
    items-end _ _ _ _ _ (simp (tests, ← n, x.if-count-gt-MOST.false)) x.requires.long (rw n at x.in_ok-q.ensures.seen)

pub returns-then-count-gt-MOST : goal.returns-then-count-gt-MOST
returns-then-count-gt-MOST c = items-many _ _ _ _ (simp (tests, ← c.field-count.ensures.0, c.if-count-gt-MOST.true))

pub returns-in_err-q : goal.returns-in_err-q
returns-in_err-q c =
    let n = c.field-count.ensures.0 in
    rw (handed _ c.from_residual.ensures) (items-stop _ _ _ _ (simp (tests, ← n, c.if-count-gt-MOST.false)) (rw n at c.in_err-q.ensures.seen))

pub returns-then-q-s : goal.returns-then-q-s
returns-then-q-s c = passed (goal.at.returns-then-q-s c).In_ok-q ∙ simp (gates, tests, c.if-q-s.true)

pub returns : goal.returns
returns c = passed (goal.at.returns c).In_ok-q ∙ simp (gates, tests, eq-eqb _ _ c.if-q-s.false) (ap (λ (x : ℕ). goes tt x) (omega arith))
