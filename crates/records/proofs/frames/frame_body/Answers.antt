-- `records::frames::frame_body` meets its contract: one case for each test, and the padding. Assumes nothing.
use Rattle.walk.proofs.Seen.{then-skip, walks, tests}
use Rattle.rules.specs.Rules.{sample_bytes, frame_body}
use Rattle.records.proofs.Laws.{tested-give}
use Rattle.records.proofs.Steps.{ends-samples}
use lib.ListN.{length}
use mathlib.Core.Path.{◌≡◌}
use Prim.Native.Nat.{◌+◌, ◌-◌}
use native.Mathlib.Omega.{arith}
use Rattle.records.proofs.frames.frame_body.Goals as goal

pub returns-then-short_field-gt23 : goal.returns-then-short_field-gt23
unfolding frame_body
returns-then-short_field-gt23 c = λ t cs e. simp (walks, tests, c.if-short_field-gt23.true, ← c.short_field.ensures.0)

pub returns-then-short_field-gt59 : goal.returns-then-short_field-gt59
unfolding frame_body
returns-then-short_field-gt59 c = λ t cs e. simp (walks, tests, c.if-short_field-gt59.true, ← c.short_field-2.ensures.0, c.if-short_field-gt23.false, ← c.short_field.ensures.0)

pub returns-then-short_field-gt59-2 : goal.returns-then-short_field-gt59-2
unfolding frame_body
returns-then-short_field-gt59-2 c =
    λ t cs e. simp (walks, tests, c.if-short_field-gt59-2.true, ← c.short_field-3.ensures.0, c.if-short_field-gt59.false, ← c.short_field-2.ensures.0, c.if-short_field-gt23.false, ← c.short_field.ensures.0)

pub returns : goal.returns
unfolding frame_body
returns c =
    let z = c in
    let o = z.args.o in
    let s = z.args.s.now in
    let a = z.args.at in
    let f = z.args.filled in
    λ t cs e.
    let d : a + 24 + sample_bytes t cs ≡ a + 16 + (f - 16) = omega arith in
    let m : 16 + length s - (24 + sample_bytes t cs) ≡ length s - (f - 16) = omega arith in
    let z : a + (16 + length s) ≡ a + 16 + length s = omega arith in
    simp (walks, tests, c.if-short_field-gt59-2.false, ← c.short_field-3.ensures.0, c.if-short_field-gt59.false, ← c.short_field-2.ensures.0, c.if-short_field-gt23.false, ← c.short_field.ensures.0)
    (then-skip _ _ (a + 24 + sample_bytes t cs) _ (ends-samples o (a + 16) s t cs (a + 24))
    (λ ss. rw (d, m, z, c.padding.ensures o) (tested-give c.padding.result _ _)))
