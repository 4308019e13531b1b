-- `records::channels::channels_body` meets its contract: one case for each test, and the channels. Assumes nothing.
use Rattle.rules.proofs.Handed.{handed}
use lib.ListN.{length}
use Prim.Native.Nat.{ℕ, ◌+◌, ◌-◌}
use mathlib.Core.Path.{◌≡◌, ap, ◌∙◌}
use Rattle.walk.specs.See.{goes}
use Rattle.walk.proofs.Seen.{places, walks}
use Rattle.rules.specs.Rules.{channels_body}
use native.Mathlib.Omega.{arith}
use borrow.Author.Tests.{eq-eqb, ne_eqb}
use Rattle.records.proofs.channels.channels_body.Goals as goal

pub returns-then-not-between : goal.returns-then-not-between
unfolding channels_body
returns-then-not-between c = simp (walks, c.if-not-between.true, ← c.between.ensures, ← c.field-m.ensures.0)

pub returns-then-not-counts_ok : goal.returns-then-not-counts_ok
unfolding channels_body
returns-then-not-counts_ok c = simp (walks, c.if-not-counts_ok.true, ← c.counts_ok.ensures, c.if-not-between.false, ← c.between.ensures, ← c.field-m.ensures.0)

pub returns-then-n-m : goal.returns-then-n-m
unfolding channels_body
returns-then-n-m c =
    simp (walks, ne_eqb _ _ c.if-n-m.true, c.if-not-counts_ok.false, ← c.counts_ok.ensures, c.if-not-between.false, ← c.between.ensures, ← c.field-m.ensures.0)

pub returns-then-field-ne-SIZE : goal.returns-then-field-ne-SIZE
unfolding channels_body
returns-then-field-ne-SIZE c =
    simp (walks, ne_eqb _ _ c.if-field-ne-SIZE.true, ← c.field.ensures.0, eq-eqb _ _ c.if-n-m.false, c.if-not-counts_ok.false, ← c.counts_ok.ensures, c.if-not-between.false, ← c.between.ensures, ← c.field-m.ensures.0)

pub returns-in_err-channels_from : goal.returns-in_err-channels_from
unfolding channels_body
returns-in_err-channels_from c =
    rw (handed _ c.from_residual.ensures)
    (let r : 16 + length c.args.s.now - 32 ≡ length c.args.s.now - 16 = omega arith in
    simp (walks, r, c.in_err-channels_from.was, eq-eqb _ _ c.if-field-ne-SIZE.false, ← c.field.ensures.0, eq-eqb _ _ c.if-n-m.false, c.if-not-counts_ok.false, ← c.counts_ok.ensures, c.if-not-between.false, ← c.between.ensures, ← c.field-m.ensures.0) (simp places at (c.in_err-channels_from.ensures.seen)))

pub returns : goal.returns
unfolding channels_body
returns c =
    let x = c in
    let z = x in
    let v = c.in_ok-channels_from.ensures.stands in
    let r : 16 + length z.args.s.now - 32 ≡ length z.args.s.now - 16 = omega arith in
    simp (walks, r, eq-eqb _ _ c.if-field-ne-SIZE.false, ← c.field.ensures.0, eq-eqb _ _ c.if-n-m.false, c.if-not-counts_ok.false, ← c.counts_ok.ensures, x.if-not-between.false, ← x.between.ensures, ← x.field-m.ensures.0) (simp places at (c.in_ok-channels_from.ensures.seen) ∙ ap (λ (x : ℕ). goes tt x) (omega arith))
