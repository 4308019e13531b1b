-- `rows::record_rows` meets its contract: its own row, and then those of the records that it holds.
-- Assumes nothing.
use mathlib.Core.Path.{sym, ◌∙◌}
use native.Mathlib.Omega.{arith}
use Rattle.rows.proofs.Body.{held-group, held-140, held_none}
use Rattle.rows.proofs.Written.{wrote-join}
use Rattle.rows.proofs.record_rows.Goals as goal

pub returns-then-is_group : goal.returns-then-is_group
returns-then-is_group c =
    let r = c.channels_rows.ensures in
    let g = sym c.is_group.ensures ∙ c.if-is_group.true in
    record { reaches = r.reaches; wrote = λ n. rw (held-group _ _ _ _ _ g) (wrote-join _ _ _ _ _ _ _ _ _ c.put-next.ensures (r.wrote (n.channels g))) }

pub returns-then-code-eq-CODE : goal.returns-then-code-eq-CODE
returns-then-code-eq-CODE c =
    let r = c.frames_rows.ensures in
    record { reaches = r.reaches; wrote = λ n. rw (held-140 _ _ _ _ _ c.if-code-eq-CODE.true) (wrote-join _ _ _ _ _ _ _ _ _ c.put-next.ensures (r.wrote (n.frames c.if-code-eq-CODE.true))) }

pub returns : goal.returns
returns c =
    let r = c.put-next.ensures in
    record { reaches = omega (arith, r.next); wrote = λ n. rw (held_none _ _ _ _ _ (sym c.is_group.ensures ∙ c.if-is_group.false) c.if-code-eq-CODE.false) r }
