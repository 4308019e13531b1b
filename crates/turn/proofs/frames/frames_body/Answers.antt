-- `turn::frames::frames_body` meets its contract. The loop's invariant: what is written of the body is what stands before the next frame, which is read where
-- it is written.
-- Assumes nothing.
use mathlib.Core.Path.{◌≡◌, refl, ap, ◌∙◌}
use Prim.Native.Nat.{ℕ, ◌+◌, ◌-◌, ◌*◌, ◌≤◌}
use native.Mathlib.Omega.{arith}
use native.Mathlib.Nat.{mul-add}
use lib.ListN.{length}
use Rattle.rows.proofs.Written.{series-reach}
use Rattle.turn.proofs.Turning.{framed, framing-start, framing-more, framing-end}
use borrow.Author.Rules.{rules}
use Rattle.turn.proofs.frames.frames_body.Goals as goal
use Rattle.turn.proofs.frames.frames_body.Goals.{In-loop-i}

-- the frame that a turn writes ends in the body
reach : (c : In-loop-i) →
    let a = c.args in
    c.loop-i.k + a.size ≤ length a.s.now
reach c =
    let a = c.args in
    omega (arith, series-reach c.loop-i._i a.count 16 a.size (omega arith))

pub loop-i-init : goal.loop-i-init
loop-i-init c =
    let a = c.args in (
      search rules,
      omega arith,
      search rules,
      c.d-2-1.given.1 ∙ (c.d-1.given.1 ∙ c.requires.part.room),
      refl,
      λ b k ch hd f e st l e₁ e₂ e₃ q v. framing-start (framed a.w b a.s.now k ch hd q v a.t a.size a.count e₁ e₂ e₃) a.d.now _ _ _ c.requires.part.room
          (c.numbers.ensures b) refl (c.reserved.ensures (b + 12)),
    )

pub loop-i-preserved : goal.loop-i-preserved
loop-i-preserved c =
    let l = c.loop-i in
    let a = c.args in
    let m : l.k + a.size - l.k ≡ a.size = omega arith in (
      search rules,
      omega (arith, mul-add a.size l._i 1),
      reach (goal.at.loop-i-preserved c).In-loop-i,
      c.d-in-loop-i-1.given.1 ∙ l.invariant.3,
      omega arith,
      λ b k ch hd f e st j e₁ e₂ e₃ q v.
          framing-more (l.invariant.5 b k ch hd f e st j e₁ e₂ e₃ q v) (l.k + a.size - l.k) (l.k + a.size - l.k) _ c.loop-i-test.true
          (reach (goal.at.loop-i-preserved c).In-loop-i) m m
          (rw l.invariant.4 at (c.frame.ensures (b + l.k) (length a.s.now - l.k) (l._i + 1) ch st j)),
    )

pub returns : goal.returns
returns c =
    let l = c.loop-i in
    let h : l._i ≡ c.args.count = omega arith in
    λ b k ch hd f e st m e₁ e₂ e₃ q v. framing-end (l.invariant.5 b k ch hd f e st m e₁ e₂ e₃ q v) _ c.loop-i-test.false
    (l.invariant.1 ∙ ap (λ (n : ℕ). 16 + c.args.size * n) h) l.invariant.2 (rw l.invariant.4 at c.copy_run.ensures)
