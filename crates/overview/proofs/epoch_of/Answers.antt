-- `overview::epoch_of` meets its contract: no samples, or those of its frames.
-- Assumes nothing.
use Prim.Native.Nat.{ℕ, ◌+◌, ◌-◌, ◌*◌, ◌^◌, ◌<◌}
use mathlib.Core.Path.{refl}
use native.Mathlib.Omega.{arith}
use borrow.Author.Rules.{rules}
use mir.Syntax.{w32}
use mir.Val.{SFits}
use Rattle.overview.proofs.Epochs.{count_low, no_samples, no_frames, epoch-some}
use Rattle.overview.proofs.Foremost.{recast}
use Rattle.overview.proofs.Seconds.{started-few}
use Rattle.overview.proofs.epoch_of.Goals as goal

pub returns-then-place-eq0 : goal.returns-then-place-eq0
returns-then-place-eq0 c = no_samples _ _ _ c.if-place-eq0.true

pub returns-then-end-first : goal.returns-then-end-first
returns-then-end-first c = no_frames _ _ _ (omega (arith, c.if-end-first.true, c.started_by-end.ensures, c.started_by-first.ensures))

pub of_frames-x-requires : goal.of_frames-x-requires
of_frames-x-requires c =
    let few = started-few c.args.t (30 * c.args.epoch + 30) in
    record {
      tracked = c.requires.tracked;
      samples = omega (arith, c.if-place-eq0.false);
      first = c.if-end-first.false;
      last = omega (arith, c.started_by-end.ensures, few);
    }

pub overflow_mul-result : goal.overflow_mul-result
overflow_mul-result c =
    let frames : c.args.t.frames < 2 ^ 32 = search rules in
    let few = started-few c.args.t (30 * c.args.epoch + 30) in
    let m : ℕ = c.started_by-end.result - c.started_by-first.result in
    let low = count_low c.args.t.first.count m c.requires.tracked.few (omega (arith, c.started_by-end.ensures, few, frames)) in
    record { fits = omega (arith, low) }

pub returns : goal.returns
returns c =
    let frames : c.args.t.frames < 2 ^ 32 = search rules in
    let f : SFits w32 c.of_frames-x.result.smallest = search rules in
    let g : SFits w32 c.of_frames-x.result.largest = search rules in
    epoch-some _ _ _ _ _ c.started_by-first.ensures c.started_by-end.ensures (omega (arith, c.if-place-eq0.false)) c.if-end-first.false
    c.requires.tracked.few frames _ c.of_frames-x.ensures _ (recast f c.from.ensures) (recast g c.from-2.ensures) refl
