-- `overview::epochs_asked` meets its contract: from the track, by the laws of Told.
-- Assumes nothing.
use mathlib.Core.Path.{sym, ◌∙◌}
use Prim.Native.Nat.{◌^◌, ◌<◌}
use borrow.Author.Rules.{rules}
use Rattle.overview.proofs.Answers.{handed}
use Rattle.overview.proofs.Seconds.{seconds-low}
use Rattle.overview.proofs.Told.{bytes, range-refused, range-unserved, range-outside}
use Rattle.overview.proofs.epochs_asked.Goals as goal

pub returns-in_err-t : goal.returns-in_err-t
returns-in_err-t c =
    let a = c.args in
    let b = bytes a.file.now (λ i. (c.type_inv.file i).fits) in
    rw (handed _ c.from_residual.ensures) (sym (range-refused _ b _ _ a.first a.number _ c.in_err-t.ensures))

pub returns-then-not-is_whole : goal.returns-then-not-is_whole
returns-then-not-is_whole c =
    let a = c.args in
    let b = bytes a.file.now (λ i. (c.type_inv.file i).fits) in
    sym (range-unserved _ b _ _ _ c.in_ok-t.ensures a.first a.number (sym c.is_whole.ensures ∙ c.if-not-is_whole.true))

pub returns-then-not-is_inside : goal.returns-then-not-is_inside
returns-then-not-is_inside c =
    let a = c.args in
    let b = bytes a.file.now (λ i. (c.type_inv.file i).fits) in
    let whole = sym c.is_whole.ensures ∙ c.if-not-is_whole.false in
    sym (range-outside _ b _ _ _ c.in_ok-t.ensures whole a.first a.number (sym c.is_inside.ensures ∙ c.if-not-is_inside.true))

pub returns : goal.returns
returns c =
    let t = c.in_ok-t.t in
    let frames : t.frames < 2 ^ 32 = search rules in
    let seconds : t.seconds < 2 ^ 32 = search rules in
    record {
      bytes = bytes c.args.file.now (λ i. (c.type_inv.file i).fits);
      answer = c.in_ok-t.ensures;
      whole = sym c.is_whole.ensures ∙ c.if-not-is_whole.false;
      inside = sym c.is_inside.ensures ∙ c.if-not-is_inside.false;
      low = seconds-low t frames seconds;
    }
