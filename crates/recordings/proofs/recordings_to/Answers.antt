-- `recordings::recordings_to` meets its contract: each answer of `recording_again` is that of the next recording.
-- Assumes nothing.
use Rattle.std.proofs.Common.{Ok, Err, Some, None}
use mathlib.Core.Path.{◌≡◌}
use native.Mathlib.Omega.{arith}
use Rattle.words.proofs.Words.{bytes}
use Rattle.rules.proofs.Handed.{handed}
use Rattle.recordings.proofs.Reach.{ok_of, going_start, met, met-reached}
use Rattle.recordings.proofs.recordings_to.Goals as goal

pub returns-in_err-places : goal.returns-in_err-places
returns-in_err-places c =
    rw (handed _ c.from_residual.ensures)
    (let a = c.args in
    let p = c.requires in
    λ h x e d l.
    let b = bytes a.file.now (λ j. omega (arith, c.type_inv.file j)) in
    absurd (met None (going_start a.file.now h x a.o a.label e d) (omega (arith, l, p.first)) p.file.header (ok_of _ b h x d) (Err _) c.in_err-places.ensures))

pub loop-i-init : goal.loop-i-init
loop-i-init c =
    let a = c.args in
    let p = c.requires in
    let k = c.in_ok-places.ensures in
    record {
      within = p.first;
      start = 32;
      bounds = k.continues;
      meets = λ h x e d l.
          let b = bytes a.file.now (λ j. omega (arith, c.type_inv.file j)) in
          met None (going_start a.file.now h x a.o a.label e d) (omega (arith, l, p.first)) p.file.header (ok_of _ b h x d) (Ok c.in_ok-places.places) k;
    }

pub returns-in_err-places-2 : goal.returns-in_err-places-2
returns-in_err-places-2 c =
    rw (handed _ c.from_residual-in_err-places-2.ensures)
    (let i = c.loop-i.invariant in
    λ h x o g l.
    let b = bytes c.args.file.now (λ j. omega (arith, c.type_inv.file j)) in
    absurd (met (Some c.loop-i.places) (i.meets h x o g l) (omega (arith, l, c.loop-i-test.true)) i.bounds.end (ok_of _ b h x g) (Err _) c.in_err-places-2.ensures))

pub loop-i-preserved : goal.loop-i-preserved
loop-i-preserved c =
    let i = c.loop-i.invariant in
    let u = c.in_ok-places-2.ensures in
    record {
      within = omega arith;
      start = c.loop-i.places.end;
      bounds = u.continues;
      meets = λ h x o g l.
          let b = bytes c.args.file.now (λ j. omega (arith, c.type_inv.file j)) in
          met (Some c.loop-i.places) (i.meets h x o g l) (omega (arith, l, c.loop-i-test.true)) i.bounds.end (ok_of _ b h x g) (Ok c.in_ok-places-2.places) u;
    }

pub returns : goal.returns
returns c =
    let k = c.loop-i in
    let a = c.args in
    let d : k._i ≡ a.n = omega (arith, k.invariant.within) in
    λ h x o g e. met-reached a.o a.label a.file.now h.count x.file.recordings a.n (Ok k.places) (rw d at (k.invariant.meets h x o g e))
