-- `recordings::recording_asked` meets its contract: the file's refusal, 19 outside its recordings, and else the one that the walk reaches.
-- Assumes nothing.
use Rattle.rules.proofs.Handed.{handed}
use mathlib.Core.Path.{refl, sym, ◌∙◌}
use native.Mathlib.Omega.{arith}
use Rattle.words.proofs.Words.{bytes}
use Rattle.records.proofs.Facts.{between_in}
use Rattle.judge.proofs.Accepted.{accepted, accepted-long}
use Rattle.recordings.proofs.Reach.{asked-outside, asked-found}
use Rattle.recordings.proofs.recording_asked.Goals as goal

pub returns-then-not-within : goal.returns-then-not-within
returns-then-not-within c =
    let x = accepted c.in_ok-h.was c.judge.ensures in
    asked-outside _ _ x _ (sym c.within.ensures ∙ c.if-not-within.true)

pub overflow_cast-recording : goal.overflow_cast-recording
overflow_cast-recording c =
    let l = between_in _ _ _ (sym c.within.ensures ∙ c.if-not-within.false) in
    omega (arith, l.1)

pub recordings_to-requires : goal.recordings_to-requires
recordings_to-requires c =
    let x = accepted c.in_ok-h.was c.judge.ensures in
    let l = sym c.within.ensures ∙ c.if-not-within.false in
    record {
      file = record { header = accepted-long _ _ x; short = omega (arith, c.well_formed) };
      first = (between_in 1 _ _ l).0;
    }

pub returns-in_err-q : goal.returns-in_err-q
returns-in_err-q c =
    rw (handed _ c.from_residual-in_err-q.ensures)
    (let x = accepted c.in_ok-h.was c.judge.ensures in
    let l = sym c.within.ensures ∙ c.if-not-within.false in
    absurd ((c.in_err-q.ensures _ x refl refl (between_in 1 _ _ l).1)))

pub returns : goal.returns
returns c =
    let x = accepted c.in_ok-h.was c.judge.ensures in
    let l = sym c.within.ensures ∙ c.if-not-within.false in
    let s = bytes c.args.file.now (λ i. omega (arith, c.type_inv.file i)) in
    asked-found _ _ x s _ refl _ _ ((c.in_ok-q.ensures _ x refl refl (between_in 1 _ _ l).1))
