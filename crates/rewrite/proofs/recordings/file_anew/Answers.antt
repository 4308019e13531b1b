-- `rewrite::recordings::file_anew` meets its contract. The loop's invariant: behind the header stands the canonical form of the recordings that are passed.
-- Assumes nothing.
use mathlib.Core.Path.{refl, ◌∙◌}
use native.Mathlib.Omega.{arith}
use Rattle.walk.specs.Walk.{size, render}
use Rattle.walk.proofs.Laws.{length-render}
use Rattle.rules.specs.Canonical as C
use Rattle.children.proofs.Again.{along-start, along-stop, along-next, along-end}
use Rattle.bodies.proofs.Copying.{pastes-nothing}
use Rattle.turn.proofs.Sent.{whole-file}
use Rattle.rewrite.proofs.Files.{events_of, written_next}
use Rattle.rewrite.proofs.recordings.file_anew.Goals as goal

pub loop-i-init : goal.loop-i-init
unfolding size render C.recording_events
loop-i-init c =
    record {
      fits = omega (arith, c.out-1.given.1, c.requires.header);
      same = refl;
      along =
          along-start c.requires.counts.file.header (record { is = pastes-nothing _ 32 });
    }

pub returns-in_default : goal.returns-in_default
returns-in_default c =
    λ ps e g room. along-stop c.loop-i.invariant.along c.loop-i-test.true _ c.recording_again.ensures c.in_default.is g

pub loop-i-preserved : goal.loop-i-preserved
loop-i-preserved c =
    let i = c.loop-i.invariant in
    let r = c.recording_again in
    let a = c.recording-k.ensures in
    record {
      fits = omega (arith, a.inside, i.same);
      same = c.out-in-loop-i-1.given ∙ i.same;
      along = along-next i.along c.loop-i-test.true _ r.ensures c.in-Ok.is (λ held done _ x many n h. written_next done many n _ _ _ (a.wrote refl) h);
    }

pub returns : goal.returns
returns c =
    λ ps e g room. whole-file (along-end c.loop-i.invariant.along c.loop-i-test.false ps e g) c.args.out.now _ _ c.requires.header c.header.ensures
    c.out-1.given.1 refl (omega (arith, room, length-render c.args.into (events_of c.args.heading.label 1 ps)))
