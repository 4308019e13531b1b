-- `turn::recordings::file_turned` meets its contract. The loop's invariant: the recordings that are passed stand in the buffer, behind the header.
-- Assumes nothing.
use mathlib.Core.Path.{refl, sym, ◌∙◌}
use mathlib.Core.Bool.{true}
use native.Mathlib.Omega.{arith}
use lib.ListN.{length}
use lib.Seq.{length-take-le}
use Rattle.children.specs.Children.{said}
use Rattle.children.proofs.Again.{along-start, along-stop, along-next, along-end}
use Rattle.bodies.specs.declared.Way.{Way}
use Rattle.turn.proofs.Sent.{whole-file, sent-first, sent-next, sent-length, header-first}
use Rattle.turn.proofs.recordings.file_turned.Goals as goal
use Rattle.turn.proofs.recordings.file_turned.Goals.{After-header}

-- the way from order to order
abbrev way : After-header → Way
way c = record { from = c.args.o; label = c.args.label; to = c.other.result; keep = true }

pub slice_bounds-header-end-3 : goal.slice_bounds-header-end-3
slice_bounds-header-end-3 c = sym (length-take-le 32 c.args.out.now (omega arith))

pub header-requires : goal.header-requires
header-requires c = record { source = length-take-le 32 c.args.file.now (omega arith); room = length-take-le 32 c.args.out.now (omega arith) }

pub loop-i-init : goal.loop-i-init
loop-i-init c =
    record {
      room = omega (arith, c.out-1.given.1, c.requires.room);
      same = refl;
      along =
          along-start c.requires.headed.header (sent-first (way (goal.at.loop-i-init c).After-header) _);
    }

pub returns-in_default : goal.returns-in_default
returns-in_default c =
    λ f ps e h g. along-stop c.loop-i.invariant.along c.loop-i-test.true _ c.recording_again.ensures c.in_default.is g

pub loop-i-preserved : goal.loop-i-preserved
loop-i-preserved c =
    let i = c.loop-i.invariant in
    let r = c.recording_again in
    record {
      room = i.room;
      same = c.out-in-loop-i-1.given ∙ i.same;
      along = along-next i.along c.loop-i-test.true _ r.ensures c.in-Ok.is
          (λ held done m x many n h. sent-next (way (goal.at.loop-i-preserved c).After-header) i.along.inside n m _ c.recording.ensures h);
    }

pub returns : goal.returns
unfolding said
returns c =
    let s = c.args.file.now in
    λ f ps e h g. rw (← c.other.ensures)
    (whole-file (along-end c.loop-i.invariant.along c.loop-i-test.false ps e g) c.args.out.now _ _ (omega (arith, c.requires.headed.header, c.requires.room))
    (header-first (way (goal.at.returns c).After-header) s (length s) _ c.requires.headed.header h c.header.ensures) c.out-1.given.1 refl
    (omega (arith, c.requires.room, sent-length (way (goal.at.returns c).After-header) s c.args.count c.requires.headed.header g)))
