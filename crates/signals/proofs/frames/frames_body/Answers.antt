-- `signals::frames::frames_body` meets its contract: the tests of the 140's fields, and then the frames. Assumes nothing.
use Rattle.std.proofs.Common.{Ok}
use Rattle.rules.proofs.Handed.{handed}
use mathlib.Core.Path.{◌∙◌}
use Rattle.signals.specs.Shaped.{FieldsTested}
use Rattle.signals.proofs.FramesBody.{body-stop, body-on}
use Rattle.signals.proofs.frames.frames_body.Goals as goal
use Rattle.signals.proofs.frames.frames_body.Goals.{In_ok-f}

-- the fields that passed
shape : (x : In_ok-f) →
    let a = x.args in
    FieldsTested a.o a.file.now a.cs a.at a.s.now a.total a.multiplier (Ok x.in_ok-f.f)
shape x = x.in_ok-f.ensures

pub returns-in_err-f : goal.returns-in_err-f
returns-in_err-f c =
    rw (handed _ c.from_residual.ensures)
    (let a = c.args in
    record { seen = λ b ch h w. body-stop a.o a.label a.at a.s.now ch w (c.in_err-f.ensures.told ch w.channels); fills = tt })

pub returns : goal.returns
returns c =
    let a = c.args in
    record {
      seen = λ b ch h w.
          let k = (shape (goal.at.returns c).In_ok-f).told ch w.channels in
          body-on a.o a.label a.at a.s.now ch w k ∙ c.frames_rest.ensures.seen ch k.fields.filled;
      fills = c.frames_rest.ensures.fills;
    }
