-- `signals::frames::frames_at` meets its contract: one law of Answers for each return.
-- x: behind the head; r: where the record stops. Assumes nothing.
use Rattle.std.proofs.Common.{Ok}
use Rattle.rules.proofs.Handed.{handed}
use mathlib.Core.Path.{◌≡◌, sym, ◌∙◌}
use mathlib.Core.Bool.{true, ◌||◌}
use lib.Dec.{eqb}
use lib.ListN.{length}
use Rattle.rules.specs.declared.Kind.TheVariants as Kind
use Rattle.records.specs.Says.{AdmittedBy}
use Rattle.signals.proofs.Answers.{at-refused, at-uncounted, at-stop, at_on}
use Rattle.signals.proofs.frames.frames_at.Goals as goal
use Rattle.signals.proofs.frames.frames_at.Goals.{After-count_ok, After-frames_body}

-- the head is admitted, and the channels are as many as 100 says
admits : (r : After-count_ok) →
    let a = r.args in
    AdmittedBy a.h a.base (length a.s.now) (Kind.Frames a.label) (Ok r.in_ok-end.end)
admits r = r.in_ok-end.ensures

agrees : (x : After-frames_body) →
    let a = x.args in
    a.own || eqb a.cs.count a.b.channels ≡ true
agrees x = sym x.count_ok.ensures ∙ x.if-not-count_ok.false

pub returns-in_err-end : goal.returns-in_err-end
returns-in_err-end c =
    let a = c.args in
    rw (handed _ c.from_residual.ensures)
    (at-refused a.o a.label a.file.now a.cs a.own a.b a.h a.base a.s.now (c.in_err-end.ensures))

pub returns-then-not-count_ok : goal.returns-then-not-count_ok
returns-then-not-count_ok c =
    let a = c.args in
    at-uncounted a.o a.label a.file.now a.cs a.own a.b a.h a.base a.s.now (admits (goal.at.returns-then-not-count_ok c).After-count_ok)
    (sym c.count_ok.ensures ∙ c.if-not-count_ok.true) c.requires.head.low

pub returns-in_err-f : goal.returns-in_err-f
returns-in_err-f c =
    let a = c.args in
    rw (handed _ c.from_residual-in_err-f.ensures)
    (at-stop a.o a.label a.file.now a.cs a.own a.b a.h a.base a.s.now (admits (goal.at.returns-in_err-f c).After-count_ok) (agrees (goal.at.returns-in_err-f c).After-frames_body) (c.in_err-f.ensures))

pub returns : goal.returns
returns c =
    let a = c.args in
    at_on a.o a.label a.file.now a.cs a.own a.b a.h a.base a.s.now (admits (goal.at.returns c).After-count_ok) (agrees (goal.at.returns c).After-frames_body) (c.in_ok-f.ensures)
