-- `signals::signals` meets its contract: one law of Signaled for each return.
-- The places: behind the 140 (held), behind the head that follows it (found), behind the delimiter. Assumes nothing.
use Rattle.std.proofs.Common.{Ok}
use Rattle.rules.proofs.Handed.{handed}
use mathlib.Core.Path.{◌≡◌, sym, ◌∙◌}
use mathlib.Core.Bool.{true}
use native.Mathlib.Nat.{add_assoc}
use lib.Dec.{eqb}
use Rattle.records.specs.Says.{NextHead}
use Rattle.signals.specs.FramesJudged.{FramesAt}
use Rattle.signals.proofs.Signaled.{other-code, stops-frames, stops-next, stops-delimiter, stops-closing, holds}
use Rattle.signals.proofs.signals.Goals as goal
use Rattle.signals.proofs.signals.Goals.{After-frames_at, In_ok-d, In_ok-f}

-- what is known: the code is the 140's; what it says; the head behind it
coded : (x : After-frames_at) → eqb x.args.h.code 140 ≡ true
coded x = sym x.has_code.ensures ∙ x.if-not-has_code.false

frames : (x : In_ok-f) →
    let a = x.args in
    FramesAt a.o a.label a.file.now a.cs a.own a.b a.h a.base a.s.now (Ok (x.in_ok-f.f, x.in_ok-f.end))
frames x = x.in_ok-f.ensures

next : (x : In_ok-d) →
    let a = x.args in
    NextHead a.o a.label a.base a.s.now x.in_ok-f.end (Ok x.in_ok-d.d)
next x = x.in_ok-d.ensures

pub returns-then-not-has_code : goal.returns-then-not-has_code
returns-then-not-has_code c =
    let a = c.args in
    other-code a.o a.label a.file.now a.cs a.own a.b a.h a.base a.s.now a.multiplier c.requires
    (sym c.has_code.ensures ∙ c.if-not-has_code.true) _ (add_assoc a.base a.h.at 4)

pub returns-in_err-f : goal.returns-in_err-f
returns-in_err-f c =
    let a = c.args in
    rw (handed _ c.from_residual.ensures) (stops-frames a.o a.label a.file.now a.cs a.own a.b a.h a.base a.s.now a.multiplier c.requires (coded (goal.at.returns-in_err-f c).After-frames_at) (c.in_err-f.ensures))

pub returns-in_err-d : goal.returns-in_err-d
returns-in_err-d c =
    let a = c.args in
    rw (handed _ c.from_residual-in_err-d.ensures)
    (stops-next a.o a.label a.file.now a.cs a.own a.b a.h a.base a.s.now a.multiplier c.requires (coded (goal.at.returns-in_err-d c).After-frames_at) (frames (goal.at.returns-in_err-d c).In_ok-f) (c.in_err-d.ensures))

pub returns-in_err-delimiter : goal.returns-in_err-delimiter
returns-in_err-delimiter c =
    let a = c.args in
    rw (handed _ c.from_residual-in_err-delimiter.ensures)
    (stops-delimiter a.o a.label a.file.now a.cs a.own a.b a.h a.base a.s.now a.multiplier c.requires (coded (goal.at.returns-in_err-delimiter c).After-frames_at) (frames (goal.at.returns-in_err-delimiter c).In_ok-f) (next (goal.at.returns-in_err-delimiter c).In_ok-d) (c.delimiter.ensures a.o a.base a.s.now) c.in_err-delimiter.was)

pub returns-in_err-closed : goal.returns-in_err-closed
returns-in_err-closed c =
    let a = c.args in
    rw (handed _ c.from_residual-in_err-closed.ensures)
    (stops-closing a.o a.label a.file.now a.cs a.own a.b a.h a.base a.s.now a.multiplier c.requires (coded (goal.at.returns-in_err-closed c).After-frames_at) (frames (goal.at.returns-in_err-closed c).In_ok-f) (next (goal.at.returns-in_err-closed c).In_ok-d) (c.delimiter.ensures a.o a.base a.s.now) c.in_ok-delimiter.was (c.closed.ensures a.o) c.in_err-closed.was)

pub returns : goal.returns
returns c =
    let a = c.args in
    holds a.o a.label a.file.now a.cs a.own a.b a.h a.base a.s.now a.multiplier c.requires (coded (goal.at.returns c).After-frames_at) (frames (goal.at.returns c).In_ok-f) (next (goal.at.returns c).In_ok-d) (c.delimiter.ensures a.o a.base a.s.now) c.in_ok-delimiter.was (c.closed.ensures a.o) c.in_ok-closed.was
