-- `makers::first_maker` meets its contract. The loop's invariant: the first of all recordings is the first of those that are left.
-- Assumes nothing.
use mathlib.Core.Path.{refl}
use native.Mathlib.Omega.{arith}
use borrow.Author.Rules.{rules}
use Rattle.children.proofs.Recordings.{sofar-start}
use Rattle.makers.specs.Makers.{first_maker}
use Rattle.makers.proofs.Recorded.{clear-end, clear-found, clear_next}
use Rattle.makers.proofs.first_maker.Goals as goal

pub loop-i-init : goal.loop-i-init
unfolding first_maker
loop-i-init c = record { few = omega arith; inside = omega arith; clear = λ label ps e g. sofar-start g refl }

pub returns-in-Some : goal.returns-in-Some
returns-in-Some c =
    let v = c.loop-i.invariant in
    λ label ps e g. rw c.in-Some.is at (clear-found (v.clear label ps e g) c.loop-i-test.true v.inside _ _ c.in_recording-e.ensures.first c.in-Some.is)

pub loop-i-preserved : goal.loop-i-preserved
loop-i-preserved c =
    let v = c.loop-i.invariant in
    record {
      few = search rules;
      inside = c.in_recording-e.ensures.inside;
      clear = λ label ps e g. clear_next (v.clear label ps e g) c.loop-i-test.true v.inside _ _ c.in_recording-e.ensures.first c.in_default.is;
    }

pub returns : goal.returns
returns c = λ label ps e g. clear-end (c.loop-i.invariant.clear label ps e g) c.loop-i-test.false
