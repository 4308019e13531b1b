-- `rows::file_rows` meets its contract. The loop's invariant: what is listed of all recordings is what was written, and what the rest lists.
-- The measure is how many recordings are left. Assumes nothing.
use mathlib.Core.Path.{refl, ◌∙◌}
use native.Mathlib.Omega.{arith}
use Rattle.children.specs.Children.{said}
use Rattle.children.proofs.Recordings.{sofar-start, sofar-end}
use Rattle.rows.proofs.Written.{wrote_nothing}
use Rattle.rows.proofs.Recorded.{listed_next}
use borrow.Author.Rules.{rules}
use Rattle.rows.proofs.file_rows.Goals as goal

pub loop-i-init : goal.loop-i-init
loop-i-init c = record { few = omega arith; inside = omega arith; reaches = omega arith; same = refl; listed = λ label ps e g. sofar-start g (wrote_nothing _ _ 0) }

pub loop-i-preserved : goal.loop-i-preserved
loop-i-preserved c =
    let r = c.recording_rows-e in
    let inv = c.loop-i.invariant in
    record {
      few = search rules;
      inside = r.ensures.inside;
      reaches = r.ensures.reaches;
      same = r.auto.out ∙ inv.same;
      listed = λ label ps e g. listed_next (inv.listed label ps e g) c.loop-i-test.true inv.inside r.ensures.wrote;
    }

pub returns : goal.returns
unfolding said
returns c =
    let inv = c.loop-i.invariant in
    record { reaches = omega (arith, inv.inside, inv.reaches); wrote = λ label ps e g. sofar-end (inv.listed label ps e g) c.loop-i-test.false }
