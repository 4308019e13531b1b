-- `records::items::code_ok` meets its contract: one case for each range of codes. Assumes nothing.
use Rattle.walk.proofs.Seen.{tests}
use Rattle.rules.specs.Rules.{patient_code, event_code}
use Rattle.records.specs.Says.{ok_of}
use borrow.Author.Tests.{eq-eqb}
use Rattle.records.proofs.items.code_ok.Goals as goal

pub returns-then-keyword : goal.returns-then-keyword
unfolding patient_code event_code ok_of
returns-then-keyword c = simp (tests, c.if-keyword.true, ← c.keyword.ensures, c.in-Patient.is)

pub returns-then-between : goal.returns-then-between
unfolding patient_code event_code ok_of
returns-then-between c =
    simp (tests, c.if-between.true, ← c.between.ensures, c.if-keyword.false, ← c.keyword.ensures, c.in-Patient.is)

pub returns-then-between-2 : goal.returns-then-between-2
unfolding patient_code event_code ok_of
returns-then-between-2 c =
    simp (tests, c.if-between-2.true, ← c.between-in-Patient.ensures, c.if-between.false, ← c.between.ensures, c.if-keyword.false, ← c.keyword.ensures, c.in-Patient.is)

pub returns-then-between-3 : goal.returns-then-between-3
unfolding patient_code event_code ok_of
returns-then-between-3 c =
    simp (tests, c.if-between-3.true, ← c.between-in-Patient-2.ensures, c.if-between-2.false, ← c.between-in-Patient.ensures, c.if-between.false, ← c.between.ensures, c.if-keyword.false, ← c.keyword.ensures, c.in-Patient.is)

pub returns-then-x-eq0 : goal.returns-then-x-eq0
unfolding patient_code event_code ok_of
returns-then-x-eq0 c = simp (tests, eq-eqb _ _ c.if-x-eq0.true, c.in-Event.is)

pub returns-then-not-between : goal.returns-then-not-between
unfolding patient_code event_code ok_of
returns-then-not-between c = simp (tests, c.if-not-between.true, ← c.between-in-Event.ensures, c.if-x-eq0.false, c.in-Event.is)

pub returns-else-between-3 : goal.returns-else-between-3
unfolding patient_code event_code ok_of
returns-else-between-3 c =
    simp (tests, ← c.between-in-Patient-3.ensures, c.if-between-3.false, ← c.between-in-Patient-2.ensures, c.if-between-2.false, ← c.between-in-Patient.ensures, c.if-between.false, ← c.between.ensures, c.if-keyword.false, ← c.keyword.ensures, c.in-Patient.is)

pub returns-else-not-between : goal.returns-else-not-between
unfolding patient_code event_code ok_of
returns-else-not-between c = simp (tests, c.if-not-between.false, ← c.between-in-Event.ensures, c.if-x-eq0.false, c.in-Event.is)
