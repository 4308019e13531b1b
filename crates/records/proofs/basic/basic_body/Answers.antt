-- `records::basic::basic_body` meets its contract: the tests of the counts, the date, the time and the mains frequency, one after the other. Assumes nothing.
use Rattle.rules.proofs.Handed.{handed}
use Rattle.walk.proofs.Seen.{gates, tests}
use Rattle.records.proofs.Steps.{basic-open}
use Rattle.records.proofs.basic.basic_body.Goals as goal

pub returns-in_err-counts_ok : goal.returns-in_err-counts_ok
returns-in_err-counts_ok c =
    rw (handed _ c.from_residual.ensures)
    (simp (basic-open, gates, tests, c.in_err-counts_ok.ensures))

pub returns-in_err-date_ok : goal.returns-in_err-date_ok
returns-in_err-date_ok c =
    rw (handed _ c.from_residual-in_err-date_ok.ensures)
    (simp (basic-open, gates, tests, c.in_err-date_ok.ensures, c.in_ok-counts_ok.ensures))

pub returns-in_err-time_ok : goal.returns-in_err-time_ok
returns-in_err-time_ok c =
    rw (handed _ c.from_residual-in_err-time_ok.ensures)
    (simp (basic-open, gates, tests, c.in_err-time_ok.ensures, c.in_ok-date_ok.ensures, c.in_ok-counts_ok.ensures))

pub returns-then-not-mains_ok : goal.returns-then-not-mains_ok
returns-then-not-mains_ok c =
    simp (basic-open, gates, tests, c.if-not-mains_ok.true, ← c.mains_ok.ensures, ← c.field.ensures.0, c.in_ok-time_ok.ensures, c.in_ok-date_ok.ensures, c.in_ok-counts_ok.ensures)

pub returns : goal.returns
returns c =
    simp (basic-open, gates, tests, c.if-not-mains_ok.false, ← c.mains_ok.ensures, ← c.field.ensures.0, c.in_ok-time_ok.ensures, c.in_ok-date_ok.ensures, c.in_ok-counts_ok.ensures) (rw (c.field-2.ensures.0, c.field-3.ensures.0))
