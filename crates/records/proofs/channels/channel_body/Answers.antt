-- `records::channels::channel_body` meets its contract: one case for each test, in the order of the rules. Assumes nothing.
use mathlib.Core.Path.{◌≡◌}
use mathlib.Core.Bool.{true}
use Rattle.words.specs.Numbers.{number_at}
use Rattle.walk.proofs.Seen.{gates}
use Rattle.records.specs.Says.{group_of}
use Rattle.records.proofs.Subs.{sub-tested, resumes}
use Rattle.records.proofs.channels.channel_body.Goals as goal
use Rattle.records.proofs.channels.channel_body.Goals.{After-format_ok, After-rate_ok, After-type_ok}

-- the tests that hold there, and what the test of the rate is
number-holds : (x : After-type_ok) → let a = x.args in (group_of a.g).sub.number (number_at a.o 4 a.s.now 0) ≡ true
number-holds x = rw (← x.field.ensures.0, ← x.number_ok.ensures) (x.if-not-number_ok.false)

type-holds : (y : After-format_ok) → let a = y.args in (group_of a.g).sub.type (number_at a.o 4 a.s.now 8) ≡ true
type-holds y = rw (← y.field-kind.ensures.0, ← y.type_ok.ensures) (y.if-not-type_ok.false)

format-holds : (z : After-rate_ok) → let a = z.args in (group_of a.g).sub.format (number_at a.o 4 a.s.now 12) ≡ true
format-holds z = rw (← z.field-2.ensures.0, ← z.format_ok.ensures) (z.if-not-format_ok.false)

rate-is : (r : After-rate_ok) → let a = r.args in
    (group_of a.g).sub.rate (number_at a.o 4 a.s.now 4) (number_at a.o 4 a.s.now 8) (number_at a.o 4 a.s.now 16) ≡ r.rate_ok.result
rate-is r =
    rw (← r.field-3.ensures.0, ← r.field-flags.ensures.0, ← r.field-kind.ensures.0, ← r.rate_ok.ensures)

pub returns-then-not-number_ok : goal.returns-then-not-number_ok
returns-then-not-number_ok c = simp (sub-tested, gates, c.if-not-number_ok.true, ← c.number_ok.ensures, ← c.field.ensures.0)

pub returns-then-not-type_ok : goal.returns-then-not-type_ok
returns-then-not-type_ok c =
    simp (sub-tested, gates, number-holds (goal.at.returns-then-not-type_ok c).After-type_ok, c.if-not-type_ok.true, ← c.type_ok.ensures, ← c.field-kind.ensures.0)

pub returns-then-not-format_ok : goal.returns-then-not-format_ok
returns-then-not-format_ok c =
    simp (sub-tested, gates, number-holds (goal.at.returns-then-not-format_ok c).After-type_ok, type-holds (goal.at.returns-then-not-format_ok c).After-format_ok, c.if-not-format_ok.true, ← c.format_ok.ensures, ← c.field-2.ensures.0)

pub returns-then-not-rate_ok : goal.returns-then-not-rate_ok
returns-then-not-rate_ok c =
    simp (sub-tested, gates, number-holds (goal.at.returns-then-not-rate_ok c).After-type_ok, type-holds (goal.at.returns-then-not-rate_ok c).After-format_ok, format-holds (goal.at.returns-then-not-rate_ok c).After-rate_ok, rate-is (goal.at.returns-then-not-rate_ok c).After-rate_ok, c.if-not-rate_ok.true)

pub returns : goal.returns
returns c =
    simp (sub-tested, gates, number-holds (goal.at.returns c).After-type_ok, type-holds (goal.at.returns c).After-format_ok, format-holds (goal.at.returns c).After-rate_ok, rate-is (goal.at.returns c).After-rate_ok, c.if-not-rate_ok.false, c.inputs_ok.ensures) (resumes c.inputs_ok.result _)
