-- Which of a year, a month and a day is the first that document 01 refuses.
-- Assumes nothing.
use Rattle.std.specs.Prelude.{Bool, ℕ, Result, Ok, Err, leb}
use Rattle.walk.specs.Walk.{pick}
use Rattle.rules.specs.Rules as R
use Rattle.dates.specs.declared.WrongDate.{WrongDate}

-- the first test of the three that fails
abbrev pub first_wrong : Bool → Bool → Bool → Result (Unit {0}) WrongDate
first_wrong year month day = pick year (pick month (pick day (Ok tt) (Err WrongDate.Day)) (Err WrongDate.Month)) (Err WrongDate.Year)

abbrev pub date_of : ℕ → ℕ → ℕ → Result (Unit {0}) WrongDate
date_of y m d = first_wrong (leb y 9999) (R.dated y 12 m) (R.dated y (R.days_in y m) d)
