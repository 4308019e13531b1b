-- `records::basic::date_ok` meets its contract: the three numbers are judged as a date, and each fault is a refusal at its own field.
-- Assumes nothing.
use Rattle.rules.specs.declared.Reason.TheVariants as Reason
use Rattle.rules.specs.declared.Refusal.{Refusal}
use Rattle.std.proofs.Common.{Result, Ok, Err}
use mathlib.Core.Path.{◌≡◌, refl, sym, ◌∙◌, ap}
use mathlib.Core.Bool.{Bool, true, false}
use mathlib.Core.List.{List}
use Prim.Native.Nat.{ℕ, ◌+◌}
use Rattle.words.specs.Numbers.{number_at}
use Rattle.words.specs.declared.Order.{Order}
use Rattle.walk.specs.See.{Verdict, gate}
use Rattle.rules.specs.Rules as R
use Rattle.dates.specs.Dates.{first_wrong, date_of}
use Rattle.dates.specs.declared.WrongDate.{WrongDate}
use Rattle.records.specs.Says.{resumed, date_tested}
use Rattle.records.proofs.basic.date_ok.Goals as goal
use Rattle.records.proofs.basic.date_ok.Goals.{After-judge_date}

-- the refusal of each fault, in the 100 at this place
abbrev refused : ℕ → Result (Unit {0}) WrongDate → Result (Unit {0}) Refusal
refused at (Ok tt) = Ok tt
refused at (Err WrongDate.Year) = Err (record { 0 = Reason.Value; 1 = at + 32 })
refused at (Err WrongDate.Month) = Err (record { 0 = Reason.Value; 1 = at + 36 })
refused at (Err WrongDate.Day) = Err (record { 0 = Reason.Value; 1 = at + 40 })

-- the first of three tests that fails
gated : (at : ℕ) (a b c : Bool) (K : Verdict R.Basic) → gate a (gate b (gate c K 13 (at + 40)) 13 (at + 36)) 13 (at + 32) ≡ resumed (refused at (first_wrong a b c)) K
unfolding gate
gated at true true true K = refl
gated at true true false K = refl
gated at true false c K = refl
gated at false b c K = refl

-- x is what the three fields come to
told : (o : Order) (s : List ℕ) (at : ℕ) {y m d : ℕ} {v x : Result (Unit {0}) WrongDate} → y ≡ number_at o 4 s 16 → m ≡ number_at o 4 s 20 → d ≡ number_at o 4 s 24 → v ≡ date_of y m d → v ≡ x →
    (K : Verdict R.Basic) → date_tested o s at K ≡ resumed (refused at x) K
told o s at e₁ e₂ e₃ is e K = rw (← e₁, ← e₂, ← e₃) (gated at _ _ _ K ∙ ap (λ (z : Result (Unit {0}) WrongDate). resumed (refused at z) K) (sym is ∙ e))

found : (x : After-judge_date) {v : Result (Unit {0}) WrongDate} → x.judge_date.result ≡ v →
    let a = x.args in
    (K : Verdict R.Basic) → date_tested a.o a.s.now a.at K ≡ resumed (refused a.at v) K
found x e = told _ _ _ x.field-year.ensures.0 x.field-month.ensures.0 x.field-day.ensures.0 x.judge_date.ensures e

pub returns-in-Ok : goal.returns-in-Ok
returns-in-Ok c = found (goal.at.returns-in-Ok c).After-judge_date c.in-Ok.is

pub returns-in-Err-Year : goal.returns-in-Err-Year
returns-in-Err-Year c = found (goal.at.returns-in-Err-Year c).After-judge_date (c.in-Err-Year.is ∙ ap Err c.in-Err-Year.field-0-is)

pub returns-in-Err-Month : goal.returns-in-Err-Month
returns-in-Err-Month c = found (goal.at.returns-in-Err-Month c).After-judge_date (c.in-Err-Month.is ∙ ap Err c.in-Err-Month.field-0-is)

pub returns-in-Err-Day : goal.returns-in-Err-Day
returns-in-Err-Day c = found (goal.at.returns-in-Err-Day c).After-judge_date (c.in-Err-Day.is ∙ ap Err c.in-Err-Day.field-0-is)
