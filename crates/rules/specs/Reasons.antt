-- Document 01's number of each reason to refuse.
use Rattle.std.specs.Prelude.{ℕ, eqb}
use Rattle.walk.specs.Walk.{pick}
use Rattle.rules.specs.declared.Reason.{Reason}
use Rattle.rules.specs.declared.Reason.TheVariants as Reason
use Rattle.rules.specs.declared.Refusal.{Refusal}

abbrev pub number_of : Reason → ℕ
number_of Reason.Short = 1
number_of Reason.Identifier = 2
number_of Reason.Version = 3
number_of Reason.Form = 4
number_of Reason.Order = 5
number_of Reason.Script = 6
number_of Reason.Count = 7
number_of Reason.Spaces = 8
number_of Reason.Code = 9
number_of Reason.Length = 10
number_of Reason.Multiplier = 11
number_of Reason.Serial = 12
number_of Reason.Value = 13
number_of Reason.Disagreement = 14
number_of Reason.Padding = 15
number_of Reason.Behind = 16
number_of Reason.Room = 17
number_of Reason.Maker = 18
number_of Reason.Range = 19

-- the reason with a number, from 1 to 19
abbrev pub reason_of : ℕ → Reason
reason_of n =
    pick (eqb n 1) Reason.Short
    (pick (eqb n 2) Reason.Identifier
    (pick (eqb n 3) Reason.Version
    (pick (eqb n 4) Reason.Form
    (pick (eqb n 5) Reason.Order
    (pick (eqb n 6) Reason.Script
    (pick (eqb n 7) Reason.Count
    (pick (eqb n 8) Reason.Spaces
    (pick (eqb n 9) Reason.Code
    (pick (eqb n 10) Reason.Length
    (pick (eqb n 11) Reason.Multiplier
    (pick (eqb n 12) Reason.Serial
    (pick (eqb n 13) Reason.Value
    (pick (eqb n 14) Reason.Disagreement
    (pick (eqb n 15) Reason.Padding
    (pick (eqb n 16) Reason.Behind
    (pick (eqb n 17) Reason.Room
    (pick (eqb n 18) Reason.Maker
    Reason.Range)))))))))))))))))

-- the refusal with this number, at this byte
abbrev pub refusal_of : ℕ → ℕ → Refusal
refusal_of n p = record { 0 = reason_of n; 1 = p }
