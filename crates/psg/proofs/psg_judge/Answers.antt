-- `psg::psg_judge` meets its contract: the judge's answer, taken apart, and the letter at byte 16.
-- Assumes nothing.
use mathlib.Core.Path.{◌≡◌, ap}
use mathlib.Core.List.{List}
use Prim.Native.Nat.{ℕ}
use native.Mathlib.Omega.{arith}
use lib.ListN.{get_or}
use Rattle.rules.specs.Rules as R
use Rattle.rules.specs.declared.FileHeader.{FileHeader}
use Rattle.judge.specs.Judged.{AcceptedAs}
use Rattle.judge.proofs.Accepted.{accepted, accepted-long}
use Rattle.answers.specs.Flat.{headed, flat_header}
use Rattle.psg.proofs.psg_judge.Goals as goal

-- an accepted file's header is told as the rules' outcome is
told : {s : List ℕ} {h : FileHeader} → AcceptedAs s h → headed (get_or s 16 0) h.heading.script h.count ≡ flat_header s (R.judge s)
told x = rw (x.judged, x.count, ap (λ (h : R.Heading). h.script) x.heading)

pub returns-in-Err : goal.returns-in-Err
returns-in-Err c = rw (c.header_refused.ensures, c.in-Err.ensures)

pub byte-requires : goal.byte-requires
byte-requires c =
    let j = accepted c.in-Ok.is c.judge.ensures in
    omega (arith, accepted-long _ _ j)

pub returns-in-Ok : goal.returns-in-Ok
returns-in-Ok c =
    let j = accepted c.in-Ok.is c.judge.ensures in
    rw (c.header_told.ensures, c.byte.ensures.0) (told j)
