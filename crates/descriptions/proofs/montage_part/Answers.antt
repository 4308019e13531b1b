-- `descriptions::montage_part` meets its contract: another code, a 350 that its form or a test refuses, or the head behind one that passed.
-- Assumes nothing.
use Rattle.rules.specs.declared.Reason.TheVariants as Reason
use Prim.Native.Nat.{◌+◌}
use Rattle.std.proofs.Common.{Some}
use Rattle.rules.proofs.Handed.{handed}
use mathlib.Core.Path.{sym, ◌∙◌}
use native.Mathlib.Omega.{arith}
use lib.ListN.{length}
use Rattle.rules.specs.Rules as R
use Rattle.rules.proofs.Room.{stays-montage_rest}
use Rattle.descriptions.proofs.Parts.{judges-absent, judges-stop, judges-behind, follows-lacking, follows-stood}
use Rattle.descriptions.proofs.Stands.{montage-none, montage-some}
use Rattle.descriptions.proofs.montage_part.Goals as goal

pub returns-then-not-has_code : goal.returns-then-not-has_code
returns-then-not-has_code c =
    let a = c.args in
    rw c.absent.ensures (record {
      told = λ cs e. judges-absent a.o a.label a.base a.s.now 350 (R.montage a.label cs) (λ _. Unit {0}) a.h (Some 0) (sym c.has_code.ensures ∙ c.if-not-has_code.true);
      follows = follows-lacking a.base (length a.s.now) a.h (Some 0) c.requires.inside;
    })

pub returns-in_default : goal.returns-in_default
returns-in_default c =
    let a = c.args in
    let same = sym c.has_code.ensures ∙ c.if-not-has_code.false in
    record {
      told = λ cs e. judges-stop a.o a.label a.base a.s.now 350 (R.montage a.label cs) (λ _. Unit {0}) a.h (Some 0) same (record { 0 = Reason.Code; 1 = a.base + a.h.at + 4 }) (montage-none a.o a.base a.s.now a.label c.in_default.is cs a.h);
      follows = tt;
    }

pub returns-in_err-end : goal.returns-in_err-end
returns-in_err-end c =
    let a = c.args in
    let same = sym c.has_code.ensures ∙ c.if-not-has_code.false in
    rw (handed _ c.from_residual.ensures) (record {
      told = λ cs e. judges-stop a.o a.label a.base a.s.now 350 (R.montage a.label cs) (λ _. Unit {0}) a.h (Some 0) same _
          (rw (montage-some a.label c.in-Electrodes.is cs _ _, e) (c.in_err-end.ensures.seen));
      follows = tt;
    })

pub returns : goal.returns
returns c =
    let a = c.args in
    let s = a.s.now in
    let same = sym c.has_code.ensures ∙ c.if-not-has_code.false in
    let q = c.in_ok-end.end in
    let w = c.in_ok-end.ensures.stands in
    record {
      told = λ cs e. judges-behind a.o a.label a.base s 350 (R.montage a.label cs) (λ _. Unit {0}) a.h (Some 0) same (stays-montage_rest a.label cs) q c.requires.inside w.inside
          (rw (montage-some a.label c.in-Electrodes.is cs _ _, e) (c.in_ok-end.ensures.seen)) (λ _ _. tt) c.behind.result c.behind.ensures;
      follows = follows-stood (a.base + a.h.at) a.h.at q (length s) c.behind.result (omega arith) c.behind.ensures.stands;
    }
