-- `bodies::frame_body` meets its contract: the samples stand as they are, or are one run; or after each turn what stands before p is written, and the
-- channels that are left stand in the file from q on.
-- Assumes nothing.
use mathlib.Core.Path.{◌∙◌, sym}
use native.Mathlib.Nat.{sub-zero}
use native.Mathlib.Omega.{arith}
use borrow.Author.Rules.{rules}
use Rattle.words.proofs.Words.{bytes}
use Rattle.bodies.proofs.Filling.{samples-begun, samples-more, samples-all, samples-unturned, body-once, widths-told}
use Rattle.bodies.proofs.frame_body.Goals as goal

pub returns-then-same_order : goal.returns-then-same_order
returns-then-same_order c =
    let a = c.args in
    let are = bytes a.s.now (λ i. (c.type_inv.s i).fits) in
    let begun = samples-begun a.w a.file.now a.t a.s.now _ a.d.now _ _ c.requires.clock.room c.numbers.ensures c.reserved.ensures in
    λ b ch e k l. samples-unturned (begun b ch _ e k l) _ are (sym c.same_order.ensures ∙ c.if-same_order.true) c.copy_run.ensures

pub one_run-requires-clause-part : goal.one_run-requires-clause-part
one_run-requires-clause-part c =
    let k = widths-told _ _ _ _ _ (sym c.in-Some.is ∙ c.requires.wide) in
    record { wide = record { least = k.0; most = k.1 }; clock = search rules }

pub returns-in-Some : goal.returns-in-Some
returns-in-Some c =
    let a = c.args in
    let k = widths-told _ _ _ _ _ (sym c.in-Some.is ∙ c.requires.wide) in
    body-once a.w a.file.now a.t a.s.now a.cs.subs a.cs.count _ a.d.now _ _ _ c.requires.clock.room c.numbers.ensures c.reserved.ensures k.2 c.one_run.ensures

pub loop-i-init : goal.loop-i-init
loop-i-init c =
    let a = c.args in (
      search rules,
      search rules,
      search rules,
      search rules,
      λ b ch e k l.
          samples-begun a.w a.file.now a.t a.s.now _ a.d.now _ _ c.requires.clock.room c.numbers.ensures c.reserved.ensures b ch _ (e ∙ sym (sub-zero _)) k l,
    )

pub loop-i-preserved : goal.loop-i-preserved
loop-i-preserved c =
    let l = c.loop-i in
    let x = c.channel_samples-p in
    (search rules, omega arith, x.ensures.0, search rules, λ b ch e k n. samples-more _ _ _ _ (l.invariant.4 b ch e k n) _ _ _ (omega arith) (x.ensures.1 b))

pub returns : goal.returns
returns c =
    let l = c.loop-i in
    λ b ch e k n. samples-all _ _ _ _ (l.invariant.4 b ch e k n) (omega (arith, c.loop-i-test.false))
