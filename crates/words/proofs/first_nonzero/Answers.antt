-- `words::first_nonzero` meets its contract: the zeros that are passed, and the first that is none behind them.
-- Assumes nothing.
use mathlib.Core.Path.{◌≡◌}
use Prim.Native.Nat.{◌-◌}
use borrow.Author.Tests.{tests}
use borrow.Author.Rules.{rules}
use lib.ListN.{length, take, drop}
use Rattle.std.proofs.lemmas.Iterator.{IsFirst-from_position, YieldsList-from_slice}
use Rattle.words.proofs.Zeros.{zeros-rest}
use Rattle.words.proofs.first_nonzero.Goals as goal

pub returns : goal.returns
returns c =
    let s = c.args.s.now in
    let i = c.zero_fours-passed.result in
    let chain = YieldsList-from_slice (take (length s - i) (drop i s)) c.iter.ensures.rest in
    let ran = c.position.ensures.ran in
    let first = IsFirst-from_position _ _ _ (λ x. x ≡ 0 → ⊥) (λ x. x ≡ 0) ran chain (λ x q k. search (rules, tests)) (λ x q k. search (rules, tests)) in
    zeros-rest s i _ _ c.zero_fours-passed.ensures first c.unwrap_or.ensures
