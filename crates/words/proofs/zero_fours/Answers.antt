-- `words::zero_fours` meets its contract: the fours before the first that is not 0 are passed.
-- Assumes nothing.
use mathlib.Core.Path.{◌≡◌}
use mathlib.Core.List.{List}
use Prim.Native.Nat.{ℕ}
use borrow.Author.Tests.{tests}
use borrow.Author.Rules.{rules}
use Rattle.std.specs.Int.{w32, from_le_bytes}
use Rattle.std.proofs.lemmas.Iterator.{IsFirst-from_position, YieldsList-from_slice}
use Rattle.words.proofs.Zeros.{zeros-passed}
use Rattle.words.proofs.zero_fours.Goals as goal

pub returns : goal.returns
returns c =
    let fours = c.as_chunks.ensures in
    let zero = λ (x : List ℕ). from_le_bytes w32 x ≡ 0 in
    let other = λ (x : List ℕ). from_le_bytes w32 x ≡ 0 → ⊥ in
    let chain = YieldsList-from_slice c.as_chunks.result.0.now c.iter.ensures.rest in
    let ran = c.position-passed.ensures.ran in
    let first = IsFirst-from_position _ _ _ other zero ran chain (λ x q k. search (rules, tests)) (λ x q k. search (rules, tests)) in
    zeros-passed c.args.s.now c.unwrap_or.result _ (rw fours.front at first) (rw fours.front at fours.front_len) (rw fours.front at c.unwrap_or.ensures)
