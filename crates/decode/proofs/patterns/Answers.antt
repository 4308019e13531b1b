-- `decode::patterns` meets its contract: each arm fills the buffer in its order.
-- Assumes nothing.
use mathlib.Core.List.{[]}
use mathlib.Core.Path.{◌∙◌}
use native.Mathlib.Omega.{arith}
use lib.ListN.{get_or}
use Rattle.words.specs.declared.Order.TheVariants.{Little, Big}
use Rattle.decode.proofs.Filled.{decoded}
use Rattle.decode.proofs.Places.{word-4}
use Rattle.decode.proofs.patterns.Goals as goal

pub returns-in-Little : goal.returns-in-Little
returns-in-Little c =
    let f = c.fill.ensures [] 0 in
    let k = c.as_chunks in
    let w = word-4 Little in
    rw c.in-Little.is (decoded c.requires (omega arith) k.ensures.front c.fill.auto.d (λ q h l. f q h ∙ omega (arith, w (get_or k.result.0.now q []) l)))

pub returns-in-Big : goal.returns-in-Big
returns-in-Big c =
    let f = c.fill-in-Big.ensures [] 0 in
    let k = c.as_chunks-in-Big in
    let w = word-4 Big in
    rw c.in-Big.is (decoded c.requires (omega arith) k.ensures.front c.fill-in-Big.auto.d (λ q h l. f q h ∙ omega (arith, w (get_or k.result.0.now q []) l)))
