-- `index::same_eights` meets its contract: eight samples more, as long as they are the pair.
-- Assumes nothing.
use native.Mathlib.Omega.{arith}
use Rattle.std.proofs.lemmas.Iterator.{IsFirst-from_position, YieldsList-from_slice}
use lib.ListN.{length-drop}
use lib.Seq.{take_all}
use borrow.Author.Rules.{rules}
use borrow.Author.Tests.{tests}
use Rattle.index.specs.Listing.{EightOf}
use Rattle.index.proofs.Pairs.{eights-same}
use Rattle.index.proofs.same_eights.Goals as goal

pub returns : goal.returns
returns c =
    rw c.unwrap_or.ensures
    (eights-same (take_all _ _ (rw length-drop (omega arith))) c.requires (omega arith) c.as_chunks.ensures.front
    (λ x. Unit {0}) c.position-other.result c.as_chunks.ensures.front_len
    (IsFirst-from_position _ _ _ (λ x. Unit {0}) (EightOf c.args.pair) c.position-other.ensures.ran
    (YieldsList-from_slice c.as_chunks.result.0.now c.iter.ensures.rest) (λ x q k. tt) (λ x q k. search (rules, tests))))
