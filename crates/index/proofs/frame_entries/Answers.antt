-- `index::frame_entries` meets its contract, by the laws of Framing.
-- Assumes nothing.
use mathlib.Core.Path.{refl}
use native.Mathlib.Omega.{arith}
use borrow.Author.Rules.{rules}
use Rattle.index.proofs.Framing.{stretch-inside, frame-first, channeled-start, channeled-ahead, channeled-more, channeled-all}
use Rattle.index.proofs.frame_entries.Goals as goal

pub overflow_sub-start : goal.overflow_sub-start
overflow_sub-start c = frame-first c.requires

pub overflow_add-at-2 : goal.overflow_add-at-2
overflow_add-at-2 c = record { fits = omega (arith, stretch-inside c.requires, c.well_formed) }

pub loop-c-init : goal.loop-c-init
loop-c-init c = (channeled-start c.requires _ _ _ refl, refl)

pub channel_entries-passed-requires : goal.channel_entries-passed-requires
channel_entries-passed-requires c = channeled-ahead c.loop-c.invariant.0 c.loop-c-test.true _ refl refl refl

pub loop-c-preserved : goal.loop-c-preserved
loop-c-preserved c =
    let l = c.loop-c in
    let m = channeled-more l.invariant.0 _ refl refl c.loop-c-test.true c.channel_entries-passed.result c.channel_entries-passed.ensures in
    (m, search rules)

pub returns : goal.returns
returns c = channeled-all c.loop-c.invariant.0 (omega arith)
