-- `index::sample_entries` meets its contract, by the laws of Sampling.
-- Assumes nothing.
use mathlib.Core.Path.{refl}
use borrow.Author.Rules.{rules}
use Rattle.index.proofs.Sampling.{sampled-start, sampled-room, sampled-more}
use Rattle.index.proofs.sample_entries.Goals as goal

pub loop-p-init : goal.loop-p-init
loop-p-init c = (sampled-start c.requires.small c.repeated-p.result c.repeated-p.ensures, refl)

pub changed-next-requires : goal.changed-next-requires
changed-next-requires c = sampled-room c.loop-p.invariant.0 c.loop-p-test.true c.requires.ahead

pub loop-p-preserved : goal.loop-p-preserved
loop-p-preserved c =
    let l = c.loop-p in
    let n = c.number-code in
    let r = c.repeated-p-in-loop-p in
    let m = sampled-more l.invariant.0 n.result n.ensures.0 c.loop-p-test.true n.ensures.1 c.changed-next.ensures r.result r.ensures in
    (m, search rules)
