-- `bodies::channel_samples` meets its contract: the width and the number of samples are those of the channel that stands at q.
-- Assumes nothing.
use native.Mathlib.Nat.{add-sub_cancel_left}
use native.Mathlib.Omega.{arith}
use lib.ListN.{length-take, length-drop}
use borrow.Author.Rules.{rules}
use Rattle.words.proofs.Words.{bytes}
use Rattle.bodies.proofs.Filling.{sample-wide, part-turned, samples-copied}
use Rattle.bodies.proofs.channel_samples.Goals as goal

pub turn_run-requires : goal.turn_run-requires
turn_run-requires c =
    record {
      wide = record { least = rw c.width-width.ensures.0 (sample-wide _).0; most = c.width-width.ensures.1 };
      run =
          record { source = simp (length-take, length-drop) (omega arith); room = simp (length-take, length-drop) (omega arith) };
    }

pub returns : goal.returns
returns c =
    let a = c.args in
    let are = bytes a.s.now (λ i. (c.type_inv.s i).fits) in
    let turned = part-turned a.w a.s.now a.p _ _ _ _ are c.requires.turned (add-sub_cancel_left _ _) (omega arith) c.turn_run.ensures in (
      search rules,
      λ b x cs k _. samples-copied a.w _ a.q a.t _ _ _ _ _ c.number-flags.ensures.0 c.number-format.ensures.0 c.number-rate.ensures.0
          c.width-width.ensures.0 c.samples_in-n.ensures.0 a.s.now a.d.now a.p x cs k _ _ (add-sub_cancel_left _ _) (omega arith) turned b,
    )
