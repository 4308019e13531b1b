-- `questions::channels::wired_at` meets its contract: the descriptor, and the inputs where they are fields.
-- Assumes nothing.
use mathlib.Core.Path.{◌≡◌, sym, ap, ◌∙◌}
use Prim.Native.Nat.{◌+◌}
use Rattle.words.specs.Numbers.{number_at}
use Rattle.words.specs.Values.{signed}
use Rattle.rules.specs.Rules as R
use Rattle.samples.proofs.Clocked.{held}
use Rattle.questions.specs.Values.{wired_of}
use Rattle.questions.proofs.Fields.{sub_read}
use Rattle.questions.proofs.channels.wired_at.Goals as goal

pub returns : goal.returns
unfolding wired_of
returns c k room i x e calibrated wired h =
    let a = c.args in
    let z = (sub_read a.o a.s.now a.p k room i h).is in
    let g1 : x.g1 ≡ number_at a.o 4 a.s.now (a.p + 104) = ap (λ (y : R.Channel). y.g1) z ∙ rw wired in
    let g2 : x.g2 ≡ number_at a.o 4 a.s.now (a.p + 108) = ap (λ (y : R.Channel). y.g2) z ∙ rw wired in
    (λ j. record {
      channel = c.descriptor_at-channel.ensures k room i x e calibrated h j;
      g1 = (held c.int.type_inv c.int.ensures ∙ sym (ap (signed 4) g1)) j;
      g2 = (held c.int-2.type_inv c.int-2.ensures ∙ sym (ap (signed 4) g2)) j;
    })
