-- `questions::channels::descriptor_at` meets its contract, field by field.
-- Assumes nothing.
use mathlib.Core.Path.{◌∙◌}
use Prim.Native.Nat.{ℕ}
use Rattle.samples.proofs.Clocked.{held}
use Rattle.questions.specs.Values.{descriptor_of}
use Rattle.questions.specs.declared.channels.Descriptor.{Descriptor}
use Rattle.questions.proofs.Fields.{sub_read, field-read}
use Rattle.questions.proofs.channels.descriptor_at.Goals as goal

pub returns : goal.returns
unfolding descriptor_of
returns c k room i x e calibrated h =
    let p : ℕ = c.args.p in
    let d : Descriptor = descriptor_of x p in
    let z = sub_read _ _ _ k room i h in
    rw z.is
    (λ j. record {
      number = held c.int.type_inv c.int.ensures j;
      flags = held c.int-2.type_inv c.int-2.ensures j;
      kind = held c.int-3.type_inv c.int-3.ensures j;
      format = held c.int-4.type_inv c.int-4.ensures j;
      rate = held c.int-5.type_inv c.int-5.ensures j;
      calibration = (rw c.number.ensures.0 at c.calibration_at-calibration.ensures) j;
      frequency = held c.field_if.type_inv (c.field_if.ensures ∙ field-read _ _ _ z calibrated 52) j;
      low_cut = held c.int-6.type_inv c.int-6.ensures j;
      high_cut = held c.int-7.type_inv c.int-7.ensures j;
      sensitivity = held c.field_if-2.type_inv (c.field_if-2.ensures ∙ field-read _ _ _ z calibrated 64) j;
      label = d.label;
      unit = d.unit;
      comment = d.comment;
    })
