-- What the code of a record that holds subs tells of them.
-- Assumes nothing.
use mathlib.Core.Path.{refl}
use Prim.Native.Nat.{ℕ}
use Rattle.rules.specs.Rules as R
use Rattle.rules.proofs.Cases.{by_form}
use Rattle.rules.specs.declared.Label.{Label}
use Rattle.rules.specs.declared.Group.{Group}
use Rattle.records.specs.Says.{group_of, is_group, sub_code, shape_of, CodeTells}

pub told-group : (g : Group) → CodeTells (group_of g)
unfolding is_group sub_code shape_of
told-group (Group.Channels v n) = record { group = refl; code = refl; shape = record { calibrated = refl; wired = refl } }
told-group (Group.Electrodes v n) = record { group = refl; code = refl; shape = record { calibrated = refl; wired = refl } }
told-group (Group.Montage n) = record { group = refl; code = refl; shape = record { calibrated = refl; wired = refl } }

pub told-channels : (label : Label) (n : ℕ) → CodeTells (R.channels_group label n)
unfolding R.channels_group
told-channels label n = by_form (λ l. CodeTells (R.channels_group l n)) label (told-group (Group.Channels label.version n)) (told-group (Group.Electrodes label.version n))

pub told-montage : (n : ℕ) → CodeTells (R.montage_group n)
told-montage n = told-group (Group.Montage n)
