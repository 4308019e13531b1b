-- An older file written anew: under its label, and with no multiplier.
-- Assumes nothing.
use mathlib.Core.Path.{◌≡◌, refl, ap}
use mathlib.Core.List.{List}
use Prim.Native.Nat.{ℕ, ◌+◌}
use native.Mathlib.Omega.{arith}
use Rattle.words.specs.Numbers.{Bytes}
use Rattle.words.specs.declared.Order.{Order}
use Rattle.walk.specs.Walk.{Event, size, passed}
use Rattle.rules.specs.Canonical.{multiplier_for, frames_bytes, content}
use Rattle.rules.specs.Reading.{Reading}
use Rattle.rules.specs.Rules.{allows, most_of, Recording, File, contents, judge}
use Rattle.rules.specs.declared.Label.{Label}
use Rattle.rules.specs.declared.Version.{Version}
use Rattle.rules.specs.declared.Version.TheVariants as Version
use Rattle.rules.proofs.Renew.{All}
use Rattle.rules.proofs.Rewrite.{Low, multipliers-low, rewrite-canonical}
use Rattle.rules.proofs.Valued.{all_are}

-- neither the recording's 10 nor its 140, written anew, has a multiplier
abbrev pub Plain : Label → Recording → Type 0
Plain label r = (multiplier_for (16 + size (content label r)) ≡ 0) × (multiplier_for (frames_bytes r.seconds r.channels r.frames) ≡ 0)

none_allowed : (w : Version) → (w ≡ Version.V300 → ⊥) → (allows w).multiplier ≡ 0
unfolding allows
none_allowed Version.V100 e = refl
none_allowed Version.V110 e = refl
none_allowed Version.V200 e = refl
none_allowed Version.V300 e = absurd (e refl)

low-plain : (label : Label) → most_of label ≡ 0 → (r : Recording) → Low label r → Plain label r
low-plain label e r k = (omega (arith, k.0, e), omega (arith, k.1, e))

module _ (s : List ℕ) (b : Bytes s) {v : File} {r : List ℕ} {t : List Event} (h : judge s ≡ passed v r t) where
  -- what is written has the file's label, and by that label it is accepted
  pub label_kept : (o : Order) → (rewrite-canonical s b h o).file.heading.label ≡ v.heading.label
  label_kept o = ap (λ (x : Reading). x.heading.label) (rewrite-canonical s b h o).same

  -- an older file never needs a multiplier
  pub older-plain : (v.heading.label.version ≡ Version.V300 → ⊥) → All (Plain v.heading.label) (contents v).recordings
  older-plain e = all_are (low-plain v.heading.label (none_allowed v.heading.label.version e)) (contents v).recordings (multipliers-low s b h)
