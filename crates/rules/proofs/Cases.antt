-- A law of every sub and of every label, from the cases in which the walks are written out.
-- Assumes nothing.
use mathlib.Core.Bool.{Bool, true, false}
use Prim.Native.Nat.{ℕ, ◌≤◌}
use native.Mathlib.Omega.{arith}
use Rattle.rules.specs.Rules.{Label, allows, most_of, Sub}
use Rattle.rules.specs.declared.Form.{Form}
use Rattle.rules.specs.declared.Form.TheVariants as Form
use Rattle.rules.specs.declared.Version.{Version}
use Rattle.rules.specs.declared.Version.TheVariants as Version

-- a sub with and without the fields that only some have
abbrev pub shaped : Sub → Bool → Bool → Sub
shaped k x y = record { code = k.code; number = k.number; type = k.type; format = k.format; rate = k.rate; calibrated = x; wired = y; input = k.input }

pub by_shape : (P : Sub → Type 0) → ((k : Sub) → P (shaped k true true)) → ((k : Sub) → P (shaped k true false)) → ((k : Sub) → P (shaped k false true)) → ((k : Sub) → P (shaped k false false)) → (k : Sub) → P k
by_shape P a b c d k = go k.calibrated k.wired
  where
    go : (x y : Bool) → P (shaped k x y)
    go true true = a k
    go true false = b k
    go false true = c k
    go false false = d k

-- the two forms
pub by_form : (P : Label → Type 0) (label : Label) → P (record { version = label.version; form = Form.Channels }) → P (record { version = label.version; form = Form.Electrodes }) → P label
by_form P label a b = go label.form
  where
    go : (f : Form) → P (record { version = label.version; form = f })
    go Form.Channels = a
    go Form.Electrodes = b

-- a version has no multiplier, or one up to 128
pub by_most : (P : ℕ → Type 0) (label : Label) → P 0 → P 128 → P (most_of label)
unfolding allows
by_most P label a b = go label.version
  where
    go : (v : Version) → P (allows v).multiplier
    go Version.V100 = a
    go Version.V110 = a
    go Version.V200 = a
    go Version.V300 = b

pub most-low : (label : Label) → most_of label ≤ 128
most-low label = by_most (λ k. k ≤ 128) label (omega arith) (omega arith)

-- no version has another format than the four
pub four-formats : (v : Version) → (allows v).format ≤ 4
unfolding allows
four-formats Version.V100 = omega arith
four-formats Version.V110 = omega arith
four-formats Version.V200 = omega arith
four-formats Version.V300 = omega arith
