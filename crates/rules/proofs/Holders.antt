-- A recording without a 120 or 320, or without a 130, has the channels or the patient items of the nearest earlier one that has them; the first has its own.
-- Assumes nothing.
use mathlib.Core.Path.{◌≡◌, refl, sym, ◌∙◌}
use mathlib.Core.Bool.{Bool, true, false}
use mathlib.Core.List.{List, [], ◌∷◌}
use mathlib.Core.Option.{Option, none, some}
use Prim.Native.Nat.{ℕ, zero, suc, ◌≤◌, ◌<◌}
use native.Mathlib.Omega.{arith}
use lib.ListN.{length, get_or}
use Rattle.walk.proofs.Apart.{false-true, none-some}
use Rattle.rules.specs.Rules.{Label, channels_group, Maker, Recording, Held, held_channels, held_patient, patient_code}
use Rattle.rules.specs.Places.{holder}
use Rattle.rules.proofs.Renew.{ChannelsOk, ItemsOk}
use Rattle.rules.proofs.Renewed.{RecordingOk, PartOk}
use Rattle.rules.proofs.Canon.{RecordingsOk}

abbrev after : Recording → Option Held
after r = some (record { channels = r.channels; patient = r.patient })

some_one : {A : Type 0} (a b : A) → ◌≡◌ {A = Option A} (some a) (some b) → a ≡ b
some_one a b e = cc

-- what holds for recording k is what its holder has of its own
pub record Holds {A : Type 0} (own : Recording → Bool) (value : Recording → A) (d : Recording) (k : ℕ) (rs : List Recording) : Type 0 where
  pub before : holder own d k rs ≤ k
  pub owned : own (get_or rs (holder own d k rs) d) ≡ true
  pub same : value (get_or rs k d) ≡ value (get_or rs (holder own d k rs) d)

-- a part that may be absent, over which it is: where it is absent its value is the one held
module _ {A : Type 0} (label : Label) (own : Recording → Bool) (value : Recording → A) (held : Option Held → Option A) (d : Recording)
    (first : held none ≡ none) (later : (r : Recording) → held (after r) ≡ some (value r)) (taken : (x : Option Held) (r : Recording) → RecordingOk label x r → own r ≡ false → held x ≡ some (value r)) where
  own_first : (r : Recording) (rs : List Recording) → RecordingsOk label none (r ∷ rs) → own r ≡ true
  own_first r rs k = go (own r) refl
    where
      go : (x : Bool) → own r ≡ x → own r ≡ true
      go true e = e
      go false e = none-some (sym first ∙ taken none r k.0 e)

  as_before : (x : Option Held) (rs : List Recording) → RecordingsOk label x rs → (k : ℕ) → suc k < length rs → own (get_or rs (suc k) d) ≡ false → value (get_or rs (suc k) d) ≡ value (get_or rs k d)
  as_before x [] g k l e = absurd (omega arith)
  as_before x (r ∷ []) g k l e = absurd (omega arith)
  as_before x (r ∷ q ∷ rs) g zero l e = some_one (value q) (value r) (sym (taken (after r) q g.1.0 e) ∙ later r)
  as_before x (r ∷ q ∷ rs) g (suc k) l e = as_before (after r) (q ∷ rs) g.1 k (omega arith) e

  holds_more : (k : ℕ) (rs : List Recording) → RecordingsOk label none rs → suc k < length rs → Holds own value d k rs → (x : Bool) → own (get_or rs (suc k) d) ≡ x → Holds own value d (suc k) rs
  unfolding holder
  holds_more k rs g l h true e = record { before = rw (holder, e) (omega arith); owned = rw (holder, e) e; same = rw (holder, e) }
  holds_more k rs g l h false e =
      record {
        before = rw (holder, e) (omega (arith, h.before));
        owned = rw (holder, e) h.owned;
        same = rw (holder, e) (as_before none rs g k l e ∙ h.same);
      }

  pub holds : (k : ℕ) (rs : List Recording) → RecordingsOk label none rs → k < length rs → Holds own value d k rs
  unfolding holder
  holds zero [] g l = absurd (omega arith)
  holds zero (r ∷ rs) g l = record { before = omega arith; owned = own_first r rs g; same = refl }
  holds (suc k) rs g l = holds_more k rs g l (holds k rs g (omega arith)) (own (get_or rs (suc k) d)) refl

absent : (label : Label) {A : Type 0} (P : A → Type 0) (h : Option A) (own : Bool) (a : A) (ms : List Maker) → PartOk label P h own a ms → own ≡ false → h ≡ some a
absent label P h true a ms k e = false-true (sym e)
absent label P h false a ms k e = k.0

-- the channels that hold for a recording, and the patient items
pub channels-hold : (label : Label) (d : Recording) (k : ℕ) (rs : List Recording) → RecordingsOk label none rs → k < length rs → Holds (λ r. r.own_channels) (λ r. r.channels) d k rs
channels-hold label d =
    holds label (λ r. r.own_channels) (λ r. r.channels) held_channels d refl (λ r. refl)
    (λ x r k e. absent label (ChannelsOk (channels_group label r.basic.channels)) (held_channels x) r.own_channels r.channels r.makers₂ k.channels e)

pub patient-holds : (label : Label) (d : Recording) (k : ℕ) (rs : List Recording) → RecordingsOk label none rs → k < length rs → Holds (λ r. r.own_patient) (λ r. r.patient) d k rs
patient-holds label d =
    holds label (λ r. r.own_patient) (λ r. r.patient) held_patient d refl (λ r. refl)
    (λ x r k e. absent label (ItemsOk patient_code) (held_patient x) r.own_patient r.patient r.makers₃ k.patient e)
