-- In an accepted file a channel or a patient item that holds for a recording stands in its holder: its own record, or the nearest earlier one.
-- Assumes nothing.
use mathlib.Core.Path.{◌≡◌, refl, sym, ap, ◌∙◌}
use mathlib.Core.Bool.{Bool, true}
use mathlib.Core.List.{List, [], ◌∷◌, map}
use mathlib.Core.Option.{none}
use Prim.Native.Nat.{ℕ, zero, suc, ◌+◌, ◌*◌, ◌<◌}
use native.Mathlib.Omega.{arith}
use lib.ListN.{length, get_or, take, length-map}
use Rattle.words.specs.Numbers.{Bytes}
use Rattle.walk.specs.Walk.{Event, passed}
use Rattle.rules.specs.Rules.{Label, channels_group, Channel, channel, Item, item, item_bytes, items, patient_code, Recording, Placed, File, contents, judge}
use Rattle.rules.specs.Places.{bytes_before, holder}
use Rattle.rules.proofs.Turn.{accepted}
use Rattle.rules.proofs.Cases.{by_form}
use Rattle.rules.proofs.Canon.{RecordingsOk, file-ok}
use Rattle.rules.proofs.Places.{Found}
use Rattle.rules.proofs.Asked.{Rest, channel-at, patient_at, patient-rest}
use Rattle.rules.proofs.Holders.{Holds, channels-hold, patient-holds}

at_map : (d : Placed) (ps : List Placed) (k : ℕ) → get_or (map (λ p. p.recording) ps) k d.recording ≡ (get_or ps k d).recording
at_map d [] k = refl
at_map d (p ∷ ps) zero = refl
at_map d (p ∷ ps) (suc k) = at_map d ps k

-- the subs are the same in every recording
pub same-sub : (label : Label) (m n : ℕ) → (channels_group label m).sub ≡ (channels_group label n).sub
unfolding channels_group
same-sub label m n = by_form (λ l. (channels_group l m).sub ≡ (channels_group l n).sub) label refl refl

module _ (s : List ℕ) (b : Bytes s) {v : File} {r : List ℕ} {t : List Event} (h : judge s ≡ passed v r t) (d : Placed) (k : ℕ) (l : k < length v.recordings) where
  abbrev held_by : (Recording → Bool) → ℕ
  held_by own = holder own d.recording k (contents v).recordings

  many : k < length (contents v).recordings
  many = omega (arith, l, length-map v.recordings (λ p. p.recording))

  abbrev ok : RecordingsOk v.heading.label none (contents v).recordings
  ok = (file-ok (length s) (accepted s b h).plays).recordings

  -- its holder is one of the recordings, has the part of its own, and the same value in it
  module _ {A : Type 0} (own : Recording → Bool) (value : Recording → A) (q : Holds own value d.recording k (contents v).recordings) where
    one-before : held_by own < length v.recordings
    one-before = omega (arith, q.before, l)

    owned-there : own (get_or v.recordings (held_by own) d).recording ≡ true
    owned-there = ap own (sym (at_map d v.recordings (held_by own))) ∙ q.owned

    same-there : value (get_or v.recordings k d).recording ≡ value (get_or v.recordings (held_by own) d).recording
    same-there = ap value (sym (at_map d v.recordings k)) ∙ q.same ∙ ap value (at_map d v.recordings (held_by own))

  pub channel-holds-at : (c : Channel) (j : ℕ) → j < length (get_or v.recordings k d).recording.channels →
      (room : ℕ) × Found t (channel (channels_group v.heading.label (get_or v.recordings k d).recording.basic.channels).sub room (1 + j)) (get_or (get_or v.recordings k d).recording.channels j c)
      (32 + bytes_before (held_by (λ r. r.own_channels)) v.recordings + ((get_or v.recordings (held_by (λ r. r.own_channels)) d).layout.at120 + 16 + (16 + 256 * j)))
  channel-holds-at c j m =
      let q = channels-hold v.heading.label d.recording k (contents v).recordings ok many in
      let e = same-there (λ r. r.own_channels) (λ r. r.channels) q in
      let u = same-sub v.heading.label (get_or v.recordings k d).recording.basic.channels (get_or v.recordings (held_by (λ r. r.own_channels)) d).recording.basic.channels in
      rw (e, u) (channel-at s b h d (held_by (λ r. r.own_channels)) (one-before (λ r. r.own_channels) (λ r. r.channels) q) c (owned-there (λ r. r.own_channels) (λ r. r.channels) q) j (rw e at m))

  -- the 130 that holds, behind its head
  pub patient-rest-holds : Rest t (items patient_code) (get_or v.recordings k d).recording.patient
      (32 + bytes_before (held_by (λ r. r.own_patient)) v.recordings + ((get_or v.recordings (held_by (λ r. r.own_patient)) d).layout.at130 + 16))
  patient-rest-holds =
      let q = patient-holds v.heading.label d.recording k (contents v).recordings ok many in
      rw (same-there (λ r. r.own_patient) (λ r. r.patient) q)
      (patient-rest s b h d (held_by (λ r. r.own_patient)) (one-before (λ r. r.own_patient) (λ r. r.patient) q) (owned-there (λ r. r.own_patient) (λ r. r.patient) q))

  pub patient-holds-at : (x : Item) (j : ℕ) → j < length (get_or v.recordings k d).recording.patient →
      (room : ℕ) × Found t (item patient_code room) (get_or (get_or v.recordings k d).recording.patient j x)
      (32 + bytes_before (held_by (λ r. r.own_patient)) v.recordings + ((get_or v.recordings (held_by (λ r. r.own_patient)) d).layout.at130 + 16 + (8 + item_bytes (take j (get_or v.recordings k d).recording.patient))))
  patient-holds-at x j m =
      let q = patient-holds v.heading.label d.recording k (contents v).recordings ok many in
      let e = same-there (λ r. r.own_patient) (λ r. r.patient) q in
      rw e (patient_at s b h d (held_by (λ r. r.own_patient)) (one-before (λ r. r.own_patient) (λ r. r.patient) q) x (owned-there (λ r. r.own_patient) (λ r. r.patient) q) j (rw e at m))
