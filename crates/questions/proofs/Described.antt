-- The sub of a channel that holds for a recording, or of its own montage, stands where the questions say: its walk gives the channel there, and it lies
-- in the file.
-- Assumes nothing.
use mathlib.Core.Path.{◌≡◌, refl, sym, ap, ◌∙◌}
use mathlib.Core.Bool.{Bool, true, false, not}
use mathlib.Core.List.{List, [], map}
use mathlib.Core.Option.{Option, some}
use Prim.Native.Nat.{ℕ, ◌+◌, ◌-◌, ◌*◌, ◌≤◌}
use native.Mathlib.Omega.{arith}
use lib.Dec.{eqb}
use lib.ListN.{length, get_or}
use Rattle.words.specs.Numbers.{Bytes, number_at}
use Rattle.words.proofs.Values.{signed-pos}
use Rattle.walk.specs.Walk.{Event, passed, size}
use Rattle.walk.specs.See.{goes, see}
use Rattle.walk.proofs.Apart.{false-true}
use Rattle.rules.specs.Rules as R
use Rattle.rules.specs.Places.{bytes_before, holder}
use Rattle.rules.specs.Reading.{channel_reading}
use Rattle.rules.specs.declared.Label.{Label}
use Rattle.rules.proofs.Asked.{rest-inside, recording-found, recording-at, montage-at}
use Rattle.rules.proofs.Cases.{by_form, four-formats}
use Rattle.rules.proofs.Held.{channel-holds-at}
use Rattle.rules.proofs.Places.{Found, found_at, channel-bytes}
use Rattle.rules.proofs.Renewed.{PartOk, MontageOk, RecordingOk, recording-ok}
use Rattle.records.proofs.Facts.{between_in}
use Rattle.recordings.specs.Answers.{value, numbered}
use Rattle.recordings.specs.Recordings.{Chosen, recording_of, start_of, held_at, at120}
use Rattle.recordings.proofs.Chosen.{One, numbered-one, chosen-in}
use Rattle.recordings.proofs.Standing.{found-seen, found-ends}
use Rattle.questions.specs.Tied.{format_in}
use Rattle.questions.proofs.Fields.{SubRead, sub_read, montage-counted}

-- where the record stands that holds, in the file's own recordings
held_place : (own : R.Recording → Bool) (place : R.Layout → ℕ) (r : Chosen) {ps : List R.Placed} → r.all ≡ ps →
    let k = holder own r.this.recording r.index (map (λ (p : R.Placed). p.recording) ps) in
    held_at own place r ≡ 32 + bytes_before k ps + place (get_or ps k r.this).layout
unfolding held_at
held_place own place r e = rw (← e)

-- where the sub of channel j stands, from 1; and where the recording's own 350 does, and the sub of its channel j
abbrev pub sub_at : Chosen → ℕ → ℕ
sub_at r j = at120 r + (32 + 256 * (j - 1))

abbrev pub montage_at : Chosen → ℕ
montage_at r = start_of r + r.this.layout.at350

abbrev pub wired_at : Chosen → ℕ → ℕ
wired_at r j = montage_at r + (32 + 256 * (j - 1))

pub record ChannelSeen (k : R.Sub) (s : List ℕ) (p j : ℕ) (c : R.Channel) : Type 0 where
  pub room : ℕ
  pub end : ℕ
  pub seen : see (R.order_of s) 0 s p (R.channel k room j) ≡ goes c end
  pub inside : p + 256 ≤ length s

-- its own 350 has as many channels as it counts, and they end in the file
pub record MontageStands (s : List ℕ) (r : Chosen) : Type 0 where
  pub count : length r.this.recording.montage ≡ number_at (R.order_of s) 4 s (montage_at r + 16)
  pub inside : montage_at r + 32 + 256 * length r.this.recording.montage ≤ length s

-- a part that is not the recording's own has what it takes over
taken-over : (label : Label) {A : Type 0} (P : List A → Type 0) (own : Bool) (l : List A) (ms : List R.Maker) → PartOk label P (some []) own l ms → own ≡ false → l ≡ []
taken-over label P true l ms k e = false-true (sym e)
taken-over label P false l ms k e = let h = k.0 in cc

-- the subs of a recording's channels, in either form
pub channels-calibrated : (label : Label) (n : ℕ) → (R.channels_group label n).sub.calibrated ≡ not (eqb (R.channels_group label n).sub.code 325)
unfolding R.channels_group
channels-calibrated label n = by_form (λ l. (R.channels_group l n).sub.calibrated ≡ not (eqb (R.channels_group l n).sub.code 325)) label refl refl

channels-format : (label : Label) (n : ℕ) → (R.channels_group label n).sub.format ≡ R.between 1 (R.allowed label).format
unfolding R.channels_group
channels-format label n = by_form (λ l. (R.channels_group l n).sub.format ≡ R.between 1 (R.allowed l).format) label refl refl

-- in an accepted file
module _ (s : List ℕ) (b : Bytes s) {v : R.File} {t : List Event} (h : R.judge s ≡ passed v [] t) where
  seen_at : (k : R.Sub) (room : ℕ) {p j : ℕ} {c : R.Channel} → Found t (R.channel k room j) c p → ChannelSeen k s p j c
  seen_at k room {p} {j} f = record {
    room = room;
    end = p + size f.events;
    seen = found-seen s b h f;
    inside = omega (arith, found-ends s b h f, channel-bytes k room j {t = f.events} f.plays);
  }

  module _ (i : ℕ) (r : Chosen) (is : recording_of s i ≡ value r) where
    -- the recording is one of the file's
    file-is : (chosen-in s b i r is).file ≡ v
    file-is = let e = sym (chosen-in s b i r is).judged ∙ h in cc

    all-is : r.all ≡ v.recordings
    all-is = (chosen-in s b i r is).all ∙ ap (λ (x : R.File). x.recordings) file-is

    one : One v.recordings r.index r.this
    one = rw file-is at (chosen-in s b i r is).one

    pub channel-seen : (j : ℕ) {c : R.Channel} → numbered r.this.recording.channels j ≡ value c →
        ChannelSeen (R.channels_group v.heading.label r.this.recording.basic.channels).sub s (sub_at r j) j c
    channel-seen j {c} nth =
        let e = one.is r.this in
        let n = numbered-one r.this.recording.channels j nth in
        let m : 1 + (j - 1) ≡ j = omega (arith, n.0) in
        let g = rw (e, n.1.is c, m) at (channel-holds-at s b h r.this r.index one.inside c (j - 1) (rw e n.1.inside)) in
        seen_at _ g.0 (found_at {q = sub_at r j} g.1 (omega (arith, held_place (λ (y : R.Recording). y.own_channels) (λ (y : R.Layout). y.at120) r all-is)))

    -- it is as the rules ask
    pub recording-well : (held : Option R.Held) × RecordingOk v.heading.label held r.this.recording
    recording-well = let a = recording-at s b h r.this r.index one.inside in (a.held, rw (one.is r.this) at (recording-ok v.heading.label a.held a.room (1 + r.index) a.found.plays))

    -- a recording without a 350 of its own has no montage
    pub montage-none : r.this.recording.own_montage ≡ false → r.this.recording.montage ≡ []
    montage-none = let k = recording-well in taken-over v.heading.label (MontageOk v.heading.label r.this.recording.channels) r.this.recording.own_montage r.this.recording.montage r.this.recording.makers₅ k.1.montage

    pub montage-stands : r.this.recording.own_montage ≡ true → MontageStands s r
    montage-stands own =
        let e = one.is r.this in
        let a = recording-at s b h r.this r.index one.inside in
        let g = rw e at (rest-inside a.found ((recording-found _ _ _ _ a.found.plays).montage (rw e own))) in
        let f = found_at {q = montage_at r + 16} g.found (omega (arith, ap (bytes_before r.index) all-is)) in
        let x = montage-counted (R.order_of s) s (montage_at r) v.heading.label r.this.recording.channels g.room g.head (found-seen s b h f) in
        record { count = x.count; inside = omega (arith, x.end, found-ends s b h f) }

    pub montage-seen : (j : ℕ) {c : R.Channel} → numbered r.this.recording.montage j ≡ value c → ChannelSeen (R.montage_sub (length r.this.recording.channels)) s (wired_at r j) j c
    montage-seen j {c} nth = go r.this.recording.own_montage refl
      where
        go : (x : Bool) → r.this.recording.own_montage ≡ x → ChannelSeen (R.montage_sub (length r.this.recording.channels)) s (wired_at r j) j c
        go true own =
            let e = one.is r.this in
            let n = numbered-one r.this.recording.montage j nth in
            let m : 1 + (j - 1) ≡ j = omega (arith, n.0) in
            let g = rw (e, n.1.is c, m) at (montage-at s b h r.this r.index one.inside c (rw e own) (j - 1) (rw e n.1.inside)) in
            seen_at _ g.0 (found_at {q = wired_at r j} g.1 (omega (arith, ap (bytes_before r.index) all-is)))
        go false own = let n = numbered-one r.this.recording.montage j nth in absurd (omega (arith, n.1.inside, ap length (montage-none own)))

-- what was tested there and what was given
pub sub-seen : {k : R.Sub} {s : List ℕ} {p j : ℕ} {c : R.Channel} → ChannelSeen k s p j c → SubRead k (R.order_of s) s p j c
sub-seen {k} {s} {p} {j} x = sub_read (R.order_of s) s p k x.room j x.seen

-- a channel's format, in the reading and in the file
pub format-is : (label : Label) (n : ℕ) {s : List ℕ} {p j : ℕ} {c : R.Channel} → ChannelSeen (R.channels_group label n).sub s p j c → format_in (channel_reading c) ≡ c.format
format-is label n {c} x =
    let z = sub-seen x in
    let m = between_in 1 (R.allowed label).format _ (rw (channels-format label n) at z.format) in
    rw (signed-pos 4 c.format (omega (arith, m.1, four-formats label.version, ap (λ (y : R.Channel). y.format) z.is)))
