-- The answers to the questions about a channel, a montage, a frame's clock and samples, from what the code found in the file.
-- Assumes nothing.
use Rattle.std.proofs.Common.{Some, None}
use mathlib.Core.Path.{◌≡◌, refl, sym, ap, ◌∙◌}
use mathlib.Core.Bool.{Bool, true, false}
use mathlib.Core.List.{List}
use Prim.Native.Nat.{ℕ, ◌+◌, ◌-◌, ◌*◌, ◌≤◌, ◌<◌}
use native.Mathlib.Nat.{mul-le-mul_left}
use native.Mathlib.Omega.{arith}
use lib.ListN.{length}
use Rattle.words.specs.Numbers.{number_at}
use Rattle.words.specs.declared.Order.{Order}
use Rattle.walk.specs.See.{goes, see}
use Rattle.walk.specs.Walk.{pick}
use Rattle.descriptions.proofs.Parts.{at-nothing}
use Rattle.rules.specs.Rules as R
use Rattle.rules.specs.declared.Label.{Label}
use Rattle.rules.specs.Reading.{Value, value_of}
use Rattle.descriptions.specs.declared.Places.{Places}
use Rattle.records.proofs.Facts.{between_in}
use Rattle.recordings.specs.Answers.{Answer, value, refusal, ◌>>=◌, numbered}
use Rattle.recordings.specs.Found.{FoundIn, counts_of}
use Rattle.recordings.specs.Recordings.{Chosen, recording_of, at120}
use Rattle.recordings.proofs.Chosen.{indexed-out, numbered-out, ChosenIn, chosen-in}
use Rattle.samples.specs.Asked.{FrameStands, RunIn}
use Rattle.samples.specs.Frames.{ChosenFrame, frame_of, Samples, samples_of, number_in, time_of}
use Rattle.samples.specs.Placed.{place_of}
use Rattle.samples.specs.declared.Number.{Number}
use Rattle.samples.specs.declared.Run.{Run}
use Rattle.samples.specs.declared.Time.{Time}
use Rattle.samples.proofs.Framing.{numbered-some}
use Rattle.samples.proofs.Placing.{run-wide}
use Rattle.questions.specs.Holding.{MontageInside, montage_channels}
use Rattle.questions.specs.Questions.{facts_of, channel_of, montage_count_of, montage_of, clock_of, sample_of}
use Rattle.questions.specs.Values.{descriptor_of, DescriptorAt, wired_of, WiredAt}
use Rattle.questions.specs.declared.channels.Descriptor.{Descriptor}
use Rattle.questions.specs.declared.channels.Wired.{Wired}
use Rattle.questions.proofs.Described.{sub_at, montage_at, wired_at, ChannelSeen, channels-calibrated, channel-seen, montage-none, MontageStands, montage-stands, montage-seen}

-- M, F and T
pub facts-refused : (s : List ℕ) (i : ℕ) {n p : ℕ} → recording_of s i ≡ refusal n p → refusal n p ≡ facts_of s i
facts-refused s i h = rw h

pub facts-found : {s : List ℕ} {i : ℕ} {o : Order} {q : Places} {r : Chosen} → FoundIn s i o q r → value (counts_of q) ≡ facts_of s i
facts-found {q} {r} f =
    let m : q.count ≡ length r.this.recording.channels = ap (λ (y : Places). y.count) f.same in
    let t : q.seconds ≡ r.this.recording.seconds = ap (λ (y : Places). y.seconds) f.same in
    rw f.is (ap value (λ n. record { channels = m n; frames = f.frames n; seconds = t n }))

-- A channel

pub channel-refused : (s : List ℕ) (i j : ℕ) {n p : ℕ} → recording_of s i ≡ refusal n p → refusal n p ≡ channel_of s i j
channel-refused s i j h = rw h

module _ {s : List ℕ} {i : ℕ} {o : Order} {q : Places} {r : Chosen} (h : FoundIn s i o q r) (j : ℕ) where
  pub channel-outside : R.between 1 q.count j ≡ false → refusal 19 0 ≡ channel_of s i j
  channel-outside t = rw (h.is, numbered-out r.this.recording.channels j (rw h.owned.stand.count t))

  pub channel-told : R.between 1 q.count j ≡ true → (d : Descriptor) → DescriptorAt o s (q.channels + 32 + 256 * (j - 1)) d → value d ≡ channel_of s i j
  channel-told t d told =
      let y = numbered-some r.this.recording.channels j (rw h.owned.stand.count t) in
      let z = chosen-in s h.bytes i r h.is in
      let x = channel-seen s h.bytes z.judged i r h.is j y.1 in
      let a : q.channels ≡ at120 r = ap (λ (p : Places). p.channels) h.same in
      let e : q.channels + 32 + 256 * (j - 1) ≡ sub_at r j = omega arith in
      rw (h.is, y.1) (ap value (told (R.channels_group z.file.heading.label r.this.recording.basic.channels).sub x.room j y.0 x.end (channels-calibrated z.file.heading.label _) (rw (e, h.order) x.seen) ∙ ap (descriptor_of y.0) e))

-- A recording's own montage

outside-none : (j : ℕ) → R.between 1 0 j ≡ false
outside-none j = go (R.between 1 0 j) refl
  where
    go : (x : Bool) → R.between 1 0 j ≡ x → x ≡ false
    go true e = let l = between_in 1 0 j e in absurd (omega (arith, l.0, l.1))
    go false e = refl

pub montage-count-refused : (s : List ℕ) (i : ℕ) {n p : ℕ} → recording_of s i ≡ refusal n p → refusal n p ≡ montage_count_of s i
montage-count-refused s i h = rw h

pub montage-refused : (s : List ℕ) (i j : ℕ) {n p : ℕ} → recording_of s i ≡ refusal n p → refusal n p ≡ montage_of s i j
montage-refused s i j h = rw h

module _ {s : List ℕ} {i : ℕ} {o : Order} {q : Places} {r : Chosen} (h : FoundIn s i o q r) where
  abbrev chosen : ChosenIn s i r
  chosen = chosen-in s h.bytes i r h.is

  own_is : q.montage ≡ pick r.this.recording.own_montage (Some (montage_at r)) None
  own_is = ap (λ (p : Places). p.montage) h.same

  -- where it has one, it stands where the code's places say
  stands : {p : ℕ} → q.montage ≡ Some p → (p ≡ montage_at r) × MontageStands s r
  stands {p} e = go r.this.recording.own_montage refl (sym own_is ∙ e)
    where
      go : (x : Bool) → r.this.recording.own_montage ≡ x → pick x (Some (montage_at r)) None ≡ Some p → (p ≡ montage_at r) × MontageStands s r
      go true own g = (cc, montage-stands s h.bytes chosen.judged i r h.is own)
      go false own g = at-nothing (sym g)

  pub montage-inside : MontageInside q (length s)
  montage-inside p e = let m = stands e in omega (arith, m.0, m.1.inside)

  pub montage-many : montage_channels o s q ≡ length r.this.recording.montage
  unfolding montage_channels
  montage-many = go r.this.recording.own_montage refl
    where
      go : (x : Bool) → r.this.recording.own_montage ≡ x → montage_channels o s q ≡ length r.this.recording.montage
      go true e = rw (own_is, e, h.order) (sym (montage-stands s h.bytes chosen.judged i r h.is e).count)
      go false e = rw (own_is, e, montage-none s h.bytes chosen.judged i r h.is e)

  pub montage-count-told : value (montage_channels o s q) ≡ montage_count_of s i
  montage-count-told = rw h.is (ap value montage-many)

  module _ (j : ℕ) where
    pub montage-outside : R.between 1 (montage_channels o s q) j ≡ false → refusal 19 0 ≡ montage_of s i j
    montage-outside t = rw (h.is, numbered-out r.this.recording.montage j (rw montage-many at t))

    -- none is asked for where it has none
    pub montage-absent : q.montage ≡ None → refusal 19 0 ≡ montage_of s i j
    unfolding montage_channels
    montage-absent e = montage-outside (rw e (outside-none j))

    module _ {p : ℕ} (at : q.montage ≡ Some p) (t : R.between 1 (montage_channels o s q) j ≡ true) where
      pub montage-roomy : (p + 32 + 256 * montage_channels o s q ≤ length s) × (1 ≤ j) × (j ≤ montage_channels o s q)
      montage-roomy = let m = stands at in let l = between_in 1 (montage_channels o s q) j t in (omega (arith, m.0, m.1.inside, montage-many), l.0, l.1)

      pub montage-told : (w : Wired) → WiredAt o s (p + 32 + 256 * (j - 1)) w → value w ≡ montage_of s i j
      montage-told w told =
          let y = numbered-some r.this.recording.montage j (rw montage-many at t) in there y.1 (montage-seen s h.bytes chosen.judged i r h.is j y.1)
        where
          there : {c : R.Channel} → numbered r.this.recording.montage j ≡ value c → ChannelSeen (R.montage_sub (length r.this.recording.channels)) s (wired_at r j) j c → value w ≡ montage_of s i j
          there {c} nth x =
              let e : p + 32 + 256 * (j - 1) ≡ wired_at r j = omega (arith, (stands at).0) in
              rw (h.is, nth) (ap value (told (R.montage_sub (length r.this.recording.channels)) x.room j c x.end refl refl (rw (e, h.order) x.seen) ∙ ap (wired_of c) e))

-- A clock

pub clock-refused : (s : List ℕ) (i j : ℕ) {n p : ℕ} → frame_of s i j ≡ refusal n p → refusal n p ≡ clock_of s i j
clock-refused s i j h = rw h

pub clock-told : {s : List ℕ} {i j : ℕ} {o : Order} {q : Places} {at : ℕ} {f : ChosenFrame} → FrameStands s i j o q at f → (d : Time) →
    ((label : Label) (size t : ℕ) (cs : List R.Channel) (room n : ℕ) (g : R.Frame) (e : ℕ) → see o 0 s at (R.frame label size t cs room n) ≡ goes g e → d ≡ time_of g) → value d ≡ clock_of s i j
clock-told {q} {f} h d told =
    rw h.is (ap value (told h.label q.frame q.seconds f.of.this.recording.channels h.room _ h.seen.value h.seen.end h.seen.is ∙ ap time_of h.seen.kept))

-- Samples

pub place-refused : (s : List ℕ) (i j k : ℕ) {n p : ℕ} → samples_of s i j k ≡ refusal n p → refusal n p ≡ place_of s i j k
place-refused s i j k h = rw h

pub sample-refused : (s : List ℕ) (i j k m : ℕ) {n p : ℕ} → samples_of s i j k ≡ refusal n p → refusal n p ≡ sample_of s i j k m
sample-refused s i j k m h = rw h

-- the answer of one of them
abbrev said : Answer Value → Answer Number
said a = a >>= λ v. value (number_in v)

module _ {s : List ℕ} {i j k : ℕ} {o : Order} {q : Places} {run : Run} {x : Samples} (h : RunIn s i j k o q run x) (m : ℕ) where
  many : length x.values ≡ run.place.count
  many = sym (ap (λ (r : Run). r.place.count) h.same)

  pub sample-outside : run.place.count ≤ m → refusal 19 0 ≡ sample_of s i j k m
  sample-outside l = rw h.is (sym (ap said (indexed-out x.values m (omega (arith, many)))))

  -- sample m lies in the file
  pub among : m < run.place.count → run.place.position + run.place.width * m + run.place.width ≤ length s
  among l = omega (arith, mul-le-mul_left run.place.width l, h.inside)

  pub sample-told : m < run.place.count → (d : Number) →
      d ≡ number_in (value_of run.format (R.width run.format) (number_at o (R.width run.format) s (run.place.position + run.place.width * m))) → value d ≡ sample_of s i j k m
  sample-told l d g = rw h.is (ap value (rw (run-wide h) at g) ∙ sym (ap said (h.each m l)))
