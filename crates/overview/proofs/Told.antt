-- What the overview and its range are told by the library's question about the track, over the file's reading: a refusal is handed up, and of a track the
-- answer is what the bytes have where the track says. What both share is said once, of whatever is asked of the recording.
-- Assumes nothing.
use Rattle.std.proofs.Common.{Option, Some, None, Result, Ok, Err}
use Rattle.rules.specs.Reasons.{number_of, refusal_of}
use mathlib.Core.Path.{◌≡◌, refl, sym, ap, ◌∙◌}
use mathlib.Core.Bool.{Bool, true, false}
use mathlib.Core.List.{List, [], ◌∷◌, ◌++◌}
use Prim.Native.Nat.{ℕ, zero, suc, ◌+◌, ◌*◌, ◌<◌}
use native.Mathlib.Omega.{arith}
use borrow.Author.Tests.{ltb-true}
use lib.Dec.{ltb}
use lib.IntN.{ℤ}
use lib.ListN.{length, get_or}
use Rattle.words.specs.Lent.{flat}
use Rattle.words.specs.Numbers.{Bytes}
use Rattle.walk.specs.Walk.{pick, Event, Outcome, refused, passed}
use Rattle.rules.specs.Reading.{ChannelReading, RecordingReading, Reading, reading}
use Rattle.rules.specs.Rules as R
use Rattle.rules.specs.declared.Refusal.{Refusal}
use Rattle.recordings.specs.Answers.{Answer, value, refusal, ◌>>=◌, outside, numbered}
use Rattle.samples.specs.declared.Track.{Track}
use Rattle.questions.specs.Promised.{TrackAnswer}
use Rattle.questions.specs.Tied.{recording_read, channel_read, format_in, TrackIs}
use Rattle.demands.specs.Demands.{Accepted, Tells}
use Rattle.demands.proofs.Demands.{demand-2}
use Rattle.overview.specs.Overview.{envelope_of, lasts, whole_read, epoch_in, epochs_in, within}
use Rattle.overview.specs.Overview.{numbers, by_reading, overview_of, range_of}
use Rattle.overview.specs.Steps.{Tracked, epoch_numbers, numbers_of, shown, epochs_numbers}
use Rattle.overview.specs.declared.Envelope.{Envelope}
use Rattle.overview.proofs.Read.{alike-value, alike-refusal, judged, Served, tracked-in, not-served, served}

-- bytes, by the fact that the code has of a slice
pub bytes : (s : List ℕ) → ((i : ℕ) → get_or s i 0 < 256) → Bytes s
bytes [] h = tt
bytes (b ∷ s) h = (h 0, bytes s (λ i. h (suc i)))

-- Epochs

pub epochs-there : (all first n : ℕ) → within all first n ≡ true → (q : ℕ) → q < n → 30 * (first + q) < all
epochs-there all first zero h q l = absurd (omega arith)
epochs-there all first (suc n) h q l = omega (arith, ltb-true (30 * (first + n)) all h)

-- one epoch
within-one : (all e : ℕ) → within all e 1 ≡ ltb (30 * e) all
within-one all e = let z : e + 0 ≡ e = omega arith in ap (λ (x : ℕ). ltb (30 * x) all) z

pub epoch-there : (all e : ℕ) → within all e 1 ≡ true → 30 * e < all
epoch-there all e h = ltb-true (30 * e) all (sym (within-one all e) ∙ h)

numbers-shown : (x : Option Envelope) → numbers x ≡ numbers_of (shown x)
numbers-shown None = refl
numbers-shown (Some x) = refl

-- Recording i of a file, whose channel k has whole numbers: what is asked of it

abbrev asked : {A : Type 0} → List ℕ → (i k : ℕ) → (RecordingReading → Answer A) → Answer A
asked s i k f = by_reading (R.judge s) (λ g. whole_read g i k >>= f)

-- where the reading has no such channel
unread : {A : Type 0} (g : Reading) (i k : ℕ) (f : RecordingReading → Answer A) {n p : ℕ} →
    channel_read g i k ≡ refusal n p → refusal n p ≡ (whole_read g i k >>= f)
unread g i k f {n} {p} h = go (recording_read g i) h
  where
    go : (a : Answer RecordingReading) → (a >>= λ r. numbered r.channels k) ≡ refusal n p →
        refusal n p ≡ (a >>= (λ r. numbered r.channels k >>= λ c. pick (R.between 1 3 (format_in c)) (value r) outside) >>= f)
    go (refusal m q) e = cc
    go (value r) e = rw e

module _ (s : List ℕ) (b : Bytes s) (i k : ℕ) where
  handed-up : {A : Type 0} (f : RecordingReading → Answer A) (r : Refusal) → TrackAnswer s i k (Err r) → refusal (number_of r.0) r.1 ≡ asked s i k f
  handed-up f r x = go (R.judge s) refl
    where
      go : (o : Outcome R.File) → R.judge s ≡ o → refusal (number_of r.0) r.1 ≡ by_reading o (λ g. whole_read g i k >>= f)
      go (refused n p) e =
          let h = (demand-2 s b).refuses n p e in
          let y : ◌≡◌ {A = Result Track Refusal} (Err r) (Err (refusal_of n p)) = h.track i k (Err r) x in
          let same : r ≡ refusal_of n p = cc in
          ap (λ (u : Refusal). refusal (number_of u.0) u.1) same ∙ ap (λ (m : ℕ). refusal m p) h.named
      go (passed v l u) e = unread (reading v) i k f (alike-refusal (((demand-2 s b).answers v u (judged s e)).track i k (Err r) x) refl)

  module _ (t : Track) (x : TrackAnswer s i k (Ok t)) where
    -- the file is accepted, and its reading has the channel
    record There : Type 0 where
      file : R.File
      events : List Event
      accepted : Accepted s file events
      tells : Tells s (reading file)
      channel : ChannelReading
      read : channel_read (reading file) i k ≡ value channel
      is : TrackIs s (reading file) i k t channel

    there : There
    there = go (R.judge s) refl
      where
        go : (o : Outcome R.File) → R.judge s ≡ o → There
        go (refused n p) e =
            let y : ◌≡◌ {A = Result Track Refusal} (Ok t) (Err (refusal_of n p)) = ((demand-2 s b).refuses n p e).track i k (Ok t) x in
            let z : ◌≡◌ {A = ℕ} 0 1 = cc in
            absurd (omega arith)
        go (passed v l u) e =
            let a = (demand-2 s b).answers v u (judged s e) in
            let c = alike-value (a.track i k (Ok t) x) refl in
            record { file = v; events = u; accepted = judged s e; tells = a; channel = c.0; read = c.1; is = c.2 }

    pub tracked : Tracked (length s) t
    tracked = let y = there in tracked-in s (reading y.file) y.tells i k t y.channel y.read y.is

    unserved : {A : Type 0} (f : RecordingReading → Answer A) → R.between 1 3 t.format ≡ false → refusal 19 0 ≡ asked s i k f
    unserved f e =
        let y = there in
        let z = not-served s (reading y.file) y.tells i k t y.channel y.read y.is e in
        rw (y.accepted, z)

    pub range-unserved : (first n : ℕ) → R.between 1 3 t.format ≡ false → refusal 19 0 ≡ range_of s i k first n
    range-unserved first n = unserved (λ r. pick (within (lasts r) first n) (value (epochs_in r k first n)) outside)

    module _ (whole : R.between 1 3 t.format ≡ true) where
      of-file : Served s (reading there.file) i k t
      of-file = let y = there in served s (reading y.file) y.tells i k t y.channel y.read y.is whole

      -- what is answered of the recording, by a test of its seconds
      tested : {A : Type 0} (test : ℕ → Bool) (f : RecordingReading → A) {c : Bool} → test (t.frames * t.seconds) ≡ c →
          asked s i k (λ r. pick (test (lasts r)) (value (f r)) outside) ≡ pick c (value (f of-file.recording)) outside
      tested test f e = rw (there.accepted, of-file.read, of-file.lasting, e)

      pub range-outside : (first n : ℕ) → within (t.frames * t.seconds) first n ≡ false → refusal 19 0 ≡ range_of s i k first n
      range-outside first n h = sym (tested (λ all. within all first n) (λ r. epochs_in r k first n) h)

      pub overview-told : (e : ℕ) → within (t.frames * t.seconds) e 1 ≡ true → value (envelope_of (epoch_numbers s t e)) ≡ overview_of s i k e
      overview-told e h = ap value (sym (of-file.epoch e)) ∙ sym (tested (ltb (30 * e)) (λ r. epoch_in r k e) (sym (within-one (t.frames * t.seconds) e) ∙ h))

      -- the numbers of the epochs
      in_buffer : (first n : ℕ) → flat numbers (epochs_in of-file.recording k first n) ≡ epochs_numbers s t first n
      unfolding flat epochs_in epochs_numbers
      in_buffer first zero = refl
      in_buffer first (suc n) =
          rw (numbers-shown (epoch_in of-file.recording k first), of-file.epoch first)
          (ap (λ (zs : List ℤ). numbers_of (shown (envelope_of (epoch_numbers s t first))) ++ zs) (in_buffer (suc first) n))

      pub range-told : (first n : ℕ) → within (t.frames * t.seconds) first n ≡ true →
          (xs : List (Option Envelope)) × (range_of s i k first n ≡ value xs) × (flat numbers xs ≡ epochs_numbers s t first n)
      range-told first n h = (epochs_in of-file.recording k first n, tested (λ all. within all first n) (λ r. epochs_in r k first n) h, in_buffer first n)

  pub range-refused : (first n : ℕ) (r : Refusal) → TrackAnswer s i k (Err r) → refusal (number_of r.0) r.1 ≡ range_of s i k first n
  range-refused first n = handed-up (λ r. pick (within (lasts r) first n) (value (epochs_in r k first n)) outside)
