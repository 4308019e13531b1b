-- The index of an accepted file, by the places of its samples, is the list over its reading.
-- Assumes nothing.
use mathlib.Core.Path.{◌≡◌, refl, sym, ap, ◌∙◌, subst}
use mathlib.Core.Bool.{Bool, true, false}
use mathlib.Core.List.{List, [], ◌∷◌, ◌++◌}
use Prim.Native.Nat.{ℕ, zero, suc, ◌+◌, ◌-◌, ◌≤◌}
use native.Mathlib.Nat.{add-zero, zero-add}
use native.Mathlib.Omega.{arith}
use lib.ListN.{length, take, get_or}
use lib.Seq.{take-suc, take-length}
use Rattle.words.specs.Numbers.{Bytes}
use Rattle.walk.specs.Walk.{pick, Event, passed}
use Rattle.rules.specs.Rules as R
use Rattle.rules.specs.Rules.{samples_in, width}
use Rattle.rules.proofs.Renew.{SamplesOk}
use Rattle.recordings.specs.Answers.{value, indexed}
use Rattle.recordings.specs.Recordings.{Chosen, recording_of}
use Rattle.recordings.proofs.Chosen.{indexed-one}
use Rattle.index.specs.Events.{Entry, of_events, last_of, codes_in, codes_of}
use Rattle.index.specs.Events.{sample_entries, each_of, channel_entries, frame_entries, recording_entries, entries}
use Rattle.index.specs.Index.{entries_of}
use Rattle.index.proofs.Channels.{some_one, each-zero, each-alike, each_more}
use Rattle.index.proofs.Reading.{one_channel, channels_read, frames_read, recording_read, recordings_read, entries_read, last_frame, frames-more}
use Rattle.index.proofs.Standing.{events-width, recording-there, frame-there, codes-none, samples-ok, codes-many, codes-read}

-- behind some codes it does not matter what stands before them, and where there are none, it is not looked at
last-any : (a b : ℕ) (l : List ℕ) → 1 ≤ length l → last_of a l ≡ last_of b l
unfolding last_of
last-any a b [] h = absurd (omega arith)
last-any a b (x ∷ l) h = refl

entries-any : (i j k a b : ℕ) (l : List ℕ) → (1 ≤ length l → a ≡ b) → sample_entries i j k 0 a l ≡ sample_entries i j k 0 b l
unfolding sample_entries
entries-any i j k a b [] h = refl
entries-any i j k a b (x ∷ l) h = ap (λ (n : ℕ). sample_entries i j k 0 n (x ∷ l)) (h (omega arith))

-- channels, each with its samples
channels-same : (s : List ℕ) (i j : ℕ) (before : List R.Frame) (t k : ℕ) (cs : List R.Channel) (ss : List (List ℕ)) → SamplesOk t cs ss →
    ((c : ℕ) (y : R.Channel) → indexed cs c ≡ value y → channel_entries s i j (suc (k + c)) y ≡ one_channel i j before (k + c) y (get_or ss c [])) →
    each_of (channel_entries s i j) k cs ≡ channels_read i j before k cs ss
unfolding each_of channels_read indexed
channels-same s i j before t k [] ss ok h = refl
channels-same s i j before t k (y ∷ cs) [] ok h = absurd ok
channels-same s i j before t k (y ∷ cs) (l ∷ ss) ok h =
    let e : channel_entries s i j (suc k) y ≡ one_channel i j before k y l = rw (add-zero k) at (h 0 y refl) in
    let r : each_of (channel_entries s i j) (suc k) cs ≡ channels_read i j before (suc k) cs ss =
    channels-same s i j before t (suc k) cs ss ok.2 (λ c z g. let d : suc k + c ≡ k + suc c = omega arith in rw d (h (suc c) z g)) in
    λ n. e n ++ r n

-- A recording that was asked for

module _ (s : List ℕ) (b : Bytes s) (i : ℕ) {r : Chosen} (asked : recording_of s i ≡ value r) where
  abbrev cs : List R.Channel
  cs = r.this.recording.channels

  abbrev fs : List R.Frame
  fs = r.this.recording.frames

  module _ (c : ℕ) (y : R.Channel) (one : indexed cs c ≡ value y) where
    -- the last code of a frame is that of all frames up to it
    last-read : width y.format ≡ 2 → 1 ≤ samples_in r.this.recording.seconds y → (j : ℕ) → j ≤ length fs →
        last_of 0 (codes_in c (take j fs)) ≡ last_of 0 (codes_of s i j (suc c))
    unfolding codes_in
    last-read wide some zero l = ap (last_of 0) (sym (codes-none s i (suc c)))
    last-read wide some (suc j) l =
        let g = some_one fs j (omega arith) in
        let o = indexed-one fs j g.1 in
        let f = frame-there s i asked j g.1 in
        let many : length (codes_of s i (suc j) (suc c)) ≡ samples_in r.this.recording.seconds y = codes-many s b i (suc j) f c y one in
        let e : take (suc j) fs ≡ take j fs ++ (g.0 ∷ []) = take-suc fs j g.0 o.inside ∙ rw (o.is g.0) in
        ap (λ (l : List R.Frame). last_of 0 (codes_in c l)) e ∙ (last_frame c (take j fs) g.0 ∙
        (ap (last_of (last_of 0 (codes_in c (take j fs)))) (codes-read s b i (suc j) f c y one wide) ∙
        last-any (last_of 0 (codes_in c (take j fs))) 0 (codes_of s i (suc j) (suc c)) (omega (arith, many, some))))

    channel-same : (j : ℕ) (g : R.Frame) → indexed fs j ≡ value g →
        channel_entries s i (suc j) (suc c) y ≡ one_channel i (suc j) (take j fs) c y (get_or g.channels c [])
    unfolding channel_entries
    channel-same j g is = go (of_events y) refl
      where
        go : (x : Bool) → of_events y ≡ x →
            pick x (sample_entries i (suc j) (suc c) 0 (last_of 0 (codes_of s i (suc j - 1) (suc c))) (codes_of s i (suc j) (suc c))) [] ≡
            pick x (sample_entries i (suc j) (suc c) 0 (last_of 0 (codes_in c (take j fs))) (get_or g.channels c [])) []
        go false e = refl
        go true e =
            let wide = events-width y e in
            let f = frame-there s i asked j is in
            let many : length (codes_of s i (suc j) (suc c)) ≡ samples_in r.this.recording.seconds y = codes-many s b i (suc j) f c y one in
            let d : suc j - 1 ≡ j = omega arith in
            ap (λ (n : ℕ). sample_entries i (suc j) (suc c) 0 (last_of 0 (codes_of s i n (suc c))) (codes_of s i (suc j) (suc c))) d ∙
            (entries-any i (suc j) (suc c) (last_of 0 (codes_of s i j (suc c))) (last_of 0 (codes_in c (take j fs))) (codes_of s i (suc j) (suc c))
            (λ l. sym (last-read wide (omega (arith, l, many)) j (omega (arith, (indexed-one fs j is).inside)))) ∙
            ap (sample_entries i (suc j) (suc c) 0 (last_of 0 (codes_in c (take j fs)))) (sym (codes-read s b i (suc j) f c y one wide)))

  frame_same : (j : ℕ) (g : R.Frame) → indexed fs j ≡ value g → frame_entries s i cs (suc j) g ≡ channels_read i (suc j) (take j fs) 0 cs g.channels
  unfolding frame_entries
  frame_same j g is =
      channels-same s i (suc j) (take j fs) r.this.recording.seconds 0 cs g.channels (samples-ok s b i (suc j) (frame-there s i asked j is))
      (λ c y one. rw (zero-add c) (channel-same c y one j g is))

  frames-same : (n : ℕ) → n ≤ length fs → each_of (frame_entries s i cs) 0 (take n fs) ≡ frames_read i 1 cs [] (take n fs)
  unfolding each_of frames_read
  frames-same zero l = refl
  frames-same (suc n) l =
      let g = some_one fs n (omega arith) in
      let e : each_of (frame_entries s i cs) 0 (take n fs) ≡ frames_read i 1 cs [] (take n fs) = frames-same n (omega arith) in
      let f : frame_entries s i cs (suc (0 + n)) g.0 ≡ channels_read i (suc n) (take n fs) 0 cs g.0.channels =
      ap (λ (m : ℕ). frame_entries s i cs (suc m) g.0) (zero-add n) ∙ frame_same n g.0 g.1 in
      each_more (frame_entries s i cs) 0 n fs g.1 ∙ ((λ m. e m ++ f m) ∙ sym (frames-more i cs n fs g.0 (indexed-one fs n g.1)))

  recording-same : recording_entries s i r.this.recording ≡ recording_read i r.this.recording
  unfolding recording_entries
  recording-same = rw (take-length fs) at (frames-same (length fs) (omega arith))

-- An accepted file

recordings-read : (i : ℕ) (rs : List R.Recording) → each_of (λ n x. recording_read n x) i rs ≡ recordings_read (suc i) rs
unfolding each_of recordings_read
recordings-read i [] = refl
recordings-read i (x ∷ rs) = ap (λ (l : List Entry). recording_read (suc i) x ++ l) (recordings-read (suc i) rs)

pub entries-read : (s : List ℕ) → Bytes s → {v : R.File} {r : List ℕ} {t : List Event} → R.judge s ≡ passed v r t →
    entries s (R.contents v) ≡ entries_read (R.contents v)
entries-read s b {v} h =
    each-alike (recording_entries s) (λ n x. recording_read n x) 0 (R.contents v).recordings
    (each-zero (λ n x. recording_entries s n x ≡ recording_read n x) (R.contents v).recordings
    (λ c x e. let y = recording-there s h c e in
    subst (λ (z : R.Recording). recording_entries s (suc c) z ≡ recording_read (suc c) z) y.2 (recording-same s b (suc c) y.1))) ∙
    recordings-read 0 (R.contents v).recordings

-- so the contract says the same as it did over the reading
pub as_before : (s : List ℕ) → Bytes s → {v : R.File} {r : List ℕ} {t : List Event} → R.judge s ≡ passed v r t →
    entries_of s (R.judge s) ≡ entries_read (R.contents v)
as_before s b h = ap (entries_of s) h ∙ entries-read s b h
