-- The canonical form of an accepted file, as document 01 says it: "K without leading zeros, reserve in records zero, frames with multiplier 0 and no padding.
-- For 140 and 10, total length n gets multiplier 0 and size n when n is at most 2,147,483,647. Else the smallest multiplier m for which n divided by m,
-- rounded up, is at most that; size is this quotient, with padding." Said of the file's bytes s, of what it holds and where, v, and of the events t that tile it.
-- Assumes nothing.
use Rattle.std.specs.Prelude.{◌≡◌, List, [], ◌∷◌, ℕ, ◌+◌, ◌*◌, ◌-◌, ◌/◌, ◌≤◌, ◌<◌, length, get_or}
use Rattle.words.specs.Numbers.{number_at}
use Rattle.walk.specs.Walk.{Event, cleared}
use Rattle.rules.specs.Rules.{span, length_of, sample_bytes, Maker, Placed, File, order_of}

-- The size and the multiplier of a 140 or a 10

abbrev pub most : ℕ
most = 2_147_483_647

-- n divided by m, rounded up
abbrev pub shares : ℕ → ℕ → ℕ
shares n m = (n + (m - 1)) / m

-- what total length n gets
pub record SizedAs (n size multiplier : ℕ) : Type 0 where
  -- multiplier 0 and size n when n is at most 2,147,483,647
  pub once : n ≤ most → multiplier ≡ 0
  pub whole : n ≤ most → size ≡ n
  -- else a multiplier m for which n divided by m, rounded up, is at most that; size is this quotient
  pub times : most < n → 1 ≤ multiplier
  pub quotient : most < n → size ≡ shares n multiplier
  pub small : most < n → size ≤ most
  -- the smallest
  pub smallest : most < n → (m : ℕ) → 1 ≤ m → shares n m ≤ most → multiplier ≤ m

-- A record's own numbers, where it stands

abbrev pub size_at : List ℕ → ℕ → ℕ
size_at s p = number_at (order_of s) 4 s p

abbrev pub multiplier_at : List ℕ → ℕ → ℕ
multiplier_at s p = number_at (order_of s) 4 s (p + 12)

abbrev pub length_at : List ℕ → ℕ → ℕ
length_at s p = length_of (size_at s p) (multiplier_at s p)

-- A recording that stands at byte `at`

-- its 140, and frame k in it, from 0
abbrev pub signals_at : ℕ → Placed → ℕ
signals_at at p = at + p.layout.at140

abbrev pub frame_at : ℕ → Placed → ℕ → ℕ
frame_at at p k = signals_at at p + 32 + k * p.layout.frame

unfoldable pub makers_length : List Maker → ℕ
makers_length [] = 0
makers_length (m ∷ ms) = span m.head + makers_length ms

-- the total length of the 140: 32 bytes and its frames
abbrev pub signals_total : Placed → ℕ
signals_total p = 32 + length p.recording.frames * p.layout.frame

-- the total length of the 10: up to its 140, that with its padding, makers' records behind it, and the delimiter
abbrev pub recording_total : List ℕ → ℕ → Placed → ℕ
recording_total s at p = p.layout.at140 + length_at s (signals_at at p) + makers_length p.recording.makers₆ + 16

pub record RecordingForm (s : List ℕ) (at : ℕ) (p : Placed) : Type 0 where
  -- frames with multiplier 0
  pub plain : (k : ℕ) → k < length p.recording.frames → multiplier_at s (frame_at at p k) ≡ 0
  -- and no padding: a frame ends with its samples
  pub filled : p.layout.frame ≡ 24 + sample_bytes p.recording.seconds p.recording.channels
  -- 140
  pub signals : SizedAs (signals_total p) (size_at s (signals_at at p)) (multiplier_at s (signals_at at p))
  -- 10
  pub recording : SizedAs (recording_total s at p) (size_at s at) (multiplier_at s at)

-- one recording after the other
abbrev pub RecordingsForm : List ℕ → ℕ → List Placed → Type 0
RecordingsForm s at [] = Unit {0}
RecordingsForm s at (p ∷ ps) = RecordingForm s at p × RecordingsForm s (at + p.layout.bytes) ps

-- The file

pub record CanonicalForm (s : List ℕ) (v : File) (t : List Event) : Type 0 where
  -- K without leading zeros: its first digit is not `0`
  pub count : get_or s 18 0 ≡ 48 → ⊥
  -- reserve in records zero: zero put for every byte that is not judged changes nothing
  pub reserve : cleared t ≡ t
  -- frames, 140 and 10
  pub recordings : RecordingsForm s 32 v.recordings
