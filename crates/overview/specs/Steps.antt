-- What the steps of the overview ask and say, over the bytes of the file and the track of the channel.
-- Assumes nothing.
use Rattle.std.specs.Prelude.{Option, Some, None, Result, Ok, Err}
use Rattle.std.specs.Prelude.{◌≡◌, true, List, [], ◌∷◌, ◌++◌, ℕ, zero, suc, ◌+◌, ◌-◌, ◌*◌, ◌/◌, ◌≤◌, ◌<◌, ltb, ℤ, pos, length}
use Rattle.words.specs.Numbers.{Bytes, bytes_at, number_at}
use Rattle.words.specs.Values.{signed}
use Rattle.words.specs.declared.Order.{Order}
use Rattle.walk.specs.Walk.{pick}
use Rattle.rules.specs.Reasons.{number_of}
use Rattle.rules.specs.Rules as R
use Rattle.rules.specs.declared.Refusal.{Refusal}
use Rattle.recordings.specs.Answers.{refusal}
use Rattle.samples.specs.declared.Track.{Track}
use Rattle.questions.specs.Promised.{TrackAnswer}
use Rattle.decode.specs.Wide.{Wide}
use Rattle.overview.specs.Overview.{lower, higher, foremost, envelope_of, within, range_of}
use Rattle.overview.specs.declared.Envelope.{Envelope}
use Rattle.overview.specs.declared.extremes.Extremes.{Extremes}
use Rattle.overview.specs.declared.extremes.Bounds.{Bounds}

-- Numbers in a part of the file

-- n whole numbers of w bytes each, one after the other, at p of a list of bytes
unfoldable pub wholes_at : Order → (w n : ℕ) → List ℕ → ℕ → List ℤ
wholes_at o w zero s p = []
wholes_at o w (suc n) s p = signed w (number_at o w s p) ∷ wholes_at o w n s (p + w)

-- s is numbers of w bytes, one or more
pub record NumbersOf (w : ℕ) (s : List ℕ) : Type 0 where
  pub wide : Wide w
  pub more : ℕ
  pub long : length s ≡ w * suc more

-- the smallest and the largest of one number or more; with further ones; and of one part and another
abbrev pub widened : Extremes → List ℤ → Extremes
widened x zs = record { smallest = foremost lower x.smallest zs; largest = foremost higher x.largest zs }

abbrev pub extremes_of : List ℤ → Extremes
extremes_of [] = record { smallest = pos 0; largest = pos 0 }
extremes_of (z ∷ zs) = widened (record { smallest = z; largest = z }) zs

abbrev pub both_of : Extremes → Extremes → Extremes
both_of x y = record { smallest = lower x.smallest y.smallest; largest = higher x.largest y.largest }

-- those that a loop keeps, by what each number means
abbrev pub meant_by : {A : Type 0} → (A → ℤ) → Bounds A → Extremes
meant_by means x = record { smallest = means x.smallest; largest = means x.largest }

-- r is that of the numbers of w bytes that s is
abbrev pub ExtremesAre : Order → ℕ → List ℕ → Extremes → Type 0
ExtremesAre o w s r = (n : ℕ) → length s ≡ w * suc n → r ≡ extremes_of (wholes_at o w (suc n) s 0)

-- t is as many as s, and r is that of both
pub record PairOf (w : ℕ) (s t : List ℕ) : Type 0 where
  pub numbers : NumbersOf w s
  pub alike : length t ≡ length s

abbrev pub PairAre : Order → ℕ → (s t : List ℕ) → Extremes → Type 0
PairAre o w s t r = (n : ℕ) → length s ≡ w * suc n → r ≡ both_of (extremes_of (wholes_at o w (suc n) s 0)) (extremes_of (wholes_at o w (suc n) t 0))

-- Numbers in frames: of the frame behind n others, and of m frames from there on

abbrev pub frame_numbers : List ℕ → Track → ℕ → List ℤ
frame_numbers s t n =
    wholes_at t.order t.first.width t.first.count (bytes_at (t.first.width * t.first.count) s (t.first.position + t.step * n)) 0

unfoldable pub frames_numbers : List ℕ → Track → (n m : ℕ) → List ℤ
frames_numbers s t n zero = []
frames_numbers s t n (suc m) = frame_numbers s t n ++ frames_numbers s t (suc n) m

-- the track lies in a file of n bytes
pub record Tracked (n : ℕ) (t : Track) : Type 0 where
  pub wide : Wide t.first.width
  -- T is not 0
  pub some : 1 ≤ t.seconds
  -- a frame's samples are counted in 31 bits
  pub few : t.first.count < 2147483648
  -- those of each frame lie inside
  pub inside : (j : ℕ) → j < t.frames → t.first.position + t.step * j + t.first.width * t.first.count ≤ n

-- the frame behind j others is there, and has samples
pub record FrameThere (n : ℕ) (t : Track) (j : ℕ) : Type 0 where
  pub tracked : Tracked n t
  pub samples : 1 ≤ t.first.count
  pub there : j < t.frames

-- so are those from there on, up to the one behind `end` others
pub record FramesThere (n : ℕ) (t : Track) (j end : ℕ) : Type 0 where
  pub tracked : Tracked n t
  pub samples : 1 ≤ t.first.count
  pub first : j < end
  pub last : end ≤ t.frames

-- Numbers in an epoch

-- how many frames start before a second: the one behind n others starts at n times T
unfoldable pub started_by : Track → ℕ → ℕ
started_by t x = pick (ltb t.frames ((x + (t.seconds - 1)) / t.seconds)) t.frames ((x + (t.seconds - 1)) / t.seconds)

-- a second that is counted without overflow
pub record Second (t : Track) (x : ℕ) : Type 0 where
  pub some : 1 ≤ t.seconds
  pub low : x ≤ t.frames * t.seconds + 30

abbrev pub epoch_numbers : List ℕ → Track → ℕ → List ℤ
epoch_numbers s t e = frames_numbers s t (started_by t (30 * e)) (started_by t (30 * e + 30) - started_by t (30 * e))

-- the epoch starts before the last frame is over
pub record EpochThere (n : ℕ) (t : Track) (e : ℕ) : Type 0 where
  pub tracked : Tracked n t
  pub there : 30 * e < t.frames * t.seconds

-- an envelope in numbers: 0 0 0 where there is none
abbrev pub shown : Option Envelope → Envelope
shown None = record { smallest = pos 0; largest = pos 0; count = 0 }
shown (Some x) = x

-- r is that of the epoch, and its count has a place in 63 bits
pub record EpochIs (s : List ℕ) (t : Track) (e : ℕ) (r : Option Envelope) : Type 0 where
  pub is : r ≡ envelope_of (epoch_numbers s t e)
  pub small : (shown r).count < 9223372036854775808

-- the epochs asked for, n from the first on, of a channel with this track: its samples are whole numbers, and the epochs are inside
pub record EpochsIn (s : List ℕ) (i k first n : ℕ) (t : Track) : Type 0 where
  -- the file is bytes, and this is the track that the library answers
  pub bytes : Bytes s
  pub answer : TrackAnswer s i k (Ok t)
  pub whole : R.between 1 3 t.format ≡ true
  pub inside : within (t.frames * t.seconds) first n ≡ true
  -- F times T has its place in 64 bits
  pub low : t.frames * t.seconds ≤ 18446744065119617025

abbrev pub EpochsFoundAs : List ℕ → (i k first n : ℕ) → Result Track Refusal → Type 0
EpochsFoundAs s i k first n (Ok t) = EpochsIn s i k first n t
EpochsFoundAs s i k first n (Err r) = range_of s i k first n ≡ refusal (number_of r.0) r.1

-- Numbers in a buffer

abbrev pub numbers_of : Envelope → List ℤ
numbers_of x = x.smallest ∷ x.largest ∷ pos x.count ∷ []

-- three numbers have room from `at` on, and the count has its place
pub record Puts (x : Envelope) (out : List ℤ) (at : ℕ) : Type 0 where
  pub small : x.count < 9223372036854775808
  pub room : at + 3 ≤ length out

-- n epochs from the first on start before the last frame is over, and have room
pub record EpochsThere (bytes : ℕ) (t : Track) (first n : ℕ) (out : List ℤ) : Type 0 where
  pub tracked : Tracked bytes t
  pub there : (q : ℕ) → q < n → 30 * (first + q) < t.frames * t.seconds
  pub room : 3 * n ≤ length out

-- the numbers of n epochs from the first on
unfoldable pub epochs_numbers : List ℕ → Track → (first n : ℕ) → List ℤ
epochs_numbers s t first zero = []
epochs_numbers s t first (suc n) = numbers_of (shown (envelope_of (epoch_numbers s t first))) ++ epochs_numbers s t (suc first) n
