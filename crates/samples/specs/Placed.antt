-- Where the samples of a channel stand, in a frame and in every frame of a recording, and the part of a file that a place names.
-- Assumes nothing.
use Rattle.std.specs.Prelude.{◌≡◌, List, [], ◌∷◌, ℕ, zero, suc, ◌+◌, ◌-◌, ◌*◌, leb, length}
use Rattle.std.specs.Borrow.{Bor}
use Rattle.words.specs.Numbers.{bytes_at, number_at}
use Rattle.words.specs.declared.Order.{Order}
use Rattle.walk.specs.Walk.{pick}
use Rattle.rules.specs.Reading.{Value, value_of}
use Rattle.rules.specs.Rules.{order_of, width}
use Rattle.recordings.specs.Answers.{Answer, value, ◌>>=◌}
use Rattle.samples.specs.Frames.{Samples, frame_of, samples_of}
use Rattle.samples.specs.declared.Cut.{Cut}
use Rattle.samples.specs.declared.Place.{Place}
use Rattle.samples.specs.declared.Track.{Track}

-- the place of samples; where there are none, the one that they would take
abbrev pub place_in : Samples → Place
place_in x = record { position = x.at; width = width x.format; count = length x.values }

abbrev pub place_of : List ℕ → ℕ → ℕ → ℕ → Answer Place
place_of s i j k = samples_of s i j k >>= λ x. value (place_in x)

-- the track of channel k of recording i: its place in the first frame, and how far the frames are apart; and its place in frame j
abbrev pub track_of : List ℕ → ℕ → ℕ → Answer Track
track_of s i k = do
  x ← samples_of s i 1 k
  f ← frame_of s i 1
  value (record {
    order = order_of s;
    format = x.format;
    first = place_in x;
    step = f.of.this.layout.frame;
    frames = length f.of.this.recording.frames;
    seconds = f.of.this.recording.seconds;
  })

abbrev pub place_on : Track → ℕ → Place
place_on t j = record { position = t.first.position + t.step * (j - 1); width = t.first.width; count = t.first.count }

-- the part of a file of n bytes: those of the place, if all of them lie inside, else the empty part at the file's end
unfoldable pub part_in : ℕ → Place → Cut
part_in n p = pick (leb (p.position + p.width * p.count) n) (record { start = p.position; length = p.width * p.count }) (record { start = n; length = 0 })

-- its bytes
abbrev pub bytes_of : List ℕ → Place → List ℕ
bytes_of s p = bytes_at (part_in (length s) p).length s (part_in (length s) p).start

-- a slice is this part of the file
pub record PartAnswer (file : Bor (List ℕ)) (p : Place) (r : Bor (List ℕ)) : Type 0 where
  -- what it holds
  pub bytes : r.now ≡ bytes_of file.now p
  -- it lies in the same block of memory
  pub block : r.ref_ptr.0 ≡ file.ref_ptr.0
  -- and there so many bytes behind the file's first
  pub offset : r.ref_ptr.1 ≡ file.ref_ptr.1 + (part_in (length file.now) p).start

-- n samples of this format, one after the other, at p of a list of bytes
unfoldable pub values_at : Order → ℕ → ℕ → List ℕ → ℕ → List Value
values_at o format zero s p = []
values_at o format (suc n) s p = value_of format (width format) (number_at o (width format) s p) ∷ values_at o format n s (p + width format)

-- the samples of this format at a place of the file s
abbrev pub values_of : List ℕ → ℕ → Place → List Value
values_of s format p = values_at (order_of s) format p.count (bytes_of s p) 0
