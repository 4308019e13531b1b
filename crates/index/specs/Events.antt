-- The night events of a file, as document 02 says it (request 7): as a list, by the places of the samples (request 8); and what the list is, over the reading.
-- Assumes nothing.
use Rattle.std.specs.Prelude.{◌≡◌, Bool, true, ◌&&◌, not, List, [], ◌∷◌, ◌++◌, ℕ, suc, ◌+◌, ◌-◌, ◌<◌, eqb, ltb, length, take, get_or}
use Rattle.words.specs.Numbers.{numbers_at}
use Rattle.walk.specs.Walk.{pick}
use Rattle.rules.specs.Rules as R
use Rattle.recordings.specs.Answers.{Answer, value, refusal, indexed, numbered}
use Rattle.samples.specs.Placed.{place_of, bytes_of}
use Rattle.samples.specs.declared.Place.{Place}

-- an entry: a sample by recording, frame and channel, each from 1, and by its place in the frame, from 0; and its code, an unsigned number of 16 bits
pub record Entry : Type 0 where
  pub recording : ℕ
  pub frame : ℕ
  pub channel : ℕ
  pub place : ℕ
  pub code : ℕ

-- a channel of events: type 1 and format 1
abbrev pub of_events : R.Channel → Bool
of_events c = eqb c.type 1 && eqb c.format 1

-- a code that is not 0 and differs from the one before it
abbrev pub changes : ℕ → ℕ → Bool
changes before code = not (eqb code 0) && not (eqb code before)

-- The list

-- the last of some codes; where there are none, the one before them
unfoldable pub last_of : ℕ → List ℕ → ℕ
last_of before [] = before
last_of before (c ∷ cs) = last_of c cs

-- the codes of a channel of a frame from this place on, behind the one before them
unfoldable pub sample_entries : (recording frame channel place before : ℕ) → List ℕ → List Entry
sample_entries recording frame channel place before [] = []
sample_entries recording frame channel place before (c ∷ cs) =
    pick (changes before c) (record { recording = recording; frame = frame; channel = channel; place = place; code = c } ∷ []) [] ++
    sample_entries recording frame channel (suc place) c cs

-- the codes that stand at a place of the file s; none where there is no place
abbrev pub codes_at : List ℕ → Answer Place → List ℕ
codes_at s (value p) = numbers_at (R.order_of s) p.width p.count (bytes_of s p) 0
codes_at s (refusal n p) = []

-- those of channel k in frame j of recording i, each from 1
unfoldable pub codes_of : List ℕ → (i j k : ℕ) → List ℕ
codes_of s i j k = codes_at s (place_of s i j k)

-- what each of a list has, numbered behind the first k
unfoldable pub each_of : {A : Type 0} → (ℕ → A → List Entry) → ℕ → List A → List Entry
each_of f k [] = []
each_of f k (a ∷ l) = f (suc k) a ++ each_of f (suc k) l

-- the entries of channel k, which is c, in a frame: before its first code stands the last of the frame before, or 0
unfoldable pub channel_entries : List ℕ → (i j k : ℕ) → R.Channel → List Entry
channel_entries s i j k c = pick (of_events c) (sample_entries i j k 0 (last_of 0 (codes_of s i (j - 1) k)) (codes_of s i j k)) []

-- of frame j of a recording with these channels
unfoldable pub frame_entries : List ℕ → ℕ → List R.Channel → ℕ → R.Frame → List Entry
frame_entries s i cs j f = each_of (channel_entries s i j) 0 cs

-- of recording i
unfoldable pub recording_entries : List ℕ → ℕ → R.Recording → List Entry
recording_entries s i r = each_of (frame_entries s i r.channels) 0 r.frames

-- of the file s with this reading
abbrev pub entries : List ℕ → R.Contents → List Entry
entries s v = each_of (recording_entries s) 0 v.recordings

-- What the list is

-- the codes of a channel, from 0, in some frames, one after the other
unfoldable pub codes_in : ℕ → List R.Frame → List ℕ
codes_in k [] = []
codes_in k (f ∷ fs) = get_or f.channels k [] ++ codes_in k fs

-- the code before that of sample `place` of a frame, in that channel and recording; the first of a recording counts as after 0
abbrev pub code_before : R.Recording → (frame channel place : ℕ) → ℕ
code_before r frame channel place =
    get_or (0 ∷ codes_in (channel - 1) r.frames) (length (codes_in (channel - 1) (take (frame - 1) r.frames)) + place) 0

-- the entry is an event of the reading
pub record IsEvent (v : R.Contents) (e : Entry) : Type 0 where
  -- its recording, its frame and its channel
  pub recording : R.Recording
  pub recorded : numbered v.recordings e.recording ≡ value recording
  pub frame : R.Frame
  pub framed : numbered recording.frames e.frame ≡ value frame
  pub channel : R.Channel
  pub described : numbered recording.channels e.channel ≡ value channel
  -- of events
  pub events : of_events channel ≡ true
  -- the code of its sample
  pub codes : List ℕ
  pub sampled : numbered frame.channels e.channel ≡ value codes
  pub coded : indexed codes e.place ≡ value e.code
  -- which is not 0 and differs from the one before
  pub changed : changes (code_before recording e.frame e.channel e.place) e.code ≡ true

-- one entry stands before another: by recording, frame, channel and place
unfoldable pub earlier : Entry → Entry → Bool
earlier a b =
    pick (eqb a.recording b.recording)
    (pick (eqb a.frame b.frame)
    (pick (eqb a.channel b.channel) (ltb a.place b.place) (ltb a.channel b.channel))
    (ltb a.frame b.frame))
    (ltb a.recording b.recording)

-- the list has every event, each once, and nothing else, in strictly increasing order
pub record Index (v : R.Contents) (es : List Entry) : Type 0 where
  -- each entry is an event
  pub only : (n : ℕ) (e : Entry) → indexed es n ≡ value e → IsEvent v e
  -- each event is an entry
  pub every : (e : Entry) → IsEvent v e → (n : ℕ) × (indexed es n ≡ value e)
  -- of two entries the first stands before the second; so no entry is there twice
  pub ordered : (m n : ℕ) (a b : Entry) → m < n → indexed es m ≡ value a → indexed es n ≡ value b → earlier a b ≡ true
