-- A run of samples, of a channel in a frame: how many are asked for from the first on of those at its place, and by which of two calls; the answer, and
-- what the buffer holds afterwards.
-- Assumes nothing.
use Rattle.rules.specs.declared.Refusal.{Refusal}
use Rattle.std.specs.Prelude.{◌≡◌, Bool, ◌&&◌, not, List, ◌++◌, map, ℕ, ◌+◌, ◌*◌, leb, eqb, ℤ, pos, length, take, drop, Result, Ok, Err}
use Rattle.walk.specs.Walk.{pick}
use Rattle.rules.specs.Reading.{Value, whole, float}
use Rattle.recordings.specs.Answers.{Answer, value, refusal, ◌>>=◌, outside, meaning}
use Rattle.samples.specs.Frames.{format_of}
use Rattle.samples.specs.Placed.{place_of, values_of}
use Rattle.samples.specs.declared.Place.{Place}
use Rattle.runs.specs.declared.Sibling.{Sibling}

-- the formats of each call: 1 to 3, whole numbers, and 4, floats
abbrev pub serves : Sibling → ℕ → Bool
serves Sibling.Whole format = not (eqb format 4)
serves Sibling.Floats format = eqb format 4

-- what it writes of a sample: a signed number, or the 32 bits of a float
abbrev pub Element : Sibling → Type 0
Element Sibling.Whole = ℤ
Element Sibling.Floats = ℕ

abbrev pub element_of : (b : Sibling) → Value → Element b
element_of Sibling.Whole (whole z) = z
element_of Sibling.Whole (float n) = pos 0
element_of Sibling.Floats (whole z) = 0
element_of Sibling.Floats (float n) = n

-- n samples from the first on, of samples of this format: by the format's own call, and inside
abbrev pub run_within : Sibling → (first n format : ℕ) → List Value → Answer (List Value)
run_within b first n format vs = pick (serves b format && leb (first + n) (length vs)) (value (take n (drop first vs))) outside

-- and of the samples at a place of the file s: those in the bytes of the place that n of them take
abbrev pub place_from : (first n : ℕ) → Place → Place
place_from first n p = record { position = p.position + p.width * first; width = p.width; count = n }

abbrev pub run_at : Sibling → List ℕ → (first n format : ℕ) → Place → Answer (List Value)
run_at b s first n format p = pick (serves b format && leb (first + n) p.count) (value (values_of s format (place_from first n p))) outside

-- of recording i, frame j, channel k of the file s
abbrev pub run_of : Sibling → List ℕ → (i j k first n : ℕ) → Answer (List Value)
run_of b s i j k first n = do
  p ← place_of s i j k
  format ← format_of s i k
  run_at b s first n format p

-- the answer with room for so many numbers: 17 says how many were asked for
abbrev pub counted : ℕ → ℕ → Answer (List Value) → Answer ℕ
counted n room a = a >>= λ _. pick (leb n room) (value n) (refusal 17 n)

-- and the buffer: the samples from its start on where there is room for them, else as it was
abbrev pub holding : (b : Sibling) → ℕ → Answer (List Value) → List (Element b) → List (Element b)
holding b n (refusal m p) out = out
holding b n (value vs) out = pick (leb n (length out)) (map (element_of b) vs ++ drop n out) out

abbrev pub answer_of : Sibling → List ℕ → (i j k first n room : ℕ) → Answer ℕ
answer_of b s i j k first n room = counted n room (run_of b s i j k first n)

abbrev pub afterwards : (b : Sibling) → List ℕ → (i j k first n : ℕ) → List (Element b) → List (Element b)
afterwards b s i j k first n out = holding b n (run_of b s i j k first n) out

-- what each of the two does with the file s and a buffer
pub record RunAnswer (b : Sibling) (s : List ℕ) (i j k first n : ℕ) (out out' : List (Element b)) (a : Result ℕ Refusal) : Type 0 where
  -- the answer, and the buffer afterwards
  pub answer : meaning a ≡ answer_of b s i j k first n (length out)
  pub buffer : out' ≡ afterwards b s i j k first n out
