-- The run asked for, from the place of the channel's samples, by the tests of its range and of the room; and that it is the same run of the reading's
-- samples.
-- Assumes nothing.
use mathlib.Core.Path.{◌≡◌, refl, sym, ap}
use mathlib.Core.Bool.{Bool, true, false, ◌&&◌}
use mathlib.Core.List.{List}
use Prim.Native.Nat.{ℕ, ◌+◌, ◌<◌}
use borrow.Author.Tests.{lt-leb, leb-true}
use lib.Dec.{leb}
use lib.ListN.{length}
use Rattle.words.specs.Numbers.{Bytes}
use Rattle.words.specs.declared.Order.{Order}
use Rattle.walk.specs.Walk.{pick}
use Rattle.walk.proofs.Seen.{and_right}
use Rattle.recordings.specs.Answers.{Answer, value, refusal, ◌>>=◌, outside}
use Rattle.descriptions.specs.declared.Places.{Places}
use Rattle.samples.specs.Asked.{RunIn}
use Rattle.samples.specs.Frames.{format_of, Samples, samples_of}
use Rattle.samples.specs.Placed.{place_in}
use Rattle.samples.specs.declared.Run.{Run}
use Rattle.samples.proofs.Framing.{frame-of}
use Rattle.samples.proofs.Placing.{placed, some-shown}
use Rattle.samples.proofs.Sampling.{SamplesIn, samples-from}
use Rattle.runs.specs.Runs.{serves, run_within, run_at, run_of, answer_of}
use Rattle.runs.specs.declared.Sibling.{Sibling}

module _ {s : List ℕ} {i j k : ℕ} {o : Order} {q : Places} {run : Run} {x : Samples} (h : RunIn s i j k o q run x) where
  module _ (b : Sibling) (first n : ℕ) where
    -- by the tests of the code
    run_by : run_of b s i j k first n ≡ run_at b s first n run.format run.place
    run_by = rw (placed h, h.described)

    -- where the file's samples are enough and the buffer isn't
    pub run_short : (space : ℕ) → serves b run.format ≡ true → leb (first + n) run.place.count ≡ true → space < n →
        answer_of b s i j k first n space ≡ refusal 17 n
    run_short space served l r = rw (run_by, served, l, lt-leb n space r)

-- The definition before places: some of the values of the reading

same_if : {A : Type 0} (c : Bool) (x y z : A) → (c ≡ true → x ≡ y) → pick c x z ≡ pick c y z
same_if true x y z h = h refl
same_if false x y z h = refl

pub as_before : (s : List ℕ) → Bytes s → (b : Sibling) (i j k first n : ℕ) →
    run_of b s i j k first n ≡ (samples_of s i j k >>= λ x. run_within b first n x.format x.values)
as_before s y b i j k first n = go (samples_of s i j k) refl
  where
    shown : (x : Samples) → SamplesIn s x → run_at b s first n x.format (place_in x) ≡ run_within b first n x.format x.values
    shown x z =
        same_if (serves b x.format && leb (first + n) (length x.values)) _ _ outside
        (λ e. ap value (some-shown s x z first n (leb-true (first + n) (length x.values) (and_right (serves b x.format) _ e))))

    go : (a : Answer Samples) → samples_of s i j k ≡ a → run_of b s i j k first n ≡ (a >>= λ x. run_within b first n x.format x.values)
    go (refusal m q) e = rw e
    go (value x) e =
        let a = samples-from s y i j k e in
        let f : format_of s i k ≡ value x.format = rw ((frame-of s y i j a.framed).asked, a.described) (ap value (sym a.format)) in
        rw (e, f) (shown x a.located)
