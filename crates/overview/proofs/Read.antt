-- The track of a channel in an accepted file, and what the file's reading has of the channel: its whole numbers in each frame, and so in each epoch, are those
-- that the bytes have where the track says. By the library's second demand alone.
-- Assumes nothing.
use Rattle.std.proofs.Common.{Ok}
use mathlib.Core.Path.{◌≡◌, refl, sym, ap, ◌∙◌}
use mathlib.Core.Bool.{Bool, true, false}
use mathlib.Core.List.{List, [], ◌∷◌, map}
use Prim.Native.Nat.{ℕ, zero, suc, ◌+◌, ◌-◌, ◌*◌, ◌≤◌, ◌<◌}
use native.Mathlib.Omega.{arith}
use borrow.Author.Tests.{le-leb, eqb-true}
use lib.Dec.{eqb}
use lib.IntN.{ℤ, nat_abs}
use lib.ListN.{length}
use Rattle.words.specs.Numbers.{bytes_at, number_at}
use Rattle.words.specs.Values.{signed}
use Rattle.words.specs.declared.Order.{Order}
use Rattle.walk.specs.Walk.{Event, Outcome, refused, passed, pick, run}
use Rattle.rules.specs.Reading.{Value, value_of, ChannelReading, FrameReading, RecordingReading, Reading}
use Rattle.rules.specs.Rules as R
use Rattle.recordings.specs.Answers.{Answer, value, refusal, outside, indexed, numbered}
use Rattle.samples.specs.Placed.{part_in, bytes_of, values_at, values_of, place_on}
use Rattle.samples.specs.declared.Cut.{Cut}
use Rattle.samples.specs.declared.Place.{Place}
use Rattle.samples.specs.declared.Track.{Track}
use Rattle.questions.specs.Tied.{channel_read, samples_read, Alike, values, refusals, format_in, PlaceIs, TrackIs}
use Rattle.decode.specs.Wide.{Wide}
use Rattle.runs.specs.Runs.{element_of}
use Rattle.runs.specs.declared.Sibling.TheVariants as Sibling
use Rattle.demands.specs.Demands.{Accepted, Tells}
use Rattle.overview.specs.Overview.{wholes, seconds_of, lasts, whole_read, epoch_in, envelope_of}
use Rattle.overview.specs.Steps.{wholes_at, frame_numbers, Tracked, epoch_numbers}
use Rattle.overview.proofs.Frames.{epoch-samples}

-- Answers

-- a value is no refusal
pub apart : {A B : Type 0} {a : A} {n p : ℕ} → value a ≡ refusal n p → B
apart e = let z : ◌≡◌ {A = ℕ} 0 1 = cc in absurd (omega arith)

module _ {A B : Type 0} {P : A → B → Type 0} where
  pub alike-value : {x : Answer A} {y : Answer B} → Alike P x y → {a : A} → x ≡ value a → (b : B) × (y ≡ value b) × P a b
  alike-value (values {a = c} {b} h) {a} e = let i : c ≡ a = cc in (b, refl, rw (← i) h)
  alike-value refusals e = apart (sym e)

  pub alike-refusal : {x : Answer A} {y : Answer B} → Alike P x y → {n p : ℕ} → x ≡ refusal n p → y ≡ refusal n p
  alike-refusal (values h) e = apart e
  alike-refusal (refusals {n = m} {p = q}) {n} {p} e = cc

indexed-less : {A : Type 0} (l : List A) (m : ℕ) {a : A} → indexed l m ≡ value a → m < length l
unfolding indexed
indexed-less [] m e = apart (sym e)
indexed-less (x ∷ l) zero e = omega arith
indexed-less (x ∷ l) (suc m) e = let h = indexed-less l m e in omega arith

numbered_next : {A : Type 0} (l : List A) (m : ℕ) → numbered l (suc m) ≡ indexed l m
unfolding numbered
numbered_next l m = refl

-- the rules leave nothing behind an accepted file
pub judged : (s : List ℕ) {v : R.File} {l : List ℕ} {u : List Event} → R.judge s ≡ passed v l u → Accepted s v u
unfolding R.judge R.whole
judged s {v} {l} {u} e = e ∙ ap (λ (r : List ℕ). passed v r u) (nothing (length s) (run (R.order_of s) 0 s (R.file (length s))) e)
  where
    nothing : (n : ℕ) (o : Outcome R.File) → R.whole n o ≡ passed v l u → l ≡ []
    nothing n (refused m p) e = cc
    nothing n (passed w [] t) e = cc
    nothing n (passed w (b ∷ r) t) e = cc

-- Formats

wide-for : (f : ℕ) → Wide (R.width f)
unfolding R.width
wide-for f = go (eqb f 1) (eqb f 2)
  where
    go : (a b : Bool) → Wide (pick a 2 (pick b 3 4))
    go true b = record { least = omega arith; most = omega arith }
    go false true = record { least = omega arith; most = omega arith }
    go false false = record { least = omega arith; most = omega arith }

no-float : (f : ℕ) → R.between 1 3 f ≡ true → eqb f 4 ≡ false
unfolding R.between
no-float f h = go (eqb f 4) refl
  where
    never : false ≡ true → true ≡ false
    never e = sym e

    go : (c : Bool) → eqb f 4 ≡ c → c ≡ false
    go true e = never (rw (eqb-true f 4 e) at h)
    go false e = refl

-- samples of a format of whole numbers, as numbers
values-wholes : (o : Order) (f : ℕ) → eqb f 4 ≡ false → (n : ℕ) (s : List ℕ) (p : ℕ) →
    map (element_of Sibling.Whole) (values_at o f n s p) ≡ wholes_at o (R.width f) n s p
unfolding values_at wholes_at value_of
values-wholes o f h zero s p = refl
values-wholes o f h (suc n) s p = rw h (ap (λ (zs : List ℤ). signed (R.width f) (number_at o (R.width f) s p) ∷ zs) (values-wholes o f h n s (p + R.width f)))

-- all bytes of a place inside the file
part-all : (n : ℕ) (p : Place) → p.position + p.width * p.count ≤ n → part_in n p ≡ record { start = p.position; length = p.width * p.count }
unfolding part_in
part-all n p l = rw (le-leb (p.position + p.width * p.count) n l)

-- the samples at the track's place in the frame behind m others
place-wholes : (s : List ℕ) (t : Track) (f : ℕ) → t.order ≡ R.order_of s → t.first.width ≡ R.width f → eqb f 4 ≡ false → (m : ℕ) →
    (place_on t (suc m)).position + t.first.width * t.first.count ≤ length s →
    map (element_of Sibling.Whole) (values_of s f (place_on t (suc m))) ≡ frame_numbers s t m
place-wholes s t f o w h m l =
    let p : Place = place_on t (suc m) in
    let z : suc m - 1 ≡ m = omega arith in
    let n : ℕ = t.first.width * t.first.count in
    let cut : bytes_of s p ≡ bytes_at n s (t.first.position + t.step * m) =
    ap (λ (q : Cut). bytes_at q.length s q.start) (part-all (length s) p l) ∙ ap (λ (j : ℕ). bytes_at n s (t.first.position + t.step * j)) z in
    values-wholes (R.order_of s) f h t.first.count (bytes_of s p) 0
    ∙ rw (← o, ← w) (ap (λ (bs : List ℕ). wholes_at t.order t.first.width t.first.count bs 0) cut)

-- The track of channel k of recording i of a file with this reading

-- the recording whose channel k has whole numbers: its seconds, and each epoch of the channel
pub record Served (s : List ℕ) (g : Reading) (i k : ℕ) (t : Track) : Type 0 where
  pub recording : RecordingReading
  pub read : whole_read g i k ≡ value recording
  pub lasting : lasts recording ≡ t.frames * t.seconds
  pub epoch : (e : ℕ) → epoch_in recording k e ≡ envelope_of (epoch_numbers s t e)

module _ (s : List ℕ) (g : Reading) (tells : Tells s g) (i k : ℕ) (t : Track) (c : ChannelReading)
    (read : channel_read g i k ≡ value c) (is : TrackIs s g i k t c) where
  -- in the frame behind m others
  placed : (m : ℕ) → m < t.frames → (vs : List Value) × (samples_read g i (suc m) k ≡ value vs) × PlaceIs s g i k (place_on t (suc m)) vs
  placed m l = alike-value (tells.place i (suc m) k (Ok (place_on t (suc m))) (sym (is.places (suc m) (omega arith) l))) refl

  pub tracked-in : Tracked (length s) t
  tracked-in = record {
    wide = rw is.wide (wide-for t.format);
    some = is.some;
    few = is.few;
    inside = λ j l.
        let z : suc j - 1 ≡ j = omega arith in
        rw z at (placed j l).2.inside;
  }

  whole-read : whole_read g i k ≡ pick (R.between 1 3 t.format) (value is.recording) outside
  whole-read =
      let d : numbered is.recording.channels k ≡ value c = rw is.held at read in
      rw (is.held, d) (ap (λ (f : ℕ). pick (R.between 1 3 f) (value is.recording) outside) (sym is.format))

  pub not-served : R.between 1 3 t.format ≡ false → whole_read g i k ≡ refusal 19 0
  not-served e = whole-read ∙ (rw e)

  module _ (whole : R.between 1 3 t.format ≡ true) where
    -- the reading's samples are the bytes' numbers
    in_frame : (m : ℕ) (f : FrameReading) → indexed is.recording.frames m ≡ value f → wholes (numbered f.channels k) ≡ frame_numbers s t m
    in_frame m f e =
        let l : m < t.frames = rw is.frames (indexed-less is.recording.frames m e) in
        let p = placed m l in
        let same : samples_read g i (suc m) k ≡ numbered f.channels k = rw (is.held, numbered_next is.recording.frames m, e) in
        let d : p.2.channel ≡ c = cc (p.2.described, read) in
        let format : format_in p.2.channel ≡ t.format = ap format_in d ∙ sym is.format in
        ap wholes (sym same ∙ p.1)
        ∙ (ap (map (element_of Sibling.Whole)) (sym p.2.shows)
        ∙ place-wholes s t (format_in p.2.channel) is.order p.2.wide (rw format (no-float t.format whole)) m p.2.inside)

    seconds-are : seconds_of is.recording ≡ t.seconds
    seconds-are = ap nat_abs (sym is.seconds)

    pub served : Served s g i k t
    served = record {
      recording = is.recording;
      read = whole-read ∙ (rw whole);
      lasting = λ n. sym is.frames n * seconds-are n;
      epoch = λ e. rw seconds-are (ap envelope_of (epoch-samples s t is.some e k is.recording.frames (sym is.frames) in_frame));
    }
