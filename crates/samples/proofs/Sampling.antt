-- The samples asked for: in an accepted file they stand where the code looks for them, and each is what the bytes at its place mean.
-- Assumes nothing.
use Rattle.std.proofs.Common.{Ok}
use mathlib.Core.Path.{◌≡◌, refl, sym, ap, ◌∙◌}
use mathlib.Core.Bool.{true, false}
use mathlib.Core.List.{List, [], map}
use Prim.Native.Nat.{ℕ, ◌+◌, ◌-◌, ◌*◌, ◌≤◌, ◌<◌}
use native.Mathlib.Omega.{arith}
use lib.ListN.{length, take, get_or, length-map, get_or-map}
use Rattle.words.specs.Numbers.{Bytes, number_at}
use Rattle.words.specs.declared.Order.{Order}
use Rattle.walk.specs.Walk.{give, number}
use Rattle.walk.specs.See.{goes, see}
use Rattle.walk.proofs.Seen.{yields, places}
use Rattle.rules.specs.Rules as R
use Rattle.rules.specs.Rules.{sample_bytes, samples_in, width}
use Rattle.rules.specs.Reading.{Value, value_of}
use Rattle.rules.proofs.Asked.{recording-at, sample-at}
use Rattle.rules.proofs.Renew.{FrameOk, SamplesOk}
use Rattle.rules.proofs.Renewed.{recording-ok}
use Rattle.descriptions.specs.declared.Places.{Places}
use Rattle.recordings.specs.Answers.{value, refusal, indexed, numbered}
use Rattle.recordings.specs.Recordings.{Chosen}
use Rattle.recordings.proofs.Chosen.{indexed-in, numbered-out, numbered-one, One, answered, ChosenIn}
use Rattle.recordings.proofs.Standing.{found-seen}
use Rattle.samples.specs.Asked.{FrameStands, RunInside, RunAt, RunIn, SamplesFoundAs, run_of}
use Rattle.samples.specs.Frames.{ChosenFrame, frame_of, Samples, samples_of}
use Rattle.samples.specs.Placed.{place_in}
use Rattle.samples.specs.declared.Run.{Run}
use Rattle.samples.proofs.Stretch.{run_inside}
use Rattle.samples.proofs.Readings.{all_one, Reads, reads-numbered}
use Rattle.samples.proofs.Framing.{numbered-some, frame_at, this-one, frame-place, frame-seen, FrameOf, frame-of}

-- a number that a walk reads is the one that stands there
number-seen : (o : Order) (s : List ℕ) (p w : ℕ) {n e : ℕ} → see o 0 s p (number w give) ≡ goes n e → n ≡ number_at o w s p
number-seen o s p w h = yields o 0 s (number w give) p (λ n e. n ≡ number_at o w s p) (simp places) h

module _ (s : List ℕ) (b : Bytes s) (i : ℕ) (r : Chosen) (x : ChosenIn s i r) (n : ℕ) (f : R.Frame) (o : One r.this.recording.frames (n - 1) f) where
  -- a frame has samples for each channel
  pub frame-samples : SamplesOk r.this.recording.seconds r.this.recording.channels f.channels
  frame-samples =
      let a = recording-at s b x.judged r.this r.index x.one.inside in
      let k = recording-ok x.file.heading.label a.held a.room (1 + r.index) a.found.plays in
      rw (o.is f) at (all_one (FrameOk r.this.recording.seconds r.this.recording.channels) f r.this.recording.frames (n - 1) o.inside (rw (this-one s b i r x) at k.frames.each)).samples

  -- sample m of channel c, both from 0
  pub sample-there : (c : ℕ) (y : R.Channel) → One r.this.recording.channels c y → (m : ℕ) → m < samples_in r.this.recording.seconds y →
      get_or (get_or f.channels c []) m 0 ≡ number_at (R.order_of s) (width y.format) s (frame_at r n + (24 + sample_bytes r.this.recording.seconds (take c r.this.recording.channels)) + width y.format * m)
  sample-there c y p m l =
      let e = this-one s b i r x in
      let g = sample-at s b x.judged r.this r.index x.one.inside f y (n - 1) c m (rw e o.inside) (rw e p.inside) (rw (e, p.is y) l) in
      number-seen (R.order_of s) s _ (width y.format) (found-seen s b x.judged (rw (e, o.is f, p.is y, frame-place s b i r x n) at g))

-- the samples of channel k of a frame, from 1
abbrev pub samples_are : ChosenFrame → ℕ → R.Channel → Samples
samples_are f k y = record {
  at = f.at + (24 + sample_bytes f.of.this.recording.seconds (take (k - 1) f.of.this.recording.channels));
  format = y.format;
  values = map (value_of y.format (width y.format)) (get_or f.frame.channels (k - 1) []);
}

-- one of the values of numbers
value-one : (v : ℕ → Value) (l : List ℕ) (m : ℕ) → m < length l → indexed (map v l) m ≡ value (v (get_or l m 0))
value-one v l m h = indexed-in (v 0) (map v l) m (rw length-map h) ∙ ap value (get_or-map v l m 0)

-- they lie in the file, and each is what the bytes at its place mean
pub record SamplesIn (s : List ℕ) (x : Samples) : Type 0 where
  pub inside : x.at + width x.format * length x.values ≤ length s
  pub each : (m : ℕ) → m < length x.values →
      indexed x.values m ≡ value (value_of x.format (width x.format) (number_at (R.order_of s) (width x.format) s (x.at + width x.format * m)))

-- those of the channel y, which has this number
module _ (s : List ℕ) (b : Bytes s) (i j : ℕ) (f : ChosenFrame) (is : frame_of s i j ≡ value f) (k : ℕ) (y : R.Channel) (nth : numbered f.of.this.recording.channels k ≡ value y) where
  abbrev cs : List R.Channel
  cs = f.of.this.recording.channels

  abbrev t : ℕ
  t = f.of.this.recording.seconds

  abbrev found : FrameOf s i j f
  found = frame-of s b i j is

  one : One cs (k - 1) y
  one = (numbered-one cs k nth).1

  reads : Reads t cs f.frame.channels (k - 1) k y
  reads = reads-numbered t cs f.frame.channels (frame-samples s b i f.of found.chosen j f.frame found.one) k nth

  pub samples-are : samples_of s i j k ≡ value (samples_are f k y)
  samples-are = rw (is, nth, reads.values)

  pub many : length (samples_are f k y).values ≡ samples_in t y
  many = rw length-map reads.count

  samples-in : SamplesIn s (samples_are f k y)
  samples-in =
      let z = frame-seen s b i f.of found.chosen j f.frame found.first found.one in
      let e : indexed cs (k - 1) ≡ value y = indexed-in y cs (k - 1) one.inside ∙ ap value (one.is y) in
      record {
        inside = rw (many, found.place) (run_inside t (k - 1) (frame_at f.of j) (length s) cs e z.inside);
        each = λ m l.
            rw found.place
            (value-one (value_of y.format (width y.format)) (get_or f.frame.channels (k - 1) []) m (omega (arith, l, many, reads.count)) ∙
            ap (λ (n : ℕ). value (value_of y.format (width y.format) n)) (sample-there s b i f.of found.chosen j f.frame found.one (k - 1) y one m (omega (arith, l, many))));
      }

-- samples that were asked for and found, by the rules' value alone: of which frame and which channel
pub record SamplesFrom (s : List ℕ) (i j k : ℕ) (x : Samples) : Type 0 where
  pub frame : ChosenFrame
  pub framed : frame_of s i j ≡ value frame
  pub channel : R.Channel
  pub described : numbered frame.of.this.recording.channels k ≡ value channel
  pub format : x.format ≡ channel.format
  pub located : SamplesIn s x

pub samples-from : (s : List ℕ) → Bytes s → (i j k : ℕ) {x : Samples} → samples_of s i j k ≡ value x → SamplesFrom s i j k x
samples-from s b i j k {x} h =
    let a = answered (frame_of s i j) _ h in
    let c = answered (numbered a.0.of.this.recording.channels k) _ a.2 in
    let e : samples_are a.0 k c.0 ≡ x = cc (samples-are s b i j a.0 a.1 k c.0 c.1, h) in
    rw (← e)
    (record {
      frame = a.0;
      framed = a.1;
      channel = c.0;
      described = c.1;
      format = refl;
      located = samples-in s b i j a.0 a.1 k c.0 c.1;
    })

-- what the code answers: the frame's refusal, 19, or the samples
pub samples-refused : (s : List ℕ) (i j k : ℕ) {n p : ℕ} → frame_of s i j ≡ refusal n p → samples_of s i j k ≡ refusal n p
samples-refused s i j k h = rw h

module _ {s : List ℕ} {i j : ℕ} {o : Order} {q : Places} {at : ℕ} {f : ChosenFrame} (h : FrameStands s i j o q at f) (k : ℕ) where
  pub samples-outside : R.between 1 q.count k ≡ false → samples_of s i j k ≡ refusal 19 0
  samples-outside t = rw (h.is, numbered-out f.of.this.recording.channels k (rw h.found.owned.stand.count t))

  -- its channel y has this number
  module _ (y : R.Channel) (is : numbered f.of.this.recording.channels k ≡ value y) where
    run_is : (run : Run) → RunInside (length s) run → run ≡ run_of q.seconds (take (k - 1) f.of.this.recording.channels) y at → RunIn s i j k o q run (samples_are f k y)
    run_is run l g =
        let e₁ : q.seconds ≡ f.of.this.recording.seconds = ap (λ (p : Places). p.seconds) h.found.same in
        let e₂ : at + (24 + sample_bytes q.seconds (take (k - 1) f.of.this.recording.channels)) ≡ f.at + (24 + sample_bytes f.of.this.recording.seconds (take (k - 1) f.of.this.recording.channels)) = rw (h.place, e₁) in
        let e₃ : samples_in q.seconds y ≡ length (samples_are f k y).values = rw e₁ (sym (many s h.found.bytes i j f h.is k y is)) in
        let e : run ≡ record { format = y.format; place = place_in (samples_are f k y) } = g ∙ (λ n. record { format = y.format; place = record { position = e₂ n; width = width y.format; count = e₃ n } }) in
        record {
          is = samples-are s h.found.bytes i j f h.is k y is;
          frame = f;
          at = at;
          stands = h;
          order = h.found.order;
          same = e;
          described = rw (h.found.is, is) (ap (λ (x : Run). value x.format) (sym e));
          inside = l;
          each = λ m v.
              rw (ap (λ (x : Run). x.format) e, ap (λ (x : Run). x.place.position) e, h.found.order)
              ((samples-in s h.found.bytes i j f h.is k y is).each m (omega (arith, v, ap (λ (x : Run). x.place.count) e)));
        }

  pub samples-found-at : R.between 1 q.count k ≡ true → (run : Run) → RunAt o s (q.channels + 32) (k - 1) q.seconds at run → SamplesFoundAs s i j k (Ok (o, q, run))
  samples-found-at t run g =
      let cs : List R.Channel = f.of.this.recording.channels in
      let y = numbered-some cs k (rw h.found.owned.stand.count t) in
      let n = (numbered-one cs k y.1).1 in
      let e : indexed cs (k - 1) ≡ value y.0 = indexed-in y.0 cs (k - 1) n.inside ∙ ap value (n.is y.0) in
      (samples_are f k y.0, run_is y.0 y.1 run g.inside (g.same cs y.0 h.found.owned.stand.kept e (run_inside q.seconds (k - 1) at (length s) cs e h.inside)))
