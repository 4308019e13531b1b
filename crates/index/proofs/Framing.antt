-- The entries of a channel in a frame, by what the code found; and the loop over the channels of a frame.
-- Assumes nothing.
use mathlib.Core.Path.{◌≡◌, refl, sym, ap, ◌∙◌, subst}
use mathlib.Core.Bool.{Bool, true, false}
use mathlib.Core.List.{List, [], ◌∷◌}
use Prim.Native.Nat.{ℕ, zero, suc, ◌+◌, ◌-◌, ◌*◌, ◌≤◌, ◌<◌}
use native.Mathlib.Nat.{zero-add, mul-one, mul_comm, mul-le-mul_left, mul-le-mul_right}
use native.Mathlib.Omega.{arith}
use lib.IntN.{ℤ}
use lib.ListN.{length, take}
use lib.Seq.{take_all, length-take-le}
use Rattle.words.specs.Lent.{Wrote}
use Rattle.words.specs.Numbers.{numbers_at}
use Rattle.words.specs.declared.Order.{Order}
use Rattle.words.proofs.Lent.{wrote_nothing, wrote-join}
use Rattle.walk.specs.Walk.{pick}
use Rattle.rules.specs.Rules as R
use Rattle.rules.specs.Rules.{sample_bytes, samples_in, width}
use Rattle.records.specs.Says.{KeptOne}
use Rattle.descriptions.specs.declared.Places.{Places}
use Rattle.recordings.specs.Answers.{value, indexed}
use Rattle.recordings.specs.Recordings.{Chosen, recording_of}
use Rattle.samples.specs.Placed.{bytes_of}
use Rattle.samples.proofs.Framing.{frame-of}
use Rattle.samples.proofs.Stretch.{width-least, kept-take, kept-indexed, bytes-before}
use Rattle.index.specs.Events.{of_events, last_of, codes_of, sample_entries, each_of, channel_entries}
use Rattle.index.specs.Index.{numbers}
use Rattle.index.specs.Listing.{words_at, Quiet, of_frame, frame_from, ChannelAhead, ChannelListed, FrameAhead}
use Rattle.index.specs.declared.Passed.{Passed}
use Rattle.index.specs.declared.Spot.{Spot}
use Rattle.index.specs.declared.Stretch.{Stretch}
use Rattle.index.proofs.Channels.{some_one, each_more, each-quiet, channel-none, bytes-more, bytes-some}
use Rattle.index.proofs.Few.{frame-few}
use Rattle.index.proofs.Standing.{events-kept, events-width, seconds-same, codes-many, codes-made}

-- One channel

module _ {o : Order} {s : List ℕ} {q : Places} {x : Spot} {c at k : ℕ} (a : ChannelAhead o s q x c at k) where
  abbrev pub theirs : List R.Channel
  theirs = a.frame.of.this.recording.channels

  pub the_one : (y : R.Channel) × (indexed theirs c ≡ value y)
  the_one = some_one theirs c (omega (arith, a.inside, a.stands.found.owned.stand.count))

  -- what the code reads of it
  pub its-sub : KeptOne o s (q.channels + 32 + 256 * c) the_one.0
  its-sub = kept-indexed o s (q.channels + 32) c theirs a.stands.found.owned.stand.kept the_one.1

  -- its samples are in the file
  pub its-end : at + samples_in q.seconds the_one.0 * width the_one.0.format ≤ length s
  its-end = omega (
    arith,
    a.place,
    a.stands.inside,
    bytes-before q.seconds c theirs the_one.1,
    mul_comm (width the_one.0.format) (samples_in q.seconds the_one.0),
  )

  -- frames are counted from 1; before any but the first stands another
  pub its-frame : 1 ≤ x.frame
  its-frame = (frame-of s a.stands.found.bytes x.recording x.frame a.stands.is).first

  pub far-enough : (x.frame ≡ 1 → ⊥) → q.frame ≤ at
  far-enough h =
      let l : 1 ≤ x.frame - 1 = later x.frame its-frame h in
      omega (arith, a.place, mul-le-mul_left q.frame l, mul-one q.frame)
    where
      later : (n : ℕ) → 1 ≤ n → (n ≡ 1 → ⊥) → 1 ≤ n - 1
      later zero l h = absurd (omega arith)
      later (suc zero) l h = absurd (h refl)
      later (suc (suc n)) l h = omega arith

  -- where it is of events: two bytes a sample
  pub its-bytes : of_events the_one.0 ≡ true → at + 2 * samples_in q.seconds the_one.0 ≤ length s
  its-bytes e = omega (
    arith,
    its-end,
    mul_comm 2 (samples_in q.seconds the_one.0),
    ap (λ (w : ℕ). samples_in q.seconds the_one.0 * w) (events-width the_one.0 e),
  )

  -- it is the one that its number names
  same-one : (r : Chosen) (y : R.Channel) → recording_of s x.recording ≡ value r → indexed r.this.recording.channels c ≡ value y →
      (a.frame.of ≡ r) × (the_one.0 ≡ y)
  same-one r y is one =
      let d : a.frame.of ≡ r = cc (a.stands.found.is, is) in
      (d, cc (the_one.1, one))

  -- behind it
  behind : (e : ℕ) → e ≡ at + samples_in q.seconds the_one.0 * width the_one.0.format → (r : Chosen) (y : R.Channel) → recording_of s x.recording ≡ value r →
      indexed r.this.recording.channels c ≡ value y →
      e ≡ at + samples_in r.this.recording.seconds y * width y.format
  behind e h r y is one =
      let m = same-one r y is one in
      h ∙ ap (λ (t : ℕ). at + samples_in t the_one.0 * width the_one.0.format) (seconds-same a.stands) ∙
      ap (λ (g : Chosen). at + samples_in g.this.recording.seconds the_one.0 * width the_one.0.format) m.0 ∙
      ap (λ (x : R.Channel). at + samples_in r.this.recording.seconds x * width x.format) m.1

  module _ {w : Bool} {out : List ℤ} (e : ℕ) (ends : e ≡ at + samples_in q.seconds the_one.0 * width the_one.0.format) where
    -- by its entries
    listed : {out' : List ℤ} (k' : ℕ) → Wrote numbers 5 w out out' k k' (channel_entries s x.recording x.frame (suc c) the_one.0) →
        ChannelListed s x c at w out out' k (record { at = e; k = k' })
    listed {out'} k' wrote = record {
      behind = behind e ends;
      wrote = λ r y is one. subst (λ (z : R.Channel). Wrote numbers 5 w out out' k k' (channel_entries s x.recording x.frame (suc c) z))
          (same-one r y is one).1 wrote;
    }

    pub channel-quiet : of_events the_one.0 ≡ false → ChannelListed s x c at w out out k (record { at = e; k = k })
    channel-quiet n = listed k (rw (channel-none s x.recording x.frame (suc c) the_one.0 n) (wrote_nothing numbers 5 (λ _. refl) w out k))

    -- no sample
    pub channel-empty : samples_in q.seconds the_one.0 ≡ 0 → ChannelListed s x c at w out out k (record { at = e; k = k })
    unfolding channel_entries sample_entries
    channel-empty n = listed k (rw none (go (of_events the_one.0)))
      where
        nil : (l : List ℕ) → length l ≡ 0 → l ≡ []
        nil [] h = refl
        nil (y ∷ l) h = absurd (omega arith)

        none : codes_of s x.recording x.frame (suc c) ≡ []
        none = nil _ (codes-many s a.stands.found.bytes x.recording x.frame a.stands.is c the_one.0 the_one.1 ∙
            ap (λ (t : ℕ). samples_in t the_one.0) (sym (seconds-same a.stands)) ∙ n)

        go : (b : Bool) → Wrote numbers 5 w out out k k (pick b [] [])
        go true = wrote_nothing numbers 5 (λ _. refl) w out k
        go false = wrote_nothing numbers 5 (λ _. refl) w out k

    -- its samples, of two bytes each, in the part of the file that their place names, behind the code that stands before
    pub channel-listed : {out' : List ℤ} (n wide before k' : ℕ) (part : List ℕ) → of_events the_one.0 ≡ true → n ≡ samples_in q.seconds the_one.0 →
        wide ≡ width the_one.0.format →
        before ≡ last_of 0 (codes_of s x.recording (x.frame - 1) (suc c)) → part ≡ bytes_of s (record { position = at; width = wide; count = n }) →
        Wrote numbers 5 w out out' k k' (sample_entries x.recording x.frame x.channel 0 before (words_at o part 0 n)) →
        ChannelListed s x c at w out out' k (record { at = e; k = k' })
    unfolding channel_entries
    channel-listed n wide before k' part is many width_is last cut wrote =
        let two : wide ≡ 2 = width_is ∙ events-width the_one.0 is in
        let made = codes-made a.stands c the_one.0 the_one.1 at wide n a.place width_is many in
        let codes : codes_of s x.recording x.frame (suc c) ≡ words_at o part 0 n =
        made ∙ (ap (λ (m : ℕ). numbers_at o m n (bytes_of s (record { position = at; width = wide; count = n })) 0) two ∙
        ap (λ (l : List ℕ). words_at o l 0 n) (sym cut)) in
        listed k' (rw (is, codes, ← last, ← a.channel) wrote)

-- The channels of a frame

-- those before channel c are listed, and its samples stand at byte `at`; the stretch ends before channel `end`
pub record Channeled (o : Order) (s : List ℕ) (q : Places) (end i j : ℕ) (w : Bool) (out out₁ : List ℤ) (k k₁ c at : ℕ) : Type 0 where
  pub stretch : Stretch
  pub ends : stretch.end ≡ end
  pub ahead : FrameAhead o s q stretch i j k
  pub few : c ≤ q.count
  pub place : at ≡ frame_from q j + (24 + sample_bytes q.seconds (take c ahead.frame.of.this.recording.channels))
  pub wrote : Wrote numbers 5 w out out₁ k k₁ (each_of (channel_entries s i j) 0 (take c ahead.frame.of.this.recording.channels))

module _ {o : Order} {s : List ℕ} {q : Places} {i j k : ℕ} where
  module _ {e : Stretch} (a : FrameAhead o s q e i j k) where
    abbrev cs : List R.Channel
    cs = a.frame.of.this.recording.channels

    count : length cs ≡ q.count
    count = a.stands.found.owned.stand.count

    -- channels that the code found to be of no events
    silent : (lo n : ℕ) → lo + n ≤ q.count → Quiet o s (q.channels + 32) lo (lo + n) →
        each_of (channel_entries s i j) 0 (take (lo + n) cs) ≡ each_of (channel_entries s i j) 0 (take lo cs)
    silent lo n l h =
        each-quiet (channel_entries s i j) lo n cs (omega (arith, count))
        (λ c y u v g. channel-none s i j (suc c) y
        (sym (events-kept o s (q.channels + 32 + 256 * c) y (kept-indexed o s (q.channels + 32) c cs a.stands.found.owned.stand.kept g)) ∙ h c u v))

    -- the bytes of the samples before the stretch
    before-is : e.before ≡ sample_bytes q.seconds (take e.first cs)
    before-is =
        let l : length (take e.first cs) ≡ e.first = length-take-le e.first cs (omega (arith, a.stretch.first.inside, count)) in
        a.stretch.before (take e.first cs) l (kept-take o s (q.channels + 32) e.first cs a.stands.found.owned.stand.kept)

    pub stretch-inside : frame_from q j + 24 + e.before ≤ length s
    stretch-inside = omega (arith, a.stands.inside, before-is, bytes-some q.seconds e.first cs)

    pub frame-first : 1 ≤ j
    frame-first = (frame-of s a.stands.found.bytes i j a.stands.is).first

    pub channeled-start : (w : Bool) (out : List ℤ) (at : ℕ) → at ≡ frame_from q j + 24 + e.before → Channeled o s q e.end i j w out out k k e.first at
    unfolding each_of
    channeled-start w out at h =
        let z : 0 + e.first ≡ e.first = omega arith in
        record {
          stretch = e;
          ends = refl;
          ahead = a;
          few = a.stretch.first.inside;
          place = omega (arith, h, before-is);
          wrote = rw (ap (λ (n : ℕ). each_of (channel_entries s i j) 0 (take n cs)) (sym z) ∙
              silent 0 e.first (omega (arith, a.stretch.first.inside)) (λ c u v. a.stretch.first.quiet c u (omega arith)))
              (wrote_nothing numbers 5 (λ _. refl) w out k);
        }

  module _ {end : ℕ} {w : Bool} {out out₁ : List ℤ} {k₁ c at : ℕ} (t : Channeled o s q end i j w out out₁ k k₁ c at) where
    abbrev all : List R.Channel
    all = t.ahead.frame.of.this.recording.channels

    -- the next channel
    pub channeled-ahead : c < end → (x : Spot) → x.recording ≡ i → x.frame ≡ j → x.channel ≡ c + 1 → ChannelAhead o s q x c at k₁
    channeled-ahead l x e₁ e₂ e₃ = record {
      frame = t.ahead.frame;
      stands = rw (e₁, e₂) t.ahead.stands;
      inside = omega (arith, l, t.ends, t.ahead.stretch.end.inside);
      channel = e₃ ∙ omega arith;
      place = rw e₂ t.place;
      room = λ y g.
          let few = frame-few s t.ahead.stands.found.bytes i j t.ahead.stands.is c in
          let same : sample_bytes q.seconds (take c all) ≡ sample_bytes t.ahead.frame.of.this.recording.seconds (take c all) =
          ap (λ (n : ℕ). sample_bytes n (take c all)) (seconds-same t.ahead.stands) in
          let most : samples_in q.seconds y ≤ width y.format * samples_in q.seconds y =
          omega (arith, mul-le-mul_right (samples_in q.seconds y) (width-least y.format)) in
          omega (arith, t.ahead.room, few, same, most, t.wrote.next, bytes-before q.seconds c all g);
    }

    pub channeled-more : {out₂ : List ℤ} (x : Spot) → x.recording ≡ i → x.frame ≡ j → c < end → (p : Passed) → ChannelListed s x c at w out₁ out₂ k₁ p →
        Channeled o s q end i j w out out₂ k p.k (c + 1) p.at
    channeled-more {out₂} x e₁ e₂ l p h =
        let y = some_one all c (omega (arith, l, t.ends, t.ahead.stretch.end.inside, count t.ahead)) in
        let d : c + 1 ≡ suc c = omega arith in
        let is : recording_of s x.recording ≡ value t.ahead.frame.of = rw e₁ t.ahead.stands.found.is in
        let b = h.behind t.ahead.frame.of y.0 is y.1 in
        let wrote : Wrote numbers 5 w out₁ out₂ k₁ p.k (channel_entries s i j (suc c) y.0) = rw (e₁, e₂) at (h.wrote t.ahead.frame.of y.0 is y.1) in
        let more = each_more (channel_entries s i j) 0 c all y.1 in
        record {
          stretch = t.stretch;
          ends = t.ends;
          ahead = t.ahead;
          few = omega (arith, l, t.ends, t.ahead.stretch.end.inside);
          place = rw d (omega (
            arith,
            b,
            t.place,
            bytes-more q.seconds c all y.1,
            ap (λ (n : ℕ). samples_in n y.0 * width y.0.format) (seconds-same t.ahead.stands),
          ));
          wrote = rw (d, more, zero-add c) (wrote-join numbers 5 (λ _. refl) w out out₁ out₂ k k₁ p.k _ _ t.wrote wrote);
        }

    pub channeled-all : end ≤ c → Wrote numbers 5 w out out₁ k k₁ (of_frame s i j (recording_of s i))
    channeled-all l =
        let whole : take (c + (q.count - c)) all ≡ all = take_all (c + (q.count - c)) all (omega (arith, t.few, count t.ahead)) in
        let h = silent t.ahead c (q.count - c) (omega (arith, t.few)) (λ y u v. t.ahead.stretch.end.quiet y (omega (arith, t.ends)) (omega (arith, t.few))) in
        rw (t.ahead.stands.found.is, ap (λ (l : List R.Channel). each_of (channel_entries s i j) 0 l) (sym whole) ∙ h) t.wrote
