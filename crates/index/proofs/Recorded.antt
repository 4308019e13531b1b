-- The loops over the frames of a recording, and over the recordings of a file.
-- Assumes nothing.
use Rattle.std.proofs.Common.{Result, Ok, Err, Option, Some, None}
use Rattle.rules.specs.declared.Refusal.{Refusal}
use mathlib.Core.Path.{◌≡◌, refl, sym, ap, ◌∙◌}
use mathlib.Core.Bool.{Bool, true, false}
use mathlib.Core.List.{List, [], ◌∷◌}
use Prim.Native.Nat.{ℕ, zero, suc, ◌+◌, ◌*◌, ◌≤◌, ◌<◌}
use native.Mathlib.Nat.{zero-add, add-mul, mul-le-mul_right}
use native.Mathlib.Omega.{arith}
use borrow.Author.Tests.{ltb-true, ltb-false}
use lib.Dec.{ltb}
use lib.IntN.{ℤ}
use lib.ListN.{length, take, get_or, length-map, get_or-map}
use lib.Seq.{take_all}
use Rattle.words.specs.Lent.{Wrote}
use Rattle.words.specs.Numbers.{Bytes}
use Rattle.words.specs.declared.Order.{Order}
use Rattle.words.proofs.Lent.{wrote_nothing, wrote-join}
use Rattle.rules.specs.Rules as R
use Rattle.rules.specs.Rules.{sample_bytes}
use Rattle.rules.specs.declared.Label.{Label}
use Rattle.rules.proofs.Canon.{readings, file-ok}
use Rattle.rules.proofs.Turn.{accepted}
use Rattle.records.proofs.Facts.{between_in}
use Rattle.descriptions.specs.DescriptionsJudged.{HeldWithin}
use Rattle.descriptions.specs.declared.Places.{Places}
use Rattle.judge.specs.Recorded.{RecordingAgain}
use Rattle.recordings.specs.Answers.{value, indexed}
use Rattle.recordings.specs.Found.{FoundIn}
use Rattle.recordings.specs.Recordings.{Chosen, recording_of}
use Rattle.recordings.proofs.Chosen.{One, in_between, indexed-in, chosen-in}
use Rattle.recordings.proofs.Reach.{Going, Met, ok_of, going_start, met, asked-found}
use Rattle.samples.proofs.Framing.{frame-of, frame-found-at}
use Rattle.samples.proofs.Stretch.{kept-indexed, indexed-within}
use Rattle.index.specs.Events.{of_events, each_of, channel_entries, frame_entries, recording_entries}
use Rattle.index.specs.Index.{numbers}
use Rattle.index.specs.Listing.{events_at, FirstEvents, BehindEvents, of_frame, of_recording, StretchOf, FrameAhead, RecordingAhead, FileAhead}
use Rattle.index.specs.declared.Stretch.{Stretch}
use Rattle.index.proofs.Channels.{some_one, each_more, frame_is, recording-none}
use Rattle.index.proofs.Standing.{events-kept}
use Rattle.index.proofs.Few.{frames-few, recording-small, recordings-few}

-- The frames of a recording

-- j of them are listed
pub record Framed (o : Order) (s : List ℕ) (q : Places) (i : ℕ) (w : Bool) (out out₁ : List ℤ) (k k₁ j : ℕ) : Type 0 where
  pub ahead : RecordingAhead o s q i k
  pub few : j ≤ q.total
  pub wrote : Wrote numbers 5 w out out₁ k k₁
      (each_of (frame_entries s i ahead.recording.this.recording.channels) 0 (take j ahead.recording.this.recording.frames))

module _ {o : Order} {s : List ℕ} {q : Places} {i : ℕ} {w : Bool} {out : List ℤ} {k : ℕ} where
  -- no channel is of events: those before the first are not, nor those behind the last
  pub framed-none : RecordingAhead o s q i k → (first end : ℕ) → FirstEvents o s (q.channels + 32) q.count first →
      BehindEvents o s (q.channels + 32) q.count end → end ≤ first →
      Wrote numbers 5 w out out k k (of_recording s i (recording_of s i))
  framed-none a first end f b l = rw (a.found.is, recording-none s i a.recording.this.recording quiet) (wrote_nothing numbers 5 (λ _. refl) w out k)
    where
      cs : List R.Channel
      cs = a.recording.this.recording.channels

      silent : (c : ℕ) → c < q.count → (x : Bool) → ltb c first ≡ x → events_at o s (q.channels + 32 + 256 * c) ≡ false
      silent c m true t = f.quiet c (omega arith) (ltb-true c first t)
      silent c m false t = b.quiet c (omega (arith, ltb-false c first t)) m

      quiet : (c : ℕ) (y : R.Channel) → indexed cs c ≡ value y → of_events y ≡ false
      quiet c y e =
          sym (events-kept o s (q.channels + 32 + 256 * c) y (kept-indexed o s (q.channels + 32) c cs a.found.owned.stand.kept e)) ∙
          silent c (omega (arith, indexed-within cs c e, a.found.owned.stand.count)) (ltb c first) refl

  pub framed-start : RecordingAhead o s q i k → Framed o s q i w out out k k 0
  unfolding each_of
  framed-start a = record { ahead = a; few = omega arith; wrote = wrote_nothing numbers 5 (λ _. refl) w out k }

  module _ {out₁ : List ℤ} {k₁ j : ℕ} (t : Framed o s q i w out out₁ k k₁ j) where
    abbrev this : R.Recording
    this = t.ahead.recording.this.recording

    abbrev bytes : ℕ
    bytes = sample_bytes q.seconds this.channels

    -- at most an entry for each byte of their samples
    frames_small : length (each_of (frame_entries s i this.channels) 0 (take j this.frames)) ≤ j * bytes
    frames_small =
        let f = t.ahead.found in
        let e : q.seconds ≡ this.seconds = ap (λ (p : Places). p.seconds) f.same in
        omega (arith, frames-few s f.bytes i f.is j, ap (λ (t : ℕ). j * sample_bytes t this.channels) e)

    -- the next frame
    pub framed-ahead : (e : Stretch) → StretchOf o s q e → j < q.total → FrameAhead o s q e i (j + 1) k₁
    framed-ahead e stretch l =
        let x = frame-found-at t.ahead.found (j + 1) (in_between 1 q.total (j + 1) (omega arith) (omega arith)) in
        let b = frame-of s t.ahead.found.bytes i (j + 1) x.1.is in
        let same : x.0.of ≡ t.ahead.recording = cc (b.asked, t.ahead.found.is) in
        let more : (j + 1) * bytes ≤ q.total * bytes = mul-le-mul_right bytes (omega arith) in
        record {
          frame = x.0;
          stands = x.1;
          stretch = stretch;
          room = rw same (omega (arith, t.ahead.room, t.wrote.next, frames_small, more, add-mul j 1 bytes));
        }

    pub framed-more : {out₂ : List ℤ} {k₂ : ℕ} → j < q.total → Wrote numbers 5 w out₁ out₂ k₁ k₂ (of_frame s i (j + 1) (recording_of s i)) →
        Framed o s q i w out out₂ k k₂ (j + 1)
    framed-more {out₂} {k₂} l h =
        let x = some_one this.frames j (omega (arith, l, t.ahead.found.frames)) in
        let e : j + 1 ≡ suc j = omega arith in
        let path : of_frame s i (j + 1) (recording_of s i) ≡ frame_entries s i this.channels (suc j) x.0 =
        ap (of_frame s i (j + 1)) t.ahead.found.is ∙
        (ap (λ (n : ℕ). each_of (channel_entries s i n) 0 this.channels) e ∙ frame_is s i this.channels (suc j) x.0) in
        let y : Wrote numbers 5 w out₁ out₂ k₁ k₂ (frame_entries s i this.channels (suc j) x.0) = rw path at h in
        record {
          ahead = t.ahead;
          few = omega arith;
          wrote = rw (e, each_more (frame_entries s i this.channels) 0 j this.frames x.1, zero-add j)
              (wrote-join numbers 5 (λ _. refl) w out out₁ out₂ k k₁ k₂ _ _ t.wrote y);
        }

    pub framed-all : q.total ≤ j → Wrote numbers 5 w out out₁ k k₁ (of_recording s i (recording_of s i))
    unfolding recording_entries
    framed-all l =
        let whole : take j this.frames ≡ this.frames = take_all j this.frames (omega (arith, t.ahead.found.frames)) in
        rw t.ahead.found.is (rw whole at t.wrote)

-- The recordings of a file

-- i of them are listed, and the code has the last of them
pub record Filed (o : Order) (label : Label) (s : List ℕ) (count : ℕ) (w : Bool) (out out₁ : List ℤ) (k p i : ℕ) (before : Option Places) : Type 0 where
  pub ahead : FileAhead o label s count
  pub few : i ≤ count
  pub inside : p ≤ length s
  pub room : HeldWithin (length s) before
  pub going : Going o label s ahead.header.count ahead.accepted.file.recordings p i before
  pub wrote : Wrote numbers 5 w out out₁ 0 k (each_of (recording_entries s) 0 (take i (readings ahead.accepted.file.recordings)))

module _ {o : Order} {label : Label} {s : List ℕ} {count : ℕ} {w : Bool} {out : List ℤ} where
  pub filed-start : 32 ≤ length s → FileAhead o label s count → Filed o label s count w out out 0 32 0 None
  unfolding each_of
  filed-start l a = record {
    ahead = a;
    few = omega arith;
    inside = l;
    room = tt;
    going = going_start s a.header a.accepted o label a.order a.label;
    wrote = wrote_nothing numbers 5 (λ _. refl) w out 0;
  }

  module _ {out₁ : List ℤ} {k p i : ℕ} {before : Option Places} (t : Filed o label s count w out out₁ k p i before) where
    abbrev file : R.File
    file = t.ahead.accepted.file

    abbrev rs : List R.Recording
    rs = readings file.recordings

    module _ (b : Bytes s) (many : i < count) (a : Result Places Refusal) (again : RecordingAgain o label s p before a) where
      next : Met o label s t.ahead.header.count file.recordings (i + 1) a
      next = met before t.going (omega (arith, many, t.ahead.count)) t.inside (ok_of s b t.ahead.header t.ahead.accepted t.ahead.label) a again

      -- none is refused
      pub filed-stop : {X : Type 0} {r : _} → a ≡ Err r → X
      filed-stop e = absurd (rw e at next)

      module _ {q : Places} (on : a ≡ Ok q) where
        on-next : Going o label s t.ahead.header.count file.recordings q.end (i + 1) (Some q)
        on-next = rw on at next

        found : (r : Chosen) × FoundIn s (i + 1) o q r
        found = asked-found s t.ahead.header t.ahead.accepted b o t.ahead.order (i + 1) q on-next.is.is.reached

        -- it is the next of the recordings
        next_one : One rs i found.0.this.recording
        next_one =
            let c = chosen-in s b (i + 1) found.0 found.1.is in
            let same : c.file ≡ file = cc (c.judged, t.ahead.accepted.judged) in
            let d : found.0.index ≡ i = omega (arith, c.index) in
            let one : One file.recordings i found.0.this = rw (same, d) at c.one in
            record {
              inside = omega (arith, one.inside, length-map file.recordings (λ (x : R.Placed). x.recording));
              is = λ e. any rs i e found.0.this.recording (omega (arith, one.inside, length-map file.recordings (λ (x : R.Placed). x.recording))) ∙
                  get_or-map (λ (x : R.Placed). x.recording) file.recordings i found.0.this ∙ ap (λ (x : R.Placed). x.recording) (one.is found.0.this);
            }
          where
            any : {A : Type 0} (l : List A) (n : ℕ) (d e : A) → n < length l → get_or l n d ≡ get_or l n e
            any [] n d e h = absurd (omega arith)
            any (x ∷ l) zero d e h = refl
            any (x ∷ l) (suc n) d e h = any l n d e (omega arith)

        pub filed-ahead : RecordingAhead o s q (i + 1) k
        filed-ahead =
            let v = file-ok (length s) (accepted s b t.ahead.accepted.judged).plays in
            let e : q.seconds ≡ found.0.this.recording.seconds = ap (λ (x : Places). x.seconds) found.1.same in
            let this : R.Recording = found.0.this.recording in
            let all : q.total * sample_bytes q.seconds this.channels ≡ length this.frames * sample_bytes this.seconds this.channels =
            ap (λ (n : ℕ). n * sample_bytes q.seconds this.channels) found.1.frames ∙ ap (λ (n : ℕ). length this.frames * sample_bytes n this.channels) e in
            let few = recordings-few s b t.ahead.accepted.judged i in
            let most = between_in 1 64 (length rs) v.header.count in
            record {
              recording = found.0;
              found = found.1;
              room = omega (arith, recording-small s b (i + 1) found.1.is, all, few, most.1, t.wrote.next, next_one.inside);
            }

        pub filed-more : {out₂ : List ℤ} {k₂ : ℕ} → Wrote numbers 5 w out₁ out₂ k k₂ (of_recording s (i + 1) (recording_of s (i + 1))) →
            Filed o label s count w out out₂ k₂ q.end (i + 1) (Some q)
        filed-more {out₂} {k₂} h =
            let u = rw on at again.continues in
            let e : i + 1 ≡ suc i = omega arith in
            let y : Wrote numbers 5 w out₁ out₂ k k₂ (recording_entries s (suc i) found.0.this.recording) = rw (found.1.is, e) at h in
            let one : indexed rs i ≡ value found.0.this.recording = indexed-in found.0.this.recording rs i next_one.inside ∙
            ap value (next_one.is found.0.this.recording) in
            record {
              ahead = t.ahead;
              few = omega arith;
              inside = u.end;
              room = u.channels;
              going = on-next;
              wrote = rw (e, each_more (recording_entries s) 0 i rs one, zero-add i) (wrote-join numbers 5 (λ _. refl) w out out₁ out₂ 0 k k₂ _ _ t.wrote y);
            }
