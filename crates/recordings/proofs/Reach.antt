-- The recordings of an accepted file, one after the other, up to the one asked for: where each stands, and which 120 and 130 hold for it.
-- Assumes nothing.
use Rattle.std.proofs.Common.{Result, Ok, Err, Some, None}
use Rattle.rules.specs.declared.Refusal.{Refusal}
use Rattle.std.specs.Prelude as Std
use mathlib.Core.Path.{◌≡◌, refl, sym, ap, ◌∙◌}
use mathlib.Core.Bool.{Bool, true, false}
use mathlib.Core.List.{List, [], ◌∷◌, ◌++◌, append_assoc}
use mathlib.Core.Option.{Option, none}
use Prim.Native.Nat.{ℕ, zero, suc, ◌+◌, ◌-◌, ◌≤◌, ◌<◌}
use native.Mathlib.Numerals.{add-one}
use native.Mathlib.Omega.{arith}
use lib.ListN.{length, get_or, get_or-map, length-append, length-map}
use lib.Seq.{get_or_at}
use Rattle.words.specs.Numbers.{Bytes}
use Rattle.words.specs.declared.Order.{Order}
use Rattle.walk.specs.See.{goes, see}
use Rattle.walk.specs.Walk.{pick, refused}
use Rattle.walk.proofs.Apart.{false-true}
use Rattle.rules.specs.Rules as R
use Rattle.rules.specs.Places.{bytes_before, holder}
use Rattle.rules.specs.declared.FileHeader.{FileHeader}
use Rattle.rules.specs.declared.Label.{Label}
use Rattle.rules.proofs.Canon.{RecordingsOk, readings, file-ok}
use Rattle.rules.proofs.Holders.{channels-hold, patient-holds}
use Rattle.rules.proofs.Renewed.{RecordingOk}
use Rattle.rules.proofs.Turn.{accepted}
use Rattle.records.specs.Says.{subs_at, ChannelsIn, ChannelsStand}
use Rattle.records.proofs.Facts.{between_in}
use Rattle.descriptions.specs.DescriptionsJudged.{channels_in, patient_in}
use Rattle.descriptions.specs.DescriptionsJudged as DescriptionsJudged
use Rattle.descriptions.specs.declared.Places.{Places}
use Rattle.judge.specs.Judged.{AcceptedAs}
use Rattle.judge.specs.Recorded.{places_of, Continues, RecordingAgain}
use Rattle.judge.proofs.Accepted.{went}
use Rattle.children.proofs.Recordings.{passed-next, Sofar, sofar-start}
use Rattle.children.proofs.Again.{Knowing, Next, again-stop, again-next}
use Rattle.recordings.specs.Answers.{refusal}
use Rattle.recordings.specs.Recordings.{Chosen, held_at, at120, at130, recording_of}
use Rattle.recordings.specs.Found.{places_at, Standing, Reached, FoundIn}
use Rattle.recordings.proofs.Chosen.{One, in_between, numbered-in, numbered-out, numbered-one}

-- Inside a list it does not matter what would stand outside

get_d_any : {A : Type 0} (d e : A) (l : List A) (i : ℕ) → i < length l → get_or l i d ≡ get_or l i e
get_d_any d e [] i h = absurd (omega arith)
get_d_any d e (a ∷ l) zero h = refl
get_d_any d e (a ∷ l) (suc i) h = get_d_any d e l i (omega arith)

-- The record that holds

abbrev chosen : List R.Placed → ℕ → R.Placed → Chosen
chosen ps i x = record { all = ps; index = i; this = x }

module _ (own : R.Recording → Bool) where
  holder-before : (d : R.Recording) (k : ℕ) (rs : List R.Recording) → holder own d k rs ≤ k
  unfolding holder
  holder-before d zero rs = omega arith
  holder-before d (suc k) rs = go (own (get_or rs (suc k) d)) (holder-before d k rs)
    where
      go : (x : Bool) {n : ℕ} → n ≤ k → pick x (suc k) n ≤ suc k
      go true l = omega arith
      go false l = omega arith

  holder-any : (d e : R.Recording) (k : ℕ) (rs : List R.Recording) → k < length rs → holder own d k rs ≡ holder own e k rs
  unfolding holder
  holder-any d e zero rs h = refl
  holder-any d e (suc k) rs h = rw (get_d_any d e rs (suc k) h, holder-any d e k rs (omega arith))

  holder-own : (d : R.Recording) (k : ℕ) (rs : List R.Recording) → own (get_or rs k d) ≡ true → holder own d k rs ≡ k
  unfolding holder
  holder-own d zero rs h = refl
  holder-own d (suc k) rs h = rw (holder, h)

  holder-none : (d : R.Recording) (k : ℕ) (rs : List R.Recording) → own (get_or rs (suc k) d) ≡ false → holder own d (suc k) rs ≡ holder own d k rs
  unfolding holder
  holder-none d k rs h = rw (holder, h)

  module _ (place : R.Layout → ℕ) (ps : List R.Placed) where
    -- a recording's own
    held-own : (k : ℕ) (x : R.Placed) → One ps k x → own x.recording ≡ true → held_at own place (chosen ps k x) ≡ 32 + bytes_before k ps + place x.layout
    unfolding held_at
    held-own k x o h =
        let e : holder own x.recording k (readings ps) ≡ k = holder-own x.recording k _ (rw (get_or-map (λ (p : R.Placed). p.recording) ps k x, o.is x) h) in
        rw (e, o.is x)

    -- the one that holds for the recording before
    held-before : (k : ℕ) (x y : R.Placed) → One ps (suc k) x → One ps k y → own x.recording ≡ false → held_at own place (chosen ps (suc k) x) ≡ held_at own place (chosen ps k y)
    unfolding held_at
    held-before k x y o q h =
        let rs : List R.Recording = readings ps in
        let l : k < length rs = omega (arith, q.inside, length-map ps (λ (p : R.Placed). p.recording)) in
        let e : holder own x.recording (suc k) rs ≡ holder own y.recording k rs =
        holder-none x.recording k rs (rw (get_or-map (λ (p : R.Placed). p.recording) ps (suc k) x, o.is x) h) ∙ holder-any x.recording y.recording k rs l in
        rw (e, get_d_any x y ps (holder own y.recording k rs) (omega (arith, q.inside, holder-before y.recording k rs)))

    -- so either, where the first has its own
    held-is : (k : ℕ) (x : R.Placed) → One ps k x → (k ≡ 0 → own x.recording ≡ true) → (before : ℕ) → ((j : ℕ) (y : R.Placed) → k ≡ suc j → One ps j y → before ≡ held_at own place (chosen ps j y)) →
        pick (own x.recording) (32 + bytes_before k ps + place x.layout) before ≡ held_at own place (chosen ps k x)
    held-is k x o first before later = go (own x.recording) refl k o first later
      where
        go : (c : Bool) → own x.recording ≡ c → (k : ℕ) → One ps k x → (k ≡ 0 → own x.recording ≡ true) → ((j : ℕ) (y : R.Placed) → k ≡ suc j → One ps j y → before ≡ held_at own place (chosen ps j y)) →
            pick c (32 + bytes_before k ps + place x.layout) before ≡ held_at own place (chosen ps k x)
        go true e k o first later = sym (held-own k x o e)
        go false e zero o first later = false-true (sym e ∙ first refl)
        go false e (suc j) o first later =
            let q : One ps j (get_or ps j x) = record { inside = omega (arith, o.inside); is = λ d. get_d_any d x ps j (omega (arith, o.inside)) } in
            later j (get_or ps j x) refl q ∙ sym (held-before j x (get_or ps j x) o q e)

-- The walk over the recordings, from one of them on

-- i recordings are read: the code has the last of them, or there is none
abbrev pub Behind : Order → List ℕ → List R.Placed → ℕ → Std.Option Places → Type 0
Behind o s ps i None = i ≡ 0
Behind o s ps i (Some q) = Standing o s ps i q

-- i of the recordings are passed: where the next one begins, and the places of the last of them
pub record Came (o : Order) (s : List ℕ) (ps : List R.Placed) (p i : ℕ) (before : Std.Option Places) : Type 0 where
  pub place : p ≡ 32 + bytes_before i ps
  pub reached : Behind o s ps i before

abbrev pub Going : Order → Label → List ℕ → ℕ → List R.Placed → ℕ → ℕ → Std.Option Places → Type 0
Going o label s count ps p i before = Sofar o label s count ps p i (Knowing o s before (λ _ _. Came o s ps p i before))

tail-one : {A : Type 0} {a x : A} {l : List A} {i : ℕ} → One (a ∷ l) (suc i) x → One l i x
tail-one o = record { inside = omega (arith, o.inside); is = o.is }

bytes-more : (ps : List R.Placed) (i : ℕ) (x : R.Placed) → One ps i x → bytes_before (suc i) ps ≡ bytes_before i ps + x.layout.bytes
unfolding bytes_before
bytes-more [] i x o = absurd (omega (arith, o.inside))
bytes-more (p ∷ ps) zero x o = let e : p ≡ x = o.is p in rw e (omega arith)
bytes-more (p ∷ ps) (suc i) x o = rw (bytes-more ps i x (tail-one o)) (omega arith)

-- the recordings of a file are as the rules ask
pub ok_of : (s : List ℕ) → Bytes s → (h : FileHeader) (x : AcceptedAs s h) {label : Label} → label ≡ h.heading.label → RecordingsOk label none (readings x.file.recordings)
ok_of s b h x e = rw (e, ap (λ (g : R.Heading). g.label) x.heading) (file-ok (length s) (accepted s b x.judged).plays).recordings

pub going_start : (s : List ℕ) (h : FileHeader) (x : AcceptedAs s h) (o : Order) (label : Label) → o ≡ h.order → label ≡ h.heading.label → Going o label s h.count x.file.recordings 32 0 None
unfolding bytes_before
going_start s h x o label e d = sofar-start {e = length s} (rw (e, d) (went s h x)) (record { holds = tt; is = record { place = refl; reached = refl } })

-- the first recording has its own 120 and 130
first-own : (ps : List R.Placed) (own : R.Recording → Bool) → ((d : R.Recording) → 0 < length (readings ps) → own (get_or (readings ps) (holder own d 0 (readings ps)) d) ≡ true) → (k : ℕ) (x : R.Placed) → One ps k x → k ≡ 0 → own x.recording ≡ true
unfolding holder
first-own ps own first k x o e =
    let i : get_or (readings ps) 0 x.recording ≡ x.recording = get_or-map (λ (p : R.Placed). p.recording) ps 0 x ∙ ap (λ (y : R.Placed). y.recording) ((rw e at o.is) x) in
    rw i at (first x.recording (omega (arith, o.inside, length-map ps (λ (p : R.Placed). p.recording))))

-- the places that the code has of the recording before
reached-before : (o : Order) (s : List ℕ) (ps : List R.Placed) (i : ℕ) (before : Std.Option Places) → Behind o s ps i before → (j : ℕ) (y : R.Placed) → i ≡ suc j → One ps j y → (q : Places) × (before ≡ Some q) × (q ≡ places_at (chosen ps j y))
reached-before o s ps i None r j y e q = absurd (omega arith)
reached-before o s ps i (Some b) r j y e q =
    let d : i - 1 ≡ j = omega arith in
    let t : r.this ≡ y = sym ((rw d at (numbered-one ps i r.is).1).is y) ∙ q.is y in
    (b, refl, r.same ∙ rw (d, t))

-- where the next one stands
module _ (o : Order) (label : Label) (s : List ℕ) (ps : List R.Placed) (ok : RecordingsOk label none (readings ps)) (i : ℕ) (before : Std.Option Places) (r : Behind o s ps i before) (x : R.Placed) (one : One ps i x) where
  -- the record that holds: its own, or what `held` has of the recording before, whose places have it at `at`
  next-held : (own : R.Recording → Bool) (place : R.Layout → ℕ) (held : Std.Option Places → Std.Option ℕ) (at : Places → ℕ) → ((b : Places) → DescriptionsJudged.held_at (held (Some b)) ≡ at b) → ((y : Chosen) → at (places_at y) ≡ held_at own place y) →
      ((d : R.Recording) → 0 < length (readings ps) → own (get_or (readings ps) (holder own d 0 (readings ps)) d) ≡ true) → pick (own x.recording) (32 + bytes_before i ps + place x.layout) (DescriptionsJudged.held_at (held before)) ≡ held_at own place (chosen ps i x)
  next-held own place held at takes stands first =
      held-is own place ps i x one (first-own ps own first i x one) _
      (λ j y e q. let t = reached-before o s ps i before r j y e q in ap (λ (b : Std.Option Places). DescriptionsJudged.held_at (held b)) t.1 ∙ takes t.0 ∙ ap at t.2 ∙ stands (chosen ps j y))

  next-120 : pick x.recording.own_channels (32 + bytes_before i ps + x.layout.at120) (DescriptionsJudged.held_at (channels_in before)) ≡ at120 (chosen ps i x)
  next-120 = next-held (λ r. r.own_channels) (λ y. y.at120) channels_in (λ b. b.channels) (λ b. refl) (λ y. refl) (λ d m. (channels-hold label d 0 (readings ps) ok m).owned)

  next-130 : pick x.recording.own_patient (32 + bytes_before i ps + x.layout.at130) (DescriptionsJudged.held_at (patient_in before)) ≡ at130 (chosen ps i x)
  next-130 = next-held (λ r. r.own_patient) (λ y. y.at130) patient_in (λ b. b.patient) (λ b. refl) (λ y. refl) (λ d m. (patient-holds label d 0 (readings ps) ok m).owned)

  next-places : (p : ℕ) → p ≡ 32 + bytes_before i ps → places_of p before x ≡ places_at (chosen ps i x)
  next-places p e = rw (e, next-120, next-130)

  next-standing : (p : ℕ) → p ≡ 32 + bytes_before i ps → (q : Places) → q ≡ places_of p before x → ChannelsStand o s (subs_at q.channels q.count) x.recording.channels → ChannelsIn (length s) (subs_at q.channels q.count) → Standing o s ps (i + 1) q
  next-standing p e q h stand room =
      let d : i + 1 - 1 ≡ i = omega arith in
      record {
        this = x;
        is = numbered-in x ps (i + 1) (in_between 1 (length ps) (i + 1) (omega arith) (omega (arith, one.inside))) ∙ rw (d, one.is x);
        same = rw d (h ∙ next-places p e);
        owned = record { stand = stand; room = room };
      }

-- The answer of the code for recording i

abbrev pub Met : Order → Label → List ℕ → ℕ → List R.Placed → ℕ → Result Places Refusal → Type 0
Met o label s count ps i (Ok q) = Going o label s count ps q.end i (Some q)
Met o label s count ps i (Err r) = ⊥

module _ {o : Order} {label : Label} {s : List ℕ} {count : ℕ} {ps : List R.Placed} {p i : ℕ} (before : Std.Option Places) (g : Going o label s count ps p i before) (l : i < count) (f : p ≤ length s) where
  -- the next of the recordings
  next_one : {x : R.Placed} {q : ℕ} → see o 0 s p (R.recording label g.at.held (length s - p) (i + 1)) ≡ goes x q → One ps i x
  next_one {x} h =
      let n = passed-next g.at l f h in
      let e : ps ≡ g.at.done ++ (x ∷ n.to.left) = n.to.all ∙ rw (n.more, append_assoc) in
      record { inside = omega (arith, ap length e, length-append g.at.done (x ∷ n.to.left), g.at.many); is = λ d. rw e (get_or_at g.at.done x n.to.left d i g.at.many) }

  came : RecordingsOk label none (readings ps) → {q : Places} {x : R.Placed} → ChannelsIn (length s) (subs_at q.channels q.count) → Next o label s p i before g.at.held q x → Came o s ps q.end (i + 1) (Some q)
  came ok {q} {x} room n =
      let one = next_one n.is in
      record {
        place = ap (λ (y : Places). y.end) n.same ∙ rw (add-one i, bytes-more ps i x one) (omega (arith, g.is.is.place));
        reached = next-standing o label s ps ok i before g.is.is.reached x one p g.is.is.place q n.same n.stands room;
      }

  -- by what `recording_again` says of it
  pub met : RecordingsOk label none (readings ps) → (a : Result Places Refusal) → RecordingAgain o label s p before a → Met o label s count ps (i + 1) a
  met ok (Ok q) k = again-next g l f (Ok q) k refl (λ x n. came ok k.continues.channels n)
  met ok (Err r) k = again-stop g l f (Err r) k refl

pub met-reached : (o : Order) (label : Label) (s : List ℕ) (count : ℕ) (ps : List R.Placed) (n : ℕ) (a : Result Places Refusal) → Met o label s count ps n a → Reached o s ps n a
met-reached o label s count ps n (Ok q) g = g.is.is.reached
met-reached o label s count ps n (Err r) g = g

-- the code has the answer for recording i, on the way to recording n
pub record Walked (o : Order) (label : Label) (s : List ℕ) (n i : ℕ) (a : Result Places Refusal) : Type 0 where
  pub within : i ≤ n
  pub start : ℕ
  pub bounds : Continues start (length s) a
  pub meets : (h : FileHeader) (x : AcceptedAs s h) → o ≡ h.order → label ≡ h.heading.label → n ≤ h.count → Met o label s h.count x.file.recordings i a

-- The recording asked for

pub one_ok : (label : Label) (held : Option R.Held) (ps : List R.Placed) → RecordingsOk label held (readings ps) → (k : ℕ) (x : R.Placed) → One ps k x → (before : Option R.Held) × RecordingOk label before x.recording
one_ok label held [] ok k x o = absurd (omega (arith, o.inside))
one_ok label held (p ∷ ps) ok zero x o = let e : p ≡ x = o.is p in (held, rw e at ok.0)
one_ok label held (p ∷ ps) ok (suc k) x o = one_ok label _ ps ok.1 k x (tail-one o)

pub asked-refused : (s : List ℕ) (i : ℕ) {n p : ℕ} → R.judge s ≡ refused n p → recording_of s i ≡ refusal n p
asked-refused s i h = rw h

module _ (s : List ℕ) (h : FileHeader) (x : AcceptedAs s h) where
  pub asked-outside : (i : ℕ) → R.between 1 h.count i ≡ false → recording_of s i ≡ refusal 19 0
  asked-outside i e = rw (x.judged, numbered-out x.file.recordings i (rw x.count at e))

  pub asked-found : Bytes s → (o : Order) → o ≡ h.order → (i : ℕ) (q : Places) → Standing o s x.file.recordings i q → (r : Chosen) × FoundIn s i o q r
  asked-found b o e i q t =
      let k = one_ok h.heading.label none x.file.recordings (ok_of s b h x refl) (i - 1) t.this (numbered-one x.file.recordings i t.is).1 in (
        chosen x.file.recordings (i - 1) t.this,
        record {
          bytes = b;
          is = rw (x.judged, t.is);
          order = e ∙ x.order;
          same = t.same;
          frames = ap (λ (y : Places). y.total) t.same ∙ sym k.1.frames.count;
          seconds = omega (arith, ap (λ (y : Places). y.seconds) t.same, (between_in 1 3600 t.this.recording.seconds k.1.frames.seconds).1);
          owned = t.owned;
        },
      )
