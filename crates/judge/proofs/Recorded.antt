-- A recording: what the walk comes to, from what the code finds of its head, its descriptions and its signals.
-- Assumes nothing.
use Rattle.std.proofs.Common.{Some, None}
use Rattle.std.proofs.Common.{Result, Ok, Err}
use Rattle.std.specs.Prelude as Std
use mathlib.Core.Path.{◌≡◌, refl, sym, ap, subst, ◌∙◌}
use mathlib.Core.Bool.{Bool}
use mathlib.Core.List.{List}
use mathlib.Core.Option.{Option}
use Prim.Native.Nat.{ℕ, ◌+◌, ◌-◌, ◌≤◌, ◌<◌}
use native.Mathlib.Nat.{zero-add}
use native.Mathlib.Omega.{arith}
use lib.Dec.{leb, eqb}
use lib.ListN.{length, take, drop, length-drop}
use lib.Seq.{length-take-le}
use Rattle.words.specs.Numbers.{number_at}
use Rattle.words.specs.declared.Order.{Order}
use Rattle.walk.specs.Walk.{pick, give, ◌>>◌}
use Rattle.walk.specs.See.{Verdict, goes, see, Goes, onward}
use Rattle.walk.proofs.Apart.{stops-goes}
use Rattle.walk.proofs.Seen.{walks, gates, see-part, body-length, see-bind, see-give, stays-goes, yields}
use Rattle.walk.proofs.Went.{goes_same, went-first, onward-went}
use Rattle.rules.specs.Rules as R
use Rattle.rules.specs.Rules.{recording}
use Rattle.rules.specs.declared.Basic.{Basic}
use Rattle.rules.specs.declared.Channels.{Channels}
use Rattle.rules.specs.declared.Frames.{Frames}
use Rattle.rules.specs.declared.Head.{Head}
use Rattle.rules.specs.declared.Kind.TheVariants as Kind
use Rattle.rules.specs.declared.Label.{Label}
use Rattle.rules.specs.declared.Refusal.{Refusal}
use Rattle.rules.proofs.Room.{stays-recording_body}
use Rattle.records.specs.Says.{halts, head_of, subs_at, ChannelsIn, opened, OpenAt}
use Rattle.records.proofs.Bodies.{body-opened}
use Rattle.rules.proofs.Cases.{most-low}
use Rattle.records.proofs.Opened.{require-went, admit-went, admit-passed}
use Rattle.descriptions.specs.DescriptionsJudged.{HeldWithin, place_of, channels_in, patient_in, held_at, Keeps, DescribedBounds, described, DescriptionsOf}
use Rattle.descriptions.specs.declared.Places.{Places}
use Rattle.descriptions.specs.declared.Described.{Described}
use Rattle.signals.specs.FramesJudged.{SignalsIn}
use Rattle.signals.specs.Signaled.{DescriptionsKnown, Whole, WholeAt, SignalsOf}
use Rattle.signals.proofs.Signaled.{yields-signals}
use Rattle.judge.specs.Recorded.{places_of, places_for, Places-of, recorded, PlacedIn, RecordingIn, BodyIn, BodyJudged, RecordingAt, BodyAgain, RecordingAgain}

-- the place of a part of a recording at `start`, whose body has n bytes: by the room, as the descriptions have it, and as the layout has it
part-place : (start n room bytes at : ℕ) → bytes ≡ 16 + n → at ≡ bytes - room → place_of (start + 16) n room ≡ start + at
part-place start n room bytes at e d = omega arith

-- of its 140, which stands at byte p of the body
frames-place : (start n room bytes at p : ℕ) → bytes ≡ 16 + n → at ≡ bytes - room → room ≡ n - p → p + 16 ≤ n → start + 16 + p ≡ start + at
frames-place start n room bytes at p e d r l = omega arith

-- a part of its own, or another
picked : {A : Type 0} (x y : Bool) (v a b other : A) → v ≡ pick x a other → y ≡ x → a ≡ b → v ≡ pick y b other
picked x y v a b other k e d = rw (e, ← d) k

-- places that agree in each field
alike : {a a' b b' c c' d d' e e' k k' l l' m m' n n' : ℕ} {g g' y y' : Std.Option ℕ} → a ≡ a' → b ≡ b' → c ≡ c' → d ≡ d' → e ≡ e' → g ≡ g' → y ≡ y' → k ≡ k' → l ≡ l' → m ≡ m' → n ≡ n' →
    ◌≡◌ {A = Places} (record { start = a; end = b; channels = c; count = d; patient = e; events = g; montage = y; frames = k; frame = l; total = m; seconds = n })
    (record { start = a'; end = b'; channels = c'; count = d'; patient = e'; events = g'; montage = y'; frames = k'; frame = l'; total = m'; seconds = n' })
alike e₁ e₂ e₃ e₄ e₅ e₆ e₇ e₈ e₉ e₁₀ e₁₁ = cc

-- the code's places are the walk's
places_same : (o : Order) (file : List ℕ) (at n : ℕ) (before : Std.Option Places) (t : Described) (f : Frames) (X : R.Descriptions) (e : ℕ) (h : R.Head) (x : R.Placed) → Keeps o file (at + 16) n before t X e → Whole X h f x → R.span h ≡ 16 + n → t.next.at + 16 ≤ n → places_for at n t f.size f.seconds ≡ places_of at before x
places_same o file at n before t f X e h x k w s l =
    let bytes : x.layout.bytes ≡ R.span h = ap (λ (y : R.Layout). y.bytes) w.layout in
    let at120 : x.layout.at120 ≡ R.span h - X.next.room = ap (λ (y : R.Layout). y.at120) w.layout in
    let at130 : x.layout.at130 ≡ R.span h - X.channels.next.room = ap (λ (y : R.Layout). y.at130) w.layout in
    let at200 : x.layout.at200 ≡ R.span h - X.patient.next.room = ap (λ (y : R.Layout). y.at200) w.layout in
    let at350 : x.layout.at350 ≡ R.span h - X.events.next.room = ap (λ (y : R.Layout). y.at350) w.layout in
    let at140 : x.layout.at140 ≡ R.span h - X.montage.next.room = ap (λ (y : R.Layout). y.at140) w.layout in
    let total : x.recording.basic.frames ≡ t.basic.frames = ap (λ (y : R.Basic). y.frames) w.basic ∙ ap (λ (y : Basic). y.frames) k.basic in
    let count : length x.recording.channels ≡ t.count = ap length w.channels ∙ k.stand.count in
    alike
    refl
    (omega (arith, bytes, s))
    (picked t.own x.recording.own_channels t.channels (place_of (at + 16) n X.next.room) (at + x.layout.at120) (held_at (channels_in before)) k.channels_at (w.own_channels ∙ k.own) (part-place at n X.next.room (R.span h) x.layout.at120 s at120))
    (sym count)
    (picked X.patient.own x.recording.own_patient t.patient (place_of (at + 16) n X.channels.next.room) (at + x.layout.at130) (held_at (patient_in before)) k.patient_at w.own_patient (part-place at n X.channels.next.room (R.span h) x.layout.at130 s at130))
    (picked X.events.own x.recording.own_events t.events _ _ None k.events_at w.own_events (ap Some (part-place at n X.patient.next.room (R.span h) x.layout.at200 s at200)))
    (picked X.montage.own x.recording.own_montage t.montage _ _ None k.montage_at w.own_montage (ap Some (part-place at n X.events.next.room (R.span h) x.layout.at350 s at350)))
    (frames-place at n X.montage.next.room (R.span h) x.layout.at140 t.next.at s at140 k.room l)
    (sym (ap (λ (y : R.Layout). y.frame) w.layout))
    (sym total)
    (sym w.seconds)

-- the body of a recording with the head h
module _ (o : Order) (label : Label) (file : List ℕ) (at : ℕ) (s : List ℕ) (before : Std.Option Places) (held : Option R.Held) (h : R.Head) (fills : R.span h ≡ 16 + length s) where
  abbrev body : Verdict R.Placed
  body = see o (at + 16) s (at + 16) (R.recording_body label held h)

  halves : body ≡ onward (see o (at + 16) s (at + 16) (R.descriptions label held (16 + length s))) (λ t e. see o (at + 16) s e (R.signals label t h))
  unfolding R.recording_body
  halves =
      see-bind o (at + 16) s (at + 16) (R.descriptions label held (R.span h)) (λ t. R.signals label t h)
      ∙ ap (λ (n : ℕ). onward (see o (at + 16) s (at + 16) (R.descriptions label held n)) (λ t e. see o (at + 16) s e (R.signals label t h))) fills

  tables-stop : (r : Refusal) → described o label file (at + 16) held s before (Err r) → body ≡ halts r
  tables-stop r k = halves ∙ rw k

  module _ {t : Described} (kept : described o label file (at + 16) held s before (Ok t)) where
    reached : body ≡ see o (at + 16) s (at + 16 + (t.next.at + 16)) (R.signals label kept.value h)
    reached = halves ∙ rw (kept.is, kept.kept.end)

    -- the second half is whole, with a 140 of which the code keeps f
    placed : (f : Frames) {x : R.Placed} {e : ℕ} → body ≡ goes x e → e ≡ at + 16 + length s → Whole kept.value h f x → t.next.at + 16 ≤ length s → Goes body (Places-of o file at before (places_for at (length s) t f.size f.seconds))
    placed f {x} {e} g i w l = record { value = x; end = e; is = g; kept = record { end = i; same = places_same o file at (length s) before t f kept.value kept.end h x kept.kept w fills l; held = rw w.channels kept.kept.stand } }

    module _ {cs : Channels} {m : ℕ} (chan : cs ≡ subs_at t.channels t.count) (times : h.multiplier ≡ m) where
      known : DescriptionsKnown o file cs t.own t.basic t.next s m kept.value h
      known = record {
        basic = kept.kept.basic;
        own = kept.kept.own;
        channels = rw chan kept.kept.stand;
        head = kept.kept.head;
        room = kept.kept.room;
        bytes = fills;
        multiplier = times;
      }

      signals-stop : (r : Refusal) → SignalsOf o label file cs t.own t.basic t.next (at + 16) s m (Err r) → body ≡ halts r
      signals-stop r k = reached ∙ k kept.value h known

      body-holds : {f : Frames} (q : ℕ) → SignalsOf o label file cs t.own t.basic t.next (at + 16) s m (Ok (f, q)) → t.next.at + 16 ≤ length s → Goes body (Places-of o file at before (places_for at (length s) t f.size f.seconds))
      body-holds {f} q k l =
          let g : Goes (see o (at + 16) s (at + 16 + (t.next.at + 16)) (R.signals label kept.value h)) (WholeAt (at + 16 + length s) kept.value h f) = k kept.value h known in
          placed f (reached ∙ g.is) g.kept.ends g.kept.whole l

    -- of a body that the walk accepted
    module _ {x : R.Placed} {e : ℕ} (g : body ≡ goes x e) where
      abbrev numbers : Frames
      numbers = record { seconds = number_at o 4 s (t.next.at + 16); size = number_at o 4 s (t.next.at + 20); padded = 0 }

      told : (32 ≤ kept.value.montage.next.room) × Whole kept.value h numbers x
      told =
          let i : at + 16 + (t.next.at + 16) - (at + 16) ≡ t.next.at + 16 = omega arith in
          let j : at + 16 + (t.next.at + 16) + 4 - (at + 16) ≡ t.next.at + 20 = omega arith in
          rw (i, j) at (yields o (at + 16) s (R.signals label kept.value h) (at + 16 + (t.next.at + 16)) _ (yields-signals o label (at + 16) s (at + 16 + (t.next.at + 16)) kept.value h) (sym reached ∙ g))

      long : length s < t.next.at + 32 → ⊥
      long l = omega (arith, told.0, kept.kept.room)

      found : (frame seconds : ℕ) → seconds ≡ number_at o 4 s (t.next.at + 16) → frame ≡ number_at o 4 s (t.next.at + 20) → t.next.at + 16 ≤ length s → Goes body (Places-of o file at before (places_for at (length s) t frame seconds))
      found frame seconds i j l =
          let z = stays-goes o (at + 16) s (at + 16 + (R.span h - 16)) (omega arith) (R.recording_body label held h) (at + 16) _ (omega arith) (stays-recording_body label held h (at + 16) (omega arith)) g in
          rw (i, j) (placed numbers g (omega (arith, z.1)) told.1 l)

-- the bounds of its places, in a file of n bytes
continues : (at n : ℕ) (s : List ℕ) (before : Std.Option Places) (t : Described) → DescribedBounds (at + 16) (length s) before t → at + 16 + length s ≤ n → HeldWithin n before → (frame seconds : ℕ) → PlacedIn at n (places_for at (length s) t frame seconds)
continues at n s before t b fits within frame seconds = record { start = omega arith; end = fits; channels = b.room n fits within }

-- what `recording_body` asks of the functions that it calls, and what it answers at each return
module _ (o : Order) (label : Label) (file s : List ℕ) (at : ℕ) (before : Std.Option Places) (i : BodyIn file s at before) where
  module _ {t : Described} (k : DescriptionsOf o label (at + 16) s before (Ok t)) where
    room : ChannelsIn (length file) (subs_at t.channels t.count)
    room = k.bounds.room (length file) i.inside i.held

    pub channels-asked : t.channels + 32 < 18446744073709551616
    channels-asked = omega (arith, room.inside, i.short)

    pub signals-asked : {cs : Channels} → cs ≡ subs_at t.channels t.count → SignalsIn file cs t.basic t.next (at + 16) s
    signals-asked c =
        let b = k.bounds in
        record {
          body = record { headed = omega arith; short = omega (arith, i.inside, i.short) };
          head = record { low = b.low; inside = b.fits };
          few = b.short;
          channels = rw c room;
        }

  pub stops-descriptions : {m : ℕ} {r : Refusal} → DescriptionsOf o label (at + 16) s before (Err r) → BodyJudged o label file s at m before (Err r)
  stops-descriptions k = record { told = λ held h has fills times. tables-stop o label file at s before held h fills _ (k.told file held i.part has); continues = tt }

  module _ {m : ℕ} {t : Described} (k : DescriptionsOf o label (at + 16) s before (Ok t)) {cs : Channels} (c : cs ≡ subs_at t.channels t.count) where
    pub stops-signals : {r : Refusal} → SignalsOf o label file cs t.own t.basic t.next (at + 16) s m (Err r) → BodyJudged o label file s at m before (Err r)
    stops-signals j = record { told = λ held h has fills times. signals-stop o label file at s before held h fills (k.told file held i.part has) c times _ j; continues = tt }

    pub holds : {f : Frames} (q : ℕ) → SignalsOf o label file cs t.own t.basic t.next (at + 16) s m (Ok (f, q)) → BodyJudged o label file s at m before (Ok (places_for at (length s) t f.size f.seconds))
    holds {f} q j = record {
      told = λ held h has fills times. body-holds o label file at s before held h fills (k.told file held i.part has) c times q j k.bounds.fits;
      continues = continues at (length file) s before t k.bounds i.inside i.held f.size f.seconds;
    }

-- what `body_again` answers
module _ (o : Order) (label : Label) (s : List ℕ) (at : ℕ) (before : Std.Option Places) where
  pub again-stops : {r : Refusal} → DescriptionsOf o label (at + 16) s before (Err r) → BodyAgain o label s at before (Err r)
  again-stops k = record { told = λ file held h x e is has fills g. tables-stop o label file at s before held h fills _ (k.told file held is has); continues = λ n l w. tt }

  module _ {t : Described} (k : DescriptionsOf o label (at + 16) s before (Ok t)) where
    pub again-short : {r : Refusal} → length s < t.next.at + 32 → BodyAgain o label s at before (Err r)
    again-short l = record { told = λ file held h x e is has fills g. absurd (long o label file at s before held h fills (k.told file held is has) g l); continues = λ n l w. tt }

    pub again-holds : {frame seconds : ℕ} → seconds ≡ number_at o 4 s (t.next.at + 16) → frame ≡ number_at o 4 s (t.next.at + 20) → BodyAgain o label s at before (Ok (places_for at (length s) t frame seconds))
    again-holds {frame} {seconds} i j = record {
      told = λ file held h x e is has fills g. found o label file at s before held h fills (k.told file held is has) g frame seconds i j k.bounds.fits;
      continues = λ n l w. continues at n s before t k.bounds l w frame seconds;
    }

-- a recording at byte p of the file
module _ (o : Order) (label : Label) (file : List ℕ) (p i : ℕ) where
  abbrev walk : Option R.Held → Verdict R.Placed
  walk held = see o 0 file p (R.recording label held (length file - p) i)

  begins : (held : Option R.Held) → walk held ≡ onward (see o 0 file p (opened (R.recording_rule label i) (length file - p))) (λ h e. see o 0 file e (R.recording_body label held h))
  unfolding recording
  begins held = body-opened o 0 file (R.recording_rule label i) (R.recording_body label held) (length file - p) p

  open-stop : {r : Refusal} → OpenAt o 0 file p (Kind.Recording label i) (Err r) → (held : Option R.Held) → walk held ≡ halts r
  open-stop a held = begins held ∙ rw (rw zero-add at a.seen)

  -- the body of a record that ends at byte q, handed on as a part of its own
  module _ {h : Head} {q : ℕ} (a : OpenAt o 0 file p (Kind.Recording label i) (Ok (h, q))) where
    fills : R.span (head_of h) ≡ 16 + length (take (q - (p + 16)) (drop (p + 16) file))
    fills =
        let st = a.stands in
        let l : 16 + length (take (q - (p + 16)) (drop (p + 16) file)) ≡ q - p = body-length p q file (omega (arith, st.end, st.spans)) st.inside in
        omega (arith, l, st.end)

    in_body : (held : Option R.Held) → see o (p + 16) (take (q - (p + 16)) (drop (p + 16) file)) (p + 16) (R.recording_body label held (head_of h)) ≡ walk held
    in_body held =
        let st = a.stands in
        let n : ℕ = R.span (head_of h) in
        let z : p + 16 + (n - 16) ≡ p + 16 + (q - (p + 16)) = omega (arith, st.end) in
        see-part o 0 (p + 16) (p + 16) (q - (p + 16)) file (sym (zero-add (p + 16))) (omega (arith, st.inside, st.end, st.spans)) (R.recording_body label held (head_of h)) (p + 16) (λ x e. (x.layout.bytes ≡ n) × (e ≡ p + 16 + (q - (p + 16)))) (omega arith) (rw z at (stays-recording_body label held (head_of h) (p + 16) st.spans)) ∙
        sym (begins held ∙ rw (rw (zero-add p, zero-add (h.at + 16), st.at) at a.seen))

-- it is accepted whatever its serial, where the head is looked at for no more than that
opened-any : (o : Order) (label : Label) (s : List ℕ) (at room i : ℕ) {h : R.Head} {e : ℕ} → see o 0 s at (opened (R.recording_rule label i) room) ≡ goes h e → see o 0 s at (opened R.any_rule room) ≡ goes h e
unfolding opened
opened-any o label s at room i {h} {e} g =
    let f = went-first o 0 s at (R.head room) _ g in
    let c = require-went o 0 s f.end (eqb f.value.code 10) 9 12 (R.admit_by (R.recording_rule label i) room f.value >> give f.value) f.kept in
    let d = admit-went o 0 s f.end room (R.most_of label) (leb 16) (eqb i) f.value (give f.value) c.1 in
    let y = (admit-passed o 0 s f.end room (R.most_of label) (leb 16) (eqb i) f.value d.admits).any 128 (most-low label) in
    simp (walks, gates, f.is, y) (sym (see-give o 0 s f.end f.value) ∙ d.rest)

-- what `recording_at` and `recording_again` ask of the functions that they call, and what they answer
module _ (file : List ℕ) (p q : ℕ) {before : Std.Option Places} (low : p + 16 ≤ q) (inside : q ≤ length file) (i : RecordingIn (length file) p before) where
  abbrev within : List ℕ
  within = take (q - (p + 16)) (drop (p + 16) file)

  part_length : length within ≡ q - (p + 16)
  part_length = length-take-le (q - (p + 16)) (drop (p + 16) file) (rw length-drop (omega arith))

  pub body-asked : BodyIn file within p before
  body-asked = record {
    part = ap (λ (n : ℕ). take n (drop (p + 16) file)) (sym part_length);
    inside = omega (arith, part_length);
    short = i.short;
    held = i.held;
  }

pub at_stops : {o : Order} {label : Label} {file : List ℕ} {p i : ℕ} {before : Std.Option Places} {r : Refusal} → OpenAt o 0 file p (Kind.Recording label i) (Err r) → RecordingAt o label file p i before (Err r)
at_stops {o} {label} {file} {p} {i} a = record { told = λ held has. open-stop o label file p i a held; continues = tt }

pub at_body : {o : Order} {label : Label} {file : List ℕ} {p i : ℕ} {before : Std.Option Places} {h : Head} {q : ℕ} {x : Result Places Refusal} → OpenAt o 0 file p (Kind.Recording label i) (Ok (h, q)) →
    BodyJudged o label file (take (q - (p + 16)) (drop (p + 16) file)) p h.multiplier before x → RecordingAt o label file p i before x
at_body {o} {label} {file} {p} {i} {before} {h} {q} {x} a k = record {
  told = λ held has. subst (λ (v : Verdict R.Placed). recorded o file p before v x) (in_body o label file p i a held) (k.told held (head_of h) has (fills o label file p i a) refl);
  continues = k.continues;
}

-- a recording that the walk accepts: its head was opened as one
module _ (o : Order) (label : Label) (file : List ℕ) (p i : ℕ) (held : Option R.Held) {x : R.Placed} {e : ℕ} (g : see o 0 file p (R.recording label held (length file - p) i) ≡ goes x e) where
  begun : Goes (see o 0 file p (opened (R.recording_rule label i) (length file - p))) (λ h m. see o 0 file m (R.recording_body label held h) ≡ goes x e)
  begun = onward-went _ _ (sym (begins o label file p i held) ∙ g)

  any : see o 0 file p (opened R.any_rule (length file - p)) ≡ goes begun.value begun.end
  any = opened-any o label file p (length file - p) i begun.is

  not_stopped : {r : Refusal} → OpenAt o 0 file p Kind.Any (Err r) → ⊥
  not_stopped a = stops-goes (sym (rw zero-add at a.seen) ∙ any)

  as-recording : {h : Head} {q : ℕ} → OpenAt o 0 file p Kind.Any (Ok (h, q)) → OpenAt o 0 file p (Kind.Recording label i) (Ok (h, q))
  as-recording {h} {q} a =
      let y = goes_same (sym any ∙ rw zero-add at a.seen) in
      let st = a.stands in
      record { seen = rw zero-add (begun.is ∙ cc (y.0, y.1)); stands = record { at = st.at; end = st.end; inside = st.inside; spans = st.spans } }

pub again-refused : {o : Order} {label : Label} {file : List ℕ} {p : ℕ} {before : Std.Option Places} {r : Refusal} → OpenAt o 0 file p Kind.Any (Err r) → RecordingAgain o label file p before (Err r)
again-refused {o} {label} {file} {p} a = record { told = λ held i x e has g. absurd (not_stopped o label file p i held g a); continues = tt }

pub again-body : {o : Order} {label : Label} {file : List ℕ} {p : ℕ} {before : Std.Option Places} {h : Head} {q : ℕ} {x : Result Places Refusal} → OpenAt o 0 file p Kind.Any (Ok (h, q)) → BodyIn file (take (q - (p + 16)) (drop (p + 16) file)) p before →
    BodyAgain o label (take (q - (p + 16)) (drop (p + 16) file)) p before x → RecordingAgain o label file p before x
again-body {o} {label} {file} {p} {before} {h} {q} {x} a b k = record {
  told = λ held i y e has g.
      let r = as-recording o label file p i held g a in
      let d = in_body o label file p i r held in
      subst (λ (v : Verdict R.Placed). recorded o file p before v x) d (k.told file held (head_of h) y e b.part has (fills o label file p i r) (d ∙ g));
  continues = k.continues (length file) b.inside b.held;
}
