-- The words of an accepted file are those of its reading: a word and its value determine each other.
-- Assumes nothing.
use mathlib.Core.Path.{◌≡◌, refl, ap, ◌∙◌}
use mathlib.Core.Bool.{Bool, true, false}
use mathlib.Core.List.{List, [], ◌∷◌, map}
use mathlib.Core.Option.{Option, none, some}
use Prim.Native.Nat.{ℕ, ◌^◌, ◌≤◌, ◌<◌}
use native.Mathlib.Omega.{arith}
use lib.Dec.{eqb, leb}
use borrow.Author.Tests.{leb-true}
use Rattle.words.proofs.Values.{unsigned_signed}
use Rattle.walk.specs.Plays.{Plays}
use Rattle.walk.specs.Walk.{Event, ◌>>=◌, ◌>>◌, size}
use Rattle.walk.proofs.Apart.{none-some}
use Rattle.walk.proofs.Laws.{traced, skipped, by-split, by-check, by_number, by_read, plays-gave}
use Rattle.rules.specs.Canonical.{channels_group_of, montage_group_of, content}
use Rattle.rules.specs.Reading.{value_of, basic_reading, channel_reading, item_reading, samples_reading, frame_reading, maker_reading, recording_reading, reading_of}
use Rattle.rules.specs.Words.{word_of, basic_words, channel_words, item_words, samples_words, frame_words, maker_words, recording_words, words_of}
use Rattle.rules.specs.Rules.{Label, Basic, basic_body, Sub, Group, anything, field_if, Channel, channel_body, Item, width, Frame, Maker, Recording, Held, held_channels, held_patient, Contents, between, patient_code, event_code, head, basic, channel, channels, all, frames, recordings}
use Rattle.rules.proofs.Canon.{RecordingsOk, ContentsOk}
use Rattle.rules.proofs.Renew.{All, ChannelOk, ItemOk, MakerOk, SamplesOk, FrameOk, and-true, ChannelsOk, ItemsOk}
use Rattle.rules.proofs.Renewed.{RecordingOk, PartOk, MontageOk, montage-channels}

pub word_value : (format w n : ℕ) → n < 256 ^ w → word_of w (value_of format w n) ≡ n
unfolding value_of
word_value format w n h = go (eqb format 4) refl
  where
    go : (x : Bool) → eqb format 4 ≡ x → word_of w (value_of format w n) ≡ n
    go true e = rw (value_of, e)
    go false e = rw (value_of, e) (unsigned_signed w n h)

-- of a list, each by itself
maps-back : {A B : Type 0} (f : A → B) (g : B → A) (P : A → Type 0) → ((a : A) → P a → g (f a) ≡ a) → (l : List A) → All P l → map g (map f l) ≡ l
maps-back f g P h [] k = refl
maps-back f g P h (a ∷ l) k = λ i. h a k.0 i ∷ maps-back f g P h l k.1 i

pub all_are : {A : Type 0} {P Q : A → Type 0} → ((a : A) → P a → Q a) → (l : List A) → All P l → All Q l
all_are h [] k = tt
all_are h (a ∷ l) k = (h a k.0, all_are h l k.1)

basic-back : {t : List Event} {b : Basic} → Plays t basic_body b → basic_words (basic_reading b) ≡ b
unfolding basic_body ◌>>=◌ ◌>>◌
basic-back p =
    let q = traced p in
    let c = q.trace.then.then in
    let f = c.then.then in
    let y = f.then.then.then in
    let m = y.then.then in
    let d = m.then.then in
    let h = d.then.then in
    let n = h.then.then in
    let s = n.then.then in
    let x = s.then.then.then in
    rw q.value (λ i. record { channels = unsigned_signed 4 _ c.small i; frames = unsigned_signed 4 _ f.small i; year = unsigned_signed 4 _ y.small i; month = unsigned_signed 4 _ m.small i; day = unsigned_signed 4 _ d.small i; hour = unsigned_signed 4 _ h.small i; minute = unsigned_signed 4 _ n.small i; second = unsigned_signed 4 _ s.small i; time = s.then.then.bytes; mains = unsigned_signed 4 _ x.small i; comment = x.then.then.then.bytes })

-- every number of a sub is a word; one that is no field is 0
pub record Small (c : Channel) : Type 0 where
  pub channel : c.channel < 256 ^ 4
  pub flags : c.flags < 256 ^ 4
  pub type : c.type < 256 ^ 4
  pub format : c.format < 256 ^ 4
  pub rate : c.rate < 256 ^ 4
  pub cal : c.cal < 256 ^ 4
  pub cal_ad : c.cal_ad < 256 ^ 4
  pub offset_ad : c.offset_ad < 256 ^ 4
  pub offset_cal : c.offset_cal < 256 ^ 4
  pub cal_frequency : c.cal_frequency < 256 ^ 4
  pub low_cut : c.low_cut < 256 ^ 4
  pub high_cut : c.high_cut < 256 ^ 4
  pub sensitivity : c.sensitivity < 256 ^ 4
  pub g1 : c.g1 < 256 ^ 4
  pub g2 : c.g2 < 256 ^ 4

field-small : (x : Bool) (ok : ℕ → Bool) {t : List Event} {n : ℕ} → Plays t (field_if x ok) n → n < 256 ^ 4
unfolding field_if ◌>>=◌ ◌>>◌
field-small true ok p = by_number p λ _ _ l p. by-check p λ _ p. rw (plays-gave p) l
field-small false ok p = rw (plays-gave (skipped p).then) (omega arith)

pub channel-small : (k : Sub) (c : Channel) → ChannelOk k c → Small c
unfolding channel_body ◌>>=◌ ◌>>◌
channel-small k c p =
    by_number p λ _ _ n p. by-check p λ _ p. by_number p λ _ _ f p. by_number p λ _ _ t p. by-check p λ _ p. by_number p λ _ _ m p. by-check p λ _ p. by_number p λ _ _ r p. by-check p λ _ p.
    by_number p λ _ _ a p. by_number p λ _ _ b p. by_number p λ _ _ d p. by_number p λ _ _ e p.
    by-split (field_if k.calibrated anything) _ p λ _ _ _ x p. by_number p λ _ _ l p. by_number p λ _ _ h p. by-split (field_if k.calibrated anything) _ p λ _ _ _ s p.
    by_read (skipped p).then λ _ _ _ _ p. by_read p λ _ _ _ _ p.
    by-split (field_if k.wired k.input) _ p λ _ _ _ u p. by-split (field_if k.wired k.input) _ p λ _ _ _ v p. by_read (skipped p).then λ _ _ _ _ p.
    rw (plays-gave p) (record {
      channel = n;
      flags = f;
      type = t;
      format = m;
      rate = r;
      cal = a;
      cal_ad = b;
      offset_ad = d;
      offset_cal = e;
      cal_frequency = field-small k.calibrated anything x;
      low_cut = l;
      high_cut = h;
      sensitivity = field-small k.calibrated anything s;
      g1 = field-small k.wired k.input u;
      g2 = field-small k.wired k.input v;
    })

channel-back : (c : Channel) → Small c → channel_words (channel_reading c) ≡ c
channel-back c k =
    λ i. record { channel = unsigned_signed 4 _ k.channel i; flags = unsigned_signed 4 _ k.flags i; type = unsigned_signed 4 _ k.type i; format = unsigned_signed 4 _ k.format i; rate = unsigned_signed 4 _ k.rate i; cal = word_value c.format 4 _ k.cal i; cal_ad = word_value c.format 4 _ k.cal_ad i; offset_ad = word_value c.format 4 _ k.offset_ad i; offset_cal = word_value c.format 4 _ k.offset_cal i; cal_frequency = unsigned_signed 4 _ k.cal_frequency i; low_cut = unsigned_signed 4 _ k.low_cut i; high_cut = unsigned_signed 4 _ k.high_cut i; sensitivity = unsigned_signed 4 _ k.sensitivity i; label = c.label; unit = c.unit; g1 = unsigned_signed 4 _ k.g1 i; g2 = unsigned_signed 4 _ k.g2 i; comment = c.comment }

item_back : (ok : ℕ → Bool) (x : Item) → ItemOk ok x → item_words (item_reading x) ≡ x
item_back ok x k = λ i. record { code = unsigned_signed 4 x.code k.code i; content = x.content }

maker-back : (label : Label) (m : Maker) → MakerOk label m → maker_words (maker_reading m) ≡ m
maker-back label m k = λ i. record { head = record { size = unsigned_signed 4 m.head.size k.head.size i; code = unsigned_signed 4 m.head.code k.head.code i; serial = unsigned_signed 4 m.head.serial k.head.serial i; multiplier = unsigned_signed 4 m.head.multiplier k.head.multiplier i }; body = m.body }

samples-back : (t : ℕ) (cs : List Channel) (ss : List (List ℕ)) → SamplesOk t cs ss → samples_words cs (samples_reading cs ss) ≡ ss
unfolding samples_reading samples_words
samples-back t [] [] k = refl
samples-back t [] (s ∷ ss) k = absurd k
samples-back t (c ∷ cs) [] k = absurd k
samples-back t (c ∷ cs) (s ∷ ss) k = λ i. maps-back (value_of c.format (width c.format)) (word_of (width c.format)) _ (word_value c.format (width c.format)) s k.1 i ∷ samples-back t cs ss k.2 i

frame_back : (t : ℕ) (cs : List Channel) (f : Frame) → FrameOk t cs f → frame_words cs (frame_reading cs f) ≡ f
frame_back t cs f k = λ i. record { hour = f.hour; minute = f.minute; second = f.second; channels = samples-back t cs f.channels k.samples i }

makers-back : (label : Label) (ms : List Maker) → All (MakerOk label) ms → map maker_words (map maker_reading ms) ≡ ms
makers-back label ms k = maps-back maker_reading maker_words (MakerOk label) (maker-back label) ms k

-- what a recording may take over is known by its values too
abbrev Good : Option Held → Type 0
Good none = Unit {0}
Good (some h) = All Small h.channels × All (ItemOk patient_code) h.patient

good-channels : (held : Option Held) → Good held → (cs : List Channel) → held_channels held ≡ some cs → All Small cs
good-channels none g cs e = none-some e
good-channels (some h) g cs e = let z : h.channels ≡ cs = cc in rw (← z) g.0

good-patient : (held : Option Held) → Good held → (is : List Item) → held_patient held ≡ some is → All (ItemOk patient_code) is
good-patient none g is e = none-some e
good-patient (some h) g is e = let z : h.patient ≡ is = cc in rw (← z) g.1

-- nothing is taken over
good_none : {A : Type 0} (P : A → Type 0) (l : List A) → ◌≡◌ {A = Option (List A)} (some []) (some l) → All P l
good_none P l e = let z : [] ≡ l = cc in rw (← z) tt

all_small : (g : Group) (cs : List Channel) → ChannelsOk g cs → All Small cs
all_small g cs k = all_are (channel-small g.sub) cs k.each

-- of a part that may be absent: what holds
part-all : (label : Label) {A : Type 0} (P Q : List A → Type 0) → ((l : List A) → Q l → P l) → (held : Option (List A)) (own : Bool) (l : List A) (ms : List Maker) → PartOk label Q held own l ms → ((x : List A) → held ≡ some x → P x) → P l
part-all label P Q all held true l ms k n = all l k.0
part-all label P Q all held false l ms k n = n l k.0

part-makers : (label : Label) {A : Type 0} (Q : A → Type 0) (held : Option A) (own : Bool) (a : A) (ms : List Maker) → PartOk label Q held own a ms → All (MakerOk label) ms
part-makers label Q held true a ms k = k.1
part-makers label Q held false a ms k = rw k.1 tt

module _ (label : Label) (held : Option Held) (g : Good held) (r : Recording) (k : RecordingOk label held r) where
  known : Good (some (record { channels = r.channels; patient = r.patient }))
  known = (
    part-all label (All Small) (ChannelsOk (channels_group_of label r)) (all_small (channels_group_of label r)) (held_channels held) r.own_channels r.channels r.makers₂ k.channels (good-channels held g),
    part-all label (All (ItemOk patient_code)) (ItemsOk patient_code) (λ l c. c.each) (held_patient held) r.own_patient r.patient r.makers₃ k.patient (good-patient held g),
  )

  channels-back : map channel_words (map channel_reading r.channels) ≡ r.channels
  channels-back = maps-back channel_reading channel_words Small channel-back r.channels known.0

  frames-back : map (frame_words (map channel_words (map channel_reading r.channels))) (map (frame_reading r.channels) r.frames) ≡ r.frames
  frames-back =
      ap (λ (cs : List Channel). map (frame_words cs) (map (frame_reading r.channels) r.frames)) channels-back
      ∙ maps-back (frame_reading r.channels) (frame_words r.channels) (FrameOk r.seconds r.channels) (frame_back r.seconds r.channels) r.frames k.frames.each

  events-known : All (ItemOk event_code) r.events
  events-known = part-all label (All (ItemOk event_code)) (ItemsOk event_code) (λ l c. c.each) (some []) r.own_events r.events r.makers₄ k.events (good_none (ItemOk event_code))

  montage-known : All Small r.montage
  montage-known = part-all label (All Small) (MontageOk label r.channels) (λ l m. all_small (montage_group_of r) l (montage-channels label r.channels l m)) (some []) r.own_montage r.montage r.makers₅ k.montage (good_none Small)

  seconds-small : r.seconds < 256 ^ 4
  unfolding between
  seconds-small = let l : r.seconds ≤ 3600 = leb-true r.seconds 3600 (and-true (leb 1 r.seconds) _ k.frames.seconds).1 in omega arith

  recording-back : recording_words (recording_reading r) ≡ r
  recording-back = λ i. record {
    basic = basic-back k.basic i;
    own_channels = r.own_channels;
    channels = channels-back i;
    own_patient = r.own_patient;
    patient = maps-back item_reading item_words (ItemOk patient_code) (item_back patient_code) r.patient known.1 i;
    own_events = r.own_events;
    events = maps-back item_reading item_words (ItemOk event_code) (item_back event_code) r.events events-known i;
    own_montage = r.own_montage;
    montage = maps-back channel_reading channel_words Small channel-back r.montage montage-known i;
    seconds = unsigned_signed 4 r.seconds seconds-small i;
    frames = frames-back i;
    makers₁ = makers-back label r.makers₁ k.makers₁ i;
    makers₂ = makers-back label r.makers₂ (part-makers label (ChannelsOk (channels_group_of label r)) (held_channels held) r.own_channels r.channels r.makers₂ k.channels) i;
    makers₃ = makers-back label r.makers₃ (part-makers label (ItemsOk patient_code) (held_patient held) r.own_patient r.patient r.makers₃ k.patient) i;
    makers₄ = makers-back label r.makers₄ (part-makers label (ItemsOk event_code) (some []) r.own_events r.events r.makers₄ k.events) i;
    makers₅ = makers-back label r.makers₅ (part-makers label (MontageOk label r.channels) (some []) r.own_montage r.montage r.makers₅ k.montage) i;
    makers₆ = makers-back label r.makers₆ k.makers₆ i;
  }

recordings-back : (label : Label) (held : Option Held) → Good held → (rs : List Recording) → RecordingsOk label held rs → map recording_words (map recording_reading rs) ≡ rs
recordings-back label held g [] k = refl
recordings-back label held g (r ∷ rs) k = λ i. recording-back label held g r k.0 i ∷ recordings-back label (some (record { channels = r.channels; patient = r.patient })) (known label held g r k.0) rs k.1 i

-- the words of a reading that passes are those that it was read from
pub words_back : (v : Contents) → ContentsOk v → words_of (reading_of v) ≡ v
words_back v k = λ i. record { heading = v.heading; recordings = recordings-back v.heading.label none tt v.recordings k.recordings i }
