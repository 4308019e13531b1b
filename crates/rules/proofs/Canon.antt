-- Recordings, header and file: what is accepted can be written anew, and is then accepted with the same contents.
-- Assumes nothing.
use mathlib.Core.Path.{◌≡◌, refl, ap, ◌∙◌}
use mathlib.Core.Bool.{Bool, true, false}
use mathlib.Core.List.{List, [], ◌∷◌, ◌++◌, map}
use mathlib.Core.Option.{Option, none, some}
use Prim.Native.Nat.{ℕ, zero, suc, ◌+◌, ◌*◌, ◌-◌, ◌/◌, ◌%◌, ◌^◌, ◌≤◌, ◌<◌}
use native.Mathlib.Omega.{arith}
use lib.Dec.{leb, ltb}
use borrow.Author.Tests.{leb-true, ltb-true, ltb-false, le-leb, lt-ltb, le-ltb, eq-eqb}
use lib.ListN.{length, get_or, replicate, length-map}
use Rattle.words.specs.Numbers.{Bytes}
use Rattle.walk.specs.Plays.{Plays, gives, checks, reads}
use Rattle.walk.specs.Walk.{Event, size, ◌>>=◌, ◌>>◌}
use Rattle.walk.proofs.Laws.{plays-bind, plays-give, size-append, zeros-length, by-split, by-check, by_read, plays-gave}
use Rattle.rules.specs.Canonical.{multiplier_for, most, zeroes, record_of, frames_bytes, content, recording_head, recording_events, digits, header_events, anew}
use Rattle.rules.specs.Rules.{most_of, between, padding, padded, maker_code, same_bytes, versioned, version_of, is_form, formed, form_of, all_spaces, decimal, count_of, count_fits, count_is, is_script, spelled, spelling_of, Label, Heading, FileHeader, file_header, span, Recording, Held, content_limit, Placed, recording, recordings, File, Contents, contents, file, channels}
use Rattle.rules.proofs.Cases.{most-low}
use Rattle.rules.proofs.Renew.{and-true, and_both, record-size}
use Rattle.rules.proofs.Renewed.{RecordingOk, recording-ok, Anew, recording-from}
use Rattle.rules.proofs.Sized.{sized, Sized, served}
use Rattle.rules.proofs.Named.{spells, versions, forms, formed-as}

-- A recording

-- its events, written anew
abbrev pub recording_written : Label → ℕ → Recording → List Event
recording_written label i r = record_of (recording_head label i r) (content label r ++ (zeroes (span (recording_head label i r) - (16 + size (content label r))) ∷ []))

pub recording-plays : (label : Label) (held : Option Held) (r : Recording) → RecordingOk label held r → (i room : ℕ) → i < 256 ^ 4 → span (recording_head label i r) ≤ room →
    Anew label held room i (recording_written label i r) r (span (recording_head label i r))
recording-plays label held r k i room b s =
    let T : ℕ = 16 + size (content label r) in
    let z : Sized T = sized T in
    let l : multiplier_for T ≤ most_of label = served T (most_of label) k.long in
    recording-from label held r k (recording_head label i r) (span (recording_head label i r) - T) (omega (arith, z.serves)) z.close i room
    (record { size = omega (arith, z.small); code = omega arith; serial = b; multiplier = omega (arith, most-low label) }) refl
    (record { low = l; small = omega (arith, z.small); fits = le-leb 16 (span (recording_head label i r)) (omega (arith, z.serves)); room = s; serial = eq-eqb i i refl })

pub recording-size : (label : Label) (i : ℕ) (r : Recording) → size (recording_written label i r) ≡ span (recording_head label i r)
unfolding size
recording-size label i r = rw (record-size, size-append, zeros-length) (omega (arith, (sized (16 + size (content label r))).serves))

-- The recordings

abbrev pub RecordingsOk : Label → Option Held → List Recording → Type 0
RecordingsOk label held [] = Unit {0}
RecordingsOk label held (r ∷ rs) = RecordingOk label held r × RecordingsOk label (some (record { channels = r.channels; patient = r.patient })) rs

abbrev pub readings : List Placed → List Recording
readings ps = map (λ p. p.recording) ps

pub recordings-ok : (label : Label) (n : ℕ) (held : Option Held) (room i : ℕ) {t : List Event} {ps : List Placed} → Plays t (recordings label n held room i) ps →
    (length ps ≡ n) × RecordingsOk label held (readings ps)
unfolding recordings
recordings-ok label zero held room i p = rw (plays-gave p) (refl, tt)
recordings-ok label (suc n) held room i p =
    by-split (recording label held room i) _ p λ r _ _ r₀ p.
    by-split (recordings label n _ _ (suc i)) _ p λ ps _ _ q₀ p.
    let j = recordings-ok label n _ _ (suc i) q₀ in
    rw (plays-gave p) (ap suc j.0, (recording-ok label held room i r₀, j.1))

-- a recording that plays its events written anew
pub record PlayedAnew (label : Label) (i : ℕ) (p : Placed) : Type 0 where
  pub held : Option Held
  pub room : ℕ
  pub plays : Plays (recording_written label i p.recording) (recording label held room i) p

abbrev pub EachAnew : Label → ℕ → List Placed → Type 0
EachAnew label i [] = Unit {0}
EachAnew label i (p ∷ ps) = PlayedAnew label i p × EachAnew label (suc i) ps

pub record AnewAll (label : Label) (held : Option Held) (room i : ℕ) (t : List Event) (rs : List Recording) : Type 0 where
  pub placed : List Placed
  pub same : readings placed ≡ rs
  pub each : EachAnew label i placed
  pub plays : Plays t (recordings label (length rs) held room i) placed

recordings-play : (label : Label) (rs : List Recording) (held : Option Held) → RecordingsOk label held rs → (i room : ℕ) → i + length rs ≤ 256 ^ 4 → size (recording_events label i rs) ≤ room →
    AnewAll label held room i (recording_events label i rs) rs
unfolding recordings recording_events
recordings-play label [] held k i room b s = record { placed = []; same = refl; each = tt; plays = gives }
recordings-play label (r ∷ rs) held k i room b s =
    let e = size-append (recording_written label i r) (recording_events label (suc i) rs) in
    let f = recording-size label i r in
    let a = recording-plays label held r k.0 i room (omega arith) (omega arith) in
    let c = recordings-play label rs _ k.1 (suc i) (room - a.layout.bytes) (omega arith) (rw a.bytes (omega arith)) in
    record { placed = record { recording = r; layout = a.layout } ∷ c.placed; same = ap (λ (x : List Recording). r ∷ x) c.same; each = (record { held = held; room = room; plays = a.plays }, c.each); plays = plays-bind _ a.plays (plays-give _ c.plays) }

-- The file header

byte_of : (s : List ℕ) → length s ≡ 1 → Bytes s → get_or s 0 0 < 256
byte_of [] l b = omega arith
byte_of (x ∷ s) l b = b.0

count_fits_lem : (x : Option ℕ) → count_fits x ≡ true → between 1 64 (count_is x) ≡ true
unfolding between padding padded maker_code
count_fits_lem none h = h
count_fits_lem (some k) h = h

pub record HeaderOk (g : Heading) (k : ℕ) : Type 0 where
  pub byte : g.script < 256
  pub form : is_form g.label.version (formed g.label.form) ≡ true
  pub letter : is_script g.label.version g.script ≡ true
  pub count : between 1 64 k ≡ true

pub header_ok : (n : ℕ) {t : List Event} {f : FileHeader} → Plays t (file_header n) f → HeaderOk f.heading f.count
unfolding file_header ◌>>=◌ ◌>>◌
header_ok n p =
    by-check p λ _ p. by_read p λ _ _ _ _ p. by-check p λ _ p. by_read p λ v _ _ _ p. by-check p λ _ p. by_read p λ form _ _ _ p. by-check p λ f p. by_read p λ _ _ _ _ p. by-check p λ _ p.
    by_read p λ script _ l b p. by-check p λ s p. by_read p λ digits _ _ _ p. by-check p λ c p. by_read p λ _ _ _ _ p. by-check p λ _ p.
    rw (plays-gave p) (record { byte = byte_of script l b; form = rw (← formed-as (version_of v) form f) f; letter = s; count = count_fits_lem (count_of digits) c })

digit : (v b : ℕ) (bs : List ℕ) → 48 ≤ b → b ≤ 57 → decimal v (b ∷ bs) ≡ decimal (10 * v + (b - 48)) bs
unfolding decimal between padding padded maker_code
digit v b bs h k = rw (decimal, and_both (leb 48 b) (leb b 57) (le-leb 48 b h) (le-leb b 57 k))

first : (b : ℕ) (bs : List ℕ) → 48 ≤ b → b ≤ 57 → count_of (b ∷ bs) ≡ decimal 0 (b ∷ bs)
unfolding count_of between padding padded maker_code
first b bs h k = rw (count_of, and_both (leb 48 b) (leb b 57) (le-leb 48 b h) (le-leb b 57 k))

pub one-digit : (k : ℕ) → k < 10 → digits k ≡ (48 + k) ∷ 32 ∷ 32 ∷ 32 ∷ []
unfolding digits
one-digit k h = rw (digits, lt-ltb k 10 h)

pub two_digits : (k : ℕ) → 10 ≤ k → digits k ≡ (48 + k / 10) ∷ (48 + k % 10) ∷ 32 ∷ 32 ∷ []
unfolding digits
two_digits k h = rw (digits, le-ltb k 10 h)

spaces-two : (v : ℕ) → decimal v (32 ∷ 32 ∷ []) ≡ some v
unfolding decimal all_spaces between padding padded maker_code
spaces-two v = refl

spaces-three : (v : ℕ) → decimal v (32 ∷ 32 ∷ 32 ∷ []) ≡ some v
unfolding decimal all_spaces between padding padded maker_code
spaces-three v = refl

record Digits (k : ℕ) (s : List ℕ) : Type 0 where
  count : count_of s ≡ some k
  long : length s ≡ 4
  bytes : Bytes s

digits-ok : (k : ℕ) → k ≤ 64 → Digits k (digits k)
digits-ok k h = go (ltb k 10) refl
  where
    go : (x : Bool) → ltb k 10 ≡ x → Digits k (digits k)
    go true e =
        let l : k < 10 = ltb-true k 10 e in
        let v : 10 * 0 + (48 + k - 48) ≡ k = omega arith in
        rw (one-digit k l) (record {
          count = first (48 + k) (32 ∷ 32 ∷ 32 ∷ []) (omega arith) (omega arith) ∙ digit 0 (48 + k) (32 ∷ 32 ∷ 32 ∷ []) (omega arith) (omega arith) ∙ spaces-three (10 * 0 + (48 + k - 48)) ∙ ap {B = Option ℕ} some v;
          long = refl;
          bytes = omega arith;
        })
    go false e =
        let l : 10 ≤ k = ltb-false k 10 e in
        let v : 10 * (10 * 0 + (48 + k / 10 - 48)) + (48 + k % 10 - 48) ≡ k = omega arith in
        let b : List ℕ = (48 + k % 10) ∷ 32 ∷ 32 ∷ [] in
        rw (two_digits k l) (record {
          count = first (48 + k / 10) b (omega arith) (omega arith) ∙ digit 0 (48 + k / 10) b (omega arith) (omega arith) ∙
              digit (10 * 0 + (48 + k / 10 - 48)) (48 + k % 10) (32 ∷ 32 ∷ []) (omega arith) (omega arith) ∙ spaces-two (10 * (10 * 0 + (48 + k / 10 - 48)) + (48 + k % 10 - 48)) ∙ ap {B = Option ℕ} some v;
          long = refl;
          bytes = omega arith;
        })

header_read : (g : Heading) (k n : ℕ) → HeaderOk g k → Digits k (digits k) → 32 ≤ n →
    Plays (header_events g k) (file_header n)
    (record { heading = record { spelling = spelling_of (spelled g.spelling); label = record { version = version_of (versioned g.label.version); form = form_of (formed g.label.form) }; script = g.script }; count = count_is (count_of (digits k)) })
unfolding header_events file_header same_bytes all_spaces ◌>>=◌ ◌>>◌ between padding padded maker_code
header_read g k n o d l =
    let c : count_fits (count_of (digits k)) ≡ true = rw d.count o.count in
    let w = spells g.spelling in
    let f = forms g.label.form in
    let f₁ : is_form (version_of (versioned g.label.version)) (formed g.label.form) ≡ true = rw (versions g.label.version).same o.form in
    let s₁ : is_script (version_of (versioned g.label.version)) g.script ≡ true = rw (versions g.label.version).same o.letter in
    let v = versions g.label.version in
    let b₄ : Bytes (76 ∷ []) = omega arith in
    let b₅ : Bytes (replicate 10 32) = omega arith in
    let b₆ : Bytes (g.script ∷ []) = (o.byte, tt) in
    checks (le-leb 32 n l) (reads w.long w.bytes (checks w.one (reads v.long v.bytes (checks v.one (reads f.long f.bytes (checks f₁ (reads refl b₄ (checks refl
    (reads refl b₆ (checks s₁ (reads d.long d.bytes (checks c (reads refl b₅ (checks refl gives))))))))))))))

pub header-plays : (g : Heading) (k n : ℕ) → HeaderOk g k → 32 ≤ n → Plays (header_events g k) (file_header n) (record { heading = g; count = k })
unfolding between padding padded maker_code
header-plays g k n o l =
    let d = digits-ok k (leb-true k 64 (and-true (leb 1 k) _ o.count).1) in
    let m : count_is (count_of (digits k)) ≡ k = ap count_is d.count in
    rw (m, (spells g.spelling).same, (versions g.label.version).same, (forms g.label.form).same) at (header_read g k n o d l)

pub header-size : (g : Heading) (k : ℕ) → HeaderOk g k → size (header_events g k) ≡ 32
unfolding header_events size between padding padded maker_code
header-size g k o = omega (arith, (spells g.spelling).long, (versions g.label.version).long, (forms g.label.form).long, (digits-ok k (leb-true k 64 (and-true (leb 1 k) _ o.count).1)).long)

-- The file

pub record ContentsOk (v : Contents) : Type 0 where
  pub header : HeaderOk v.heading (length v.recordings)
  pub recordings : RecordingsOk v.heading.label none v.recordings

pub file-ok : (n : ℕ) {t : List Event} {v : File} → Plays t (file n) v → ContentsOk (contents v)
unfolding file
file-ok n p =
    by-split (file_header n) _ p λ f _ _ f₀ p.
    by-split (recordings f.heading.label f.count none (n - 32) 1) _ p λ ps _ _ r₀ p.
    let j = recordings-ok f.heading.label f.count none (n - 32) 1 r₀ in
    let c : length (readings ps) ≡ f.count = length-map ps (λ q. q.recording) ∙ j.0 in
    rw (plays-gave p) (record { header = rw c (header_ok n f₀); recordings = j.1 })

pub record AnewFile (v : Contents) : Type 0 where
  pub file : File
  pub same : contents file ≡ v
  pub each : EachAnew v.heading.label 1 file.recordings
  pub plays : Plays (anew v) (Rattle.rules.specs.Rules.file (size (anew v))) file

pub file-plays : (v : Contents) → ContentsOk v → AnewFile v
unfolding file anew between padding padded maker_code
file-plays v k =
    let e = size-append (header_events v.heading (length v.recordings)) (recording_events v.heading.label 1 v.recordings) in
    let f = header-size v.heading (length v.recordings) k.header in
    let n = leb-true (length v.recordings) 64 (and-true (leb 1 (length v.recordings)) _ k.header.count).1 in
    let c = recordings-play v.heading.label v.recordings none k.recordings 1 (size (header_events v.heading (length v.recordings) ++ recording_events v.heading.label 1 v.recordings) - 32) (omega arith) (omega arith) in
    record {
      file = record { heading = v.heading; recordings = c.placed };
      same = λ i. record { heading = v.heading; recordings = c.same i };
      each = c.each;
      plays = plays-bind _ (header-plays v.heading (length v.recordings) _ k.header (omega arith)) (plays-give _ c.plays);
    }
