-- How much longer than the file its canonical file is: at most 128 bytes a recording, and nothing where no recording needs a multiplier.
-- Assumes nothing.
use mathlib.Core.Path.{◌≡◌}
use mathlib.Core.List.{List, [], ◌∷◌}
use mathlib.Core.Option.{Option, none}
use Prim.Native.Nat.{ℕ, zero, suc, ◌+◌, ◌*◌, ◌-◌, ◌≤◌}
use native.Mathlib.Omega.{arith}
use borrow.Author.Tests.{leb-true}
use lib.ListN.{length}
use Rattle.words.specs.Numbers.{Bytes}
use Rattle.words.specs.declared.Order.{Order}
use Rattle.walk.specs.Plays.{Plays}
use Rattle.walk.specs.Walk.{Event, size, ◌>>=◌, ◌>>◌, passed}
use Rattle.walk.proofs.Laws.{size-append, by-split, by-check, plays-gave}
use Rattle.rules.specs.Canonical.{most, frames_bytes, content, recording_events, header_events, anew, rewritten}
use Rattle.rules.specs.Rules.{FileHeader, file_header, Held, Recording, Placed, content_limit, recording, recordings, File, contents, file, judge}
use Rattle.rules.specs.declared.Label.{Label}
use Rattle.rules.proofs.Canon.{readings, file-ok, recording-size, header-size}
use Rattle.rules.proofs.Renewed.{recording-ok, recording-fits, frames-inside}
use Rattle.rules.proofs.Rewrite.{reading-words, rewrite-length}
use Rattle.rules.proofs.Sized.{sized, pad-under}
use Rattle.rules.proofs.Turn.{accepted}
use Rattle.room.specs.Room.{canonical_length, Each, ShortAnew}

-- the canonical length of a recording of which this holds is at most d more than its length was
abbrev pub Longer : ℕ → (Label → Recording → Type 0) → Type 0
Longer d P = (label : Label) (held : Option Held) (room i : ℕ) (t : List Event) (x : Placed) → Plays t (recording label held room i) x → P label x.recording →
    canonical_length label x.recording ≤ x.layout.bytes + d

-- where a multiplier of k serves a recording, it serves its 140 too, and each has less than k bytes of padding
served : (k : ℕ) → 1 ≤ k → Longer (2 * (k - 1)) (λ label r. 16 + size (content label r) ≤ k * most)
served k l label held room i t x p h =
    let r : Recording = x.recording in
    let n : ℕ = frames_bytes r.seconds r.channels r.frames in
    let f : n ≤ k * most = omega (arith, h, frames-inside label held r (recording-ok label held room i p), (sized n).serves) in
    omega (arith, (recording-fits label held room i p).less, pad-under n k l f, pad-under (16 + size (content label r)) k l h)

-- 65 serves any, since its content has a limit
pub recording-longer : Longer 128 (λ _ _. Unit {0})
recording-longer label held room i t x p _ =
    let r : Recording = x.recording in
    let k = recording-ok label held room i p in
    let n : ℕ = frames_bytes r.seconds r.channels r.frames in
    let f : 160 + n ≤ content_limit = omega (arith, k.limited, frames-inside label held r k, (sized n).serves) in
    served 65 (omega arith) label held room i t x p (omega (arith, k.limited, pad-under n 65 (omega arith) (omega (arith, f))))

-- 1 serves one that needs no multiplier
pub recording-no-longer : Longer 0 (λ label r. canonical_length label r ≤ most)
recording-no-longer label held room i t x p short = served 1 (omega arith) label held room i t x p
    (omega (arith, short, (sized (16 + size (content label x.recording))).serves))

each_all : (ps : List Placed) → Each (λ _. Unit {0}) ps
each_all [] = tt
each_all (p ∷ ps) = (tt, each_all ps)

header-room : (n : ℕ) {t : List Event} {f : FileHeader} → Plays t (file_header n) f → 32 ≤ n
unfolding file_header ◌>>=◌ ◌>>◌
header-room n p = by-check p λ h _. leb-true 32 n h

-- the recordings of a file, and the file
module _ (d : ℕ) (P : Label → Recording → Type 0) (longer : Longer d P) where
  recordings-longer : (label : Label) (n : ℕ) (held : Option Held) (room i j : ℕ) {t : List Event} {ps : List Placed} →
      Plays t (recordings label n held room i) ps → Each (P label) ps →
      size (recording_events label j (readings ps)) ≤ room + d * length ps
  unfolding recordings recording_events size
  recordings-longer label zero held room i j p = rw (plays-gave p) (λ _. omega arith)
  recordings-longer label (suc n) held room i j p =
      by-split (recording label held room i) _ p λ r _ _ r₀ p.
      by-split (recordings label n _ _ (suc i)) _ p λ ps _ _ q₀ p.
      rw (plays-gave p) (λ k.
      let w = recording-fits label held room i r₀ in
      let l = longer label held room i _ r r₀ k.0 in
      let m = recordings-longer label n _ _ (suc i) (suc j) q₀ k.1 in
      rw (size-append, recording-size) (omega (arith, w.inside, l, m)))

  file-longer : (n : ℕ) {t : List Event} {v : File} → Plays t (file n) v → Each (P v.heading.label) v.recordings →
      32 + size (recording_events v.heading.label 1 (contents v).recordings) ≤ n + d * length v.recordings
  unfolding file
  file-longer n p =
      by-split (file_header n) _ p λ f _ _ f₀ p.
      by-split (recordings f.heading.label f.count none (n - 32) 1) _ p λ ps _ _ r₀ p.
      rw (plays-gave p) (λ k. omega (arith, header-room n f₀, recordings-longer f.heading.label f.count none (n - 32) 1 1 r₀ k))

  anew-longer : (n : ℕ) {t : List Event} {v : File} → Plays t (file n) v → Each (P v.heading.label) v.recordings →
      size (anew (contents v)) ≤ n + d * length v.recordings
  unfolding anew
  anew-longer n {v} p k =
      let c = file-ok n p in
      let e = size-append (header_events v.heading (length (contents v).recordings)) (recording_events v.heading.label 1 (contents v).recordings) in
      let f = header-size v.heading (length (contents v).recordings) c.header in
      omega (arith, e, f, file-longer n p k)

  rewritten-longer : (s : List ℕ) → Bytes s → {v : File} {r : List ℕ} {t : List Event} → judge s ≡ passed v r t → Each (P v.heading.label) v.recordings →
      (o : Order) → length (rewritten o s) ≤ length s + d * length v.recordings
  rewritten-longer s b h k o = rw (rewrite-length s b h o, reading-words s b h) (anew-longer (length s) (accepted s b h).plays k)

module _ (s : List ℕ) (b : Bytes s) {v : File} {r : List ℕ} {t : List Event} (h : judge s ≡ passed v r t) (o : Order) where
  -- the canonical file is at most 128 bytes a recording longer than the file
  pub longer-at-most : length (rewritten o s) ≤ length s + 128 * length v.recordings
  longer-at-most = rewritten-longer 128 (λ _ _. Unit {0}) recording-longer s b h (each_all v.recordings) o

  -- and no longer, where no recording's canonical length exceeds 2,147,483,647
  pub no_longer : ShortAnew v → length (rewritten o s) ≤ length s
  no_longer k = omega (arith, rewritten-longer 0 (λ label r. canonical_length label r ≤ most) recording-no-longer s b h k o)
