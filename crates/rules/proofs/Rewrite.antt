-- Rewriting: the canonical file of an accepted file is accepted and has its reading; it depends on the reading and the order alone, and is the only one.
-- Assumes nothing.
use mathlib.Core.Path.{◌≡◌, sym, ap, ◌∙◌}
use mathlib.Core.List.{List, [], ◌∷◌}
use mathlib.Core.Option.{Option, none, some}
use Prim.Native.Nat.{ℕ, ◌+◌, ◌≤◌}
use lib.ListN.{length}
use Rattle.words.specs.Numbers.{Bytes}
use Rattle.words.specs.declared.Order.{Order}
use Rattle.walk.specs.Walk.{Event, size, render, passed}
use Rattle.walk.proofs.Laws.{length-render}
use Rattle.rules.specs.Canonical.{anew, canonical, rewritten, Canonical, multiplier_for, frames_bytes, content}
use Rattle.rules.specs.Reading.{Reading, reading, reading_of}
use Rattle.rules.specs.Words.{words_of}
use Rattle.rules.specs.Rules.{most_of, Label, File, Contents, contents, order_of, judge, file, channels, Held, Recording}
use Rattle.rules.specs.Turned.{turned}
use Rattle.rules.proofs.Canon.{ContentsOk, file-ok, file-plays, RecordingsOk}
use Rattle.rules.proofs.Renew.{All}
use Rattle.rules.proofs.Sized.{served}
use Rattle.rules.proofs.Turn.{judge-render, accepted, is-render, turn-judge, order-of-render, bytes-render}
use Rattle.rules.proofs.Valued.{words_back}

pub rewritten-of : (o : Order) (s : List ℕ) {v : File} {r : List ℕ} {t : List Event} → judge s ≡ passed v r t → rewritten o s ≡ render o (canonical (reading v))
unfolding rewritten
rewritten-of o s h = rw (rewritten, h)

module _ (s : List ℕ) (b : Bytes s) {v : File} {r : List ℕ} {t : List Event} (h : judge s ≡ passed v r t) where
  ok : ContentsOk (contents v)
  ok = file-ok (length s) (accepted s b h).plays

  -- the words of an accepted file are those of its reading
  pub reading-words : words_of (reading v) ≡ contents v
  reading-words = words_back (contents v) ok

  anew-of : (o : Order) → rewritten o s ≡ render o (anew (contents v))
  anew-of o = rewritten-of o s h ∙ ap (λ (x : Contents). render o (anew x)) reading-words

  -- the rewrite is accepted, its reading is the file's, and it is canonical
  pub rewrite-canonical : (o : Order) → Canonical (reading v) (rewritten o s)
  rewrite-canonical o =
      let a = file-plays (contents v) ok in
      record {
        file = a.file;
        judged = rw (anew-of o, reading-words) (judge-render a.plays o);
        same = ap reading_of a.same;
      }

  pub rewrite-order : (o : Order) → order_of (rewritten o s) ≡ o
  rewrite-order o = ap order_of (anew-of o) ∙ order-of-render (size (anew (contents v))) (file-plays (contents v) ok).plays o

  pub rewrite-bytes : (o : Order) → Bytes (rewritten o s)
  rewrite-bytes o = rw (anew-of o) (bytes-render (file-plays (contents v) ok).plays o)

  pub rewrite-length : (o : Order) → length (rewritten o s) ≡ size (canonical (reading v))
  rewrite-length o = ap length (rewritten-of o s h) ∙ length-render o (canonical (reading v))

  -- a file and its turned copy have one canonical file, and so has a rewrite
  pub rewrite-turned : (o : Order) → rewritten o (turned s) ≡ rewritten o s
  rewrite-turned o = rewritten-of o (turned s) (turn-judge s b h) ∙ sym (rewritten-of o s h)

  pub rewrite-rewritten : (o o' : Order) → rewritten o (rewritten o' s) ≡ rewritten o s
  rewrite-rewritten o o' =
      let c = rewrite-canonical o' in
      rewritten-of o (rewritten o' s) c.judged ∙ ap (λ (x : Reading). render o (canonical x)) c.same ∙ sym (rewritten-of o s h)

-- it depends on the reading and the order alone
pub rewrite-same : (o : Order) (s s' : List ℕ) {v v' : File} {r r' : List ℕ} {t t' : List Event} → judge s ≡ passed v r t → judge s' ≡ passed v' r' t' → reading v ≡ reading v' → rewritten o s ≡ rewritten o s'
rewrite-same o s s' h k e = rewritten-of o s h ∙ ap (λ (x : Reading). render o (canonical x)) e ∙ sym (rewritten-of o s' k)

-- in one order a reading has one canonical file
pub canonical-unique : (v : Reading) (s s' : List ℕ) → Bytes s → Bytes s' → Canonical v s → Canonical v s' → order_of s ≡ order_of s' → s ≡ s'
canonical-unique v s s' b b' c d e = is-render s b c.judged ∙ rw e (sym (is-render s' b' d.judged))

-- a canonical file rewritten in its own order is itself
pub rewrite-itself : (v : Reading) (s : List ℕ) → Bytes s → Canonical v s → rewritten (order_of s) s ≡ s
rewrite-itself v s b c = rewritten-of (order_of s) s c.judged ∙ ap (λ (x : Reading). render (order_of s) (canonical x)) c.same ∙ sym (is-render s b c.judged)

-- the multipliers of a recording and of its 140, written anew, are those that the file's version allows: an older file never needs one
abbrev pub Low : Label → Recording → Type 0
Low label r = (multiplier_for (16 + size (content label r)) ≤ most_of label) × (multiplier_for (frames_bytes r.seconds r.channels r.frames) ≤ most_of label)

recordings-low : (label : Label) (held : Option Held) (rs : List Recording) → RecordingsOk label held rs → All (Low label) rs
recordings-low label held [] k = tt
recordings-low label held (r ∷ rs) k = (
  (served (16 + size (content label r)) (most_of label) k.0.long, served (frames_bytes r.seconds r.channels r.frames) (most_of label) k.0.frames.total),
  recordings-low label (some (record { channels = r.channels; patient = r.patient })) rs k.1,
)

pub multipliers-low : (s : List ℕ) → Bytes s → {v : File} {r : List ℕ} {t : List Event} → judge s ≡ passed v r t → All (Low v.heading.label) (contents v).recordings
multipliers-low s b {v} h = recordings-low v.heading.label none (contents v).recordings (ok s b h).recordings
