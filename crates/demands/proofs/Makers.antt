-- The code field of a file's first maker's record lies in the file: every record is listed behind its first 16 bytes.
-- Assumes nothing.
use mathlib.Core.Path.{◌≡◌, refl}
use mathlib.Core.Bool.{Bool, true, false}
use mathlib.Core.List.{List, [], ◌∷◌}
use mathlib.Core.Option.{Option, none, some}
use Prim.Native.Nat.{ℕ, zero, suc, ◌+◌, ◌-◌, ◌≤◌}
use native.Mathlib.Omega.{arith}
use lib.Dec.{eqb}
use lib.ListN.{length}
use Rattle.words.specs.Numbers.{Bytes}
use Rattle.walk.specs.Plays.{Plays, gives, checks, numbers, reads, skips, lists}
use Rattle.walk.specs.Walk.{pick, Event, numeral, piece, blank, row, size, rows, Walk, give, refuse, check, number, read, skip, list, ◌>>=◌, ◌>>◌, passed}
use Rattle.walk.proofs.Apart.{none-some}
use Rattle.walk.proofs.Told.{Silent}
use Rattle.rules.specs.Rules.{most_of, event_table, series, file_header, Head, head, span, admit, Rule, coded_by, admit_by, fixed, Basic, basic_body, basic, basic_rule, Channel, channel_body, channel, channel_rule, channels_body, channels, patient_code, event_code, items_body, items, sample_bytes, frame_rule, frame_body, frame, frames_body, frames, maker_code, Next, next, Part, part, Held, held_channels, held_patient, delimiter, padding, Descriptions, descriptions, signals, recording_rule, recording_body, recording, recordings, File, file, judge, Sub, Group, channels_group, montage_group, montage}
use Rattle.rules.specs.declared.Label.{Label}
use Rattle.rules.proofs.Cases.{by_form}
use Rattle.rules.proofs.Silent.{silent-basic_body, silent-padding, silent-frame_body, silent-channel_body, silent-items_body}
use Rattle.rules.proofs.Turn.{accepted, tiled}
use Rattle.judge.proofs.Accepted.{accepted-long}
use Rattle.makers.specs.Makers.{first_maker}
use Rattle.demands.specs.Demands.{header_judged}

-- a walk that lists each row 16 bytes back
module _ {A : Type 0} where
  abbrev Back : Walk A → Type 0
  Back (give a) = Unit {0}
  Back (refuse n p) = Unit {0}
  Back (check c n p w) = Back w
  Back (number n f) = (v : ℕ) → Back (f v)
  Back (read k n f) = (bs : List ℕ) → Back (f bs)
  Back (skip n w) = Back w
  Back (list p l c m w) = (p ≡ 16) × Back w

  silent-back : (w : Walk A) → Silent w → Back w
  silent-back (give a) h = tt
  silent-back (refuse n p) h = tt
  silent-back (check c n p w) h = silent-back w h
  silent-back (number n f) h = λ v. silent-back (f v) (h v)
  silent-back (read k n f) h = λ bs. silent-back (f bs) (h bs)
  silent-back (skip n w) h = silent-back w h
  silent-back (list p l c m w) h = absurd h

  back-pick : (c : Bool) (w v : Walk A) → Back w → Back v → Back (pick c w v)
  back-pick true w v h g = h
  back-pick false w v h g = g

module _ {A B : Type 0} where
  back-bind : (w : Walk A) (k : A → Walk B) → Back w → ((a : A) → Back (k a)) → Back (w >>= k)
  unfolding ◌>>=◌
  back-bind (give a) k h g = g a
  back-bind (refuse n p) k h g = tt
  back-bind (check c n p w) k h g = back-bind w k h g
  back-bind (number n f) k h g = λ v. back-bind (f v) k (h v) g
  back-bind (read κ n f) k h g = λ bs. back-bind (f bs) k (h bs) g
  back-bind (skip n w) k h g = back-bind w k h g
  back-bind (list p l c m w) k h g = (h.0, back-bind w k h.1 g)

  back-then : (w : Walk A) (v : Walk B) → Back w → Back v → Back (w >> v)
  unfolding ◌>>◌
  back-then w v h g = back-bind w (λ _. v) h (λ _. g)

-- so does the rules' walk

back_head : (room : ℕ) → Back (head room)
unfolding head ◌>>=◌ ◌>>◌
back_head room = λ _ _ _ _. tt

back-admit : (room most : ℕ) (fits serial : ℕ → Bool) (h : Head) → Back (admit room most fits serial h)
unfolding admit ◌>>=◌ ◌>>◌
back-admit room most fits serial h = (refl, tt)

-- the rest of a record whose head is read, and a record by its rule
back-rest : {A : Type 0} (r : Rule) (room : ℕ) (h : Head) (body : Walk A) → Back body → Back (admit_by r room h >> body)
back-rest r room h body k = back-then (admit_by r room h) body (back-admit room r.most (r.fits h.multiplier) r.serial h) k

back-record : {A : Type 0} (r : Rule) (room : ℕ) (body : Head → Walk A) → ((h : Head) → Back (body h)) → Back (head room >>= λ h. coded_by r h >> (admit_by r room h >> body h))
back-record r room body k = back-bind (head room) _ (back_head room) (λ h. back-then (coded_by r h) _ tt (back-rest r room h (body h) (k h)))

back-basic : (room : ℕ) → Back (basic room)
unfolding fixed
back-basic room = back-record basic_rule room (λ _. basic_body) (λ _. silent-back basic_body silent-basic_body)

back-channel : (k : Sub) (room i : ℕ) → Back (channel k room i)
unfolding fixed
back-channel k room i = back-record (channel_rule k.code i) room (λ _. channel_body k) (λ _. silent-back (channel_body k) (silent-channel_body k))

back-series : {A : Type 0} (step : ℕ) (w : ℕ → ℕ → Walk A) → ((room i : ℕ) → Back (w room i)) → (n i room : ℕ) → Back (series n i step room w)
unfolding series
back-series step w k zero i room = tt
back-series step w k (suc n) i room = back-bind (w room i) _ (k room i) (λ _. back-bind (series n (suc i) step (room - step) w) _ (back-series step w k n (suc i) (room - step)) (λ _. tt))

back-channels : (g : Group) (room : ℕ) (h : Head) → Back (channels g room h)
unfolding channels channels_body admit ◌>>=◌ ◌>>◌
back-channels g room h = (refl, λ m _. back-series 256 (channel g.sub) (back-channel g.sub) m 1 (span h - 32))

back-montage : (label : Label) (cs : List Channel) (room : ℕ) (h : Head) → Back (montage label cs room h)
unfolding montage
back-montage label cs room h = by_form (λ l. Back (montage l cs room h)) label tt (back-channels (montage_group (length cs)) room h)

back_items : (ok : ℕ → Bool) (room : ℕ) (h : Head) → Back (items ok room h)
unfolding items
back_items ok room h = back-then _ (items_body ok (span h)) (back-admit room 0 _ _ h) (silent-back (items_body ok (span h)) (silent-items_body ok (span h)))

back-frame : (label : Label) (size t : ℕ) (cs : List Channel) (room i : ℕ) → Back (frame label size t cs room i)
unfolding frame
back-frame label size t cs room i = back-record (frame_rule label size (24 + sample_bytes t cs) i) room (λ _. frame_body size t cs) (λ _. silent-back (frame_body size t cs) (silent-frame_body size t cs))

back-padding : (n : ℕ) → Back (padding n)
back-padding n = silent-back (padding n) (silent-padding n)

back-frames : (label : Label) (b : Basic) (own : Bool) (cs : List Channel) (back room : ℕ) (h : Head) → Back (frames label b own cs back room h)
unfolding frames frames_body admit ◌>>=◌ ◌>>◌
back-frames label b own cs back room h =
    (refl, λ t size n. back-bind (series n 1 size (span h - 32) (frame label size t cs)) _ (back-series size (frame label size t cs) (back-frame label size t cs) n 1 (span h - 32)) (λ _. back-bind (padding _) _ (back-padding _) (λ _. tt)))

back-next : (label : Label) (fuel room : ℕ) → Back (next label fuel room)
unfolding next
back-next label zero room = tt
back-next label (suc fuel) room =
    back-bind (head room) _ (back_head room)
    (λ h. back-pick (maker_code h.code) _ _ (back-then _ _ (back-admit room (most_of label) _ _ h) (back-bind _ _ (λ _. tt) (λ _. back-bind (next label fuel (room - span h)) _ (back-next label fuel (room - span h)) (λ _. tt)))) tt)

back-own : {A : Type 0} (own : Bool) (held : Option A) (n : Next) (w : Walk (Part A)) → Back w →
    Back {A = Part A} (elim own [ true ↦ w | false ↦ elim held [ none ↦ refuse 9 12 | some a ↦ give (record { own = false; value = a; next = record { makers = []; head = n.head; room = n.room } }) ] ])
back-own true held n w h = h
back-own false none n w h = tt
back-own false (some a) n w h = tt

back-part : (label : Label) {A : Type 0} (fuel code : ℕ) (body : ℕ → Head → Walk A) → ((room : ℕ) (h : Head) → Back (body room h)) → (held : Option A) (n : Next) → Back (part label fuel code body held n)
unfolding part
back-part label fuel code body k held n = back-own (eqb n.head.code code) held n _ (back-bind _ _ (k n.room n.head) (λ _. back-bind _ _ (back-next label fuel (n.room - span n.head)) (λ _. tt)))

back-descriptions : (label : Label) (held : Option Held) (bytes : ℕ) → Back (descriptions label held bytes)
unfolding descriptions event_table
back-descriptions label held bytes =
    back-bind _ _ (back-basic (bytes - 16))
    (λ b. back-bind _ _ (back-next label bytes (bytes - 144))
    (λ n. back-bind _ _ (back-part label bytes _ _ (back-channels (channels_group label b.channels)) (held_channels held) n)
    (λ c. back-bind _ _ (back-part label bytes 130 (items patient_code) (back_items patient_code) (held_patient held) c.next)
    (λ p. back-bind _ _ (back-then _ _ tt (back-part label bytes 200 (items event_code) (back_items event_code) (some []) p.next))
    (λ e. back-bind _ _ (back-part label bytes 350 (montage label c.value) (back-montage label c.value) (some []) e.next)
    (λ _. tt))))))

back-delimiter : (h : Head) → Back (delimiter h)
unfolding delimiter ◌>>=◌ ◌>>◌
back-delimiter h = (refl, tt)

back-signals : (label : Label) (t : Descriptions) (h : Head) → Back (signals label t h)
unfolding signals
back-signals label t h =
    let last : Next = t.montage.next in
    back-then _ _ tt
    (back-bind _ _ (back-frames label t.basic t.channels.own t.channels.value _ last.room last.head)
    (λ _. back-bind _ _ (back-next label (span h) (last.room - span last.head))
    (λ d. back-then _ _ (back-delimiter d.head) (back-then _ _ tt (back-then _ _ tt (back-then _ _ (back-padding (d.room - 16)) tt))))))

back-recording : (label : Label) (held : Option Held) (room i : ℕ) → Back (recording label held room i)
unfolding recording recording_body
back-recording label held room i = back-record (recording_rule label i) room (recording_body label held) (λ h. back-bind _ _ (back-descriptions label held (span h)) (λ t. back-signals label t h))

back-recordings : (label : Label) (n : ℕ) (held : Option Held) (room i : ℕ) → Back (recordings label n held room i)
unfolding recordings
back-recordings label zero held room i = tt
back-recordings label (suc n) held room i = back-bind _ _ (back-recording label held room i) (λ x. back-bind _ _ (back-recordings label n (some (record { channels = x.recording.channels; patient = x.recording.patient })) (room - x.layout.bytes) (suc i)) (λ _. tt))

back-file_header : (n : ℕ) → Back (file_header n)
unfolding file_header ◌>>=◌ ◌>>◌
back-file_header n = λ _ _ _ _ _ _ _. tt

back-file : (n : ℕ) → Back (file n)
unfolding file
back-file n = back-bind _ _ (back-file_header n) (λ f. back-bind _ _ (back-recordings f.heading.label f.count none (n - 32) 1) (λ _. tt))

-- events with such rows
abbrev Backs : List Event → Type 0
Backs [] = Unit {0}
Backs (numeral w v ∷ t) = Backs t
Backs (piece k bs ∷ t) = Backs t
Backs (blank bs ∷ t) = Backs t
Backs (row p l c m ∷ t) = (p ≡ 16) × Backs t

backs : {A : Type 0} {t : List Event} {w : Walk A} {a : A} → Plays t w a → Back w → Backs t
backs gives h = tt
backs (checks e p) h = backs p h
backs (numbers {v} l p) h = backs p (h v)
backs (reads {bs} l b p) h = backs p (h bs)
backs (skips l b p) h = backs p h
backs (lists p) h = (h.0, backs p h.1)

-- the first maker's row among them, in a file of n bytes
inside : (t : List Event) → Backs t → (at n : ℕ) → at + size t ≤ n → 4 ≤ n → (p : ℕ) → first_maker (rows at t) ≡ some p → p ≤ n
unfolding rows size first_maker
inside [] h at n l m p e = none-some e
inside (numeral w v ∷ t) h at n l m p e = inside t h (at + w) n (omega arith) m p e
inside (piece k bs ∷ t) h at n l m p e = inside t h (at + length bs) n (omega arith) m p e
inside (blank bs ∷ t) h at n l m p e = inside t h (at + length bs) n (omega arith) m p e
inside (row q x c s ∷ t) h at n l m p e = go (maker_code c) (inside t h.1 at n l m p) e
  where
    go : (b : Bool) → (first_maker (rows at t) ≡ some p → p ≤ n) → pick b (some (at - q + 4)) (first_maker (rows at t)) ≡ some p → p ≤ n
    go true k e = let z : at - q + 4 ≡ p = cc in omega (arith, h.0)
    go false k e = k e

pub maker-inside : (s : List ℕ) → Bytes s → {v : File} {t : List Event} → judge s ≡ passed v [] t → (p : ℕ) → first_maker (rows 0 t) ≡ some p → p ≤ length s
maker-inside s b {v} {t} h p e =
    let l = accepted-long s (header_judged s v) (record { file = v; events = t; judged = h; order = refl; heading = refl; count = refl }) in
    inside t (backs (accepted s b h).plays (back-file (length s))) 0 (length s) (omega (arith, tiled s b h)) (omega (arith, l)) p e
