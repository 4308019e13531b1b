-- No position is cut off at 0: each refusal and each row of the rules lies back at most as many bytes as were read.
-- Assumes nothing.
use mathlib.Core.Path.{◌≡◌, ◌∙◌}
use mathlib.Core.Bool.{Bool, true, false, ◌&&◌}
use mathlib.Core.List.{List, [], ◌∷◌}
use mathlib.Core.Option.{Option, none, some}
use Prim.Native.Nat.{ℕ, zero, suc, ◌+◌, ◌*◌, ◌-◌, ◌≤◌}
use native.Mathlib.Nat.{add-zero, zero-add}
use native.Mathlib.Omega.{arith}
use borrow.Author.Tests.{leb-true}
use lib.Dec.{leb, eqb}
use lib.ListN.{length}
use Rattle.walk.specs.Walk.{Walk, give, refuse, Outcome, refused, passed, run, size, ◌>>=◌, ◌>>◌, pick, text}
use Rattle.walk.proofs.Laws.{Spent, spent}
use Rattle.walk.specs.See.{Stays}
use Rattle.walk.proofs.Seen.{stays-bind}
use Rattle.walk.proofs.Reach.{stays-grows, Reaches, reaches-bind, reaches-any, reaches_then, reaches-next, reaches-require, Later, run-later}
use Rattle.rules.specs.Rules.{event_table, most_of, head, Head, span, coded, admit, exactly, fixed, basic_body, basic, Label, Sub, Group, channels_group, montage_group, anything, field_if, channel_body, channel, Basic, channels_body, channels, montage, item, item_size, item_list, items_body, items, series, zeros, padding, Channel, width, samples_in, sample_bytes, number_list, samples, frame_body, frame, pad_ok, frames_body, frames, Next, next, maker_code, Part, part, delimiter, Held, held_channels, held_patient, patient_code, event_code, descriptions, count_back, signals, recording_body, recording, recordings, file_header, File, file, order_of, whole, judge}
use Rattle.rules.proofs.Steps.{body-steps}
use Rattle.rules.proofs.Cases.{by_form}
use Rattle.rules.proofs.Room.{stays-table, Behind, stays-head, stays-admit, stays-basic, stays-item_list, Rests, stays-channels_rest, stays-montage_rest, stays-items_rest, stays-frames_rest, stays-next, stays-part, stays-delimiter}
use Rattle.rules.proofs.Refusals.{room}

-- a record: its head, and what is said of it from behind the head

reaches-head : (at rest : ℕ) → Reaches at (head rest)
unfolding head ◌>>=◌ ◌>>◌
reaches-head at room = (omega arith, λ _ _ _ _ _. tt)

reaches-admit : (rest most : ℕ) (fits serial : ℕ → Bool) (h : Head) (at : ℕ) → 16 ≤ at → Reaches at (admit rest most fits serial h)
unfolding admit ◌>>=◌ ◌>>◌
reaches-admit rest most fits serial h at g = (omega arith, λ _. (omega arith, λ _. (omega arith, λ _. (omega arith, tt))))

reaches-record : {A : Type 0} (code most : ℕ) (fits : Head → ℕ → Bool) (serial : ℕ → Bool) (body : Head → Walk A) (at rest : ℕ) →
    ((h : Head) → fits h (span h) ≡ true → Reaches (at + 16) (body h)) →
    Reaches at (head rest >>= λ h. coded h code >> (admit rest most (fits h) serial h >> body h))
reaches-record code most fits serial body at rest k =
    reaches-bind _ _ _ _ _ (stays-head at rest) (reaches-head at rest)
    (λ h e q. reaches-require _ 9 12 _ _ (omega (arith, q.0))
    (λ _. reaches_then _ _ _ _ _ (stays-admit rest most (fits h) serial h (at + rest) e) (reaches-admit rest most (fits h) serial h e (omega (arith, q.0)))
    (λ _ x v. rw (v.0 ∙ q.0) (k h v.1))))

reaches-fixed : {A : Type 0} (size code serial : ℕ) (body : Walk A) → ((at : ℕ) → Reaches at body) → (at rest : ℕ) → Reaches at (fixed (exactly size code serial) body rest)
unfolding fixed
reaches-fixed size code serial body k at rest = reaches-record code 0 (λ _. eqb size) (eqb serial) (λ _. body) at rest (λ h f. k (at + 16))

-- 100; 120, 320 and 350, and their subs

reaches-basic_body : (at : ℕ) → Reaches at basic_body
unfolding basic_body ◌>>=◌ ◌>>◌
reaches-basic_body at = λ _. (omega arith, λ _ _. (omega arith, λ _ _. (omega arith, λ _ _. (omega arith, λ _ _. (omega arith, λ _ _. (omega arith, λ _ _. (omega arith, λ _ _. (omega arith, λ _ _. (omega arith, λ _ _ _ _. (omega arith, λ _ _ _. tt))))))))))

reaches-basic : (at rest : ℕ) → Reaches at (basic rest)
reaches-basic = reaches-fixed 128 100 0 basic_body reaches-basic_body

reaches-field_if : {A : Type 0} (c : Bool) (ok : ℕ → Bool) (f : ℕ → Walk A) (at : ℕ) → ((n : ℕ) → Reaches (at + 4) (f n)) → Reaches at (field_if c ok >>= f)
unfolding field_if ◌>>=◌
reaches-field_if true ok f at k = λ n. (omega arith, λ _. k n)
reaches-field_if false ok f at k = k 0

reaches-channel_body : (k : Sub) (at : ℕ) → Reaches at (channel_body k)
unfolding channel_body ◌>>=◌ ◌>>◌
reaches-channel_body k at = λ _. (omega arith, λ _ _ _. (omega arith, λ _ _. (omega arith, λ _ _. (omega arith, λ _ _ _ _ _. reaches-field_if k.calibrated anything _ _ λ _ _ _. reaches-field_if k.calibrated anything _ _ λ _ _ _ _ _. reaches-field_if k.wired k.input _ _ λ _. reaches-field_if k.wired k.input _ _ λ _ _ _. tt))))

reaches-series : {A : Type 0} (step : ℕ) (w : ℕ → ℕ → Walk A) → ((i at rest : ℕ) → Reaches at (w rest i)) → (n i rest at : ℕ) → Reaches at (series n i step rest w)
unfolding series
reaches-series step w k zero i rest at = tt
reaches-series step w k (suc n) i rest at = reaches-any (w rest i) _ at (k i at rest) (λ a e. reaches-any (series n (suc i) step (rest - step) w) _ e (reaches-series step w k n (suc i) (rest - step) e) (λ _ _. tt))

reaches-channels_body : (g : Group) (n at : ℕ) → Reaches at (channels_body g n)
unfolding channels_body ◌>>=◌ ◌>>◌
reaches-channels_body g n at = λ m. (omega arith, λ _. (omega arith, λ _. (omega arith, λ _ _. (omega arith, λ _. reaches-series 256 (channel g.sub) (λ i. reaches-fixed 256 g.sub.code i (channel_body g.sub) (reaches-channel_body g.sub)) m 1 (n - 32) _))))

-- 130 and 200

reaches-item : (ok : ℕ → Bool) (rest at : ℕ) → Reaches at (item ok rest)
unfolding item ◌>>=◌ ◌>>◌
reaches-item ok rest at = (omega arith, λ _ _ _. (omega arith, λ _. (omega arith, λ _ _ _. tt)))

reaches-item_list : (ok : ℕ → Bool) (n rest at : ℕ) → Reaches at (item_list ok n rest)
unfolding item_list
reaches-item_list ok zero rest at = tt
reaches-item_list ok (suc n) rest at = reaches-any _ _ _ (reaches-item ok rest at) (λ i e. reaches-any _ _ _ (reaches-item_list ok n (rest - item_size i) e) (λ _ _. tt))

-- the count lies behind all items
reaches-items_body : (ok : ℕ → Bool) (n at : ℕ) → Reaches at (items_body ok n)
unfolding items_body ◌>>=◌ ◌>>◌
reaches-items_body ok n at = λ count. (omega arith, λ _. reaches-bind (item_list ok count (n - 24)) _ _ (at + 4 + 4) _ (stays-item_list ok count (n - 24) (at + 4 + 4)) (reaches-item_list ok count (n - 24) (at + 4 + 4)) (λ is e q. (omega (arith, q.0), λ _. tt)))

-- 140 and 145

reaches-zeros : (at : ℕ) (bs : List ℕ) → length bs ≤ at → Reaches at (zeros bs)
unfolding zeros
reaches-zeros at [] h = tt
reaches-zeros at (b ∷ bs) h = (omega arith, λ _. reaches-zeros at bs (omega arith))

reaches-padding : (n at : ℕ) → Reaches at (padding n)
unfolding padding
reaches-padding n at = λ bs e. reaches-zeros (at + n) bs (omega arith)

reaches-numbers : (w n at : ℕ) → Reaches at (number_list w n)
unfolding number_list ◌>>=◌
reaches-numbers w zero at = tt
reaches-numbers w (suc n) at = λ v. reaches-any (number_list w n) (λ l. give (v ∷ l)) (at + w) (reaches-numbers w n (at + w)) (λ _ _. tt)

reaches-samples : (t : ℕ) (cs : List Channel) (at : ℕ) → Reaches at (samples t cs)
unfolding samples
reaches-samples t [] at = tt
reaches-samples t (c ∷ cs) at = reaches-any _ _ _ (reaches-numbers (width c.format) (samples_in t c) at) (λ s e. reaches-any _ _ _ (reaches-samples t cs e) (λ _ _. tt))

reaches-frame_body : (n t : ℕ) (cs : List Channel) (at : ℕ) → Reaches at (frame_body n t cs)
unfolding frame_body ◌>>=◌ ◌>>◌
reaches-frame_body n t cs at = λ _. (omega arith, λ _ _. (omega arith, λ _ _. (omega arith, λ _. reaches-any (samples t cs) _ _ (reaches-samples t cs _) (λ ss e. reaches-any (padding (n - (24 + sample_bytes t cs))) _ _ (reaches-padding _ e) (λ _ _. tt)))))

reaches-frame : (label : Label) (n t : ℕ) (cs : List Channel) (i at rest : ℕ) → Reaches at (frame label n t cs rest i)
unfolding frame
reaches-frame label n t cs i at rest = reaches-record 145 (most_of label) (λ h m. eqb m n && pad_ok h (m - (24 + sample_bytes t cs))) (eqb i) (λ _. frame_body n t cs) at rest (λ h f. reaches-frame_body n t cs (at + 16))

reaches-frames_body : (label : Label) (b : Basic) (cs : List Channel) (h : Head) (at : ℕ) → Reaches at (frames_body label b cs h)
unfolding frames_body ◌>>=◌ ◌>>◌
reaches-frames_body label b cs h at = λ t. (
  omega arith,
  λ _. (
    omega arith,
    λ _ n. (
      omega arith,
      λ _ count. (
        omega arith,
        λ _. (
          omega arith,
          λ _.
              reaches-any (series count 1 n (span h - 32) (frame label n t cs)) _ _ (reaches-series n (frame label n t cs) (reaches-frame label n t cs) count 1 (span h - 32) _)
              (λ fs e. reaches-any (padding (span h - (32 + count * n))) _ _ (reaches-padding _ e) (λ _ _. tt)),
        ),
      ),
    ),
  ),
)

-- the rest of a record whose head is read, so that its 16 bytes lie behind
abbrev AfterHead : {A : Type 0} → (ℕ → Head → Walk A) → Type 0
AfterHead body = (rest : ℕ) (h : Head) (at : ℕ) → 16 ≤ at → Reaches at (body rest h)

reaches-channels : (g : Group) → AfterHead (channels g)
unfolding channels
reaches-channels g rest h at k = reaches-next _ _ _ (reaches-admit rest 0 (leb 32) (eqb 0) h at k) (λ e. reaches-channels_body g (span h) e)

reaches-montage : (label : Label) (cs : List Channel) → AfterHead (montage label cs)
unfolding montage
reaches-montage label cs = by_form (λ l. AfterHead (montage l cs)) label (λ rest h at k. omega arith) (reaches-channels (montage_group (length cs)))

reaches-items : (ok : ℕ → Bool) → AfterHead (items ok)
unfolding items
reaches-items ok rest h at g = reaches-next _ _ _ (reaches-admit rest 0 (leb 24) (eqb 0) h at g) (λ e. reaches-items_body ok (span h) e)

reaches-frames : (label : Label) (b : Basic) (own : Bool) (cs : List Channel) (back rest : ℕ) (h : Head) (at : ℕ) → 16 ≤ at → back ≤ at → Reaches at (frames label b own cs back rest h)
unfolding frames
reaches-frames label b own cs back rest h at g k =
    reaches_then _ _ _ _ _ (stays-admit rest (most_of label) (leb 32) (eqb 0) h at at) (reaches-admit rest (most_of label) (leb 32) (eqb 0) h at g)
    (λ _ e q. reaches-require _ 14 back _ _ (omega (arith, q.0)) (λ _. reaches-frames_body label b cs h e))

-- makers' records, and the parts that may be absent

reaches-pick : {A : Type 0} (c : Bool) (x y : Walk A) (at : ℕ) → Reaches at x → Reaches at y → Reaches at (pick c x y)
reaches-pick true x y at h k = h
reaches-pick false x y at h k = k

reaches-makers : (label : Label) (fuel rest at : ℕ) → Reaches at (next label fuel rest)
unfolding next
reaches-makers label zero rest at = omega arith
reaches-makers label (suc fuel) rest at =
    reaches-bind _ _ _ _ _ (stays-head at rest) (reaches-head at rest)
    (λ h e q. reaches-pick (maker_code h.code) _ _ _
    (reaches-next _ _ _ (reaches-admit rest (most_of label) (leb 16) (λ _. true) h e (omega (arith, q.0)))
    (λ x. reaches-any (text (span h - 16)) _ _ (λ _ _. tt) (λ body y. reaches-any _ _ _ (reaches-makers label fuel (rest - span h) y) (λ _ _. tt))))
    tt)

reaches-own : {A : Type 0} (own : Bool) (held : Option A) (n : Next) (w : Walk (Part A)) (at : ℕ) → 16 ≤ at → Reaches at w →
    Reaches {A = Part A} at (elim own [ true ↦ w | false ↦ elim held [ none ↦ refuse 9 12 | some a ↦ give (record { own = false; value = a; next = record { makers = []; head = n.head; room = n.room } }) ] ])
reaches-own true held n w at g k = k
reaches-own false none n w at g k = omega arith
reaches-own false (some a) n w at g k = tt

reaches-part : (label : Label) {A : Type 0} (fuel code : ℕ) (body : ℕ → Head → Walk A) → AfterHead body → (held : Option A) (n : Next) (at : ℕ) → 16 ≤ at → Reaches at (part label fuel code body held n)
unfolding part
reaches-part label fuel code body k held n at g =
    reaches-own (eqb n.head.code code) held n _ at g
    (reaches-any _ _ _ (k n.room n.head at g) (λ a e. reaches-any _ _ _ (reaches-makers label fuel (n.room - span n.head) e) (λ _ _. tt)))

reaches-table : (label : Label) (fuel : ℕ) (n : Next) (at : ℕ) → 16 ≤ at → Reaches at (event_table label fuel n)
unfolding event_table
reaches-table label fuel n at g = reaches-require _ 9 12 _ _ (omega arith) (λ _. reaches-part label fuel 200 (items event_code) (reaches-items event_code) (some []) n at g)

reaches-delimiter : (h : Head) (at : ℕ) → 16 ≤ at → Reaches at (delimiter h)
unfolding delimiter ◌>>=◌ ◌>>◌
reaches-delimiter h at g = (omega arith, λ _. (omega arith, λ _. (omega arith, λ _. (omega arith, λ _. (omega arith, tt)))))

-- a recording: 100's count of channels and all that was used lie behind its own head
pub reaches-recording_body : (label : Label) (held : Option Held) (h : Head) (at : ℕ) → 16 ≤ at → 16 ≤ span h → Reaches at (recording_body label held h)
unfolding signals
reaches-recording_body label held h at g s =
    rw body-steps (
    let L : ℕ = at + (span h - 16) in
    reaches-bind _ _ _ _ _ (stays-basic at (span h - 16)) (reaches-basic at (span h - 16))
    (λ b e₁ q₁. reaches-bind _ _ _ _ _ (stays-next label (span h) (span h - 144) (span h) L e₁ (omega (arith, q₁)) (omega (arith, q₁)) (omega (arith, q₁))) (reaches-makers label (span h) (span h - 144) e₁)
    (λ n e₂ q₂. let k : Group = channels_group label b.channels in
    reaches-bind _ _ _ _ _ (stays-part label (span h) k.code (channels k) (stays-channels_rest k) (held_channels held) n L e₂ q₂) (reaches-part label (span h) k.code (channels k) (reaches-channels k) (held_channels held) n e₂ (omega (arith, q₂.1, q₂.2)))
    (λ c e₃ q₃. reaches-bind _ _ _ _ _ (stays-part label (span h) 130 (items patient_code) (stays-items_rest patient_code) (held_patient held) c.next L e₃ q₃) (reaches-part label (span h) 130 (items patient_code) (reaches-items patient_code) (held_patient held) c.next e₃ (omega (arith, q₃.1, q₃.2)))
    (λ p e₄ q₄. reaches-bind _ _ _ _ _ (stays-table label (span h) p.next L e₄ q₄) (reaches-table label (span h) p.next e₄ (omega (arith, q₄.1, q₄.2)))
    (λ e e₅ q₅. reaches-bind _ _ _ _ _ (stays-part label (span h) 350 (montage label c.value) (stays-montage_rest label c.value) (some []) e.next L e₅ q₅) (reaches-part label (span h) 350 (montage label c.value) (reaches-montage label c.value) (some []) e.next e₅ (omega (arith, q₅.1, q₅.2)))
    (λ m e₆ q₆. reaches-require _ 9 12 _ _ (omega (arith, q₆.1, q₆.2))
    (λ _. reaches-bind _ _ _ _ _ (stays-frames_rest label b c.own c.value _ m.next.room m.next.head L e₆ q₆.2) (reaches-frames label b c.own c.value _ m.next.room m.next.head e₆ (omega (arith, q₆.1, q₆.2)) (omega (arith, q₆.1, q₆.2)))
    (λ f e₇ q₇. reaches-bind _ _ _ _ _ (stays-next label (span h) (m.next.room - span m.next.head) (span h) L e₇ (omega (arith, q₆.1)) (omega (arith, q₆.1)) q₇.2) (reaches-makers label (span h) (m.next.room - span m.next.head) e₇)
    (λ d e₈ q₈. reaches_then _ _ _ _ _ (stays-delimiter d.head L e₈) (reaches-delimiter d.head e₈ (omega (arith, q₈.1, q₈.2)))
    (λ _ e₉ q₉. reaches-require _ 14 _ _ _ (omega (arith, q₈.0, q₈.1, q₈.2, q₉))
    (λ _. reaches-require _ 10 0 _ _ (omega arith)
    (λ _. reaches-next _ _ _ (reaches-padding (d.room - 16) e₉) (λ _. tt))))))))))))))

reaches-recording : (label : Label) (held : Option Held) (i at rest : ℕ) → Reaches at (recording label held rest i)
unfolding recording
reaches-recording label held i at rest = reaches-record 10 (most_of label) (λ _. leb 16) (eqb i) (recording_body label held) at rest (λ h f. reaches-recording_body label held h (at + 16) (omega arith) (leb-true 16 (span h) f))

reaches-recordings : (label : Label) (n : ℕ) (held : Option Held) (rest i at : ℕ) → Reaches at (recordings label n held rest i)
unfolding recordings
reaches-recordings label zero held rest i at = tt
reaches-recordings label (suc n) held rest i at = reaches-any _ _ _ (reaches-recording label held i at rest) (λ x e. reaches-any _ _ _ (reaches-recordings label n (some (record { channels = x.recording.channels; patient = x.recording.patient })) (rest - x.layout.bytes) (suc i) e) (λ _ _. tt))

reaches-file_header : (n at : ℕ) → Reaches at (file_header n)
unfolding file_header ◌>>=◌ ◌>>◌
reaches-file_header n at =
    (omega arith, λ _ _ _. (omega arith, λ _ _ _. (omega arith, λ _ _ _. (omega arith, λ _ _ _. (omega arith, λ _ _ _. (omega arith, λ _ _ _. (omega arith, λ _ _ _. (omega arith, λ _. tt))))))))

-- the whole walk, from the first byte
pub reaches-file : (n : ℕ) → Reaches 0 (file n)
unfolding file
reaches-file n = reaches-any _ _ _ (reaches-file_header n 0) (λ f e. reaches-any _ _ _ (reaches-recordings f.heading.label f.count none (n - 32) 1 e) (λ _ _. tt))

-- what is left over is refused where it begins
whole-later : (k n : ℕ) (x y : Outcome File) → Spent n x → Later k 0 x y → Later k 0 (whole n x) (whole (k + n) y)
unfolding whole
whole-later k n (refused m p) y h l = rw l
whole-later k n (passed v [] t) y h l = (rw l.0, l.1)
whole-later k n (passed v (b ∷ r) t) y h l = rw l.0 (let e : k + n - suc (length r) ≡ k + (n - suc (length r)) = omega arith in rw e)

-- Were the file's first byte at position k, every refusal would lie at k + p and every row k bytes later, and all else would be as it is:
-- so no subtraction in a position ever stops at 0
pub no-position-cut : (s : List ℕ) (k : ℕ) → Later k 0 (judge s) (whole (k + length s) (run (order_of s) k s (file (length s))))
unfolding judge
no-position-cut s k =
    whole-later k (length s) (run (order_of s) 0 s (file (length s))) _ (spent (file (length s)) (order_of s) 0 s)
    (rw add-zero at (run-later (order_of s) k (file (length s)) (length s) 0 s _ (zero-add (length s)) (room (length s)) (reaches-file (length s))))

-- The two that lie further back than their own record are cut off nowhere either. Parts only go on
part-grows : (label : Label) {A : Type 0} (fuel code : ℕ) (body : ℕ → Head → Walk A) → Rests body → (held : Option A) (n : Next) (L at low : ℕ) → Behind L fuel n at × (low ≤ at) → Stays L at (part label fuel code body held n) (λ p e. Behind L fuel p.next e × (low ≤ e))
part-grows label fuel code body k held n L at low q = stays-grows (part label fuel code body held n) L at low (λ p. Behind L fuel p.next) q.1 (stays-part label fuel code body k held n L at q.0)

-- of a recording that begins at `start`, 100's count of channels is told 36 bytes into it, from behind the head of the 140
pub count-place : (label : Label) (held : Option Held) (h : Head) (start : ℕ) → 16 ≤ span h → Stays (start + span h) (start + 16) (descriptions label held (span h)) (λ t e. e - count_back (span h) t.montage.next.room ≡ start + 36)
unfolding descriptions
count-place label held h start s =
    let L : ℕ = start + span h in
    let l : start + 16 + (span h - 16) ≡ L = omega arith in
    let low : ℕ = start + 144 in
    stays-bind _ _ _ _ _ _ (rw l at (stays-basic (start + 16) (span h - 16)))
    (λ b e₁ q₁. stays-bind _ _ _ _ _ _ (stays-grows (next label (span h) (span h - 144)) L e₁ low (Behind L (span h)) (omega (arith, q₁)) (stays-next label (span h) (span h - 144) (span h) L e₁ (omega (arith, q₁)) (omega (arith, q₁)) (omega (arith, q₁))))
    (λ n e₂ q₂. let g : Group = channels_group label b.channels in
    stays-bind _ _ _ _ _ _ (part-grows label (span h) g.code (channels g) (stays-channels_rest g) (held_channels held) n L e₂ low q₂)
    (λ c e₃ q₃. stays-bind _ _ _ _ _ _ (part-grows label (span h) 130 (items patient_code) (stays-items_rest patient_code) (held_patient held) c.next L e₃ low q₃)
    (λ p e₄ q₄. stays-bind _ _ _ _ _ _ (stays-grows (event_table label (span h) p.next) L e₄ low (λ x. Behind L (span h) x.next) q₄.1 (stays-table label (span h) p.next L e₄ q₄.0))
    (λ e e₅ q₅. stays-bind _ _ _ _ _ _ (part-grows label (span h) 350 (montage label c.value) (stays-montage_rest label c.value) (some []) e.next L e₅ low q₅)
    (λ m e₆ q₆. omega (arith, q₆.0.2, q₆.1)))))))

-- and all that a recording has used, told from behind its delimiter, begins where it begins
pub used-place : (start bytes : ℕ) (n : Next) (e : ℕ) → Behind (start + bytes) bytes n e → e - (bytes - (n.room - 16)) ≡ start
used-place start bytes n e q = omega (arith, q.0, q.1, q.2)
