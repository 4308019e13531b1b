-- What is written of a recording, and of all recordings of a file, from what each of the code's steps wrote.
-- Assumes nothing.
use Rattle.std.specs.Prelude as Std
use mathlib.Core.Path.{◌≡◌, refl, sym, ap, subst, ◌∙◌}
use mathlib.Core.Bool.{true}
use mathlib.Core.List.{List, [], ◌∷◌, ◌++◌, append_assoc, append-nil}
use mathlib.Core.Option.{Option, none}
use Prim.Native.Nat.{ℕ, ◌+◌, ◌-◌, ◌≤◌, ◌<◌}
use native.Mathlib.Nat.{zero-add}
use native.Mathlib.Omega.{arith}
use borrow.Author.Tests.{eqb-true}
use lib.Dec.{leb, eqb}
use lib.ListN.{length, get_or, set, take, drop, length-append, length-drop}
use lib.Seq.{take-add, take_all, drop-drop, length-take-le}
use Rattle.words.specs.Numbers.{bytes_at}
use Rattle.words.specs.Runs.{pasted}
use Rattle.words.proofs.Runs.{set-pasted, more-written}
use Rattle.walk.specs.Walk.{Letter, laid, Walk, ◌>>=◌, ◌>>◌}
use Rattle.walk.specs.See.{goes, see, Stays}
use Rattle.walk.specs.Trace.{trace, written}
use Rattle.walk.proofs.Laid.{laid-text, length-laid}
use Rattle.walk.proofs.Seen.{see-part, stays-goes, body-length}
use Rattle.walk.proofs.Tracing.{written-append, written_none, written-piece}
use Rattle.walk.proofs.Went.{gate-went}
use Rattle.rules.specs.Rules as R
use Rattle.rules.specs.Rules.{most_of, head, coded, admit, span, recording_body, recording, file_header}
use Rattle.rules.specs.declared.Channels.{Channels}
use Rattle.rules.specs.declared.Head.{Head}
use Rattle.rules.proofs.Room.{stays-recording_body, stays-recording, stays-recordings}
use Rattle.records.specs.Says.{head_of, subs_at, ChannelsStand}
use Rattle.children.specs.Children.{Said, said, Known, known_of, Inner, Chain, RecordAt, NoRecord, ◌then◌}
use Rattle.children.proofs.Chained.{body-chain}
use Rattle.children.proofs.Visiting.{chain-parted, chain-closed}
use Rattle.children.specs.Recordings.{all_of, ReadAs}
use Rattle.children.proofs.Saying.{nothing}
use Rattle.descriptions.specs.declared.Places.{Places}
use Rattle.children.proofs.Recordings.{Begun, begun}
use Rattle.children.proofs.Again.{Next}
use Rattle.rows.proofs.Body.{closed-inside}
use Rattle.bodies.specs.Copy.{copy, Pastes, HoldsFrom}
use Rattle.bodies.specs.declared.Way.{Way}
use Rattle.bodies.proofs.Copying.{copy-bind, copy-admit, copy-part, length-copy, holds-join, pastes-join, pastes-nothing}
use Rattle.transcripts.specs.Transcript.{anew, Copied, Transcribed}
use Rattle.transcripts.proofs.Transcribing.{inner-140, anew-then, Copying, copying-none, copying-more, closed-bytes}
use Rattle.turn.specs.Steps.{FramesSent, ChildSent, LastSent}
use Rattle.turn.proofs.Turning.{filled-first, read-part, copy-require}

-- a record of a recording: its 140, or any other
module _ (w : Way) (file : List ℕ) (cs : Channels) (s : List ℕ) (h : Head) (q : ℕ) (out out' : List ℕ) (k k' : ℕ) where
  pub child-140 : h.code ≡ 140 → FramesSent w file cs s h.at q out out' k k' → ChildSent w file cs s h q out out' k k'
  child-140 code x = record {
    inside = x.inside;
    wrote = λ b known same l stop subs i.
        x.wrote b known.basic known.own known.channels known.back (head_of h) l stop subs (rw same at (inner-140 i code));
  }

  pub child-other : (h.code ≡ 140 → ⊥) → Transcribed w s h q out out' k k' → ChildSent w file cs s h q out out' k k'
  child-other other x = record { inside = x.inside; wrote = λ b known same l stop subs i. x.wrote b known l stop other i }

-- the records of a body that the walk accepted as x, written up to byte p
pub record SentUpTo (w : Way) (b : ℕ) (s : List ℕ) (known : Known) (out out₁ : List ℕ) (k k₁ p : ℕ) (all : List ℕ) : Type 0 where
  pub sent : Copying (anew w) (Chain w.from b s known) out out₁ k k₁ p all

module _ {w : Way} {b : ℕ} {s out : List ℕ} {k : ℕ} where
  pub sent-none : (held : Option R.Held) (h : R.Head) (x : R.Placed) (e : ℕ) → span h ≡ 16 + length s →
      see w.from b s b (recording_body w.label held h) ≡ goes x e →
      SentUpTo w b s (known_of w.label x) out out k k 0 (copy w b s b (recording_body w.label held h))
  unfolding said
  sent-none held h x e n g = record { sent = copying-none (said w.from b s b (recording_body w.label held h)) (body-chain w.from w.label b s held h n g) }

  module _ {known : Known} {out₁ : List ℕ} {k₁ p : ℕ} {all : List ℕ} (out₂ : List ℕ) (g : SentUpTo w b s known out out₁ k k₁ p all) where
    -- one more, with the head h and up to q
    pub sent-more : (k₂ : ℕ) {h : Head} {q : ℕ} (v : RecordAt w.from b s p h q) →
        ((l : Said) → q ≡ h.at + span (head_of h) → Inner w.from b s h.at known (head_of h) l → Copied w l out₁ out₂ k₁ k₂) →
        SentUpTo w b s known out out₂ k k₂ q all
    sent-more k₂ v wrote = let d = chain-parted w.from b s v g.sent.links in
        record { sent = copying-more g.sent (anew-then w) d out₂ k₂ ((rw v.place at wrote) d.own v.ends d.inner) }

    -- the delimiter, and the bytes behind it
    pub sent-last : p ≤ length s → NoRecord w.from b s p → LastSent w s p out₁ out₂ k₁ → HoldsFrom out out₂ k all
    sent-last fit ends last =
        let c = chain-closed w.from b s ends g.sent.links in
        rw (g.sent.is, closed-bytes w b s p fit c) (holds-join out out₁ out₂ k k₁ k₁ g.sent.done _ g.sent.wrote
        (last (closed-inside w.from b s p fit c) b (length s - p)))

-- the bytes of a recording that the walk accepted: those of its head, and of its body
begun-bytes : (w : Way) (s : List ℕ) (p : ℕ) (held : Option R.Held) (i : ℕ) {x : R.Placed} {e : ℕ} (v : Begun w.from w.label s p held i x e) →
    copy w 0 s p (recording w.label held (length s - p) i) ≡ copy w 0 s p (head (length s - p)) ++ copy w 0 s (p + 16) (recording_body w.label held v.opens.top)
unfolding recording
begun-bytes w s p held i v =
    let room : ℕ = length s - p in
    let h = v.opens.top in
    let k : R.Head → Walk R.Placed = λ h. coded h 10 >> (admit room (most_of w.label) (leb 16) (eqb i) h >> recording_body w.label held h) in
    copy-bind w 0 s p (head room) k v.opens.first
    ∙ ap (λ (q : List ℕ). copy w 0 s p (head room) ++ q)
    (copy-require w 0 s (p + 16) (eqb h.code 10) 9 12 (admit room (most_of w.label) (leb 16) (eqb i) h >> recording_body w.label held h) ∙ copy-admit w 0 s
    (p + 16) room (most_of w.label) (leb 16) (eqb i) h (recording_body w.label held h))

-- the recording from byte p of the file up to q
module _ (w : Way) (s : List ℕ) (p q : ℕ) where
  -- one that ends before its body begins was not accepted
  pub recording-short : (held : Option R.Held) (i : ℕ) {x : R.Placed} → q < p + 16 → see w.from 0 s p (recording w.label held (length s - p) i) ≡ goes x q → ⊥
  recording-short held i l g = let v = begun w.from w.label s p held i g in omega (arith, v.least, v.ends)

  abbrev within : List ℕ
  within = take (q - (p + 16)) (drop (p + 16) s)

  -- the code wrote its head, and its body as a part of the file
  pub recording-copied : (at count : ℕ) (out out₁ out₂ : List ℕ) (k : ℕ) → length s ≤ length out →
      ((b room : ℕ) → Pastes out out₁ p k (copy w b s (b + p) (head room))) →
      ((held : Option R.Held) (h : R.Head) (x : R.Placed) (e : ℕ) → span h ≡ 16 + length within →
      ChannelsStand w.from s (subs_at at count) x.recording.channels → see w.from (p + 16) within (p + 16) (recording_body w.label held h) ≡ goes x e →
      HoldsFrom out₁ out₂ k (copy w (p + 16) within (p + 16) (recording_body w.label held h))) →
      (held : Option R.Held) (i : ℕ) (x : R.Placed) → see w.from 0 s p (recording w.label held (length s - p) i) ≡ goes x q →
      ChannelsStand w.from s (subs_at at count) x.recording.channels → out₂ ≡ pasted out p (copy w 0 s p (recording w.label held (length s - p) i))
  recording-copied at count out out₁ out₂ k fit first later held i x g stand =
      let v = begun w.from w.label s p held i g in
      let u : Walk R.Placed = recording_body w.label held v.opens.top in
      let xs : List ℕ = copy w 0 s p (head (length s - p)) in
      let l : 16 + length within ≡ q - p = body-length p q s (omega (arith, v.ends, v.least)) v.inside in
      let z : p + 16 + (span v.opens.top - 16) ≡ p + 16 + (q - (p + 16)) = omega (arith, v.ends, v.least) in
      let stays = rw z at (stays-recording_body w.label held v.opens.top (p + 16) v.least) in
      let f : p + 16 + (q - (p + 16)) ≤ length s = omega (arith, v.ends, v.least, v.inside) in
      let same : copy w (p + 16) within (p + 16) u ≡ copy w 0 s (p + 16) u =
      copy-part w 0 (p + 16) (p + 16) (q - (p + 16)) s (omega arith) f u (p + 16) _ (omega arith) stays v.opens.given.rest in
      let body = later held v.opens.top x q (omega (arith, l, v.ends)) stand
      (see-part w.from 0 (p + 16) (p + 16) (q - (p + 16)) s (omega arith) f u (p + 16) _ (omega arith) stays ∙ v.opens.given.rest) in
      let n = length-copy w 0 s (p + (length s - p)) (omega (arith, v.ends, v.inside)) (recording w.label held (length s - p) i) p _ (omega arith)
      (stays-recording w.label held i p (length s - p)) g in
      let m : p + length (xs ++ copy w (p + 16) within (p + 16) u) ≤ length out =
      subst (λ (y : List ℕ). p + length y ≤ length out) (begun-bytes w s p held i v ∙ ap (λ (y : List ℕ). xs ++ y) (sym same))
      (omega (arith, n, v.inside)) in
      holds-join out out₁ out₂ p k k xs (copy w (p + 16) within (p + 16) u) (rw zero-add at (first 0 (length s - p))) body m ∙ ap (pasted out p)
      (ap (λ (y : List ℕ). xs ++ y) same ∙ sym (begun-bytes w s p held i v))

-- where there is room, the bytes xs stand behind the file header, and the next go at k
pub record AfterHeader (out out' : List ℕ) (k : ℕ) (xs : List ℕ) : Type 0 where
  pub is : Pastes out out' 32 k xs

module _ {out out₁ : List ℕ} {k : ℕ} {xs : List ℕ} where
  pub after_more : AfterHeader out out₁ k xs → (out₂ : List ℕ) (k₂ : ℕ) (ys : List ℕ) → Pastes out₁ out₂ k k₂ ys → AfterHeader out out₂ k₂ (xs ++ ys)
  after_more h out₂ k₂ ys g = record { is = pastes-join out out₁ out₂ 32 k k₂ xs ys h.is g }

-- a header, which a call wrote as ys into the buffer, and what then came behind it
pub whole-file : {out₁ out zs : List ℕ} {k : ℕ} → AfterHeader out₁ out k zs → (out₀ ys xs : List ℕ) → 32 ≤ length out₀ → ys ≡ xs → length out₁ ≡ length out₀ →
    out₁ ≡ ys ++ drop 32 out₀ → 32 + length zs ≤ length out₀ → out ≡ pasted out₀ 0 (xs ++ zs)
whole-file {out₁} {out} {zs} h out₀ ys xs f e l e₁ room =
    let m : length ys ≡ 32 = omega (arith, f, l, ap length e₁, length-append ys (drop 32 out₀), length-drop 32 out₀) in
    (h.is (omega (arith, l, room))).1 ∙ (more-written out₀ out₁ ys zs 32 (e₁ ∙ filled-first out₀ ys 32 m) (sym m) ∙ ap
    (λ (l : List ℕ). pasted out₀ 0 (l ++ zs)) e)

-- what is written of what was said
module _ (w : Way) where
  abbrev pub sent_of : Said → List ℕ
  sent_of l = written w.keep w.to l.events

  pub sent-first : (out : List ℕ) → AfterHeader out out 32 (sent_of nothing)
  sent-first out = record { is = rw (written_none w.keep w.to) (pastes-nothing out 32) }

  module _ {s : List ℕ} {p : ℕ} where
    -- one recording more: the code has its places q, and wrote it where it stands in the file
    pub sent-next : {i : ℕ} {before : Std.Option Places} {held : Option R.Held} {q : Places} {x : R.Placed} → p ≤ length s →
        Next w.from w.label s p i before held q x → {out₀ out : List ℕ} (l : Said) (out' : List ℕ) →
        ((held : Option R.Held) (j : ℕ) (y : R.Placed) → see w.from 0 s p (recording w.label held (length s - p) j) ≡ goes y q.end →
        ChannelsStand w.from s (subs_at q.channels q.count) y.recording.channels →
        out' ≡ pasted out p (copy w 0 s p (recording w.label held (length s - p) j))) →
        AfterHeader out₀ out p (sent_of l) → AfterHeader out₀ out' q.end (sent_of (l then said w.from 0 s p (recording w.label held (length s - p) (i + 1))))
    unfolding said ◌then◌
    sent-next {i} {held = held} {q} {x} fit n l out' copied h =
        let m = length-copy w 0 s (p + (length s - p)) (omega arith) (recording w.label held (length s - p) (i + 1)) p _ (omega arith)
        (stays-recording w.label held (i + 1) p (length s - p)) n.is in
        rw (written-append w.keep w.to l.events) (after_more h out' q.end _ (λ _. (sym m, copied held (i + 1) x n.is n.stands)))

  -- all of them are as long as they were
  pub sent-length : (s : List ℕ) (count : ℕ) {ps : List R.Placed} {e : ℕ} → 32 ≤ length s → ReadAs w.from w.label s count ps e →
      32 + length (sent_of (said w.from 0 s 32 (all_of w.label count s))) ≤ length s
  unfolding said
  sent-length s count f g =
      let stays = stays-recordings w.label count none (length s - 32) 1 (length s) 32 (omega arith) in
      let m = stays-goes w.from 0 s (length s) (omega arith) (all_of w.label count s) 32 _ (omega arith) stays g in
      omega (arith, length-copy w 0 s (length s) (omega arith) (all_of w.label count s) 32 _ (omega arith) stays g, m)

-- the file header: texts, and the letter
bytes-split : (n m k : ℕ) (s : List ℕ) → bytes_at (n + m) s k ≡ bytes_at n s k ++ bytes_at m s (k + n)
unfolding bytes_at
bytes-split n m k s = take-add n m (drop k s) ∙ rw drop-drop

-- one number that is the letter of a little-endian file
one-letter : (l : List ℕ) → length l ≡ 1 → eqb (get_or l 0 0) 76 ≡ true → l ≡ 76 ∷ []
one-letter [] e h = absurd (omega (arith, e))
one-letter (x ∷ []) e h = ap (λ (y : ℕ). y ∷ []) (eqb-true x 76 h)
one-letter (x ∷ y ∷ l) e h = absurd (omega (arith, e))

module _ (w : Way) (s : List ℕ) (n : ℕ) where
  header-letter : {f : R.FileHeader} {e : ℕ} → see w.from 0 s 0 (file_header n) ≡ goes f e → eqb (get_or (laid w.from Letter (bytes_at 1 s 16)) 0 0) 76 ≡ true
  unfolding file_header see ◌>>=◌ ◌>>◌
  header-letter g =
      let g₁ = gate-went _ _ _ _ g in
      let g₂ = gate-went _ _ _ _ g₁.1 in
      let g₃ = gate-went _ _ _ _ g₂.1 in
      let g₄ = gate-went _ _ _ _ g₃.1 in
      (gate-went _ _ _ _ g₄.1).0

  header-bytes : copy w 0 s 0 (file_header n) ≡ bytes_at 8 s
      0 ++ (bytes_at 6 s 8 ++ (bytes_at 2 s 14 ++ (laid w.to Letter
      (laid w.from Letter (bytes_at 1 s 16)) ++ (bytes_at 1 s 17 ++ (bytes_at 4 s 18 ++ bytes_at 10 s 22)))))
  unfolding file_header trace ◌>>=◌ ◌>>◌
  header-bytes = simp (written-piece, written_none, laid-text, append-nil)

  stays-header : Stays 32 0 (file_header n) (λ _ _. Unit {0})
  unfolding file_header ◌>>=◌ ◌>>◌
  stays-header = λ _. (
    omega arith,
    λ _ _ _. (
      omega arith,
      λ _ _ _.
          (omega arith, λ _ _ _. (omega arith, λ _ _ _. (omega arith, λ _ _ _. (omega arith, λ _ _ _. (omega arith, λ _ _ _. tt))))),
    ),
  )

  -- its first 32 bytes are all that it reads: ys is what a call wrote of them
  pub header-first : {f : R.FileHeader} (ys : List ℕ) → 32 ≤ length s → see w.from 0 s 0 (file_header n) ≡ goes f 32 →
      ((m : ℕ) (y : R.FileHeader) (e : ℕ) → see w.from 0 (take 32 s) 0 (file_header m) ≡ goes y e → ys ≡ copy w 0 (take 32 s) 0 (file_header m)) →
      ys ≡ copy w 0 s 0 (file_header n)
  header-first {f} ys l g first =
      first n f 32 (see-part w.from 0 0 0 32 s refl l (file_header n) 0 _ (omega arith) stays-header ∙ g) ∙
      (read-part w 0 0 0 32 s (file_header n) refl l stays-header g refl).0

  -- the code wrote the letter v, and all other bytes as they stand
  pub header-copied : (v : ℕ) {f : R.FileHeader} {e : ℕ} → length s ≡ 32 → laid w.to Letter (76 ∷ []) ≡ v ∷ [] → see w.from 0 s 0 (file_header n) ≡ goes f e →
      set s 16 v ≡ copy w 0 s 0 (file_header n)
  unfolding pasted bytes_at
  header-copied v l h g =
      let a : laid w.from Letter (bytes_at 1 s 16) ≡ 76 ∷ [] =
      one-letter _ (length-laid w.from Letter (bytes_at 1 s 16) ∙ length-take-le 1 (drop 16 s) (rw length-drop (omega arith))) (header-letter g) in
      let b : take 16 s ≡ bytes_at 8 s 0 ++ (bytes_at 6 s 8 ++ bytes_at 2 s 14) =
      bytes-split 8 8 0 s ∙ ap (λ (l : List ℕ). bytes_at 8 s 0 ++ l) (bytes-split 6 2 8 s) in
      let c : drop 17 s ≡ bytes_at 1 s 17 ++ (bytes_at 4 s 18 ++ bytes_at 10 s 22) =
      sym (take_all 15 (drop 17 s) (rw length-drop (omega arith))) ∙
      (bytes-split 1 14 17 s ∙ ap (λ (l : List ℕ). bytes_at 1 s 17 ++ l) (bytes-split 4 10 18 s)) in
      let d : take 16 s ++ (v ∷ drop 17 s) ≡ (bytes_at 8 s 0 ++ (bytes_at 6 s 8 ++ bytes_at 2 s 14)) ++
      (v ∷ (bytes_at 1 s 17 ++ (bytes_at 4 s 18 ++ bytes_at 10 s 22))) =
      ap (λ (l : List ℕ). l ++ (v ∷ drop 17 s)) b ∙ ap (λ (l : List ℕ). (bytes_at 8 s 0 ++ (bytes_at 6 s 8 ++ bytes_at 2 s 14)) ++ (v ∷ l)) c in
      let j : (bytes_at 8 s 0 ++ (bytes_at 6 s 8 ++ bytes_at 2 s 14)) ++ (v ∷ (bytes_at 1 s 17 ++ (bytes_at 4 s 18 ++ bytes_at 10 s 22))) ≡ bytes_at 8 s
      0 ++ (bytes_at 6 s 8 ++ (bytes_at 2 s 14 ++ (v ∷ (bytes_at 1 s 17 ++ (bytes_at 4 s 18 ++ bytes_at 10 s 22))))) = simp append_assoc in
      set-pasted s 16 v (omega arith) ∙ (d ∙ (j ∙ sym (header-bytes ∙ rw (a, h))))
