-- The rows of a recording's body, record by record.
-- Assumes nothing.
use mathlib.Core.Path.{◌≡◌, refl, sym, ap, ◌∙◌}
use mathlib.Core.Bool.{Bool, true, false, ◌||◌}
use mathlib.Core.List.{List, [], ◌∷◌, ◌++◌, append_assoc}
use mathlib.Core.Option.{Option}
use Prim.Native.Nat.{ℕ, ◌+◌, ◌-◌, ◌≤◌, ◌<◌}
use native.Mathlib.Nat.{mul_comm}
use native.Mathlib.Omega.{arith}
use borrow.Author.Tests.{leb-true, eqb-true, ne_eqb}
use lib.Dec.{leb, eqb}
use lib.IntN.{ℤ}
use lib.ListN.{length}
use Rattle.words.specs.Numbers.{number_at}
use Rattle.words.specs.declared.Order.{Order}
use Rattle.walk.specs.Walk.{Row, Walk, ◌>>=◌, ◌>>◌, require, text}
use Rattle.walk.specs.See.{goes, see}
use Rattle.walk.specs.Tell.{tell}
use Rattle.walk.proofs.Apart.{false-true}
use Rattle.walk.proofs.Seen.{and_left, stays-goes}
use Rattle.walk.proofs.Went.{gate-went}
use Rattle.walk.proofs.Told.{silent}
use Rattle.rules.specs.Rules.{most_of, Head, Held, Placed, head, span, maker_code, basic_body, channels, channels_body, items, items_body, patient_code, event_code, frames, frames_body, delimiter, padding, recording_body}
use Rattle.rules.specs.declared.Head as At
use Rattle.rules.specs.declared.Label.{Label}
use Rattle.rules.proofs.Room.{stays-head}
use Rattle.rules.proofs.Silent.{silent-basic_body, silent-padding}
use Rattle.records.specs.Says.{head_of, is_group}
use Rattle.records.proofs.Opened.{tell-head, admit-went}
use Rattle.children.specs.Children.{Said, said, ◌then◌, Known, known_of, Reads, Inner, is100, is_subs, is130, is200, is140, is_maker, Chain, Closed, RecordAt, NoRecord}
use Rattle.children.proofs.Chained.{body-chain}
use Rattle.children.proofs.Visiting.{chain-parted, chain-closed}
use Rattle.rows.specs.Listing.{channel_rows, frame_rows, held_rows, HasRoom, Wrote}
use Rattle.rows.proofs.Lists.{items-lists, channels-lists, frames-lists}
use Rattle.rows.proofs.Written.{wrote-join, wrote_nothing}

module _ (o : Order) (b : ℕ) (s : List ℕ) (p code : ℕ) where
  pub held-group : is_group code ≡ true → held_rows o b s p code ≡ channel_rows o b s p code
  unfolding held_rows
  held-group e = rw e

  pub held-140 : code ≡ 140 → held_rows o b s p code ≡ frame_rows o b s p
  unfolding held_rows is_group
  held-140 e = rw e

  pub held_none : is_group code ≡ false → (code ≡ 140 → ⊥) → held_rows o b s p code ≡ []
  unfolding held_rows
  held_none n₁ n₂ = rw (n₁, ne_eqb code 140 n₂)

-- the record at byte p with the head h is its row and those of the records that it holds, for which it has room
pub record Rowed (o : Order) (b : ℕ) (s : List ℕ) (p : ℕ) (h : Head) (rs : List Row) : Type 0 where
  pub fits : HasRoom o s p (p + span h) h.code
  pub rows : rs ≡ record { start = b + p; size = span h; code = h.code; serial = h.serial } ∷ held_rows o b s p h.code

module _ (o : Order) (b : ℕ) (s : List ℕ) (p : ℕ) (fit : p ≤ length s) where
  start : b + (p + 16) - 16 ≡ b + p
  start = omega arith

  -- a head lists nothing
  reads-rows : {A : Type 0} {w : Walk A} {l : Said} → Reads o b s p w l → l.rows ≡ tell o b s (b + (p + 16)) w
  unfolding said ◌then◌
  reads-rows r = ap (λ (l : Said). l.rows) r.says ∙ rw tell-head

  other : (h : Head) (rs : List Row) → is_group h.code ≡ false → (h.code ≡ 140 → ⊥) → rs ≡ record { start = b + (p + 16) - 16; size = span h; code = h.code; serial = h.serial } ∷ [] → Rowed o b s p h rs
  other h rs n₁ n₂ e = record { fits = record { channels = λ q. false-true (sym n₁ ∙ q); frames = λ q. absurd (n₂ q) }; rows = e ∙ rw (start, held_none o b s p h.code n₁ n₂) }

  items-rowed : (ok : ℕ → Bool) (h : Head) {code : ℕ} {l : Said} → h.code ≡ code → is_group code ≡ false → (code ≡ 140 → ⊥) → Reads o b s p (items ok (length s - p) h) l → Rowed o b s p h l.rows
  unfolding items
  items-rowed ok h q n₁ n₂ r =
      let n = eqb-true 0 h.serial (admit-went o b s (b + (p + 16)) (length s - p) 0 (leb 24) (eqb 0) h (items_body ok (span h)) r.is).number in
      other h _ (rw q n₁) (rw q n₂) (rw (reads-rows r, items-lists o b s ok (b + (p + 16)) (length s - p) h r.is, ← n))

  -- a record is one row, and those of the records that it holds
  pub inner-rows : {k : Known} {h : Head} {l : Said} → Inner o b s p k h l → Rowed o b s p h l.rows
  unfolding channels items frames is_group maker_code
  inner-rows {h} (is100 q r) =
      let d = admit-went o b s (b + (p + 16)) (length s - p) 0 (eqb 128) (eqb 0) h basic_body r.is in
      other h _ (rw q) (λ z. omega arith) (rw (reads-rows r, d.rows, silent o b s (b + (p + 16)) basic_body silent-basic_body))
  inner-rows {h} (is_subs g t q r) =
      let d = channels-lists o b s (p + 16) g (length s - p) h (omega arith) r.is in
      let n = eqb-true 0 h.serial (admit-went o b s (b + (p + 16)) (length s - p) 0 (leb 32) (eqb 0) h (channels_body g (span h)) r.is).number in
      let i : b + (p + 16 + 16) ≡ b + p + 32 = omega arith in
      let u : is_group h.code ≡ true = rw q t.group in
      record { fits = record { channels = λ _. omega (arith, d.0); frames = λ z. false-true (sym (ap is_group z) ∙ u) }; rows = rw (reads-rows r, d.1, ← n, held-group o b s p h.code u, start, i, q, t.code) }
  inner-rows {h} (is130 q r) = items-rowed patient_code h q refl (λ z. omega arith) r
  inner-rows {h} (is200 q r) = items-rowed event_code h q refl (λ z. omega arith) r
  inner-rows {k} {h} (is140 q r) =
      let d = frames-lists o b s (p + 16) k.label k.basic k.own k.channels k.back (length s - p) h (omega arith) r.is in
      let n = eqb-true 0 h.serial (admit-went o b s (b + (p + 16)) (length s - p) (most_of k.label) (leb 32) (eqb 0) h (require (k.own || eqb (length k.channels) k.basic.channels) 14 k.back >> frames_body k.label k.basic k.channels h) r.is).number in
      let i : b + (p + 16 + 16) ≡ b + p + 32 = omega arith in
      let j₁ : p + 16 + 4 ≡ p + 20 = omega arith in
      let j₂ : p + 16 + 8 ≡ p + 24 = omega arith in
      let e = rw (j₁, j₂) at d in
      record {
        fits = record { channels = λ z. false-true (sym (ap is_group q) ∙ z); frames = λ _. record { least = e.0; inside = omega (arith, e.1, mul_comm (number_at o 4 s (p + 20)) (number_at o 4 s (p + 24))) } };
        rows = rw (reads-rows r, e.2, ← n, held-140 o b s p h.code q, start, i);
      }
  inner-rows {k} {h} (is_maker q r) =
      let d = admit-went o b s (b + (p + 16)) (length s - p) (most_of k.label) (leb 16) (λ _. true) h (text (span h - 16)) r.is in
      let n : 1024 ≤ h.code = leb-true 1024 h.code (and_left (leb 1024 h.code) _ q) in
      let m : is_group h.code ≡ false = rw (ne_eqb h.code 120 (λ z. omega arith), ne_eqb h.code 320 (λ z. omega arith), ne_eqb h.code 350 (λ z. omega arith)) in
      other h _ m (λ z. omega arith) (rw (reads-rows r, d.rows, silent o b s (b + (p + 16)) (text (span h - 16)) (λ _. tt)))

  -- a delimiter is one row, and what pads the recording is none
  pub closed-rows : {l : Said} → Closed o b s p l → l.rows ≡ record { start = b + p; size = 16; code = 0; serial = 0 } ∷ []
  unfolding said ◌then◌ delimiter see tell ◌>>=◌ ◌>>◌
  closed-rows c =
      let g₁ = gate-went _ _ _ _ c.ends in
      let g₂ = gate-went _ _ _ _ g₁.1 in
      let g₃ = gate-went _ _ _ _ g₂.1 in
      let g₄ = gate-went _ _ _ _ g₃.1 in
      ap (λ (l : Said). l.rows) c.is ∙ rw (tell-head, g₁.0, g₂.0, g₃.0, g₄.0, silent o b s (b + (p + 16)) (padding (length s - p - 16)) (silent-padding (length s - p - 16)), start)

  pub closed-inside : {l : Said} → Closed o b s p l → p + 16 ≤ length s
  closed-inside c = let z = stays-goes o b s (b + p + (length s - p)) (omega arith) (head (length s - p)) (b + p) _ (omega arith) (stays-head (b + p) (length s - p)) c.stands in omega (arith, z.1)

-- of the rows rs those up to byte p are written
pub record Listed (o : Order) (b : ℕ) (s : List ℕ) (w : Bool) (out out₁ : List ℤ) (k k₁ p : ℕ) (rs : List Row) : Type 0 where
  pub done : List Row
  pub left : Said
  pub known : Known
  pub chain : Chain o b s known p left
  pub all : rs ≡ done ++ left.rows
  pub wrote : Wrote w out out₁ k k₁ done

module _ {o : Order} {b : ℕ} {s : List ℕ} {w : Bool} {out : List ℤ} {k : ℕ} where
  pub listed-none : (label : Label) (held : Option Held) (h : Head) (x : Placed) (e : ℕ) → span h ≡ 16 + length s → see o b s b (recording_body label held h) ≡ goes x e → Listed o b s w out out k k 0 (tell o b s b (recording_body label held h))
  unfolding said
  listed-none label held h x e n g = record { done = []; left = said o b s b (recording_body label held h); known = known_of label x; chain = body-chain o label b s held h n g; all = refl; wrote = wrote_nothing w out k }

  module _ {out₁ : List ℤ} {k₁ p : ℕ} {rs : List Row} (fit : p ≤ length s) (g : Listed o b s w out out₁ k k₁ p rs) where
    pub listed-all : {out₂ : List ℤ} {k₂ : ℕ} → NoRecord o b s p → Wrote w out₁ out₂ k₁ k₂ (record { start = b + p; size = 16; code = 0; serial = 0 } ∷ []) → Wrote w out out₂ k k₂ rs
    listed-all {out₂} {k₂} v y = rw (g.all, closed-rows o b s p fit (chain-closed o b s v g.chain)) (wrote-join w out out₁ out₂ k k₁ k₂ g.done _ g.wrote y)

    pub listed-short : {X : Type 0} → NoRecord o b s p → length s < p + 16 → X
    listed-short v l = absurd (omega (arith, closed-inside o b s p fit (chain-closed o b s v g.chain)))

    pub listed_more : {out₂ : List ℤ} {k₂ : ℕ} {h : At.Head} {q : ℕ} → RecordAt o b s p h q →
        (HasRoom o s h.at q h.code → Wrote w out₁ out₂ k₁ k₂ (record { start = b + h.at; size = q - h.at; code = h.code; serial = h.serial } ∷ held_rows o b s h.at h.code)) → Listed o b s w out out₂ k k₂ q rs
    unfolding ◌then◌
    listed_more {out₂} {k₂} {h} {q} v y =
        let d = chain-parted o b s v g.chain in
        let r = inner-rows o b s p fit d.inner in
        let i : q - p ≡ span (head_of h) = omega (arith, v.ends) in
        let z = rw i at ((rw v.place at y) (rw v.ends r.fits)) in
        record {
          done = g.done ++ d.own.rows;
          left = d.rest;
          known = g.known;
          chain = d.on;
          all = g.all ∙ ap (λ (l : Said). g.done ++ l.rows) d.is ∙ sym (append_assoc g.done d.own.rows d.rest.rows);
          wrote = wrote-join w out out₁ out₂ k k₁ k₂ g.done _ g.wrote (rw r.rows z);
        }
