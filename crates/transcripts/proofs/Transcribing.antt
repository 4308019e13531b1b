-- What is written of the records of a recording, one after the other, from what each of the code's steps wrote.
-- Assumes nothing.
use mathlib.Core.Logic.{◌⊎◌, inl, inr}
use mathlib.Core.Path.{◌≡◌, refl, sym, ap, ◌∙◌}
use mathlib.Core.Bool.{Bool, true, false}
use mathlib.Core.List.{List, [], ◌∷◌, ◌++◌, append_assoc, append-nil}
use Prim.Native.Nat.{ℕ, ◌+◌, ◌-◌, ◌*◌, ◌≤◌, ◌<◌}
use native.Mathlib.Omega.{arith}
use borrow.Author.Tests.{leb-true, eqb-true}
use lib.Dec.{leb, eqb}
use lib.ListN.{length, take, drop}
use Rattle.words.specs.Numbers.{bytes_at, number_at}
use Rattle.words.specs.declared.Order.{Order}
use Rattle.walk.specs.See.{goes, see, Stays}
use Rattle.walk.specs.Trace.{trace}
use Rattle.walk.specs.Walk.{Padding, laid, Walk, text, ◌>>=◌, ◌>>◌}
use Rattle.walk.proofs.Apart.{false-true}
use Rattle.walk.proofs.Laid.{laid-padding}
use Rattle.walk.proofs.Seen.{and_left, stays-goes, see-body, body-length}
use Rattle.walk.proofs.Tracing.{written-append, written_none, written_row, written-piece}
use Rattle.rules.specs.Rules.{most_of, Head, Group, Channel, head, admit, span, zeros, padding, number_list}
use Rattle.rules.specs.Rules.{basic_body, channels, channels_body, items, items_body, patient_code, event_code, frames, maker_code, delimiter}
use Rattle.rules.specs.declared.Head as At
use Rattle.rules.proofs.Room.{stays-basic_body, stays-channels_body, stays-items_body}
use Rattle.records.specs.Says.{head_of, is_group, shape_of, HasShape}
use Rattle.records.proofs.Opened.{admit-went}
use Rattle.children.specs.Children.{Said, said, ◌then◌, Known, Reads, Inner, is100, is_subs, is130, is200, is140, is_maker, Links, Parted, Closed}
use Rattle.rows.proofs.Lists.{channels_body-lists}
use Rattle.bodies.specs.Copy.{copy, Pastes}
use Rattle.bodies.specs.declared.Way.{Way}
use Rattle.bodies.proofs.Copying.{copy-admit, copy_body, length-copy, pastes-join, pastes-nothing, pastes-whole, pastes-full}
use Rattle.bodies.proofs.Pieces.{Takes, copy_within, length-within, text-whole}
use Rattle.transcripts.specs.Transcript.{anew, Anew, Itemized, Bodied, Transcribed}

pub anew-then : (w : Way) (x y : Said) → anew w (x then y) ≡ anew w x ++ anew w y
unfolding ◌then◌
anew-then w x y = written-append w.keep w.to x.events y.events

-- a head is four numbers
takes-head : (room : ℕ) → Takes 16 (head room)
unfolding head ◌>>=◌ ◌>>◌
takes-head room at = λ _ _ _ _. omega arith

module _ (w : Way) (b : ℕ) (s : List ℕ) (p room : ℕ) (fit : p + 16 ≤ length s) (out : List ℕ) (k : ℕ) where
  head-length : length (copy w b s (b + p) (head room)) ≡ 16
  head-length = length-within w b s 16 (head room) (takes-head room) (b + p) (omega arith) (omega arith)

  pub head-written : (ys : List ℕ) → ys ≡ copy w (b + p) (take (p + 16 - p) (drop p s)) (b + p) (number_list 4 4) →
      Pastes out (take k out ++ (ys ++ drop (k + 16 - k) (drop k out))) k (k + 16) (copy w b s (b + p) (head room))
  unfolding head number_list trace ◌>>=◌ ◌>>◌
  head-written ys same =
      let n : p + 16 - p ≡ 16 = omega arith in
      pastes-whole out ys _ k (k + 16) (same ∙ (ap (λ (m : ℕ). copy w (b + p) (take m (drop p s)) (b + p) (number_list 4 4)) n ∙ copy_within w b s 16
      (head room) (takes-head room) p)) (ap (λ (n : ℕ). k + n) (sym head-length))

  pub head-full : length out - k < 16 → Pastes out out k k (copy w b s (b + p) (head room))
  head-full full = pastes-full out out k k _ (rw head-length full)

-- what the walk v says behind the head of a record at byte p, which ends at q: it reads the same in the body alone, and as many bytes are written
pub record Behind {A : Type 0} (w : Way) (b : ℕ) (s : List ℕ) (p q : ℕ) (v : Walk A) (l : Said) (a : A) (e : ℕ) : Type 0 where
  pub reads : see w.from (b + p + 16) (take (q - (p + 16)) (drop (p + 16) s)) (b + p + 16) v ≡ goes a e
  pub is : anew w l ≡ copy w b s (b + p) (head (length s - p)) ++ copy w (b + p + 16) (take (q - (p + 16)) (drop (p + 16) s)) (b + p + 16) v
  pub long : length (copy w (b + p + 16) (take (q - (p + 16)) (drop (p + 16) s)) (b + p + 16) v) ≡ q - (p + 16)

module _ (w : Way) (b : ℕ) (s : List ℕ) (p q : ℕ) (h : Head) (stop : q ≡ p + span h) (least : p + 16 ≤ q) (inside : q ≤ length s) where
  abbrev from : ℕ
  from = b + p + 16

  abbrev body : List ℕ
  body = take (q - (p + 16)) (drop (p + 16) s)

  -- a head that is admitted, and the walk v
  pub behind : {A : Type 0} (most : ℕ) (fits serial : ℕ → Bool) (v : Walk A) →
      (fits (span h) ≡ true → (at : ℕ) → Stays (at + (span h - 16)) at v (λ _ e. e ≡ at + (span h - 16))) →
      {l : Said} (r : Reads w.from b s p (admit (length s - p) most fits serial h >> v) l) → Behind w b s p q v l r.value r.end
  unfolding said
  behind most fits serial v stays {l} r =
      let at : ℕ = b + (p + 16) in
      let d = admit-went w.from b s at (length s - p) most fits serial h v r.is in
      let z : from + (span h - 16) ≡ b + q = omega arith in
      let t = rw z at (stays d.length from) in
      let i : at ≡ from = omega arith in
      let g : see w.from b s from v ≡ goes r.value r.end = rw i at d.rest in
      let n = length-copy w b s (b + q) (omega arith) v from _ (omega arith) t g in
      let u = stays-goes w.from b s (b + q) (omega arith) v from _ (omega arith) t g in
      let c : copy w from body from v ≡ copy w b s at v = copy_body w b p q s v _ least inside t d.rest in
      record {
        reads = see-body w.from b p q s v _ least inside t ∙ d.rest;
        is = ap (anew w) r.says ∙ (anew-then w _ _ ∙ ap (λ (l : List ℕ). copy w b s (b + p) (head (length s - p)) ++ l)
            (copy-admit w b s at (length s - p) most fits serial h v ∙ sym c));
        long = ap length c ∙ (ap (λ (x : ℕ). length (copy w b s x v)) i ∙ omega (arith, n, u));
      }

  -- a record of a recording, but no 140: the bytes that are written of it behind its head, and that a body written by its code is these
  pub record Told (l : Said) : Type 0 where
    pub bytes : List ℕ
    pub is : anew w l ≡ copy w b s (b + p) (head (length s - p)) ++ bytes
    pub long : length bytes ≡ q - (p + 16)
    pub body : (d : List ℕ) → Bodied w h.code body d → d ≡ bytes

  told : {A : Type 0} {v : Walk A} {l : Said} {a : A} {e : ℕ} → Behind w b s p q v l a e →
      ((d : List ℕ) → Bodied w h.code body d → d ≡ copy w from body from v) → Told l
  told z f = record { bytes = _; is = z.is; long = z.long; body = f }

  body-span : 16 + length body ≡ span h
  body-span = body-length p q s least inside ∙ omega arith

  items-told : (ok : ℕ → Bool) {l : Said} → ((d : List ℕ) → Bodied w h.code body d → Itemized w body d) → Reads w.from b s p (items ok (length s - p) h) l →
      Told l
  unfolding items
  items-told ok f r =
      let n = leb-true 24 (span h) (admit-went w.from b s (b + (p + 16)) (length s - p) 0 (leb 24) (eqb 0) h (items_body ok (span h)) r.is).length in
      let z = behind 0 (leb 24) (eqb 0) (items_body ok (span h)) (λ e at. stays-items_body ok (span h) at (leb-true 24 (span h) e)) r in
      told z (λ d y. (rw body-span at (f d y (omega (arith, body-span)) ok from)) r.value r.end z.reads)

  pub inner-told : {k : Known} {l : Said} → Inner w.from b s p k h l → (h.code ≡ 140 → ⊥) → Told l
  unfolding channels
  inner-told (is100 c r) n =
      let f = eqb-true 128 (span h) (admit-went w.from b s (b + (p + 16)) (length s - p) 0 (eqb 128) (eqb 0) h basic_body r.is).length in
      let j : (at : ℕ) → at + (span h - 16) ≡ at + 112 = λ at. omega arith in
      let z = behind 0 (eqb 128) (eqb 0) basic_body (λ _ at. rw (j at) (stays-basic_body at (at + 112) (omega arith))) r in
      told z (λ d y. y.basic c (omega (arith, body-span)) from r.value r.end z.reads)
  inner-told (is_subs g t c r) n =
      let z = behind 0 (leb 32) (eqb 0) (channels_body g (span h)) (λ e at. stays-channels_body g (span h) at (leb-true 32 (span h) e)) r in
      told z (λ d y. (rw body-span at (y.channels (ap is_group c ∙ t.group) g (rw c t.shape) from)) r.value r.end z.reads)
  inner-told (is130 c r) n = items-told patient_code (λ d y. y.patient c) r
  inner-told (is200 c r) n = items-told event_code (λ d y. y.events c) r
  inner-told (is140 c r) n = absurd (n c)
  inner-told {k} (is_maker c r) n =
      let z = behind (most_of k.label) (leb 16) (λ _. true) (text (span h - 16)) (λ _ at. (omega arith, λ _ _. refl)) r in
      told z (λ d y. y.maker c ∙ text-whole w from body (span h - 16) (omega (arith, body-span)))

maker-high : (code : ℕ) → maker_code code ≡ true → 1024 ≤ code
unfolding maker_code
maker-high code z = leb-true 1024 code (and_left (leb 1024 code) _ z)

-- a record that holds subs is no maker's
group-low : (code : ℕ) → is_group code ≡ true → code ≤ 350
unfolding is_group
group-low code h = go (eqb code 120) (eqb code 320) (eqb code 350) refl refl refl
  where
    go : (x y z : Bool) → eqb code 120 ≡ x → eqb code 320 ≡ y → eqb code 350 ≡ z → code ≤ 350
    go true y z e f g = let i : code ≡ 120 = eqb-true code 120 e in omega arith
    go false true z e f g = let i : code ≡ 320 = eqb-true code 320 f in omega arith
    go false false true e f g = let i : code ≡ 350 = eqb-true code 350 g in omega arith
    go false false false e f g = false-true (rw (is_group, e, f, g) at h)

-- one that is a 140
pub inner-140 : {o : Order} {b : ℕ} {s : List ℕ} {p : ℕ} {k : Known} {h : Head} {l : Said} → Inner o b s p k h l → h.code ≡ 140 →
    Reads o b s p (frames k.label k.basic k.own k.channels k.back (length s - p) h) l
unfolding is_group
inner-140 (is100 c r) e = absurd (omega arith)
inner-140 (is_subs g t c r) e = false-true (sym (ap is_group (sym c ∙ e)) ∙ t.group)
inner-140 (is130 c r) e = absurd (omega arith)
inner-140 (is200 c r) e = absurd (omega arith)
inner-140 (is140 c r) e = r
inner-140 {h} (is_maker c r) e = absurd (omega (arith, maker-high h.code c))

-- the body d of a record by its code, from what the code wrote of it
module _ (w : Way) (code : ℕ) (s d : List ℕ) where
  pub bodied-100 : code ≡ 100 → (length s ≡ 112 → Anew w s d basic_body) → Bodied w code s d
  unfolding is_group
  bodied-100 q y = record {
    basic = λ _. y;
    channels = λ z. false-true (sym (ap is_group q) ∙ z);
    patient = λ z. absurd (omega arith);
    events = λ z.
        absurd (omega arith);
    maker = λ z. absurd (omega (arith, maker-high code z));
  }

  pub bodied-subs : is_group code ≡ true → ((g : Group) → HasShape g.sub (shape_of code) → Anew w s d (channels_body g (16 + length s))) → Bodied w code s d
  unfolding is_group
  bodied-subs q y = record {
    basic = λ z. false-true (sym (ap is_group z) ∙ q);
    channels = λ _. y;
    patient = λ z. false-true (sym (ap is_group z) ∙ q);
    events = λ z. false-true (sym (ap is_group z) ∙ q);
    maker = λ z. absurd (omega (arith, maker-high code z, group-low code q));
  }

  pub bodied-items : code ≡ 130 ⊎ code ≡ 200 → Itemized w s d → Bodied w code s d
  unfolding is_group
  bodied-items q y = record {
    basic = λ z. absurd (omega (arith, q));
    channels = λ z. false-true (sym (ungrouped q) ∙ z);
    patient = λ _. y;
    events = λ _. y;
    maker = λ z. absurd (omega (arith, q, maker-high code z));
  }
    where
      ungrouped : code ≡ 130 ⊎ code ≡ 200 → is_group code ≡ false
      ungrouped (inl e) = ap is_group e
      ungrouped (inr e) = ap is_group e

-- a 120, 320 or 350 has the length that its count of subs asks for
pub channels-counted : (o : Order) (b : ℕ) (s : List ℕ) (c : Group) (n : ℕ) {l : List Channel} {e : ℕ} → see o b s b (channels_body c n) ≡ goes l e →
    n ≡ 32 + 256 * number_at o 4 s 0
channels-counted o b s c n g =
    let i : b + 0 ≡ b = omega arith in
    (channels_body-lists o b s 0 c n (ap (λ (at : ℕ). see o b s at (channels_body c n)) i ∙ g)).0

-- a record with the code's head h, which ends at q: the code wrote the head, and had room for its body or had none
module _ (w : Way) (s : List ℕ) (h : At.Head) (q : ℕ) (least : h.at + 16 ≤ q) (inside : q ≤ length s) (out out₁ : List ℕ) (k k₁ : ℕ)
    (headed : (b room : ℕ) → Pastes out out₁ k k₁ (copy w b s (b + h.at) (head room))) (same : length out₁ ≡ length out) where
  pub transcribed-full : k₁ ≤ length out → length out₁ - k₁ < q - (h.at + 16) → Transcribed w s h q out out₁ k k₁
  transcribed-full fit full =
      record {
        inside = fit;
        wrote = λ b known l stop other i.
            let z = inner-told w b s h.at q (head_of h) stop least inside i other in
            rw z.is (pastes-join out out₁ out₁ k k₁ k₁ _ _ (headed b (length s - h.at)) (pastes-full out₁ out₁ k₁ k₁ z.bytes (rw z.long full)));
      }

  pub transcribed : (ys : List ℕ) → k₁ + (q - (h.at + 16)) ≤ length out₁ → Bodied w h.code (take (q - (h.at + 16)) (drop (h.at + 16) s)) ys →
      Transcribed w s h q out (take k₁ out₁ ++ (ys ++ drop (k₁ + (q - (h.at + 16)) - k₁) (drop k₁ out₁))) k (k₁ + (q - (h.at + 16)))
  transcribed ys fit y =
      record {
        inside = omega arith;
        wrote = λ b known l stop other i.
            let z = inner-told w b s h.at q (head_of h) stop least inside i other in
            rw z.is (pastes-join out out₁ _ k k₁ _ _ _ (headed b (length s - h.at))
            (pastes-whole out₁ ys z.bytes k₁ _ (z.body ys y) (ap (λ (n : ℕ). k₁ + n) (sym z.long))));
      }

-- of all bytes, those of the records up to byte p are written; the links C are those from there on, and each comes to some bytes
pub record Copying {X : Type 0} (bytes : X → List ℕ) (C : ℕ → X → Type 0) (out out₁ : List ℕ) (k k₁ p : ℕ) (all : List ℕ) : Type 0 where
  pub done : List ℕ
  pub left : X
  pub links : C p left
  pub is : all ≡ done ++ bytes left
  pub wrote : Pastes out out₁ k k₁ done

pub copying-none : {X : Type 0} {bytes : X → List ℕ} {C : ℕ → X → Type 0} {out : List ℕ} {k : ℕ} (x : X) → C 0 x → Copying bytes C out out k k 0 (bytes x)
copying-none {out} {k} x c = record { done = []; left = x; links = c; is = refl; wrote = pastes-nothing out k }

-- one record more, with the head h and up to q
module _ {o : Order} {b : ℕ} {s : List ℕ} {X : Type 0} {bytes : X → List ℕ} {join : X → X → X} {I : ℕ → Head → X → Type 0} {E : ℕ → X → Type 0}
    {out out₁ : List ℕ} {k k₁ p : ℕ} {all : List ℕ} where
  pub copying-more : (g : Copying bytes (Links o b s join I E) out out₁ k k₁ p all) → ((x y : X) → bytes (join x y) ≡ bytes x ++ bytes y) →
      {h : Head} {q : ℕ} (d : Parted o b s join I E p h q g.left) →
      (out₂ : List ℕ) (k₂ : ℕ) → Pastes out₁ out₂ k₁ k₂ (bytes d.own) → Copying bytes (Links o b s join I E) out out₂ k k₂ q all
  copying-more g joined d out₂ k₂ wrote =
      record {
        done = g.done ++ bytes d.own;
        left = d.rest;
        links = d.on;
        is = g.is ∙ (ap (λ (x : X). g.done ++ bytes x) d.is ∙ (ap (λ (l : List ℕ). g.done ++ l) (joined d.own d.rest) ∙ sym (append_assoc g.done _ _)));
        wrote = pastes-join out out₁ out₂ k k₁ k₂ g.done _ g.wrote wrote;
      }

trace-zeros : (o : Order) (b : ℕ) (s : List ℕ) (at : ℕ) (bs : List ℕ) → trace o b s at (zeros bs) ≡ []
unfolding zeros trace
trace-zeros o b s at [] = refl
trace-zeros o b s at (x ∷ bs) = trace-zeros o b s at bs

-- a delimiter, and the padding behind it
module _ (w : Way) (b : ℕ) (s : List ℕ) where
  copy-delimiter : (at : ℕ) (h : Head) → copy w b s at (delimiter h) ≡ []
  unfolding delimiter trace ◌>>=◌ ◌>>◌
  copy-delimiter at h = written_row w.keep w.to _ _ _ _ [] ∙ written_none w.keep w.to

  -- padding stands as it is
  pub padding-stands : (at n : ℕ) → copy w b s at (padding n) ≡ bytes_at n s (at - b)
  unfolding padding trace
  padding-stands at n =
      let bs : List ℕ = laid w.from Padding (bytes_at n s (at - b)) in
      rw (trace-zeros w.from b s (at + n) bs, written-piece w.keep w.to Padding bs [], written_none, append-nil, laid-padding w.to, laid-padding w.from)

  pub closed-bytes : (p : ℕ) {l : Said} → p ≤ length s → Closed w.from b s p l →
      anew w l ≡ copy w b s (b + p) (head (length s - p)) ++ take (length s - (p + 16)) (drop (p + 16) s)
  unfolding said bytes_at
  closed-bytes p {l} fit c =
      let hs : List ℕ = copy w b s (b + p) (head (length s - p)) in
      let i : length s - p - 16 ≡ length s - (p + 16) = omega arith in
      let j : b + (p + 16) - b ≡ p + 16 = omega arith in
      ap (anew w) c.is ∙ (anew-then w _ _ ∙ ap (λ (m : List ℕ). hs ++ m) (anew-then w _ _ ∙ rw (copy-delimiter, padding-stands, i, j)))
