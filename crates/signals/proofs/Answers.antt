-- What the functions of a 140 answer at each return, from what the functions that they call say.
-- Assumes nothing.
use Rattle.std.proofs.Common.{Result, Ok, Err}
use Rattle.rules.specs.declared.Reason.TheVariants as Reason
use mathlib.Core.Path.{◌≡◌, refl, sym, ap, ◌∙◌}
use mathlib.Core.Bool.{Bool, true, false, ◌&&◌, ◌||◌}
use mathlib.Core.List.{List}
use Prim.Native.Nat.{ℕ, ◌+◌, ◌*◌, ◌-◌, ◌≤◌}
use native.Mathlib.Nat.{add_assoc, mul_comm}
use native.Mathlib.Omega.{arith}
use borrow.Author.Tests.{eq-eqb, ne_eqb}
use lib.Dec.{leb, ltb, eqb}
use lib.ListN.{length, take, drop}
use Rattle.words.specs.Numbers.{number_at}
use Rattle.words.specs.declared.Order.{Order}
use Rattle.walk.specs.See.{Verdict, stops, goes, see, over, ends, onward, Goes}
use Rattle.walk.proofs.Seen.{gates, see-bind, see-after, see-give, see-check, gate-true, gate-false, over-stops, stopped, went, see-body, body-length}
use Rattle.rules.specs.Rules as R
use Rattle.rules.specs.declared.Label.{Label}
use Rattle.rules.specs.Rules.{most_of, Channel, Frame, between, limit, padded, sample_bytes, series, frame, padding, span, admit, frames, frames_body}
use Rattle.rules.specs.declared.Basic.{Basic}
use Rattle.rules.specs.declared.Channels.{Channels}
use Rattle.rules.specs.declared.Frames.{Frames}
use Rattle.rules.specs.declared.Head.{Head}
use Rattle.rules.specs.declared.Kind.TheVariants as Kind
use Rattle.rules.specs.declared.Refusal.{Refusal}
use Rattle.rules.proofs.Room.{stays-frames_body}
use Rattle.records.specs.Says.{halts, head_of, basic_of, tested, resumed, Advances, ChannelsStand, AdmittedBy, FramesOver}
use Rattle.signals.specs.FramesJudged.{frames_of, framed, FramesAt}
use Rattle.signals.specs.Shaped.{field_tests, behind_fields, FieldsTested, RestRead, BodyRead}
use Rattle.signals.specs.declared.frames.Shape.{Shape}
use Rattle.signals.proofs.FramesBody.{size_fits}

-- what `read_shape` answers at each return: t, size and n are the fields
module _ (o : Order) (file : List ℕ) (cs : Channels) (at : ℕ) (s : List ℕ) (total multiplier : ℕ) {t size n : ℕ} (ts : t ≡ number_at o 4 s 0) (sizes : size ≡ number_at o 4 s 4) (ns : n ≡ number_at o 4 s 8) where
  abbrev Answers : Result Shape Refusal → Type 0
  Answers a = FieldsTested o file cs at s total multiplier a

  -- of every list of channels that stand there
  abbrev Of : (List Channel → Type 0) → Type 0
  Of P = (ch : List Channel) → ChannelsStand o file cs ch → P ch

  refused : {r : Refusal} → Of (λ ch. (v : Verdict R.Frames) → field_tests at (16 + length s) total multiplier ch t size n v ≡ halts r) → Answers (Err r)
  refused k = record { told = λ ch st. record { tests = λ v. rw (← ts, ← sizes, ← ns) (k ch st v); fields = tt }; sized = tt }

  pub stops-seconds : between 1 3600 t ≡ false → Answers (Err (record { 0 = Reason.Value; 1 = at + 16 }))
  unfolding field_tests
  stops-seconds a = refused (λ ch st v. simp (gates, a))

  module _ (a : between 1 3600 t ≡ true) where
    pub stops-periods : Of (λ ch. R.all (R.sampled t) ch ≡ false) → Answers (Err (record { 0 = Reason.Disagreement; 1 = at + 16 }))
    unfolding field_tests
    stops-periods d = refused (λ ch st v. simp (gates, a, d ch st))

    module _ (d : Of (λ ch. R.all (R.sampled t) ch ≡ true)) {bytes : ℕ} (is : Of (λ ch. bytes ≡ sample_bytes t ch)) where
      pub stops-size : between (24 + bytes) (24 + bytes + 127) size && ltb size limit ≡ false → Answers (Err (record { 0 = Reason.Disagreement; 1 = at + 20 }))
      unfolding field_tests
      stops-size z = refused (λ ch st v. simp (gates, a, d ch st, ← is ch st, z))

      module _ (z : between (24 + bytes) (24 + bytes + 127) size && ltb size limit ≡ true) where
        pub stops-count : (n ≡ total → ⊥) → Answers (Err (record { 0 = Reason.Disagreement; 1 = at + 24 }))
        unfolding field_tests
        stops-count k = refused (λ ch st v. simp (gates, a, d ch st, ← is ch st, z, ne_eqb n total k))

        module _ (k : n ≡ total) where
          pub stops-room : leb (32 + n * size) (16 + length s) && padded multiplier (16 + length s - (32 + n * size)) ≡ false → Answers (Err (record { 0 = Reason.Disagreement; 1 = at + 24 }))
          unfolding field_tests
          stops-room r = refused (λ ch st v. simp (gates, a, d ch st, ← is ch st, z, eq-eqb n total k, r))

          pub shape-holds : leb (32 + n * size) (16 + length s) && padded multiplier (16 + length s - (32 + n * size)) ≡ true → Answers (Ok (record { seconds = t; size = size; filled = 24 + bytes }))
          unfolding field_tests
          shape-holds r =
              let l = size_fits bytes size z in
              record {
                told = λ ch st. record {
                  tests = λ v. rw (← ts, ← sizes, ← ns) (simp (gates, a, d ch st, ← is ch st, z, eq-eqb n total k, r));
                  fields = record { seconds = ts; size = sizes; count = sym k ∙ ns; filled = ap (λ (x : ℕ). 24 + x) (is ch st) };
                };
                sized = record { least = omega arith; fits = l.0; short = l.1 };
              }

-- the frames and the padding: the frames are from byte 16 of the body on
module _ (o : Order) (label : Label) (at : ℕ) (s : List ℕ) (ch : List Channel) (t size n : ℕ) where
  abbrev each : Verdict (List Frame)
  each = see o (at + 16) s (at + 16 + 16) (series n 1 size (length s - 16) (frame label size t ch))

  abbrev rest : Verdict Frames
  rest = over frames_of (see o (at + 16) s (at + 32) (behind_fields label t size n (16 + length s) ch))

  rest-open : see o (at + 16) s (at + 32) (behind_fields label t size n (16 + length s) ch) ≡
      onward each (λ fs e. onward (see o (at + 16) s e (padding (length s - (16 + size * n)))) (λ _ x. goes (record { seconds = t; frames = fs; size = size; padded = n * (size - (24 + sample_bytes t ch)) + (length s - (16 + size * n)) }) x))
  unfolding behind_fields
  rest-open =
      let r : 16 + length s - 32 ≡ length s - 16 = omega arith in
      let u : 16 + length s - (32 + n * size) ≡ length s - (16 + size * n) = omega (arith, mul_comm n size) in
      rw (r, u, ← add_assoc at 16 16) (simp (see-bind, see-after, see-give))

  rest-stop : {m p : ℕ} → ends each ≡ stops m p → rest ≡ stops m p
  rest-stop k = rw (rest-open, stopped (λ _. tt) each k, over-stops)

  ends_held : (held : Result (Unit {0}) Refusal) (fs : List Frame) (x p : ℕ) → over frames_of (onward (tested held x) (λ _ y. goes (record { seconds = t; frames = fs; size = size; padded = p }) y)) ≡ resumed held (goes (record { seconds = t; size = size; padded = p }) x)
  unfolding over
  ends_held (Ok tt) fs x p = refl
  ends_held (Err r) fs x p = refl

  -- filled: where a frame's samples end; q: the byte of the body behind the frames
  rest-held : (filled q : ℕ) (held : Result (Unit {0}) Refusal) → filled ≡ 24 + sample_bytes t ch → q ≡ 16 + size * n → ends each ≡ goes tt (at + 16 + q) →
      see o (at + 16) s (at + 16 + q) (padding (length s - q)) ≡ tested held (at + 16 + length s) →
      rest ≡ resumed held (goes (record { seconds = t; size = size; padded = n * (size - filled) + (length s - q) }) (at + (16 + length s)))
  rest-held filled q held e d k p =
      let g : Goes each (λ _ x. (tt ≡ tt) × (x ≡ at + 16 + q)) = went (λ _. tt) each k in
      rw (rest-open, ← d, ← e, g.is, g.kept.1, p, ← add_assoc at 16 (length s)) (ends_held held g.value (at + 16 + length s) _)

-- what `frames_rest` answers at each return, from what is said of the frames and of the padding behind them
module _ (o : Order) (label : Label) (at : ℕ) (s : List ℕ) (total : ℕ) (f : Shape) where
  abbrev pub Taken : Result ℕ Refusal → Type 0
  Taken a = FramesOver o (at + 16) s 16 f.filled (λ t cs. series total 1 f.size (length s - 16) (frame label f.size t cs)) (Advances 16 (f.size * total) (length s)) a

  pub rest-refused : {r : Refusal} → Taken (Err r) → RestRead o label at s total f (Err r)
  rest-refused k = record { seen = λ ch e. rest-stop o label at s ch f.seconds f.size total (k.seen f.seconds ch e); fills = tt }

  module _ {q : ℕ} (k : Taken (Ok q)) where
    padded-as : (held : Result (Unit {0}) Refusal) → see o (at + 16) s (at + 16 + q) (padding (length s - q)) ≡ tested held (at + 16 + length s) → (ch : List Channel) → f.filled ≡ 24 + sample_bytes f.seconds ch →
        rest o label at s ch f.seconds f.size total ≡ resumed held (goes (record { seconds = f.seconds; size = f.size; padded = total * (f.size - f.filled) + (length s - q) }) (at + (16 + length s)))
    padded-as held p ch e = rest-held o label at s ch f.seconds f.size total f.filled q held e k.stands.0 (k.seen f.seconds ch e) p

    -- held: what is said of the padding
    module _ {held : Result (Unit {0}) Refusal} (p : see o (at + 16) s (at + 16 + q) (padding (length s - q)) ≡ tested held (at + 16 + length s)) where
      pub rest-unpadded : {r : Refusal} → held ≡ Err r → RestRead o label at s total f (Err r)
      rest-unpadded {r} e = record { seen = padded-as (Err r) (rw e at p); fills = tt }

      pub rest-holds : held ≡ (Ok tt) →
          RestRead o label at s total f (Ok (record { seconds = f.seconds; size = f.size; padded = total * (f.size - f.filled) + (length s - q) }, 16 + length s))
      rest-holds e = record { seen = padded-as (Ok tt) (rw e at p); fills = refl }

-- the rest of a 140: its head is admitted, 100's count of channels is tested, and the body follows
module _ (o : Order) (label : Label) (b : ℕ) (s : List ℕ) (at : ℕ) (rb : R.Basic) (own : Bool) (ch : List Channel) (back room : ℕ) (h : R.Head) where
  frames-refused : {n p : ℕ} → see o b s at (admit room (most_of label) (leb 32) (eqb 0) h) ≡ stops n p → over frames_of (see o b s at (frames label rb own ch back room h)) ≡ stops n p
  unfolding frames
  frames-refused a = rw (see-after, a, over-stops)

  module _ (a : see o b s at (admit room (most_of label) (leb 32) (eqb 0) h) ≡ goes tt at) where
    frames-uncounted : own || eqb (length ch) rb.channels ≡ false → over frames_of (see o b s at (frames label rb own ch back room h)) ≡ stops 14 (at - back)
    unfolding frames
    frames-uncounted c = simp (see-after, a, see-check, c, gate-false, over-stops)

    frames-on : own || eqb (length ch) rb.channels ≡ true → over frames_of (see o b s at (frames label rb own ch back room h)) ≡ over frames_of (see o b s at (frames_body label rb ch h))
    unfolding frames
    frames-on c = simp (see-after, a, see-check, see-give, c, gate-true)

-- the body of a 140 that ends at byte q of the part s, handed on as a part of its own
module _ (p q : ℕ) (s : List ℕ) (h : R.Head) (ends_at : q ≡ p + span h) (least : 32 ≤ span h) (fits : q ≤ length s) where
  body-fills : span h ≡ 16 + length (take (q - (p + 16)) (drop (p + 16) s))
  body-fills = let l : q - p ≡ span h = omega arith in sym (body-length p q s (omega arith) fits ∙ l)

  frames-held : (o : Order) (label : Label) (b : ℕ) (rb : R.Basic) (own : Bool) (ch : List Channel) (back room : ℕ) {v : Verdict Frames} → see o b s (b + (p + 16)) (admit room (most_of label) (leb 32) (eqb 0) h) ≡ goes tt (b + (p + 16)) → own || eqb (length ch) rb.channels ≡ true →
      over frames_of (see o (b + p + 16) (take (q - (p + 16)) (drop (p + 16) s)) (b + p + 16) (frames_body label rb ch h)) ≡ v → over frames_of (see o b s (b + (p + 16)) (frames label rb own ch back room h)) ≡ v
  frames-held o label b rb own ch back room a c g =
      let z : b + p + 16 + (span h - 16) ≡ b + q = omega arith in
      frames-on o label b s (b + (p + 16)) rb own ch back room h a c ∙ rw (see-body o b p q s (frames_body label rb ch h) (λ _ e. e ≡ b + q) (omega arith) fits (rw z at (stays-frames_body label rb ch h (b + p + 16) least))) at g

-- what `frames_at` answers at each return, from what is said of the head h, of the count of channels and of the body
module _ (o : Order) (label : Label) (file : List ℕ) (cs : Channels) (own : Bool) (b : Basic) (h : Head) (base : ℕ) (s : List ℕ) where
  abbrev Answered : Result (Frames × ℕ) Refusal → Type 0
  Answered a = FramesAt o label file cs own b h base s a

  pub at-refused : {r : Refusal} → AdmittedBy h base (length s) (Kind.Frames label) (Err r) → Answered (Err r)
  at-refused a = record { seen = λ c ch is st. frames-refused o label base s (base + (h.at + 16)) c own ch (h.at - 4) (length s - h.at) (head_of h) (a.seen o base s); stands = tt }

  module _ {q : ℕ} (a : AdmittedBy h base (length s) (Kind.Frames label) (Ok q)) where
    counted : {x : Bool} → own || eqb cs.count b.channels ≡ x → (c : R.Basic) (ch : List Channel) → basic_of c ≡ b → ChannelsStand o file cs ch → own || eqb (length ch) c.channels ≡ x
    counted e c ch is st = rw (st.count, ap (λ (y : Basic). y.channels) is) e

    pub at-uncounted : own || eqb cs.count b.channels ≡ false → 128 ≤ h.at → Answered (Err (record { 0 = Reason.Disagreement; 1 = base + 20 }))
    at-uncounted e l = record {
      seen = λ c ch is st.
          let z : base + (h.at + 16) - (h.at - 4) ≡ base + 20 = omega arith in
          frames-uncounted o label base s (base + (h.at + 16)) c own ch (h.at - 4) (length s - h.at) (head_of h) (a.seen o base s) (counted e c ch is st) ∙ ap (λ (x : ℕ). stops 14 x) z;
      stands = tt;
    }

    module _ (e : own || eqb cs.count b.channels ≡ true) where
      abbrev within : List ℕ
      within = take (q - (h.at + 16)) (drop (h.at + 16) s)

      body-as : (x : Result (Frames × ℕ) Refusal) → BodyRead o label file cs (base + h.at) within b.frames h.multiplier x → (c : R.Basic) (ch : List Channel) → basic_of c ≡ b → ChannelsStand o file cs ch →
          over frames_of (see o base s (base + (h.at + 16)) (frames label c own ch (h.at - 4) (length s - h.at) (head_of h))) ≡ framed (base + h.at) x
      body-as x k c ch is st =
          let v = a.stands in
          frames-held h.at q s (head_of h) v.0 v.2 v.1 o label base c own ch (h.at - 4) (length s - h.at) (a.seen o base s) (counted e c ch is st)
          (k.seen c ch (head_of h) (record { frames = ap (λ (y : Basic). y.frames) is; channels = st; bytes = body-fills h.at q s (head_of h) v.0 v.2 v.1; times = refl }))

      pub at-stop : {r : Refusal} → BodyRead o label file cs (base + h.at) within b.frames h.multiplier (Err r) → Answered (Err r)
      at-stop k = record { seen = body-as (Err _) k; stands = tt }

      pub at_on : {f : Frames} {z : ℕ} → BodyRead o label file cs (base + h.at) within b.frames h.multiplier (Ok (f, z)) → Answered (Ok (f, q))
      at_on {f} {z} k =
          let v = a.stands in
          let l = body-fills h.at q s (head_of h) v.0 v.2 v.1 in
          let y : base + h.at + z ≡ base + q = omega (arith, k.fills, l, v.0) in
          record { seen = λ c ch is st. body-as (Ok (f, z)) k c ch is st ∙ ap (λ (x : ℕ). goes f x) y; stands = record { low = omega (arith, v.0, v.2); inside = v.1 } }
