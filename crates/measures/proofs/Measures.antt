-- The sizes of the canonical form, and that the code measures the measure of the recording that the walk accepted.
-- Assumes nothing.
use Rattle.std.proofs.Common.{Some, None}
use mathlib.Core.Path.{◌≡◌, refl, sym, ap, ◌∙◌}
use mathlib.Core.Bool.{Bool, true, false, ◌&&◌, ◌||◌}
use mathlib.Core.List.{List}
use Prim.Native.Nat.{ℕ, ◌+◌, ◌-◌, ◌*◌, ◌≤◌, ◌<◌}
use native.Mathlib.Nat.{mul_comm}
use native.Mathlib.Omega.{arith}
use borrow.Author.Tests.{leb-true, le-leb, lt-leb}
use lib.Dec.{leb, eqb}
use lib.ListN.{length, take, drop}
use Rattle.words.specs.Numbers.{number_at}
use Rattle.words.specs.declared.Order.{Order}
use Rattle.walk.specs.Walk as W
use Rattle.walk.specs.Walk.{Walk, ◌>>◌, require}
use Rattle.walk.specs.See.{stops, goes, see, over}
use Rattle.walk.proofs.Apart.{stops-goes}
use Rattle.walk.proofs.Seen.{over-goes, see-body, body-length, yields}
use Rattle.walk.proofs.Went.{goes_same}
use Rattle.rules.specs.Rules as R
use Rattle.rules.specs.Canonical as C
use Rattle.rules.specs.declared.Head as At
use Rattle.rules.proofs.Room.{stays-frames_body}
use Rattle.rules.proofs.Sized.{sized, length-times, length-once, none-where-it-fits}
use Rattle.records.specs.Says.{head_of, Headroom, headroom}
use Rattle.records.proofs.Facts.{both_false}
use Rattle.signals.proofs.FramesBody.{Fields, yields-frames_body}
use Rattle.records.proofs.Opened.{admit-went, require-went}
use Rattle.rules.specs.declared.Label.{Label}
use Rattle.rows.proofs.Lists.{frames-refused}
use Rattle.measures.specs.Measures.{sized_for, most_served, Large, Serves, measure_for, measured_for, MeasureBounds, Each, Given, MeasureOf}
use Rattle.measures.specs.declared.Sized.{Sized}
use Rattle.measures.specs.declared.Measure.{Measure}
use Rattle.measures.proofs.Lengths.{Accepted}

-- sizes

pub serves-once : (n : ℕ) → n ≤ C.most → Serves n (record { size = n; multiplier = 0; length = n })
unfolding C.size_for
serves-once n h =
    let s : C.size_for n ≡ n = rw (C.size_for, le-leb n C.most h) in
    record { is = rw (none-where-it-fits n h, s, length-once); enough = omega arith; close = omega arith }

module _ (n : ℕ) (large : Large n) where
  abbrev times : ℕ
  times = C.shares n C.most

  pub is-times : C.multiplier_for n ≡ times
  unfolding C.multiplier_for
  is-times = rw (C.multiplier_for, lt-leb n C.most large.more)

  is_share : C.size_for n ≡ C.shares n times
  unfolding C.size_for
  is_share = rw (C.size_for, lt-leb n C.most large.more, is-times)

  pub times-low : (1 ≤ times) × (times ≤ 128)
  times-low = (omega (arith, large.more), rw (← is-times) ((sized n).low 128 large.served))

  is-product : R.length_of (C.size_for n) (C.multiplier_for n) ≡ C.shares n times * times
  is-product = rw (is-times, is_share) (length-times (C.shares n times) times times-low.0)

  -- by the smallest multiplier
  module _ (m : ℕ) (is : m ≡ C.multiplier_for n) where
    pub share-small : C.shares n m ≤ C.most
    share-small = rw (is ∙ is-times, ← is_share) (sized n).small

    pub serves_more : Serves n (record { size = C.shares n m; multiplier = m; length = C.shares n m * m })
    serves_more =
        let z = sized n in
        let e = is-product in
        let l = times-low.1 in
        rw (is ∙ is-times) (record { is = rw (e, is-times, is_share); enough = omega (arith, z.serves, is-times); close = omega (arith, z.close, is-times) })

-- what is measured

module _ (at end last seconds size filled count : ℕ) where
  abbrev frames : ℕ
  frames = 32 + filled * count

  abbrev whole : ℕ
  whole = 16 + (at + (sized_for frames).length + (last - end))

  pub measure-long : most_served < frames → None ≡ measured_for at end last seconds size filled count
  unfolding measured_for
  measure-long h = rw (measured_for, lt-leb frames most_served h)

  pub measure-over : (s : Sized) → s ≡ sized_for frames → frames ≤ most_served → most_served < 16 + (at + s.length + (last - end)) →
      None ≡ measured_for at end last seconds size filled count
  unfolding measured_for
  measure-over s e h k = rw (measured_for, le-leb frames most_served h, lt-leb whole most_served (rw e at k))

  pub measure-on : (s w : Sized) → s ≡ sized_for frames → w ≡ sized_for (16 + (at + s.length + (last - end))) → frames ≤ most_served →
      16 + (at + s.length + (last - end)) ≤ most_served →
      Some (record { at = at; end = end; last = last; seconds = seconds; size = size; filled = filled; count = count; signals = s; whole = w }) ≡
      measured_for at end last seconds size filled count
  unfolding measured_for
  measure-on s w e g h k = rw (measured_for, g, e, le-leb frames most_served h, le-leb whole most_served (rw e at k))

  -- its bounds, whatever the bytes are
  pub measure-bounded : (n : ℕ) → seconds ≤ 3600 → 24 ≤ filled → filled ≤ size → size < 4294967296 → at + 32 + size * count ≤ end → end ≤ last → last ≤ n →
      Each (measured_for at end last seconds size filled count) (MeasureBounds n)
  unfolding measured_for
  measure-bounded n h₁ h₂ h₃ h₄ h₅ h₆ h₇ = go (leb frames most_served) (leb whole most_served) refl refl
    where
      go : (x y : Bool) → leb frames most_served ≡ x → leb whole most_served ≡ y → Each (measured_for at end last seconds size filled count) (MeasureBounds n)
      go true true p q =
          let w = sized whole in
          let l = leb-true whole most_served q in
          rw (measured_for, p, q) (record {
            seconds = h₁;
            low = h₂;
            fits = h₃;
            small = h₄;
            frames = h₅;
            end = h₆;
            last = h₇;
            signals = (sized frames).serves;
            whole = w.serves;
            most = omega (arith, l, w.close, w.low 128 l);
          })
      go true false p q = rw (measured_for, p, q) tt
      go false y p q = rw (measured_for, p) tt

  pub measure-each : (P : Measure → Type 0) → P (measure_for at end last seconds size filled count) →
      Each (measured_for at end last seconds size filled count) P
  unfolding measured_for
  measure-each P p = go (leb frames most_served && leb whole most_served) refl
    where
      go : (x : Bool) → (leb frames most_served && leb whole most_served) ≡ x → Each (measured_for at end last seconds size filled count) P
      go true e = rw (measured_for, e) p
      go false e = rw (measured_for, e) tt

  pub measure-given : (P : Measure → Type 0) → frames ≤ most_served → whole ≤ most_served → P (measure_for at end last seconds size filled count) →
      Given (measured_for at end last seconds size filled count) P
  unfolding measured_for
  measure-given P h k p = rw (measured_for, le-leb frames most_served h, le-leb whole most_served k) p

-- what the three numbers say of a 140 whose body is s
fields_told : (o : Order) (label : Label) (b : ℕ) (s : List ℕ) (c : R.Basic) (cs : List R.Channel) (h : R.Head) {f : R.Frames} {e : ℕ} →
    see o b s b (R.frames_body label c cs h) ≡ goes f e → Fields (number_at o 4 s 0) (number_at o 4 s 4) (number_at o 4 s 8) cs c f (R.span h)
fields_told o label b s c cs h g =
    let z₀ : b - b ≡ 0 = omega arith in
    let z₁ : b + 4 - b ≡ 4 = omega arith in
    let z₂ : b + 4 + 4 - b ≡ 8 = omega arith in
    rw (z₀, z₁, z₂) at (yields o b s (R.frames_body label c cs h) b _ (yields-frames_body o label b s b c cs h) g)

-- a recording's body s that the walk accepted, with the 140 at byte `at` of it
module _ {o : Order} {label : Label} {base : ℕ} {s : List ℕ} {x : R.Placed} (v : Accepted o label base s x) (at : ℕ) (is : 16 + at ≡ x.layout.at140) where
  pub stands : see o base s (base + at) (R.head (length s - at)) ≡ goes v.top (base + (at + 16))
  stands = let e : v.at ≡ at = omega (arith, v.place) in rw e at v.stands

  -- its head is read
  pub measure-unread : {n p : ℕ} → see o base s (base + at) (R.head (length s - at)) ≡ stops n p → ⊥
  measure-unread g = stops-goes (sym g ∙ stands)

  -- h: the code's head
  module _ (h : At.Head) (found : see o base s (base + at) (R.head (length s - at)) ≡ goes (head_of h) (base + (h.at + 16))) (here : h.at ≡ at) where
    same_head : v.top ≡ head_of h
    same_head = (goes_same (sym stands ∙ found)).0

    went : see o base s (base + (h.at + 16)) (R.frames label v.before.basic v.own x.recording.channels v.back (length s - h.at) (head_of h)) ≡ goes v.value
        (base + (h.at + R.span (head_of h)))
    went = let e : v.at ≡ h.at = omega (arith, v.place) in rw (e, same_head) at v.went

    -- it is admitted
    pub measure-refused : {n p : ℕ} → see o base s (base + (h.at + 16)) (R.admit (length s - h.at) (R.most_of label) (leb 32) (eqb 0) (head_of h)) ≡ stops n
        p → ⊥
    measure-refused g = frames-refused o label base s v.before.basic v.own x.recording.channels v.back (base + (h.at + 16)) (length s - h.at) (head_of h) g went

    -- the 140 stops at q, and another head follows
    module _ (q : ℕ) (stop : q ≡ h.at + R.span (head_of h)) where
      behind : over headroom (see o base s (base + q) (R.next label v.fuel (length s - q))) ≡ goes (headroom v.after) v.end
      behind =
          let e : v.at + R.span v.top ≡ q = omega (arith, v.place, ap (λ (t : R.Head). R.span t) same_head) in
          ap (over headroom) (rw e at v.behind) ∙ over-goes headroom v.after v.end

      enough : length s < q + v.fuel
      enough = omega (arith, v.enough, v.place, ap (λ (t : R.Head). R.span t) same_head)

      pub measure-alone : {n p : ℕ} → ((fuel : ℕ) → length s < q + fuel →
          over headroom (see o base s (base + q) (R.next label fuel (length s - q))) ≡ stops n p) → ⊥
      measure-alone g = stops-goes (sym (g v.fuel enough) ∙ behind)

      module _ (inside : q ≤ length s) (least : 32 ≤ R.span (head_of h)) where
        abbrev body : List ℕ
        body = take (q - (at + 16)) (drop (at + 16) s)

        pub in_body : see o (base + at + 16) body (base + at + 16) (R.frames_body label v.before.basic x.recording.channels (head_of h)) ≡ goes v.value
            (base + q)
        unfolding R.frames
        in_body =
            let w : Walk R.Frames = R.frames_body label v.before.basic x.recording.channels (head_of h) in
            let d = admit-went o base s (base + (h.at + 16)) (length s - h.at) (R.most_of label) (leb 32) (eqb 0) (head_of h)
            (require (v.own || eqb (length x.recording.channels) v.before.basic.channels) 14 v.back >> w) went in
            let t = require-went o base s (base + (h.at + 16)) (v.own || eqb (length x.recording.channels) v.before.basic.channels) 14 v.back w d.rest in
            let z : base + at + 16 + (R.span (head_of h) - 16) ≡ base + q = omega arith in
            see-body o base at q s w _ (omega arith) inside (rw z at
            (stays-frames_body label v.before.basic x.recording.channels (head_of h) (base + at + 16) least)) ∙
            (ap (λ (y : ℕ). see o base s (base + (y + 16)) w) (sym here) ∙ (t.1 ∙ ap (λ (y : ℕ). goes v.value (base + y)) (sym stop)))

        module _ (t size n : ℕ) (e₁ : t ≡ number_at o 4 body 0) (e₂ : size ≡ number_at o 4 body 4) (e₃ : n ≡ number_at o 4 body 8) where
          pub measure-fields : Fields t size n x.recording.channels v.before.basic v.value (R.span (head_of h))
          measure-fields = rw (e₁, e₂, e₃) (fields_told o label (base + at + 16) body v.before.basic x.recording.channels (head_of h) in_body)

          -- the code's test of these numbers passes
          pub measure-fits : (bytes : ℕ) (r : Bool) → bytes ≡ R.sample_bytes t x.recording.channels →
              r ≡ leb (24 + bytes) size && leb (16 + size * n) (length body) → r ≡ false → ⊥
          measure-fits bytes r i e f₀ =
              let f = measure-fields in
              let l : 16 + length body ≡ q - at = body-length at q s (omega arith) inside in
              both_false (24 + bytes) size (16 + size * n) (length body) r e f₀ (rw i f.long) (omega (arith, f.fits, mul_comm n size))

          -- and what is measured is the recording's measure; d: the head that follows
          module _ (d : At.Head) (follows : (fuel : ℕ) → length s < q + fuel →
              over headroom (see o base s (base + q) (R.next label fuel (length s - q))) ≡ goes (record { head = head_of d; room = length s - d.at })
              (base + (d.at + 16))) (last : d.at + 16 ≤ length s) (bytes : ℕ) (many : bytes ≡ R.sample_bytes t x.recording.channels) where
            abbrev frames-bytes : ℕ
            frames-bytes = C.frames_bytes x.recording.seconds x.recording.channels x.recording.frames

            seconds-is : x.recording.seconds ≡ t
            seconds-is = v.seconds ∙ measure-fields.seconds

            frames-is : 32 + (24 + bytes) * n ≡ frames-bytes
            frames-is = rw (seconds-is, v.count, ← measure-fields.count, many, mul_comm n (24 + R.sample_bytes t x.recording.channels))

            rest-is : d.at + 16 - q ≡ v.makers + 16
            rest-is =
                let r : length s - d.at ≡ v.after.room = ap (λ (y : Headroom). y.room) (goes_same (sym (follows v.fuel enough) ∙ behind)).0 in
                omega (arith, v.left, v.place, v.inside, ap (λ (y : R.Head). R.span y) same_head)

            whole_is : 16 + (at + (sized_for (32 + (24 + bytes) * n)).length + (d.at + 16 - q)) ≡ 16 + W.size (C.content label x.recording)
            whole_is = rw (frames-is, rest-is) (omega (arith, v.long, v.place))

            pub measure-told : Given (measured_for at q (d.at + 16) t size (24 + bytes) n) (λ f. MeasureOf label f x)
            measure-told =
                measure-given at q (d.at + 16) t size (24 + bytes) n (λ f. MeasureOf label f x) (rw frames-is v.few) (rw whole_is v.total)
                (record {
                  at = is;
                  seconds = sym seconds-is;
                  count = measure-fields.count ∙ sym v.count;
                  filled = rw (seconds-is, many);
                  signals = ap sized_for frames-is;
                  whole = ap sized_for whole_is;
                })
