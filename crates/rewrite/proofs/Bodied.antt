-- The body of a canonical recording, record by record: what is written of each, that all of it together is the canonical content, and what the code's writes
-- then leave in a buffer.
-- Assumes nothing.
use mathlib.Core.Path.{◌≡◌, refl, sym, ap, ◌∙◌}
use mathlib.Core.Bool.{false, ◌||◌}
use mathlib.Core.List.{List, ◌++◌, append_assoc, append_cancel_right}
use Prim.Native.Nat.{ℕ, ◌+◌, ◌-◌, ◌≤◌, ◌<◌}
use native.Mathlib.Omega.{arith}
use borrow.Author.Tests.{leb-true}
use lib.Dec.{leb, eqb}
use lib.ListN.{length, take, drop, replicate, length-append, length-drop, replicate-append-replicate}
use lib.Seq.{length-take-le}
use Rattle.words.specs.Numbers.{Bytes, ordered, bytes_of, bytes_in}
use Rattle.words.specs.declared.Order.{Order}
use Rattle.words.specs.declared.Order.TheVariants.{Little, Big}
use Rattle.words.proofs.Fronts.{put, front-all}
use Rattle.words.proofs.Runs.{take-pasted}
use Rattle.walk.specs.See.{goes, see}
use Rattle.walk.specs.Walk.{Event, render, size, Walk, require, ◌>>◌}
use Rattle.walk.proofs.Laws.{length-render}
use Rattle.walk.proofs.Seen.{body-length}
use Rattle.walk.proofs.Tracing.{render-append, written_none}
use Rattle.walk.proofs.Went.{goes_same}
use Rattle.rules.specs.Canonical.{numerals, frames_head, frames_written, maker_events, delimiter_events, content, recording_head}
use Rattle.rules.specs.declared.Label.{Label}
use Rattle.rules.specs.Rules.{most_of, Head, Next, head, span, frames_body, frames, next, Recording, Placed, descriptions}
use Rattle.rules.specs.declared.Channels.{Channels}
use Rattle.rules.specs.declared.Head as At
use Rattle.rules.proofs.Renew.{record-size}
use Rattle.rules.proofs.Sized.{sized}
use Rattle.rules.proofs.Written.{tables_events}
use Rattle.records.specs.Says.{head_of, ChannelsStand}
use Rattle.records.proofs.Opened.{admit-went}
use Rattle.children.specs.Children.{Said, said, Known, Heads, heading, Inner, is140, Links, more, last, RecordAt, NoRecord}
use Rattle.children.proofs.Chained.{onto, Leads, next-leads, tables-leads}
use Rattle.children.proofs.Visiting.{links-parted, links-ended, inner-there}
use Rattle.bodies.specs.Copy.{Pastes}
use Rattle.bodies.specs.declared.Way.{Way}
use Rattle.transcripts.specs.Transcript.{anew}
use Rattle.transcripts.proofs.Transcribing.{anew-then, Copying, copying-none, copying-more}
use Rattle.measures.specs.Measures.{MeasureOf, MeasureIn, signals_in, behind_head}
use Rattle.measures.specs.declared.Measure.{Measure}
use Rattle.measures.specs.declared.Sized.{Sized}
use Rattle.measures.proofs.Canonic.{bare, head-bare}
use Rattle.measures.proofs.Chained.{tables-bare, next-bare}
use Rattle.measures.proofs.Lengths.{Accepted, accepted}
use Rattle.measures.proofs.Measures.{stands, in_body}
use Rattle.rewrite.specs.FramesAnew.{FramesAnew, signals_events, BodyMeasured, SignalsAnew}
use Rattle.rewrite.specs.RecordingsAnew.{ChildAnew}
use Rattle.rewrite.proofs.Framing.{render-record, padded-events}
use Rattle.rewrite.proofs.Placed.{record-placed}

-- what is written of the record at byte p with the head h, in a recording r
pub data Renews (w : Way) (b : ℕ) (s : List ℕ) (r : Recording) (p : ℕ) (h : Head) (xs : List ℕ) : Type 0 where
  signals : {k : Known} {l : Said} → Inner w.from b s p k h l → h.code ≡ 140 → xs ≡ render w.to (signals_events r) → Renews w b s r p h xs
  other : {k : Known} {l : Said} → Inner w.from b s p k h l → (h.code ≡ 140 → ⊥) → xs ≡ anew w l → Renews w b s r p h xs

renews-there : {w : Way} {b : ℕ} {s : List ℕ} {r : Recording} {p : ℕ} {h : Head} {xs : List ℕ} → NoRecord w.from b s p → Heads w.from b s p h →
    Renews w b s r p h xs → ⊥
renews-there {w} {b} {s} v k (signals i e is) = inner-there w.from b s v k i
renews-there {w} {b} {s} v k (other i n is) = inner-there w.from b s v k i

-- and of its delimiter
pub record Closes (w : Way) (b : ℕ) (s : List ℕ) (p : ℕ) (xs : List ℕ) : Type 0 where
  pub head : Head
  pub stands : Heads w.from b s p head
  pub code : head.code ≡ 0
  pub is : xs ≡ replicate 16 0

-- all that is written of the records from byte p on
abbrev pub Renewal : Way → ℕ → List ℕ → Recording → ℕ → List ℕ → Type 0
Renewal w b s r = Links w.from b s ◌++◌ (Renews w b s r) (Closes w b s)

delimiter-bytes : (o : Order) → render o delimiter_events ≡ replicate 16 0
unfolding delimiter_events render bytes_in ordered bytes_of
delimiter-bytes Little = refl
delimiter-bytes Big = refl

-- the 140 of a body that the walk accepted is whole
whole : {o : Order} {label : Label} {b : ℕ} {s : List ℕ} {x : Placed} (v : Accepted o label b s x) → (32 ≤ span v.top) × (v.at + span v.top ≤ length s)
unfolding frames
whole {o} {label} {b} {s} {x} v =
    let d = admit-went o b s (b + (v.at + 16)) (length s - v.at) (most_of label) (leb 32) (eqb 0) v.top
    (require (v.own || eqb (length x.recording.channels) v.before.basic.channels) 14 v.back >> frames_body label v.before.basic x.recording.channels v.top)
    v.went in
    (leb-true 32 (span v.top) d.length, omega (arith, d.inside, v.inside))

-- a body that the walk accepted, where reserve is cleared: all that is written of it is the canonical content
module _ (w : Way) {b : ℕ} {s : List ℕ} {x : Placed} (v : Accepted w.from w.label b s x) (bytes : Bytes s) (clear : w.keep ≡ false) where
  abbrev known : Known
  known = record { label = w.label; basic = v.before.basic; own = v.own; channels = x.recording.channels; back = v.back }

  anew-bare : {A : Type 0} (at : ℕ) (u : Walk A) → anew w (said w.from b s at u) ≡ render w.to (bare w.from b s at u)
  unfolding said
  anew-bare at u = rw clear

  -- a walk that leads to a head: what is written of the records before that
  leads-written : {A : Type 0} (p at : ℕ) (u : Walk A) {n : Next} {e : ℕ} (d : Leads w.from b s known p (said w.from b s at u) n e) (t : List Event) →
      bare w.from b s at u ≡ t ++ numerals n.head →
      (ys : List ℕ) → Renewal w b s x.recording d.to ys → Renewal w b s x.recording p (render w.to t ++ ys)
  leads-written p at u {n} d t is ys later =
      let hs : List ℕ = render w.to (numerals n.head) in
      let i : anew w (heading w.from b s d.to) ≡ hs = anew-bare (b + d.to) (head (length s - d.to)) ∙ ap (render w.to)
      (head-bare w.from b s (b + d.to) (length s - d.to) d.stands.heads) in
      let j : anew w d.before ++ hs ≡ render w.to t ++ hs =
      ap (λ (l : List ℕ). anew w d.before ++ l) (sym i) ∙ (sym
      (anew-then w d.before (heading w.from b s d.to)) ∙
      (ap (anew w) (sym d.says) ∙ (anew-bare at u ∙ (ap (render w.to) is ∙ render-append w.to t (numerals n.head))))) in
      rw (← append_cancel_right (anew w d.before) (render w.to t) hs j)
      (onto w.from b s known ◌++◌ (Renews w b s x.recording) (Closes w b s) (anew w) ys (λ l m. rw (anew-then w l m) (append_assoc (anew w l) (anew w m) ys))
      (rw (written_none w.keep w.to)) (λ p h l i. other i.inner i.other refl) later d.links)

  -- the makers' records behind the 140
  left-bare : bare w.from b s (b + (v.at + span v.top)) (next w.label v.fuel (length s - (v.at + span v.top))) ≡ maker_events v.after.makers ++ numerals
      v.after.head
  left-bare =
      let q : ℕ = v.at + span v.top in
      let i : b + length s - (b + q) ≡ length s - q = omega arith in
      rw i at (next-bare w.from b s bytes w.label v.fuel (b + q) {n = v.after} {e = v.end} (omega arith) (omega (arith, (whole v).1)) (omega (arith, v.enough))
      (rw i v.behind))

  pub renewal : Renewal w b s x.recording 0 (render w.to (content w.label x.recording))
  renewal =
      let o : Order = w.to in
      let q : ℕ = v.at + span v.top in
      let d₁ = tables-leads w.from b s known v.held (16 + length s) refl v.begins in
      let d₂ = next-leads w.from b s known v.fuel q v.after v.end (whole v).1 v.behind in
      let i : v.at ≡ d₁.to = omega (arith, d₁.end) in
      let z : List ℕ = render o delimiter_events in
      let c₂ = leads-written q (b + q) (next w.label v.fuel (length s - q)) d₂ (maker_events v.after.makers) left-bare z
      (last (record { head = v.after.head; stands = d₂.stands.heads; code = ap (λ (h : Head). h.code) v.closes; is = delimiter-bytes o })) in
      let c₁ : Renewal w b s x.recording v.at (render o (signals_events x.recording) ++ (render o (maker_events v.after.makers) ++ z)) =
      more v.top _ _ v.stands (signals (is140 v.code (record { value = v.value; end = _; is = v.went; says = refl })) v.code refl) c₂ refl in
      rw (
        v.events,
        render-append o (tables_events w.label v.before),
        render-append o (signals_events x.recording),
        render-append o
            (maker_events v.after.makers),
      )
      (leads-written 0 b (descriptions w.label v.held (16 + length s)) d₁ (tables_events w.label v.before)
      (tables-bare w.from b s bytes w.label v.held (16 + length s) (omega arith) v.begins) _ (rw i at c₁))

-- a body that the walk accepted, and what is known of its measure
module _ (w : Way) {b : ℕ} {s : List ℕ} {x : Placed} (v : Accepted w.from w.label b s x) (f : Measure) (reads : MeasureIn w.from b s f)
    (is : MeasureOf w.label f x) where
  same_at : v.at ≡ f.at
  same_at = omega (arith, v.place, is.at)

  found : see w.from b s (b + f.at) (head (length s - f.at)) ≡ goes v.top (b + (f.at + 16))
  found = stands v f.at is.at

  stop : f.end ≡ f.at + span v.top
  stop = reads.end v.top (b + (f.at + 16)) found

  ends : f.end ≤ length s
  ends = omega (arith, (whole v).1, stop, same_at)

  in-signals : see w.from (b + f.at + 16) (signals_in s f) (b + f.at + 16) (frames_body w.label v.before.basic x.recording.channels v.top) ≡ goes v.value
      (b + f.end)
  in-signals = in_body v f.at is.at (record { at = f.at; size = v.top.size; code = v.top.code; serial = v.top.serial; multiplier = v.top.multiplier }) found
      refl f.end stop ends (whole v).0

  fills : span v.top ≡ 16 + length (signals_in s f)
  fills = omega (arith, body-length f.at f.end s (omega (arith, stop, (whole v).0)) ends, stop)

  -- its canonical form in bytes
  signals-long : f.signals.length ≡ span (frames_head x.recording.seconds x.recording.channels x.recording.frames)
  signals-long = ap (λ (z : Sized). z.length) is.signals

  -- the code wrote its head and its body, ys and zs, one behind the other
  signals-placed : (file : List ℕ) (cs : Channels) (out ys zs : List ℕ) (k n m : ℕ) → n ≡ 16 → 16 + m ≡ f.signals.length → k + f.signals.length ≤ length out →
      length (put k n out ys) ≡ length out → w.keep ≡ false →
      ChannelsStand w.from file cs x.recording.channels → ys ≡ render w.to
      (numerals (record { size = f.signals.size; code = 140; serial = 0; multiplier = f.signals.multiplier })) →
      FramesAnew w file (signals_in s f) (take m (drop (k + 16) (put k n out ys))) zs cs f.seconds f.filled f.size f.count →
      Pastes out (put (k + 16) m (put k n out ys) zs) k (k + f.signals.length) (render w.to (signals_events x.recording))
  signals-placed file cs out ys zs k n m e₁ e₂ room same clear here top body =
      let o : Order = w.to in
      let r : Recording = x.recording in
      let h : Head = frames_head r.seconds r.channels r.frames in
      let t : List Event = frames_written r.seconds r.channels r.frames in
      let j : length (take m (drop (k + 16) (put k n out ys))) ≡ m = length-take-le m (drop (k + 16) (put k n out ys)) (rw length-drop (omega arith)) in
      let z : zs ≡ render o t =
      rw (is.seconds, ← v.frames) at
      (body clear (b + f.at + 16) v.before.basic r.channels v.top v.value (b + f.end) here (is.filled ∙ rw is.seconds) reads.says fills in-signals
      (omega (arith, j) ∙ (signals-long ∙ rw (is.seconds, ← v.frames)))) in
      rw (render-record o h t) (record-placed o h t out ys zs k n m f.signals.length e₁ e₂ (omega arith)
      (omega (arith, length-render o t, record-size h t, v.framed, signals-long))
      (top ∙ ap (λ (z : Sized). render o (numerals (record { size = z.size; code = 140; serial = 0; multiplier = z.multiplier }))) is.signals) z)

-- what the code wrote of the 140, whatever the bytes are
pub signals-written : (w : Way) (file s : List ℕ) (cs : Channels) (f : Measure) (out ys zs : List ℕ) (k n m : ℕ) → Bytes s → n ≡ 16 →
    16 + m ≡ f.signals.length → k + f.signals.length ≤ length out → length (put k n out ys) ≡ length out →
    ys ≡ render w.to (numerals (record { size = f.signals.size; code = 140; serial = 0; multiplier = f.signals.multiplier })) →
    FramesAnew w file (signals_in s f) (take m (drop (k + 16) (put k n out ys))) zs cs f.seconds f.filled f.size f.count →
    SignalsAnew w file s cs f out (put (k + 16) m (put k n out ys) zs) k (k + f.signals.length)
signals-written w file s cs f out ys zs k n m bytes e₁ e₂ room same top body =
    record {
      inside = room;
      wrote = λ b x g. signals-placed w (accepted w.from w.label b s bytes g.head g.fills g.held g.went) f g.reads g.is file cs out ys zs k n m e₁ e₂ room same
          g.clear g.channels top body;
    }

-- there is no room for it
pub signals-full : (w : Way) (file s : List ℕ) (cs : Channels) (f : Measure) (out : List ℕ) (k : ℕ) → Bytes s → k ≤ length out →
    length out - k < f.signals.length → SignalsAnew w file s cs f out out k k
signals-full w file s cs f out k bytes fit full =
    record {
      inside = fit;
      wrote = λ b x g room.
          let v = accepted w.from w.label b s bytes g.head g.fills g.held g.went in
          absurd (omega (arith, full, room, length-render w.to (signals_events x.recording), v.framed, ap (λ (z : Sized). z.length) g.is.signals));
    }

-- the records up to byte p are written, of all the content of a body that is accepted as x
abbrev pub RenewedUpTo : Way → ℕ → List ℕ → Placed → List ℕ → List ℕ → ℕ → ℕ → Type 0
RenewedUpTo w b s x d₀ d k p = Copying (λ (l : List ℕ). l) (Renewal w b s x.recording) d₀ d 0 k p (render w.to (content w.label x.recording))

module _ {w : Way} {file s : List ℕ} {cs : Channels} {f : Measure} {b : ℕ} {x : Placed} (g : BodyMeasured w file s cs f b x) where
  pub renewed-none : {d₀ : List ℕ} → Bytes s → RenewedUpTo w b s x d₀ d₀ 0 0
  renewed-none bytes = copying-none _ (renewal w (accepted w.from w.label b s bytes g.head g.fills g.held g.went) bytes g.clear)

  -- what the code wrote of one record
  renews-wrote : (d d' : List ℕ) (k k' : ℕ) {p : ℕ} {h : At.Head} {q : ℕ} → RecordAt w.from b s p h q → ChildAnew w file s cs f h q d d' k k' → {xs : List ℕ} →
      Renews w b s x.recording p (head_of h) xs → Pastes d d' k k' xs
  renews-wrote d d' k k' v z (signals i e is) = rw is ((z.signals e).wrote b x g)
  renews-wrote d d' k k' v z (other i n is) = rw is ((rw v.place at ((z.other n).wrote b)) _ _ v.ends n i)

  module _ {d₀ d : List ℕ} {k p : ℕ} (y : RenewedUpTo w b s x d₀ d k p) where
    -- one record more, with the head h and up to q
    pub renewed-more : (d' : List ℕ) (k' : ℕ) {h : At.Head} {q : ℕ} → RecordAt w.from b s p h q → ChildAnew w file s cs f h q d d' k k' →
        RenewedUpTo w b s x d₀ d' k' q
    renewed-more d' k' v z =
        let c = links-parted w.from b s v (λ e. v.kind (ap (λ (h : Head). h.code) (goes_same (sym v.heads ∙ e.stands)).0 ∙ e.code)) y.links in
        copying-more y (λ _ _. refl) c d' k' (renews-wrote d d' k k' v z c.inner)

    -- the delimiter and the padding are zeros
    pub renewed-last : (zs : List ℕ) → 16 + length d₀ ≡ f.whole.length → length d ≡ length d₀ → length (put k (length d - k) d zs) ≡ length d →
        NoRecord w.from b s p → zs ≡ replicate (length (take (length d - k) (drop k d))) 0 →
        put k (length d - k) d zs ≡ render w.to (behind_head w.label x.recording)
    renewed-last zs room same long v is =
        let o : Order = w.to in
        let t : List Event = content w.label x.recording in
        let n : ℕ = span (recording_head w.label 0 x.recording) - (16 + size t) in
        let e = links-ended w.from b s (λ h ys j i. renews-there v j i) y.links in
        let c : render o t ≡ y.done ++ replicate 16 0 = y.is ∙ ap (λ (l : List ℕ). y.done ++ l) e.is in
        let l : size t ≡ length y.done + 16 = sym (length-render o t) ∙ (ap length c ∙ length-append y.done (replicate 16 0)) in
        let u : f.whole.length ≡ span (recording_head w.label 0 x.recording) = ap (λ (z : Sized). z.length) g.is.whole in
        let serves = (sized (16 + size t)).serves in
        let q = y.wrote (omega arith) in
        let front : take k d ≡ y.done = ap (λ (i : ℕ). take i d) q.0 ∙ (ap (take (0 + length y.done)) q.1 ∙ take-pasted d₀ 0 y.done (omega arith)) in
        let m : length (take (length d - k) (drop k d)) ≡ 16 + n =
        length-take-le (length d - k) (drop k d) (rw length-drop (omega arith)) ∙ omega (arith, q.0) in
        front-all d zs y.done k (length d - k) (omega (arith, q.0)) long front
        ∙ (ap (λ (l : List ℕ). y.done ++ l) (is ∙ (ap (λ (i : ℕ). replicate i 0) m ∙ sym (replicate-append-replicate 16 n 0)))
        ∙ (sym (append_assoc y.done (replicate 16 0) (replicate n 0)) ∙ (ap (λ (l : List ℕ). l ++ replicate n 0) (sym c) ∙ sym (padded-events o t n))))
