-- What a recording's second half comes to, one step at a time.
-- Assumes nothing.
use Rattle.std.proofs.Common.{Result, Ok, Err}
use Rattle.rules.specs.declared.Reason.TheVariants as Reason
use mathlib.Core.Path.{◌≡◌, refl, sym, ap, ◌∙◌}
use mathlib.Core.Bool.{Bool, true, false}
use mathlib.Core.List.{List}
use Prim.Native.Nat.{ℕ, ◌+◌, ◌-◌, ◌≤◌}
use native.Mathlib.Nat.{sub-zero}
use native.Mathlib.Omega.{arith}
use lib.Dec.{leb, eqb}
use lib.ListN.{length}
use Rattle.words.specs.Numbers.{number_at}
use Rattle.words.specs.declared.Order.{Order}
use Rattle.walk.specs.Walk.{Walk, give, ◌>>=◌, ◌>>◌, require}
use Rattle.walk.specs.See.{Verdict, stops, goes, gate, see, onward, Goes, Yields}
use Rattle.walk.proofs.Seen.{see-bind, see-after, see-check, see-give, then-gate, gate-true, gate-false, stopped, went, stays-goes, yields-bind}
use Rattle.rules.specs.Rules as R
use Rattle.rules.specs.declared.Label.{Label}
use Rattle.rules.specs.declared.Basic.{Basic}
use Rattle.rules.specs.declared.Channels.{Channels}
use Rattle.rules.specs.declared.Frames.{Frames}
use Rattle.rules.specs.declared.Head.{Head}
use Rattle.rules.specs.declared.Refusal.{Refusal}
use Rattle.rules.proofs.Room.{stays-frames_rest}
use Rattle.records.specs.Says.{halts, head_of, tested, Headroom, headroom, NextHead}
use Rattle.rules.specs.Rules.{Descriptions, signals}
use Rattle.descriptions.proofs.Stands.{yields-past}
use Rattle.signals.specs.FramesJudged.{frames_of, SignalsIn, FramesAt}
use Rattle.signals.specs.Signaled.{DescriptionsKnown, Whole, WholeAt, SignalsOf, closing_tests}
use Rattle.signals.proofs.FramesBody.{yields-frames}

-- what is given at the end
unfoldable pub placed : Descriptions → R.Head → R.Frames → R.Next → R.Placed
placed t r f d = record {
  recording = record {
    basic = t.basic;
    own_channels = t.channels.own;
    channels = t.channels.value;
    own_patient = t.patient.own;
    patient = t.patient.value;
    own_events = t.events.own;
    events = t.events.value;
    own_montage = t.montage.own;
    montage = t.montage.value;
    seconds = f.seconds;
    frames = f.frames;
    makers₁ = t.next.makers;
    makers₂ = t.channels.next.makers;
    makers₃ = t.patient.next.makers;
    makers₄ = t.events.next.makers;
    makers₅ = t.montage.next.makers;
    makers₆ = d.makers;
  };
  layout = record { bytes = R.span r; at120 = R.span r - t.next.room; at130 = R.span r - t.channels.next.room; at200 = R.span r - t.patient.next.room; at350 = R.span r - t.events.next.room; at140 = R.span r - t.montage.next.room; frame = f.size };
}

-- it is whole: the code keeps the length and the seconds of its frames
whole : (t : Descriptions) (r : R.Head) (a : R.Frames) (d : R.Next) (f : Frames) → a.size ≡ f.size → a.seconds ≡ f.seconds → Whole t r f (placed t r a d)
unfolding placed
whole t r a d f i j = record { layout = rw i; seconds = j; basic = refl; own_channels = refl; channels = refl; own_patient = refl; patient = refl; own_events = refl; own_montage = refl }

-- behind the delimiter: so many bytes of the recording are used, and so many are left
unfoldable pub closing : R.Head → ℕ → ℕ → ℕ → R.Placed → Walk R.Placed
closing r used left padded p = require (leb (used - padded) R.content_limit) 14 used >> (require (R.pad_ok r left) 10 0 >> (R.padding left >> give p))

unfoldable pub behind : Descriptions → R.Head → R.Frames → R.Next → Walk R.Placed
behind t r f d = R.delimiter d.head >> closing r (R.span r - (d.room - 16)) (d.room - 16) f.padded (placed t r f d)

signals-split : (label : Label) (t : Descriptions) (r : R.Head) → signals label t r ≡
    (R.coded t.montage.next.head 140 >> (R.frames label t.basic t.channels.own t.channels.value (R.span r - t.montage.next.room - 20) t.montage.next.room t.montage.next.head >>= λ f.
    R.next label (R.span r) (t.montage.next.room - R.span t.montage.next.head) >>= behind t r f))
unfolding signals behind closing placed
signals-split label t r = refl

-- of a second half that the walk accepted: the 140 has room for its numbers, and they are in its bytes
pub yields-signals : (o : Order) (label : Label) (b : ℕ) (s : List ℕ) (at : ℕ) (t : Descriptions) (r : R.Head) → Yields o b s at (signals label t r) (λ x _. (32 ≤ t.montage.next.room) × Whole t r (record { seconds = number_at o 4 s (at - b); size = number_at o 4 s (at + 4 - b); padded = 0 }) x)
unfolding behind closing ◌>>=◌ ◌>>◌
yields-signals o label b s at t r =
    let last : R.Next = t.montage.next in
    rw signals-split (λ _.
    yields-bind o b s (R.frames label t.basic t.channels.own t.channels.value (R.span r - last.room - 20) last.room last.head) _ at _ _ (yields-frames o label b s at t.basic t.channels.own t.channels.value (R.span r - last.room - 20) last.room last.head)
    (λ f e q. yields-past o b s (R.next label (R.span r) (last.room - R.span last.head)) _ e _
    (λ d e₂. yields-past o b s (R.delimiter d.head) _ e₂ _
    (λ _ e₃ _ _. yields-past o b s (R.padding (d.room - 16)) _ e₃ _
    (λ _ _. (q.0, whole t r f d _ q.1.each q.1.seconds))))))

closed-open : (o : Order) (b : ℕ) (s : List ℕ) (at : ℕ) (r : R.Head) (used left padded : ℕ) (p : R.Placed) → see o b s at (closing r used left padded p) ≡
    onward (gate (leb (used - padded) R.content_limit) (gate (R.padded r.multiplier left) (see o b s at (R.padding left)) 10 at) 14 (at - used)) (λ _ e. goes p e)
unfolding closing
closed-open o b s at r used left padded p = simp (see-after, see-check, see-give, then-gate, sub-zero)

-- the 140 with the head h, in a recording whose body has n bytes
abbrev pub the140 : Label → Descriptions → Bool → ℕ → Head → Walk R.Frames
the140 label t own n h = R.frames label t.basic own t.channels.value (h.at - 4) (n - h.at) (head_of h)

module _ (o : Order) (label : Label) (base : ℕ) (s : List ℕ) (t : Descriptions) (r : R.Head) (v : Verdict R.Placed) where
  -- v goes on at byte q, behind a 140 of which the code keeps f
  pub record AfterFrames (f : Frames) (q : ℕ) : Type 0 where
    pub value : R.Frames
    pub kept : frames_of value ≡ f
    pub same : v ≡ onward (see o base s (base + q) (R.next label (16 + length s) (length s - q))) (λ n e. see o base s e (behind t r value n))

  -- v goes on behind the head of a record that stops at byte q
  pub record AfterHead (f : Frames) (h : R.Head) (q : ℕ) : Type 0 where
    pub value : R.Frames
    pub kept : frames_of value ≡ f
    pub next : R.Next
    pub same : v ≡ onward (see o base s (base + q) (R.delimiter h)) (λ _ e. see o base s e (closing r (16 + q) (length s - q) f.padded (placed t r value next)))

module _ (label : Label) {o : Order} {file : List ℕ} {cs : Channels} {own : Bool} {b : Basic} {h : Head} {s : List ℕ} {m : ℕ} {t : Descriptions} {r : R.Head} (k : DescriptionsKnown o file cs own b h s m t r) (base : ℕ) (fit : h.at + 16 ≤ length s) where
  abbrev halfway : Verdict R.Placed
  halfway = see o base s (base + (h.at + 16)) (signals label t r)

  opened : halfway ≡
      gate (eqb h.code 140) (onward (see o base s (base + (h.at + 16)) (the140 label t own (length s) h)) (λ f e.
      onward (see o base s e (R.next label (16 + length s) (length s - h.at - R.span (head_of h)))) (λ n x. see o base s x (behind t r f n)))) 9 (base + (h.at + 4))
  opened =
      let d : 16 + length s - (length s - h.at) - 20 ≡ h.at - 4 = omega arith in
      let e : base + (h.at + 16) - 12 ≡ base + (h.at + 4) = omega arith in
      simp (signals-split, see-bind, see-after, see-check, see-give, then-gate, k.own, k.head, k.room, k.bytes, d, e)

  uncoded : eqb h.code 140 ≡ false → halfway ≡ stops 9 (base + (h.at + 4))
  uncoded x = rw (opened, x, gate-false)

  module _ (code : eqb h.code 140 ≡ true) where
    frames-stop : {x : Refusal} → FramesAt o label file cs own b h base s (Err x) → halfway ≡ halts x
    frames-stop x = rw (opened, code, gate-true, stopped frames_of _ (x.seen t.basic t.channels.value k.basic k.channels))

    frames-on : {f : Frames} {q : ℕ} → FramesAt o label file cs own b h base s (Ok (f, q)) → AfterFrames o label base s t r halfway f q
    frames-on {f} {q} x =
        let v : Verdict R.Frames = see o base s (base + (h.at + 16)) (the140 label t own (length s) h) in
        let g : Goes v (λ a e. (frames_of a ≡ f) × (e ≡ base + q)) = went frames_of v (x.seen t.basic t.channels.value k.basic k.channels) in
        go g.value g.end g.is g.kept.0 g.kept.1
      where
        go : (y : R.Frames) (e : ℕ) → see o base s (base + (h.at + 16)) (the140 label t own (length s) h) ≡ goes y e → frames_of y ≡ f → e ≡ base + q → AfterFrames o label base s t r halfway f q
        go y e i j l =
            let z = stays-goes o base s (base + length s) (omega arith) (the140 label t own (length s) h) (base + (h.at + 16)) _ (omega arith) (stays-frames_rest label t.basic own t.channels.value (h.at - 4) (length s - h.at) (head_of h) (base + length s) (base + (h.at + 16)) (omega arith)) i in
            let d : length s - h.at - R.span (head_of h) ≡ length s - q = omega (arith, z.2) in
            record { value = y; kept = j; same = rw (opened, code, gate-true, i, l, d) }

module _ {o : Order} {label : Label} {base : ℕ} {s : List ℕ} {t : Descriptions} {r : R.Head} {v : Verdict R.Placed} {f : Frames} where
  found-stop : {q : ℕ} {x : Refusal} → AfterFrames o label base s t r v f q → NextHead o label base s q (Err x) → v ≡ halts x
  found-stop {q} a n = a.same ∙ rw (stopped headroom (see o base s (base + q) (R.next label (16 + length s) (length s - q))) (n.seen (16 + length s) (omega arith)))

  found-on : {q : ℕ} {d : Head} → R.span r ≡ 16 + length s → AfterFrames o label base s t r v f q → NextHead o label base s q (Ok d) → AfterHead o label base s t r v f (head_of d) (d.at + 16)
  unfolding behind
  found-on {q} {d} n a x =
      let w : Verdict R.Next = see o base s (base + q) (R.next label (16 + length s) (length s - q)) in
      let g : Goes w (λ y e. (headroom y ≡ record { head = head_of d; room = length s - d.at }) × (e ≡ base + (d.at + 16))) = went headroom w (x.seen (16 + length s) (omega arith)) in
      go g.value g.end g.is (ap (λ (y : Headroom). y.head) g.kept.0) (ap (λ (y : Headroom). y.room) g.kept.0) g.kept.1 x.stands.inside
    where
      go : (y : R.Next) (e : ℕ) → see o base s (base + q) (R.next label (16 + length s) (length s - q)) ≡ goes y e → y.head ≡ head_of d → y.room ≡ length s - d.at → e ≡ base + (d.at + 16) → d.at + 16 ≤ length s → AfterHead o label base s t r v f (head_of d) (d.at + 16)
      go y e i j u w l =
          let c : length s - d.at - 16 ≡ length s - (d.at + 16) = omega arith in
          let z : 16 + length s - (length s - (d.at + 16)) ≡ 16 + (d.at + 16) = omega arith in
          record { value = a.value; kept = a.kept; next = y; same = a.same ∙ rw (i, w, see-after, j, u, n, c, z, ap (λ (z : Frames). z.padded) a.kept) }

  delimiter-stop : {h : R.Head} {q n p : ℕ} → AfterHead o label base s t r v f h q → see o base s (base + q) (R.delimiter h) ≡ stops n p → v ≡ stops n p
  delimiter-stop a x = a.same ∙ rw x

  -- behind the delimiter: the tests and the padding, which the code knows as x
  module _ {h : R.Head} {q m : ℕ} {x : Verdict (Unit {0})} (a : AfterHead o label base s t r v f h q) (multiplier : r.multiplier ≡ m) (delimited : see o base s (base + q) (R.delimiter h) ≡ goes tt (base + q)) (from : 16 ≤ base)
      (is : closing_tests o base s q f.padded m ≡ x) where
    closed-as : v ≡ onward x (λ _ e. goes (placed t r a.value a.next) e)
    closed-as =
        let d : base + q - (16 + q) ≡ base - 16 = omega arith in
        a.same ∙ rw (delimited, closed-open, multiplier, d, is)

    closed-stop : {n p : ℕ} → x ≡ stops n p → v ≡ stops n p
    closed-stop e = closed-as ∙ rw e

    closed_on : {p : ℕ} → x ≡ goes tt p → Goes v (WholeAt p t r f)
    closed_on {p} e =
        let i : a.value.size ≡ f.size = ap (λ (u : Frames). u.size) a.kept in
        let j : a.value.seconds ≡ f.seconds = ap (λ (u : Frames). u.seconds) a.kept in
        record { value = placed t r a.value a.next; end = p; is = closed-as ∙ rw e; kept = record { ends = refl; whole = whole t r a.value a.next f i j } }

-- what `signals` answers at each return, from what the functions that it calls say
module _ (o : Order) (label : Label) (file : List ℕ) (cs : Channels) (own : Bool) (b : Basic) (h : Head) (base : ℕ) (s : List ℕ) (m : ℕ) (i : SignalsIn file cs b h base s) where
  pub other-code : eqb h.code 140 ≡ false → (p : ℕ) → p ≡ base + (h.at + 4) → SignalsOf o label file cs own b h base s m (Err (record { 0 = Reason.Code; 1 = p }))
  other-code c p e t r k = uncoded label k base i.head.inside c ∙ ap (λ (x : ℕ). stops 9 x) (sym e)

  module _ (code : eqb h.code 140 ≡ true) where
    pub stops-frames : {x : Refusal} → FramesAt o label file cs own b h base s (Err x) → SignalsOf o label file cs own b h base s m (Err x)
    stops-frames a t r k = frames-stop label k base i.head.inside code a

    module _ {f : Frames} {q : ℕ} (a : FramesAt o label file cs own b h base s (Ok (f, q))) where
      pub stops-next : {x : Refusal} → NextHead o label base s q (Err x) → SignalsOf o label file cs own b h base s m (Err x)
      stops-next n t r k = found-stop (frames-on label k base i.head.inside code a) n

      module _ {d : Head} (n : NextHead o label base s q (Ok d)) where
        behind-head : {t : Descriptions} {r : R.Head} (k : DescriptionsKnown o file cs own b h s m t r) → AfterHead o label base s t r (see o base s (base + (h.at + 16)) (signals label t r)) f (head_of d) (d.at + 16)
        behind-head k = found-on k.bytes (frames-on label k base i.head.inside code a) n

        -- last: what is said of the delimiter; rest: of what follows it
        module _ {last : Result (Unit {0}) Refusal} (l : see o base s (base + (d.at + 16)) (R.delimiter (head_of d)) ≡ tested last (base + (d.at + 16))) where
          pub stops-delimiter : {x : Refusal} → last ≡ Err x → SignalsOf o label file cs own b h base s m (Err x)
          stops-delimiter e t r k = delimiter-stop (behind-head k) (rw e at l)

          module _ (fine : last ≡ (Ok tt)) {rest : Result (Unit {0}) Refusal} (z : closing_tests o base s (d.at + 16) f.padded m ≡ tested rest (base + length s)) where
            pub stops-closing : {x : Refusal} → rest ≡ Err x → SignalsOf o label file cs own b h base s m (Err x)
            stops-closing e t r k = closed-stop (behind-head k) k.multiplier (rw fine at l) i.body.headed (rw e at z) refl

            pub holds : rest ≡ (Ok tt) → SignalsOf o label file cs own b h base s m (Ok (f, q))
            holds e t r k = closed_on (behind-head k) k.multiplier (rw fine at l) i.body.headed (rw e at z) refl
