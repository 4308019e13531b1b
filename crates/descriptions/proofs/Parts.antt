-- A part of a recording that may be absent: what the walk comes to, from what the code finds. Shown once, over the code, the body and what is held.
-- Assumes nothing.
use Rattle.descriptions.specs.declared.Part.{Part}
use Rattle.std.proofs.Common.{Result, Ok, Err, Some, None}
use Rattle.rules.specs.declared.Reason.TheVariants as Reason
use Rattle.std.specs.Prelude as Std
use mathlib.Core.Path.{◌≡◌, refl, sym, ap, ◌∙◌}
use mathlib.Core.Bool.{Bool, true, false, ◌||◌}
use mathlib.Core.List.{List, []}
use mathlib.Core.Option.{Option, none, some}
use Prim.Native.Nat.{ℕ, ◌+◌, ◌-◌, ◌≤◌}
use native.Mathlib.Omega.{arith}
use lib.Dec.{eqb}
use lib.ListN.{length}
use Rattle.words.specs.declared.Order.{Order}
use Rattle.walk.specs.Walk.{Walk, give, refuse, ◌>>=◌, ◌>>◌}
use Rattle.walk.specs.See.{Verdict, stops, goes, gate, see, Goes, over, ends}
use Rattle.walk.proofs.Apart.{zero_one, stops-goes}
use Rattle.walk.proofs.Seen.{see-bind, see-give, see-refuse, went, stopped, stays-goes}
use Rattle.rules.specs.Rules as R
use Rattle.rules.specs.Rules.{part}
use Rattle.rules.specs.declared.Head.{Head}
use Rattle.rules.specs.declared.Label.{Label}
use Rattle.rules.specs.declared.Refusal.{Refusal}
use Rattle.rules.proofs.Room.{Rests}
use Rattle.records.specs.Says.{halts, head_of, headroom, Headroom, ok_of}
use Rattle.records.specs.declared.items.Holder.TheVariants as Holder
use Rattle.descriptions.specs.DescriptionsJudged.{lacking, Follows, There, Stood, Meets, Judges, Behind, ItemsPart, EventsPart}

-- a place that is held is not nothing
pub at-nothing : {X : Type 0} {at : ℕ} → Some at ≡ None → X
at-nothing h = zero_one (cc)

-- a walk of which the code keeps only the place
ended : {A : Type 0} (v : Verdict A) {x : ℕ} → ends v ≡ goes tt x → Goes v (λ _ e. e ≡ x)
unfolding over
ended (stops n p) h = stops-goes h
ended (goes a e) h = record { value = a; end = e; is = refl; kept = cc }

-- a walk that stops, or goes on, before another
module _ {A B : Type 0} (o : Order) (b : ℕ) (s : List ℕ) (at : ℕ) (w : Walk A) (k : A → Walk B) where
  pub bind_stops : {n p : ℕ} → see o b s at w ≡ stops n p → see o b s at (w >>= k) ≡ stops n p
  bind_stops h = rw (see-bind o b s at w k, h)

  pub bind_goes : {a : A} {e : ℕ} → see o b s at w ≡ goes a e → see o b s at (w >>= k) ≡ see o b s e (k a)
  bind_goes h = rw (see-bind o b s at w k, h)

module _ (label : Label) {A : Type 0} (fuel code : ℕ) (body : ℕ → R.Head → Walk A) (n : R.Next) where
  -- the three forms of a part
  part-own : (held : Option A) → eqb n.head.code code ≡ true → part label fuel code body held n ≡ (body n.room n.head >>= λ a. R.next label fuel (n.room - R.span n.head) >>= λ m. give (record { own = true; value = a; next = m }))
  unfolding part
  part-own held e = rw (part, e)

  part_held : (a : A) → eqb n.head.code code ≡ false → part label fuel code body (some a) n ≡ give (record { own = false; value = a; next = record { makers = []; head = n.head; room = n.room } })
  unfolding part
  part_held a e = rw (part, e)

  part_none : eqb n.head.code code ≡ false → part label fuel code body none n ≡ refuse 9 12
  unfolding part
  part_none e = rw (part, e)

module _ {A : Type 0} (o : Order) (label : Label) (base : ℕ) (s : List ℕ) (code : ℕ) (body : ℕ → R.Head → Walk A) (K : A → Type 0) (h : Head) where
  pub judges-absent : (held : Std.Option ℕ) → eqb h.code code ≡ false → Judges o label base s code body K h held (lacking base h held)
  judges-absent None e none n fuel m =
      let c : eqb n.head.code code ≡ false = rw m.head e in
      rw (part_none label fuel code body n c, see-refuse) (ap (λ (x : ℕ). stops 9 x) (omega arith))
  judges-absent None e (some a) n fuel m = absurd m.holds
  judges-absent (Some p) e none n fuel m = absurd m.holds
  judges-absent (Some p) e (some a) n fuel m =
      let c : eqb n.head.code code ≡ false = rw m.head e in
      record {
        value = record { own = false; value = a; next = record { makers = []; head = n.head; room = n.room } };
        end = base + (h.at + 16);
        is = rw (part_held label fuel code body n a c, see-give);
        kept = record { own = refl; place = refl; value = refl; head = m.head; room = m.room; end = refl };
      }

  module _ (held : Std.Option ℕ) (same : eqb h.code code ≡ true) where
    -- the rest of the record whose head is read
    abbrev rest : Verdict A
    rest = see o base s (base + (h.at + 16)) (body (length s - h.at) (head_of h))

    pub judges-stop : (r : Refusal) → ends rest ≡ halts r → Judges o label base s code body K h held (Err r)
    judges-stop x k hv n fuel m =
        let c : eqb n.head.code code ≡ true = rw m.head same in
        rw (part-own label fuel code body n hv c, m.head, m.room) (bind_stops o base s _ _ _ (stopped (λ _. tt) rest k))

    module _ (rests : Rests body) (q : ℕ) (fits : h.at + 16 ≤ length s) (inside : q ≤ length s) (k : ends rest ≡ goes tt (base + q)) (keeps : (x : A) → rest ≡ goes x (base + q) → K x) where
      went_on : Goes rest (λ _ e. e ≡ base + q)
      went_on = ended rest k

      goes_on : rest ≡ goes went_on.value (base + q)
      goes_on = rw went_on.kept at went_on.is

      left : length s - h.at - R.span (head_of h) ≡ length s - q
      left =
          let z : (16 ≤ R.span (head_of h)) × (R.span (head_of h) ≤ length s - h.at) × (base + q + (length s - h.at - R.span (head_of h)) ≡ base + length s) = stays-goes o base s (base + length s) (omega arith) (body (length s - h.at) (head_of h)) (base + (h.at + 16)) _ (omega arith) (rests (length s - h.at) (head_of h) (base + length s) (base + (h.at + 16)) (omega arith)) goes_on in
          omega arith

      -- what follows the record
      follows : {n : R.Next} {fuel : ℕ} {hv : Option A} → Meets s h held hv n fuel → see o base s (base + (h.at + 16)) (part label fuel code body hv n) ≡ see o base s (base + q) (R.next label fuel (length s - q) >>= λ m. give (record { own = true; value = went_on.value; next = m }))
      follows {n} {fuel} {hv} m =
          let c : eqb n.head.code code ≡ true = rw m.head same in
          rw (part-own label fuel code body n hv c, m.head, m.room, ← left) (bind_goes o base s _ _ _ goes_on)

      pub judges-behind : (a : Result Part Refusal) → Behind o label base s h.at q a → Judges o label base s code body K h held a
      judges-behind (Err x) b hv n fuel m =
          follows m ∙ bind_stops o base s _ _ _ (stopped headroom (see o base s (base + q) (R.next label fuel (length s - q))) (b.seen fuel (omega (arith, m.enough))))
      judges-behind (Ok t) b hv n fuel m =
          let v : Verdict R.Next = see o base s (base + q) (R.next label fuel (length s - q)) in
          let g : Goes v (λ x e. (headroom x ≡ record { head = head_of t.next; room = length s - t.next.at }) × (e ≡ base + (t.next.at + 16))) = went headroom v (b.seen fuel (omega (arith, m.enough))) in
          let st : There (base + h.at) q (length s) t = b.stands in
          record {
            value = record { own = true; value = went_on.value; next = g.value };
            end = g.end;
            is = follows m ∙ bind_goes o base s _ _ _ g.is ∙ see-give o base s _ _;
            kept = record {
              own = sym st.own;
              place = rw st.own st.place;
              value = rw st.own (keeps went_on.value goes_on);
              head = ap (λ (x : Headroom). x.head) g.kept.0;
              room = ap (λ (x : Headroom). x.room) g.kept.0;
              end = g.kept.1;
            };
          }

-- an event table: the part, or the refusal of what stands in its place
module _ (o : Order) (label : Label) (base : ℕ) (s : List ℕ) (h : Head) where
  -- the test of what stands there, from the head that the code found
  there : {n : R.Next} {fuel : ℕ} (c : Bool) → (R.allowed label).eventless || eqb h.code 200 ≡ c → Meets {A = List R.Item} s h (Some 0) (some []) n fuel →
      (R.allowed label).eventless || eqb n.head.code 200 ≡ c
  there c e m = rw m.head e

  pub table-stops : (R.allowed label).eventless || eqb h.code 200 ≡ false → EventsPart o label base s h (Err (record { 0 = Reason.Code; 1 = base + h.at + 4 }))
  unfolding R.event_table see gate ◌>>=◌ ◌>>◌
  table-stops e = record { told = λ n fuel m. rw (there false e m) (ap (λ (x : ℕ). stops 9 x) (omega arith)); follows = tt }

  pub table-part : (R.allowed label).eventless || eqb h.code 200 ≡ true → (a : Result Part Refusal) → ItemsPart o label Holder.Event base s h (Some 0) a → EventsPart o label base s h a
  unfolding R.event_table ok_of see gate ◌>>=◌ ◌>>◌
  table-part e a k = record { told = λ n fuel m. rw (there true e m) (k.told (some []) n fuel m); follows = k.follows }

-- where the next head stands, in a part that is absent and in one that is there
pub follows-lacking : (base n : ℕ) (h : Head) (held : Std.Option ℕ) → h.at + 16 ≤ n → Follows h.at n (lacking base h held)
follows-lacking base n h None f = tt
follows-lacking base n h (Some p) f = record { low = omega arith; inside = f }

pub follows-stood : (at p q n : ℕ) (a : Result Part Refusal) → p ≤ q → Stood at q n a → Follows p n a
follows-stood at p q n (Err r) l k = tt
follows-stood at p q n (Ok t) l k = record { low = omega (arith, k.next.low); inside = k.next.inside }
