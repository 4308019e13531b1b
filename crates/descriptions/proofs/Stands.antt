-- The channels of a 120 or 320 that passed stand in its bytes, and so in the file; and the counts of a 100 that passed.
-- Assumes nothing.
use Rattle.descriptions.specs.declared.Places.{Places}
use Rattle.std.proofs.Common.{Some, None}
use Rattle.std.specs.Prelude as Std
use mathlib.Core.Path.{◌≡◌, refl, ap, ◌∙◌}
use mathlib.Core.Bool.{Bool, true, false}
use mathlib.Core.List.{List, [], ◌∷◌}
use mathlib.Core.Option.{Option, none, some}
use Prim.Native.Nat.{ℕ, ◌+◌, ◌*◌, ◌-◌, ◌≤◌}
use native.Mathlib.Nat.{add_assoc}
use native.Mathlib.Omega.{arith}
use borrow.Author.Tests.{eqb-true}
use lib.ListN.{length, take, drop}
use Rattle.words.specs.declared.Order.{Order}
use Rattle.words.specs.Numbers.{bytes_at, number_at}
use Rattle.walk.specs.Walk.{laid, Walk, give, refuse, check, number, read, skip, list, pick, ◌>>=◌, ◌>>◌}
use Rattle.walk.specs.See.{stops, goes, see, Yields, over, ends}
use Rattle.walk.proofs.Apart.{none-some}
use Rattle.walk.proofs.Seen.{see-refuse, yields, yields-bind, part-number}
use Rattle.rules.specs.Rules as R
use Rattle.rules.specs.declared.Form.TheVariants as Form
use Rattle.rules.specs.declared.Head.{Head}
use Rattle.rules.specs.declared.Label.{Label}
use Rattle.rules.specs.Rules.{fixed, head, admit, basic_body, channels_group, channels, channels_body, channel, series}
use Rattle.rules.proofs.Cases.{by_form}
use Rattle.records.specs.Says.{head_of, group_of, Kept, subs_at, ChannelsIn, ChannelsStand}
use Rattle.records.proofs.Facts.{between_in}
use Rattle.records.proofs.Steps.{yields-channels}
use Rattle.descriptions.specs.DescriptionsJudged.{group_for, HeldIs, HeldAs, HeldWithin, Owned, PartValue, held_at, channels_in, count_in}

-- a 100 that passed counts so many
pub record CountsBounded (channels frames : ℕ) : Type 0 where
  pub one : 1 ≤ channels
  pub few : channels ≤ 128
  pub short : frames ≤ 1000000

pub yields-basic : (o : Order) (b : ℕ) (s : List ℕ) (room at : ℕ) → Yields o b s at (R.basic room) (λ x e. CountsBounded x.channels x.frames)
unfolding fixed head admit basic_body ◌>>=◌ ◌>>◌
yields-basic o b s room at _ _ _ _ _ _ c f _ _ _ _ _ _ _ = record { one = (between_in 1 128 _ c).0; few = (between_in 1 128 _ c).1; short = (between_in 1 1000000 _ f).1 }

-- less may be said of the answer
pub yields-weaken : {A : Type 0} (o : Order) (b : ℕ) (s : List ℕ) (w : Walk A) (at : ℕ) (Q R : A → ℕ → Type 0) → ((a : A) (e : ℕ) → Q a e → R a e) → Yields o b s at w Q → Yields o b s at w R
yields-weaken o b s (give x) at Q R i h = i x at h
yields-weaken o b s (refuse n p) at Q R i h = tt
yields-weaken o b s (check c n p w) at Q R i h = λ e. yields-weaken o b s w at Q R i (h e)
yields-weaken o b s (number n f) at Q R i h = yields-weaken o b s (f (number_at o n s (at - b))) (at + n) Q R i h
yields-weaken o b s (read k n f) at Q R i h = yields-weaken o b s (f _) (at + n) Q R i h
yields-weaken o b s (skip n w) at Q R i h = yields-weaken o b s w (at + n) Q R i h
yields-weaken o b s (list p l c m w) at Q R i h = yields-weaken o b s w at Q R i h

-- of any walk nothing need be said
yields-any : {A : Type 0} (o : Order) (b : ℕ) (s : List ℕ) (w : Walk A) (at : ℕ) → Yields o b s at w (λ _ _. Unit {0})
yields-any o b s (give x) at = tt
yields-any o b s (refuse n p) at = tt
yields-any o b s (check c n p w) at = λ _. yields-any o b s w at
yields-any o b s (number n f) at = yields-any o b s (f (number_at o n s (at - b))) (at + n)
yields-any o b s (read k n f) at = yields-any o b s (f (laid o k (bytes_at n s (at - b)))) (at + n)
yields-any o b s (skip n w) at = yields-any o b s w (at + n)
yields-any o b s (list p l c m w) at = yields-any o b s w at

-- so of a step, where what follows does not ask
pub yields-past : {A B : Type 0} (o : Order) (b : ℕ) (s : List ℕ) (w : Walk A) (k : A → Walk B) (at : ℕ) (R : B → ℕ → Type 0) → ((a : A) (e : ℕ) → Yields o b s e (k a) R) → Yields o b s at (w >>= k) R
yields-past o b s w k at R g = yields-bind o b s w k at (λ _ _. Unit {0}) R (yields-any o b s w at) (λ a e _. g a e)

-- the rest of the 120 or 320 at byte p, which stops at e
record Ends (o : Order) (b : ℕ) (s : List ℕ) (p m : ℕ) (cs : List R.Channel) (e : ℕ) : Type 0 where
  stand : ChannelsStand o s (subs_at p m) cs
  few : m ≤ 128
  end : e ≡ b + (p + 32 + 256 * m)

-- the code's group for a label is the rules'
pub group-is : (label : Label) (n : ℕ) → group_of (group_for label n) ≡ channels_group label n
unfolding group_for channels_group
group-is label n = by_form (λ l. group_of (group_for l n) ≡ channels_group l n) label refl refl

-- a 350: in form 00 it is refused at its code, in form 01 its channels are read
pub montage-none : (o : Order) (base : ℕ) (s : List ℕ) (label : Label) → label.form ≡ Form.Channels → (cs : List R.Channel) (h : Head) →
    ends (see o base s (base + (h.at + 16)) (R.montage label cs (length s - h.at) (head_of h))) ≡ stops 9 (base + h.at + 4)
unfolding R.montage over
montage-none o base s label f cs h = let z : base + (h.at + 16) - 12 ≡ base + h.at + 4 = omega arith in rw (R.montage, f, see-refuse, z)

pub montage-some : (label : Label) → label.form ≡ Form.Electrodes → (cs : List R.Channel) (room : ℕ) (h : R.Head) → R.montage label cs room h ≡ channels (R.montage_group (length cs)) room h
unfolding R.montage
montage-some label f cs room h = rw (R.montage, f)

-- it has as many channels as record 100 says, in either form
counts-label : (label : Label) (n m : ℕ) → (channels_group label n).counts m ≡ true → m ≡ n
unfolding channels_group
counts-label label n m = by_form (λ l. (channels_group l n).counts m ≡ true → m ≡ n) label (eqb-true m n) (eqb-true m n)

yields-rest : (o : Order) (b : ℕ) (s : List ℕ) (label : Label) (n room : ℕ) (h : R.Head) (p : ℕ) → Yields o b s (b + (p + 16)) (channels (channels_group label n) room h) (Ends o b s p n)
unfolding channels channels_body admit ◌>>=◌ ◌>>◌
yields-rest o b s label n room h p _ _ _ c₁ c₂ _ _ =
    let m : ℕ = number_at o 4 s (b + (p + 16) - b) in
    let d : m ≡ n = counts-label label n m c₂ in
    let l : m ≤ 128 = (between_in 1 128 m c₁).1 in
    let z : b + (p + 16) + 4 + 4 + 8 ≡ b + (p + 32) = omega arith in
    rw z (yields-weaken o b s (series m 1 256 (R.span h - 32) (channel (channels_group label n).sub)) (b + (p + 32)) _ _
    (λ cs e q. record { stand = record { count = q.1 ∙ d; kept = q.0 }; few = omega arith; end = rw d at q.2 })
    (yields-channels o b s (channels_group label n).sub (R.span h - 32) m 1 (p + 32)))

-- so of the channels that the walk gives, where it ends at byte q
pub owned : (o : Order) (b : ℕ) (s : List ℕ) (label : Label) (room : ℕ) (h : R.Head) (p q n : ℕ) → q ≤ length s → (cs : List R.Channel) →
    see o b s (b + (p + 16)) (channels (channels_group label n) room h) ≡ goes cs (b + q) → Owned o s p n cs
owned o b s label room h p q n l cs k =
    let y : Ends o b s p n cs (b + q) = yields o b s (channels (channels_group label n) room h) (b + (p + 16)) _ (yields-rest o b s label n room h p) k in
    record { stand = y.stand; room = record { inside = omega (arith, y.end); few = y.few } }

-- what stands in a part of the file stands in the file
module _ (o : Order) (base n : ℕ) (s file : List ℕ) (is : s ≡ take n (drop base file)) where
  number-part : (p d : ℕ) → p + d + 4 ≤ n → number_at o 4 s (p + d) ≡ number_at o 4 file (base + p + d)
  number-part p d l =
      let z : base + (p + d) ≡ base + p + d = omega arith in
      ap (λ (x : List ℕ). number_at o 4 x (p + d)) is ∙ part-number o file base n 4 (p + d) l ∙ ap (number_at o 4 file) z

  kept-part : (p : ℕ) (cs : List R.Channel) → p + 256 * length cs ≤ n → Kept o s p cs → Kept o file (base + p) cs
  kept-part p [] l k = tt
  kept-part p (c ∷ cs) l k = (
    record {
      flags = k.0.flags ∙ number-part p 20 (omega arith);
      type = k.0.type ∙ number-part p 24 (omega arith);
      format = k.0.format ∙ number-part p 28 (omega arith);
      rate = k.0.rate ∙ number-part p 32 (omega arith);
    },
    rw (add_assoc base p 256) (kept-part (p + 256) cs (omega arith) k.1),
  )

  stand-part : (p m : ℕ) (cs : List R.Channel) → p + 32 + 256 * m ≤ n → ChannelsStand o s (subs_at p m) cs → ChannelsStand o file (subs_at (base + p) m) cs
  stand-part p m cs l k = record { count = k.count; kept = rw (add_assoc base p 32) (kept-part (p + 32) cs (rw k.count l) k.kept) }

-- the channels that hold: own ones, or those of the recording before
module _ (o : Order) (base : ℕ) (s : List ℕ) (p m : ℕ) where
  pub stand : (file : List ℕ) (before : Std.Option Places) (held : Option R.Held) (own : Bool) (at : ℕ) (cs : List R.Channel) → s ≡ take (length s) (drop base file) → HeldAs o file before held → PartValue (Owned o s p m) (R.held_channels held) own cs → at ≡ pick own (base + p) (held_at (channels_in before)) → ChannelsStand o file (subs_at at (pick own m (count_in before))) cs
  stand file before held true at cs is h v e = rw e (stand-part o base (length s) s file is p m cs v.room.inside v.stand)
  stand file None none false at cs is h v e = none-some v
  stand file None (some x) false at cs is h v e = absurd h
  stand file (Some q) none false at cs is h v e = absurd h
  stand file (Some q) (some x) false at cs is h v e =
      let d : cs ≡ x.channels = cc in
      rw (e, d) h

  pub room : (before : Std.Option Places) (hv : Option (List R.Channel)) (own : Bool) (at : ℕ) (cs : List R.Channel) → HeldIs (channels_in before) hv → PartValue (Owned o s p m) hv own cs → at ≡ pick own (base + p) (held_at (channels_in before)) → (L : ℕ) → base + length s ≤ L → HeldWithin L before → ChannelsIn L (subs_at at (pick own m (count_in before)))
  room before hv true at cs i v e L l w = record { inside = omega (arith, v.room.inside); few = v.room.few }
  room None none false at cs i v e L l w = none-some v
  room None (some x) false at cs i v e L l w = absurd i
  room (Some q) hv false at cs i v e L l w = rw e w
