-- The descriptions of a recording, one step after the other: what the walk comes to, from what the code finds.
-- Assumes nothing.
use Rattle.descriptions.specs.declared.Places.{Places}
use Rattle.std.proofs.Common.{Result, Ok, Err, Some, None}
use Rattle.std.specs.Prelude as Std
use mathlib.Core.Bool.{Bool, true, false}
use mathlib.Core.Path.{refl, ◌≡◌, ap, subst, ◌∙◌}
use mathlib.Core.List.{List, []}
use mathlib.Core.Option.{Option, none, some}
use Prim.Native.Nat.{ℕ, ◌+◌, ◌-◌, ◌≤◌}
use native.Mathlib.Nat.{add-zero, sub-zero}
use native.Mathlib.Omega.{arith}
use lib.ListN.{length, take, drop}
use Rattle.words.specs.declared.Order.{Order}
use Rattle.walk.specs.Walk.{Walk, give, pick, ◌>>=◌}
use Rattle.walk.specs.See.{Verdict, stops, goes, see, Goes, over}
use Rattle.walk.proofs.Seen.{see-give, went, stopped, yields, stays-goes}
use Rattle.rules.specs.Rules as R
use Rattle.rules.specs.declared.Label.{Label}
use Rattle.rules.specs.declared.Basic.{Basic}
use Rattle.rules.specs.declared.Head.{Head}
use Rattle.rules.specs.declared.Refusal.{Refusal}
use Rattle.rules.proofs.Room.{stays-basic}
use Rattle.records.specs.declared.items.Holder.TheVariants as Holder
use Rattle.records.specs.Says.{halts, head_of, headroom, Headroom, basic_of, basiced, ok_of, HeadFrom, NextHead, subs_at, ChannelsStand}
use Rattle.rules.specs.Rules.{descriptions}
use Rattle.descriptions.specs.DescriptionsJudged.{own_place, HeldIs, HeldAs, Owned, Parts, parted, Keeps, DescribedBounds, held_at, channels_in, patient_in, count_in, place_of, ChannelsPart, MontagePart, ItemsPart, EventsPart, DescriptionsOf}
use Rattle.descriptions.specs.declared.Part.{Part}
use Rattle.descriptions.specs.declared.Described.{Described}
use Rattle.descriptions.proofs.Parts.{bind_stops, bind_goes}
use Rattle.descriptions.proofs.Stands.{CountsBounded, yields-basic, stand, room}

-- the walk holds values where the code holds places
held-is : (o : Order) (file : List ℕ) (before : Std.Option Places) (held : Option R.Held) → HeldAs o file before held → HeldIs (channels_in before) (R.held_channels held) × HeldIs (patient_in before) (R.held_patient held)
held-is o file None none h = (tt, tt)
held-is o file None (some v) h = absurd h
held-is o file (Some p) none h = absurd h
held-is o file (Some p) (some v) h = (tt, tt)

-- a value for what the code holds, where the walk's does not matter
abbrev spare : Std.Option ℕ → Option (List R.Channel)
spare None = none
spare (Some p) = some []

spare-is : (x : Std.Option ℕ) → HeldIs x (spare x)
spare-is None = tt
spare-is (Some p) = tt

-- a record that is there, by the room from its start on
placed : (own : Bool) (base n p room other : ℕ) → 16 ≤ base → p ≤ n → room ≡ n - p → pick own (base + p) other ≡ pick own (place_of base n room) other
placed own base n p room other u l e = ap (λ (z : ℕ). pick own z other) (omega arith)

placed-own : (own : Bool) (base n p room at : ℕ) → 16 ≤ base → p ≤ n → room ≡ n - p → at ≡ pick own (base + p) 0 →
    pick own (Some at) None ≡ pick own (Some (place_of base n room)) None
placed-own true base n p room at u l e is = ap Some (is ∙ omega arith)
placed-own false base n p room at u l e is = refl

-- what the code makes of its parts
abbrev pub described_of : Basic → Std.Option Places → Part → Part → Part → Part → Described
described_of b before c p e m = record { basic = b; own = c.own; channels = c.at; count = pick c.own b.channels (count_in before); patient = p.at; events = own_place e; montage = own_place m; next = m.next }

-- what `basic_at` says of the body's first byte
abbrev pub Hundred : Order → ℕ → List ℕ → Result Basic Refusal → Type 0
Hundred o base s a = over basic_of (see o base s (base + 0) (R.basic (length s - 0))) ≡ basiced (base + 0) a

-- the 100 that passed, and the head behind it
pub record Begun (o : Order) (label : Label) (base : ℕ) (s : List ℕ) (b : Basic) (h : Head) : Type 0 where
  pub basic : R.Basic
  pub next : R.Next
  pub is : see o base s base (R.basic (length s)) ≡ goes basic (base + 128)
  pub follows : see o base s (base + 128) (R.next label (16 + length s) (length s - 128)) ≡ goes next (base + (h.at + 16))
  pub same : basic_of basic ≡ b
  pub head : next.head ≡ head_of h
  pub room : next.room ≡ length s - h.at
  pub counts : CountsBounded b.channels b.frames
  pub stands : HeadFrom 128 (length s) h

module _ (o : Order) (base : ℕ) (s : List ℕ) where
  abbrev hundred : Verdict R.Basic
  hundred = see o base s base (R.basic (length s))

  -- as `basic_at` says it
  at-start : {A : Type 0} (f : R.Basic → A) (v : Verdict A) → over f (see o base s (base + 0) (R.basic (length s - 0))) ≡ v → over f hundred ≡ v
  at-start f v k = rw (add-zero base, sub-zero (length s)) at k

  hundred-goes : {b : Basic} → Hundred o base s (Ok b) → Goes hundred (λ x e. (basic_of x ≡ b) × (e ≡ base + 128))
  hundred-goes {b} k = went basic_of hundred (rw (add-zero base) at (at-start basic_of (goes b (base + 0 + 128)) k))

  pub hundred-fits : {b : Basic} → Hundred o base s (Ok b) → 128 ≤ length s
  hundred-fits {b} k =
      let g : Goes hundred (λ x e. (basic_of x ≡ b) × (e ≡ base + 128)) = hundred-goes k in
      let z : (g.end ≡ base + 128) × (g.end ≤ base + length s) = stays-goes o base s (base + length s) (omega arith) (R.basic (length s)) base _ (omega arith) (stays-basic base (length s)) g.is in
      omega arith

  pub begun : (label : Label) {b : Basic} {h : Head} → Hundred o base s (Ok b) → NextHead o label base s 128 (Ok h) → Begun o label base s b h
  begun label {b} {h} k l =
      let g : Goes hundred (λ x e. (basic_of x ≡ b) × (e ≡ base + 128)) = hundred-goes k in
      let v : Verdict R.Next = see o base s (base + 128) (R.next label (16 + length s) (length s - 128)) in
      let n : Goes v (λ x e. (headroom x ≡ record { head = head_of h; room = length s - h.at }) × (e ≡ base + (h.at + 16))) = went headroom v (l.seen (16 + length s) (omega arith)) in
      let y : CountsBounded g.value.channels g.value.frames = yields o base s (R.basic (length s)) base _ (yields-basic o base s (length s) base) g.is in
      record {
        basic = g.value;
        next = n.value;
        is = rw g.kept.1 at g.is;
        follows = rw n.kept.1 at n.is;
        same = g.kept.0;
        head = ap (λ (x : Headroom). x.head) n.kept.0;
        room = ap (λ (x : Headroom). x.room) n.kept.0;
        counts = subst (λ (x : Basic). CountsBounded x.channels x.frames) g.kept.0 y;
        stands = l.stands;
      }

  module _ (label : Label) (held : Option R.Held) where
    abbrev whole : Verdict R.Descriptions
    whole = see o base s base (descriptions label held (16 + length s))

    -- what is left of the walk before each part
    abbrev to350 : R.Basic → R.Next → R.Part (List R.Channel) → R.Part (List R.Item) → R.Part (List R.Item) → Walk R.Descriptions
    to350 b n c p e = R.part label (16 + length s) 350 (R.montage label c.value) (some []) e.next >>= λ m. give (record { basic = b; next = n; channels = c; patient = p; events = e; montage = m })

    abbrev to200 : R.Basic → R.Next → R.Part (List R.Channel) → R.Part (List R.Item) → Walk R.Descriptions
    to200 b n c p = R.event_table label (16 + length s) p.next >>= to350 b n c p

    abbrev to130 : R.Basic → R.Next → R.Part (List R.Channel) → Walk R.Descriptions
    to130 b n c = R.part label (16 + length s) 130 (R.items (ok_of Holder.Patient)) (R.held_patient held) c.next >>= to200 b n c

    abbrev to120 : R.Basic → R.Next → Walk R.Descriptions
    to120 b n =
        R.part label (16 + length s) (R.channels_group label b.channels).code (R.channels (R.channels_group label b.channels)) (R.held_channels held) n >>= to130 b n

    opened : whole ≡ see o base s base (R.basic (length s) >>= λ b. R.next label (16 + length s) (length s - 128) >>= to120 b)
    unfolding descriptions ok_of
    opened =
        let x : 16 + length s - 16 ≡ length s = omega arith in
        let y : 16 + length s - 144 ≡ length s - 128 = omega arith in
        rw (x, y)

    basic-stop : (r : Refusal) → Hundred o base s (Err r) → whole ≡ halts r
    basic-stop r k = opened ∙ bind_stops o base s _ _ _ (stopped basic_of hundred (at-start basic_of (stops _ _) k))

    next-stop : {b : Basic} {r : Refusal} → Hundred o base s (Ok b) → NextHead o label base s 128 (Err r) → whole ≡ halts r
    next-stop {b} k l =
        let g : Goes hundred (λ x e. (basic_of x ≡ b) × (e ≡ base + 128)) = hundred-goes k in
        opened ∙ bind_goes o base s _ _ _ (rw g.kept.1 at g.is) ∙ bind_stops o base s _ _ _ (stopped headroom _ (l.seen (16 + length s) (omega arith)))

  -- a refusal says nothing of places
  refused : {label : Label} {before : Std.Option Places} {r : Refusal} → ((file : List ℕ) (held : Option R.Held) → s ≡ take (length s) (drop base file) → HeldAs o file before held → whole label held ≡ halts r) →
      DescriptionsOf o label base s before (Err r)
  refused k = record { told = k; bounds = tt }

  pub stops-basic : {label : Label} {before : Std.Option Places} (r : Refusal) → Hundred o base s (Err r) → DescriptionsOf o label base s before (Err r)
  stops-basic {label} r k = refused (λ file held is has. basic-stop label held r k)

  pub stops-next : {label : Label} {before : Std.Option Places} {b : Basic} {r : Refusal} → Hundred o base s (Ok b) → NextHead o label base s 128 (Err r) → DescriptionsOf o label base s before (Err r)
  stops-next {label} k l = refused (λ file held is has. next-stop label held k l)

  module _ (label : Label) {b : Basic} {h : Head} (g : Begun o label base s b h) (before : Std.Option Places) {x y : Std.Option ℕ} (xs : x ≡ channels_in before) (ys : y ≡ patient_in before) where
    -- what the functions say of the 120 or 320, the 130, the 200 and the 350
    abbrev First : Result Part Refusal → Type 0
    First a = ChannelsPart o label base s h b.channels x a

    abbrev Second : Part → Result Part Refusal → Type 0
    Second c a = ItemsPart o label Holder.Patient base s c.next y a

    abbrev Third : Part → Result Part Refusal → Type 0
    Third p a = EventsPart o label base s p.next a

    abbrev Fourth : Part → Part → Result Part Refusal → Type 0
    Fourth c e a = MontagePart o label base s e.next (pick c.own b.channels (count_in before)) a

    counted : g.basic.channels ≡ b.channels
    counted = ap (λ (x : Basic). x.channels) g.same

    -- the bounds, whatever the walk holds
    ready : {c p e m : Part} → First (Ok c) → Second c (Ok p) → Third p (Ok e) → Fourth c e (Ok m) → DescribedBounds base (length s) before (described_of b before c p e m)
    ready {c} {p} {e} {m} k₁ k₂ k₃ k₄ =
        let hv : Option (List R.Channel) = spare (channels_in before) in
        let is : HeldIs (channels_in before) hv = spare-is (channels_in before) in
        let P : Goes _ (Parts (Owned o s h.at b.channels) hv base (length s) h x c) = k₁.told hv g.next (16 + length s) (record { holds = rw xs is; head = g.head; room = g.room; enough = omega arith }) in
        record {
          low = omega (arith, g.stands.low, k₁.follows.low, k₂.follows.low, k₃.follows.low, k₄.follows.low);
          fits = k₄.follows.inside;
          one = g.counts.one;
          few = g.counts.few;
          short = g.counts.short;
          room = room o base s h.at b.channels before hv c.own c.at P.value.value is P.kept.value (rw xs at P.kept.place);
        }

    module _ (file : List ℕ) (held : Option R.Held) (has : HeldAs o file before held) where
      -- the part at the head h, and the walk up to it
      abbrev seen₁ : Verdict (R.Part (List R.Channel))
      seen₁ = see o base s (base + (h.at + 16)) (R.part label (16 + length s) (R.channels_group label g.basic.channels).code (R.channels (R.channels_group label g.basic.channels)) (R.held_channels held) g.next)

      judged₁ : (a : Result Part Refusal) → First a → parted (Owned o s h.at b.channels) (R.held_channels held) base (length s) h x a seen₁
      judged₁ a k = rw counted (k.told (R.held_channels held) g.next (16 + length s) (record { holds = rw xs (held-is o file before held has).0; head = g.head; room = g.room; enough = omega arith }))

      reached₁ : whole label held ≡ see o base s (base + (h.at + 16)) (to120 label held g.basic g.next)
      reached₁ = opened label held ∙ bind_goes o base s _ _ _ g.is ∙ bind_goes o base s _ _ _ g.follows

      channels-stop : {r : Refusal} → First (Err r) → whole label held ≡ halts r
      channels-stop k = reached₁ ∙ bind_stops o base s _ _ _ (judged₁ (Err _) k)

      module _ {c : Part} (k₁ : First (Ok c)) where
        abbrev first : Goes seen₁ (Parts (Owned o s h.at b.channels) (R.held_channels held) base (length s) h x c)
        first = judged₁ (Ok c) k₁

        -- so of the 130
        abbrev seen₂ : Verdict (R.Part (List R.Item))
        seen₂ = see o base s (base + (c.next.at + 16)) (R.part label (16 + length s) 130 (R.items (ok_of Holder.Patient)) (R.held_patient held) first.value.next)

        judged₂ : (a : Result Part Refusal) → Second c a → parted (λ _. Unit {0}) (R.held_patient held) base (length s) c.next y a seen₂
        judged₂ a k = k.told (R.held_patient held) first.value.next (16 + length s) (record { holds = rw ys (held-is o file before held has).1; head = first.kept.head; room = first.kept.room; enough = omega arith })

        reached₂ : whole label held ≡ see o base s (base + (c.next.at + 16)) (to130 label held g.basic g.next first.value)
        reached₂ = reached₁ ∙ bind_goes o base s _ _ _ (rw first.kept.end at first.is)

        patient-stop : {r : Refusal} → Second c (Err r) → whole label held ≡ halts r
        patient-stop k = reached₂ ∙ bind_stops o base s _ _ _ (judged₂ (Err _) k)

        module _ {p : Part} (k₂ : Second c (Ok p)) where
          abbrev second : Goes seen₂ (Parts (λ _. Unit {0}) (R.held_patient held) base (length s) c.next y p)
          second = judged₂ (Ok p) k₂

          -- and of the 200
          abbrev seen₃ : Verdict (R.Part (List R.Item))
          seen₃ = see o base s (base + (p.next.at + 16)) (R.event_table label (16 + length s) second.value.next)

          judged₃ : (a : Result Part Refusal) → Third p a → parted (λ _. Unit {0}) (some []) base (length s) p.next (Some 0) a seen₃
          judged₃ a k = k.told second.value.next (16 + length s) (record { holds = tt; head = second.kept.head; room = second.kept.room; enough = omega arith })

          reached₃ : whole label held ≡ see o base s (base + (p.next.at + 16)) (to200 label held g.basic g.next first.value second.value)
          reached₃ = reached₂ ∙ bind_goes o base s _ _ _ (rw second.kept.end at second.is)

          events-stop : {r : Refusal} → Third p (Err r) → whole label held ≡ halts r
          events-stop k = reached₃ ∙ bind_stops o base s _ _ _ (judged₃ (Err _) k)

          module _ {e : Part} (k₃ : Third p (Ok e)) (is : s ≡ take (length s) (drop base file)) where
            abbrev third : Goes seen₃ (Parts (λ _. Unit {0}) (some []) base (length s) p.next (Some 0) e)
            third = judged₃ (Ok e) k₃

            -- the channels that hold
            abbrev place : c.at ≡ pick c.own (base + h.at) (held_at (channels_in before))
            place = rw xs at first.kept.place

            abbrev stood : ChannelsStand o file (subs_at c.at (pick c.own b.channels (count_in before))) first.value.value
            stood = stand o base s h.at b.channels file before held c.own c.at first.value.value is has first.kept.value place

            -- and of the 350
            abbrev seen₄ : Verdict (R.Part (List R.Channel))
            seen₄ = see o base s (base + (e.next.at + 16)) (R.part label (16 + length s) 350 (R.montage label first.value.value) (some []) third.value.next)

            judged₄ : (a : Result Part Refusal) → Fourth c e a → parted (λ _. Unit {0}) (some []) base (length s) e.next (Some 0) a seen₄
            judged₄ a k = k.told first.value.value stood.count (some []) third.value.next (16 + length s) (record { holds = tt; head = third.kept.head; room = third.kept.room; enough = omega arith })

            reached₄ : whole label held ≡ see o base s (base + (e.next.at + 16)) (to350 label held g.basic g.next first.value second.value third.value)
            reached₄ = reached₃ ∙ bind_goes o base s _ _ _ (rw third.kept.end at third.is)

            montage-stop : {r : Refusal} → Fourth c e (Err r) → whole label held ≡ halts r
            montage-stop k = reached₄ ∙ bind_stops o base s _ _ _ (judged₄ (Err _) k)

            tables-hold : {m : Part} → Fourth c e (Ok m) → 16 ≤ base → Goes (whole label held) (Keeps o file base (length s) before (described_of b before c p e m))
            tables-hold {m} k u =
                let fourth : Goes seen₄ (Parts (λ _. Unit {0}) (some []) base (length s) e.next (Some 0) m) = judged₄ (Ok m) k in
                record {
                  value = record { basic = g.basic; next = g.next; channels = first.value; patient = second.value; events = third.value; montage = fourth.value };
                  end = fourth.end;
                  is = reached₄ ∙ bind_goes o base s _ _ _ fourth.is ∙ see-give o base s _ _;
                  kept = record {
                    basic = g.same;
                    own = first.kept.own;
                    head = fourth.kept.head;
                    room = fourth.kept.room;
                    end = fourth.kept.end;
                    channels_at = place ∙ placed c.own base (length s) h.at g.next.room (held_at (channels_in before)) u (omega (arith, g.stands.inside)) g.room;
                    patient_at = rw second.kept.own (rw ys at second.kept.place ∙ placed p.own base (length s) c.next.at first.value.next.room (held_at (patient_in before)) u (omega (arith, k₁.follows.inside)) first.kept.room);
                    events_at = rw third.kept.own (placed-own e.own base (length s) p.next.at second.value.next.room e.at u (omega (arith, k₂.follows.inside)) second.kept.room third.kept.place);
                    montage_at = rw fourth.kept.own (placed-own m.own base (length s) e.next.at third.value.next.room m.at u (omega (arith, k₃.follows.inside)) third.kept.room fourth.kept.place);
                    stand = stood;
                  };
                }

    -- so of the answer
    pub stops-channels : {r : Refusal} → First (Err r) → DescriptionsOf o label base s before (Err r)
    stops-channels k = refused (λ file held is has. channels-stop file held has k)

    pub stops-patient : {c : Part} {r : Refusal} → First (Ok c) → Second c (Err r) → DescriptionsOf o label base s before (Err r)
    stops-patient k₁ k = refused (λ file held is has. patient-stop file held has k₁ k)

    pub stops-events : {c p : Part} {r : Refusal} → First (Ok c) → Second c (Ok p) → Third p (Err r) → DescriptionsOf o label base s before (Err r)
    stops-events k₁ k₂ k = refused (λ file held is has. events-stop file held has k₁ k₂ k)

    pub stops-montage : {c p e : Part} {r : Refusal} → First (Ok c) → Second c (Ok p) → Third p (Ok e) → Fourth c e (Err r) → DescriptionsOf o label base s before (Err r)
    stops-montage k₁ k₂ k₃ k = refused (λ file held is has. montage-stop file held has k₁ k₂ k₃ is k)

    pub holds : {c p e m : Part} → First (Ok c) → Second c (Ok p) → Third p (Ok e) → Fourth c e (Ok m) → 16 ≤ base →
        DescriptionsOf o label base s before (Ok (described_of b before c p e m))
    holds k₁ k₂ k₃ k₄ u = record { told = λ file held is has. tables-hold file held has k₁ k₂ k₃ is k₄ u; bounds = ready k₁ k₂ k₃ k₄ }
