-- What the answer of `judge_descriptions` says, as a verdict on the walk of a recording's descriptions.
-- Assumes nothing.
use Rattle.descriptions.specs.declared.Places.{Places}
use Rattle.std.specs.Prelude.{Result, Ok, Err, Some, None}
use Rattle.rules.specs.declared.Reason.TheVariants as Reason
use Rattle.std.specs.Prelude as Std
use Rattle.std.specs.Prelude.{◌≡◌, Bool, true, false, List, [], ℕ, ◌+◌, ◌-◌, ◌≤◌, ◌<◌, length, take, drop}
use Rattle.std.proofs.Math.Option.{Option, none, some}
use Rattle.words.specs.Sizes.{Addressable}
use Rattle.words.specs.declared.Order.{Order}
use Rattle.walk.specs.Walk.{pick, Walk}
use Rattle.walk.specs.See.{Verdict, goes, see, Goes, over}
use Rattle.rules.specs.Rules as R
use Rattle.rules.specs.declared.Form.TheVariants as Form
use Rattle.rules.specs.declared.Group.{Group}
use Rattle.rules.specs.declared.Head.{Head}
use Rattle.rules.specs.declared.Kind.{Kind}
use Rattle.rules.specs.declared.Label.{Label}
use Rattle.rules.specs.declared.Refusal.{Refusal}
use Rattle.records.specs.declared.items.Holder.{Holder}
use Rattle.records.specs.Says.{halts, head_of, basic_of, ok_of, Headroom, headroom, HeadFrom, subs_at, ChannelsIn, ChannelsStand}
use Rattle.descriptions.specs.declared.Part.{Part}
use Rattle.descriptions.specs.declared.Described.{Described}

-- the 120 or 320 of a file with this label, of so many channels
unfoldable pub group_for : Label → ℕ → Group
group_for l n = elim l.form [ Form.Channels ↦ Group.Channels l.version n | Form.Electrodes ↦ Group.Electrodes l.version n ]

-- what the recording before leaves to hold: its 120 or 320, its 130, and how many channels
abbrev pub channels_in : Std.Option Places → Std.Option ℕ
channels_in None = None
channels_in (Some p) = Some p.channels

abbrev pub patient_in : Std.Option Places → Std.Option ℕ
patient_in None = None
patient_in (Some p) = Some p.patient

abbrev pub count_in : Std.Option Places → ℕ
count_in None = 0
count_in (Some p) = p.count

-- where it stands
abbrev pub held_at : Std.Option ℕ → ℕ
held_at None = 0
held_at (Some p) = p

abbrev pub code_of : Holder → ℕ
code_of Holder.Patient = 130
code_of Holder.Event = 200

abbrev pub kind_of : Holder → Kind
kind_of k = Kind.Items (code_of k)

-- the walk holds a value just where the code holds a place
abbrev pub HeldIs : {A : Type 0} → Std.Option ℕ → Option A → Type 0
HeldIs None none = Unit {0}
HeldIs None (some a) = ⊥
HeldIs (Some p) none = ⊥
HeldIs (Some p) (some a) = Unit {0}

-- so many channels are those of the 120, 320 or 350 at this byte of s
pub record Owned (o : Order) (s : List ℕ) (at count : ℕ) (ch : List R.Channel) : Type 0 where
  -- they stand in its subs
  pub stand : ChannelsStand o s (subs_at at count) ch
  -- for which there is room
  pub room : ChannelsIn (length s) (subs_at at count)

-- the subs that hold behind the recording before, in a file of n bytes; and what the walk holds of it
abbrev pub HeldWithin : ℕ → Std.Option Places → Type 0
HeldWithin n None = Unit {0}
HeldWithin n (Some p) = ChannelsIn n (subs_at p.channels p.count)

abbrev pub HeldAs : Order → List ℕ → Std.Option Places → Option R.Held → Type 0
HeldAs o file None none = Unit {0}
HeldAs o file None (some v) = ⊥
HeldAs o file (Some p) none = ⊥
HeldAs o file (Some p) (some v) = ChannelsStand o file (subs_at p.channels p.count) v.channels

-- a part that is absent
abbrev pub lacking : ℕ → Head → Std.Option ℕ → Result Part Refusal
lacking base h None = Err (record { 0 = Reason.Code; 1 = base + (h.at + 4) })
lacking base h (Some p) = Ok (record { own = false; at = p; next = h })

-- where a part stands that is there
abbrev pub own_place : Part → Std.Option ℕ
own_place t = pick t.own (Some t.at) None

-- the head behind a part, in a part of n bytes of the file, and the room from its start on
abbrev pub followed : ℕ → ℕ → Result Part Refusal → Verdict Headroom
followed base n (Ok t) = goes (record { head = head_of t.next; room = n - t.next.at }) (base + (t.next.at + 16))
followed base n (Err r) = halts r

-- it stands at or after this byte
abbrev pub Follows : ℕ → ℕ → Result Part Refusal → Type 0
Follows p n (Ok t) = HeadFrom p n t.next
Follows p n (Err r) = Unit {0}

-- a part that is there, at this place, and stops at byte p of n
pub record There (at p n : ℕ) (t : Part) : Type 0 where
  pub own : t.own ≡ true
  pub place : t.at ≡ at
  -- the head behind it
  pub next : HeadFrom p n t.next

abbrev pub Stood : ℕ → ℕ → ℕ → Result Part Refusal → Type 0
Stood at p n (Ok t) = There at p n t
Stood at p n (Err r) = Unit {0}

-- the value of a part: K holds of its own, and another is what is held
abbrev pub PartValue : {A : Type 0} → (A → Type 0) → Option A → Bool → A → Type 0
PartValue K hv true a = K a
PartValue K hv false a = hv ≡ some a

-- what the code keeps of a part with the head h, in a part of n bytes that stands at `base`
pub record Parts {A : Type 0} (K : A → Type 0) (hv : Option A) (base n : ℕ) (h : Head) (held : Std.Option ℕ) (t : Part) (x : R.Part A) (e : ℕ) : Type 0 where
  pub own : x.own ≡ t.own
  pub place : t.at ≡ pick t.own (base + h.at) (held_at held)
  pub value : PartValue K hv t.own x.value
  pub head : x.next.head ≡ head_of t.next
  pub room : x.next.room ≡ n - t.next.at
  pub end : e ≡ base + (t.next.at + 16)

abbrev pub parted : {A : Type 0} → (A → Type 0) → Option A → ℕ → ℕ → Head → Std.Option ℕ → Result Part Refusal → Verdict (R.Part A) → Type 0
parted K hv base n h held (Ok t) v = Goes v (Parts K hv base n h held t)
parted K hv base n h held (Err r) v = v ≡ halts r

-- the walk stands behind the head h, which it found in the part s, and holds a value where the code holds a place
pub record Meets {A : Type 0} (s : List ℕ) (h : Head) (held : Std.Option ℕ) (hv : Option A) (n : R.Next) (fuel : ℕ) : Type 0 where
  pub holds : HeldIs held hv
  pub head : n.head ≡ head_of h
  pub room : n.room ≡ length s - h.at
  -- for the makers' records that follow
  pub enough : length s < fuel

-- a part with this code and body, whatever holds in its place
abbrev pub Judges : {A : Type 0} → Order → Label → ℕ → List ℕ → ℕ → (ℕ → R.Head → Walk A) → (A → Type 0) → Head → Std.Option ℕ → Result Part Refusal → Type 0
Judges o label base s code body K h held a = (hv : Option _) (n : R.Next) (fuel : ℕ) → Meets s h held hv n fuel →
    parted K hv base (length s) h held a (see o base s (base + (h.at + 16)) (R.part label fuel code body hv n))

-- the place of the record with so much room from its start on, in a recording whose body of n bytes stands at `base`
abbrev pub place_of : ℕ → ℕ → ℕ → ℕ
place_of base n room = base - 16 + (16 + n - room)

-- what the code keeps of the descriptions
pub record Keeps (o : Order) (file : List ℕ) (base n : ℕ) (before : Std.Option Places) (t : Described) (x : R.Descriptions) (e : ℕ) : Type 0 where
  pub basic : basic_of x.basic ≡ t.basic
  pub own : x.channels.own ≡ t.own
  pub head : x.montage.next.head ≡ head_of t.next
  pub room : x.montage.next.room ≡ n - t.next.at
  pub end : e ≡ base + (t.next.at + 16)
  pub channels_at : t.channels ≡ pick t.own (place_of base n x.next.room) (held_at (channels_in before))
  pub patient_at : t.patient ≡ pick x.patient.own (place_of base n x.channels.next.room) (held_at (patient_in before))
  -- where the record has one
  pub events_at : t.events ≡ pick x.events.own (Some (place_of base n x.patient.next.room)) None
  pub montage_at : t.montage ≡ pick x.montage.own (Some (place_of base n x.events.next.room)) None
  pub stand : ChannelsStand o file (subs_at t.channels t.count) x.channels.value

abbrev pub described : Order → Label → List ℕ → ℕ → Option R.Held → List ℕ → Std.Option Places → Result Described Refusal → Type 0
described o label file base held s before (Ok t) =
    Goes (see o base s base (R.descriptions label held (16 + length s))) (Keeps o file base (length s) before t)
described o label file base held s before (Err r) = see o base s base (R.descriptions label held (16 + length s)) ≡ halts r

-- the bounds that hold whatever the walk holds, in a body of n bytes that stands at `base`
pub record DescribedBounds (base n : ℕ) (before : Std.Option Places) (t : Described) : Type 0 where
  pub low : 128 ≤ t.next.at
  pub fits : t.next.at + 16 ≤ n
  pub one : 1 ≤ t.basic.channels
  pub few : t.basic.channels ≤ 128
  pub short : t.basic.frames ≤ 1000000
  pub room : (L : ℕ) → base + n ≤ L → HeldWithin L before → ChannelsIn L (subs_at t.channels t.count)

abbrev pub Ready : ℕ → ℕ → Std.Option Places → Result Described Refusal → Type 0
Ready base n before (Ok t) = DescribedBounds base n before t
Ready base n before (Err r) = Unit {0}

-- what the functions ask

-- s is a recording's body, which stands at `base` in the file
pub record BodyAt (base : ℕ) (s : List ℕ) : Type 0 where
  -- the recording's head stands before it
  pub headed : 16 ≤ base
  pub short : Addressable (base + length s)

-- and what they promise. `seen`, `told`: the answer is what the rules' walk comes to; `stands`, `follows`, `bounds`: where it lies, whatever the walk holds

-- the head behind the record from byte `at` up to `end`
pub record Behind (o : Order) (label : Label) (base : ℕ) (s : List ℕ) (at end : ℕ) (a : Result Part Refusal) : Type 0 where
  pub seen : (fuel : ℕ) → length s < end + fuel → over headroom (see o base s (base + end) (R.next label fuel (length s - end))) ≡ followed base (length s) a
  pub stands : Stood (base + at) end (length s) a

-- the 120 or 320, or what holds in its place
pub record ChannelsPart (o : Order) (label : Label) (base : ℕ) (s : List ℕ) (h : Head) (channels : ℕ) (held : Std.Option ℕ) (a : Result Part Refusal) : Type 0 where
  pub told : Judges o label base s (R.channels_group label channels).code (R.channels (R.channels_group label channels)) (Owned o s h.at channels) h held a
  pub follows : Follows h.at (length s) a

-- the 350, if there is one: over so many electrodes
pub record MontagePart (o : Order) (label : Label) (base : ℕ) (s : List ℕ) (h : Head) (electrodes : ℕ) (a : Result Part Refusal) : Type 0 where
  pub told : (cs : List R.Channel) → length cs ≡ electrodes → Judges o label base s 350 (R.montage label cs) (λ _. Unit {0}) h (Some 0) a
  pub follows : Follows h.at (length s) a

-- the 130 or the 200, or what holds in its place
pub record ItemsPart (o : Order) (label : Label) (k : Holder) (base : ℕ) (s : List ℕ) (h : Head) (held : Std.Option ℕ) (a : Result Part Refusal) : Type 0 where
  pub told : Judges o label base s (code_of k) (R.items (ok_of k)) (λ _. Unit {0}) h held a
  pub follows : Follows h.at (length s) a

-- the 200, or none; where the version does not allow a recording without one, another record in its place is refused
pub record EventsPart (o : Order) (label : Label) (base : ℕ) (s : List ℕ) (h : Head) (a : Result Part Refusal) : Type 0 where
  pub told : (n : R.Next) (fuel : ℕ) → Meets {A = List R.Item} s h (Some 0) (some []) n fuel →
      parted {A = List R.Item} (λ _. Unit {0}) (some []) base (length s) h (Some 0) a (see o base s (base + (h.at + 16)) (R.event_table label fuel n))
  pub follows : Follows h.at (length s) a

-- the descriptions of the recording whose body is s, for any file that it stands in, where the code and the walk hold the same of the recording before
pub record DescriptionsOf (o : Order) (label : Label) (base : ℕ) (s : List ℕ) (before : Std.Option Places) (a : Result Described Refusal) : Type 0 where
  pub told : (file : List ℕ) (held : Option R.Held) → s ≡ take (length s) (drop base file) → HeldAs o file before held →
      described o label file base held s before a
  pub bounds : Ready base (length s) before a
