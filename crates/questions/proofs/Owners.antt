-- The 130 or the 200 that holds for a recording that was found: its items stand where the code's places say.
-- Assumes nothing.
use Rattle.std.proofs.Common.{Some, None}
use mathlib.Core.Path.{◌≡◌, refl, sym, ap, ◌∙◌, subst}
use mathlib.Core.Bool.{Bool, true, false}
use mathlib.Core.List.{List, []}
use Prim.Native.Nat.{ℕ, zero, suc, ◌+◌, ◌-◌, ◌≤◌}
use native.Mathlib.Nat.{add_assoc}
use native.Mathlib.Omega.{arith}
use lib.ListN.{length, take}
use Rattle.words.specs.Numbers.{Bytes}
use Rattle.words.specs.declared.Order.{Order}
use Rattle.walk.specs.Walk.{Event, pick, passed, size}
use Rattle.walk.specs.See.{goes, see}
use Rattle.rules.specs.Rules as R
use Rattle.rules.proofs.Asked.{Rest, event-rest}
use Rattle.rules.proofs.Held.{patient-rest-holds}
use Rattle.records.specs.declared.items.Holder.{Holder}
use Rattle.descriptions.specs.declared.Places.{Places}
use Rattle.descriptions.proofs.Parts.{at-nothing}
use Rattle.recordings.specs.Answers.{Answer, value, refusal, outside, numbered, indexed}
use Rattle.recordings.specs.Recordings.{Chosen, recording_of, start_of, held_at, at130}
use Rattle.recordings.specs.Found.{FoundIn}
use Rattle.recordings.proofs.Chosen.{refusal-value, One, ChosenIn, chosen-in}
use Rattle.recordings.proofs.Standing.{found-seen, found-ends}
use Rattle.questions.specs.Questions.{items_of, items_at, item_in, item_of}
use Rattle.questions.specs.Holding.{holding_of}
use Rattle.questions.specs.declared.items.Entry.{Entry}
use Rattle.questions.proofs.Entries.{ItemAt, items-inside, item-there}

-- items that the walk of a 130 or a 200 at `at` comes to
pub record ItemsSeen (o : Order) (s : List ℕ) (at : ℕ) (is : List R.Item) : Type 0 where
  pub ok : ℕ → Bool
  pub room : ℕ
  pub head : R.Head
  pub end : ℕ
  pub ends : end ≤ length s
  pub seen : see o 0 s (at + 16) (R.items ok room head) ≡ goes is end

pub items-seen-inside : {o : Order} {s : List ℕ} {at : ℕ} {is : List R.Item} → ItemsSeen o s at is → at ≤ length s
items-seen-inside {o} {s} {at} x = omega (arith, items-inside o s at x.ok x.room x.head x.ends x.seen)

item-seen : {o : Order} {s : List ℕ} {at : ℕ} {is : List R.Item} → ItemsSeen o s at is → (j : ℕ) {x : R.Item} → numbered is j ≡ value x → ItemAt o s (at + (24 + R.item_bytes (take (j - 1) is))) x
item-seen {o} {s} {at} z j nth = item-there o s at z.ok z.room z.head z.ends z.seen j nth

-- in an accepted file, of recording k, from 0
module _ (s : List ℕ) (b : Bytes s) {v : R.File} {t : List Event} (h : R.judge s ≡ passed v [] t) (k : ℕ) (d : R.Placed) (one : One v.recordings k d) where
  rest-items : (ok : ℕ → Bool) {is : List R.Item} (at n : ℕ) → Rest t (R.items ok) is (at + (n + 16)) → ItemsSeen (R.order_of s) s (at + n) is
  rest-items ok at n x = record {
    ok = ok;
    room = x.room;
    head = x.head;
    end = at + (n + 16) + size x.found.events;
    ends = found-ends s b h x.found;
    seen = rw add_assoc (found-seen s b h x.found);
  }

  abbrev itself : Chosen
  itself = record { all = v.recordings; index = k; this = d }

  patient-items : ItemsSeen (R.order_of s) s (at130 itself) d.recording.patient
  unfolding held_at
  patient-items = rest-items R.patient_code _ _ (rw (one.is d) at (patient-rest-holds s b h d k one.inside))

  event-items : d.recording.own_events ≡ true → ItemsSeen (R.order_of s) s (start_of itself + d.layout.at200) d.recording.events
  event-items own = rest-items R.event_code _ _ (rw (one.is d) at (event-rest s b h d k one.inside (rw (one.is d) own)))

-- a recording that was refused
pub asked-refused : (k : Holder) (s : List ℕ) (i j : ℕ) {n p : ℕ} → recording_of s i ≡ refusal n p → refusal n p ≡ item_of k s i j
asked-refused k s i j h = rw h

numbered-none : {A : Type 0} (j : ℕ) → numbered {A = A} [] j ≡ outside
unfolding numbered indexed
numbered-none zero = refl
numbered-none (suc j) = refl

-- a recording that was found, by the rules' value alone
module _ (s : List ℕ) (b : Bytes s) (i : ℕ) (r : Chosen) (is : recording_of s i ≡ value r) where
  abbrev chosen : ChosenIn s i r
  chosen = chosen-in s b i r is

  abbrev again : List R.Placed → Chosen
  again x = record { all = x; index = r.index; this = r.this }

  patient-held : ItemsSeen (R.order_of s) s (at130 r) r.this.recording.patient
  patient-held =
      subst (λ (x : List R.Placed). ItemsSeen (R.order_of s) s (at130 (again x)) r.this.recording.patient) (sym chosen.all)
      (patient-items s b chosen.judged r.index r.this chosen.one)

  events-held : r.this.recording.own_events ≡ true → ItemsSeen (R.order_of s) s (start_of r + r.this.layout.at200) r.this.recording.events
  events-held own =
      subst (λ (x : List R.Placed). ItemsSeen (R.order_of s) s (start_of (again x) + r.this.layout.at200) r.this.recording.events) (sym chosen.all)
      (event-items s b chosen.judged r.index r.this chosen.one own)

  -- one of its items stands behind those before it
  pub item-held : (k : Holder) (j : ℕ) {x : R.Item} → numbered (items_of k r) j ≡ value x → ItemAt (R.order_of s) s (items_at k r + (24 + R.item_bytes (take (j - 1) (items_of k r)))) x
  item-held Holder.Patient j nth = item-seen patient-held j nth
  item-held Holder.Event j {x} nth = go r.this.recording.own_events refl nth
    where
      go : (b : Bool) → r.this.recording.own_events ≡ b → numbered (pick b r.this.recording.events []) j ≡ value x →
          ItemAt (R.order_of s) s (start_of r + r.this.layout.at200 + (24 + R.item_bytes (take (j - 1) (pick b r.this.recording.events [])))) x
      go true own nth = item-seen (events-held own) j nth
      go false own nth = refusal-value (sym (numbered-none j) ∙ nth)

-- a recording that the code found
module _ {s : List ℕ} {i : ℕ} {o : Order} {q : Places} {r : Chosen} (f : FoundIn s i o q r) where
  -- where the code holds a place, the items that hold stand there
  holds_at : (k : Holder) (at : ℕ) → holding_of k q ≡ Some at → ItemsSeen o s at (items_of k r) × (at ≡ items_at k r)
  holds_at Holder.Patient at h = let e : at ≡ at130 r = cc in (rw (e, f.order) (patient-held s f.bytes i r f.is), e)
  holds_at Holder.Event at h = go r.this.recording.own_events refl (sym (ap (holding_of Holder.Event) f.same) ∙ h)
    where
      go : (b : Bool) → r.this.recording.own_events ≡ b → pick b (Some (start_of r + r.this.layout.at200)) None ≡ Some at →
          ItemsSeen o s at (pick b r.this.recording.events []) × (at ≡ start_of r + r.this.layout.at200)
      go true own g = let e : at ≡ start_of r + r.this.layout.at200 = cc in (rw (e, f.order) (events-held s f.bytes i r f.is own), e)
      go false own g = at-nothing (sym g)

  -- where it holds none, there are none
  holds-nothing : (k : Holder) → holding_of k q ≡ None → items_of k r ≡ []
  holds-nothing Holder.Patient h = at-nothing h
  holds-nothing Holder.Event h = go r.this.recording.own_events (sym (ap (holding_of Holder.Event) f.same) ∙ h)
    where
      go : (b : Bool) → pick b (Some (start_of r + r.this.layout.at200)) None ≡ None → pick b r.this.recording.events [] ≡ []
      go true g = at-nothing g
      go false g = refl

  pub asked-nothing : (k : Holder) (j : ℕ) → holding_of k q ≡ None → refusal 19 0 ≡ item_of k s i j
  unfolding item_in
  asked-nothing k j h = rw (f.is, item_in, holds-nothing k h, numbered-none j)

  pub asked-inside : (k : Holder) (at : ℕ) → holding_of k q ≡ Some at → at ≤ length s
  asked-inside k at h = items-seen-inside (holds_at k at h).0

  -- what is said of the items at a place
  pub asked-item : (k : Holder) (at j : ℕ) (a : Answer Entry) → holding_of k q ≡ Some at →
      ((ok : ℕ → Bool) (room : ℕ) (h : R.Head) (is : List R.Item) (e : ℕ) → e ≤ length s → see o 0 s (at + 16) (R.items ok room h) ≡ goes is e → a ≡ item_in is at j) → a ≡ item_of k s i j
  asked-item k at j a h says = let x = holds_at k at h in rw (f.is, ← x.1) (says x.0.ok x.0.room x.0.head (items_of k r) x.0.end x.0.ends x.0.seen)
