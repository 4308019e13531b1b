-- The walk of an older version is stricter than that of 000300, and its own tests come in file order.
-- Assumes nothing.
use mathlib.Core.Path.{◌≡◌, refl}
use mathlib.Core.Bool.{Bool, true, false, ◌&&◌, ◌||◌}
use mathlib.Core.List.{List, []}
use mathlib.Core.Option.{Option, some}
use Prim.Native.Nat.{ℕ, zero, suc, ◌+◌, ◌-◌, ◌≤◌, ◌<◌}
use native.Mathlib.Omega.{arith}
use lib.Dec.{leb, eqb}
use borrow.Author.Tests.{leb-true, le-leb}
use Rattle.walk.specs.Walk.{Walk, ◌>>=◌, ◌>>◌, pick, require}
use Rattle.walk.proofs.Apart.{false-true}
use Rattle.walk.proofs.Ordered.{Orders, gave, halt, kept, tighter, counts, steps, ordered-itself, ordered-weaken, ordered-bind, ordered-then}
use Rattle.rules.specs.Rules.{allows, allowed, most_of, between, series, Head, head, span, admit, Rule, fixed, Basic, basic, is_type, Sub, channel_sub, electrode_sub, channel_body, Channel, channel, channels_group, channels_body, channels, montage, items, patient_code, event_code, frame, frames_body, frames, maker_code, next, Next, part, event_table, Held, held_channels, held_patient, Descriptions, descriptions, signals, count_back, recording_body, recording, recordings}
use Rattle.rules.specs.declared.Label.{Label}
use Rattle.rules.specs.declared.Version.{Version}
use Rattle.rules.specs.declared.Version.TheVariants as Version
use Rattle.rules.proofs.Cases.{by_form, most-low, four-formats}
use Rattle.rules.proofs.Renew.{and-true, and_both}

-- the same form in 000300
abbrev pub newest : Label → Label
newest label = record { version = Version.V300; form = label.form }

-- what a version allows, 000300 allows

pub or-wider : (a b c : Bool) → (b ≡ true → c ≡ true) → a || b ≡ true → a || c ≡ true
or-wider true b c f h = refl
or-wider false b c f h = f h

pub and-wider : (a b : Bool) → a && b ≡ true → true && b ≡ true
and-wider true b h = h
and-wider false b h = false-true h

pub most-wider : (label : Label) (m : ℕ) → leb m (most_of label) ≡ true → leb m (most_of (newest label)) ≡ true
unfolding allows
most-wider label m h = le-leb m 128 (omega (arith, leb-true m (most_of label) h, most-low label))

pub type-wider : (v : Version) (t : ℕ) → is_type v t ≡ true → is_type Version.V300 t ≡ true
unfolding is_type allows
type-wider v t h = or-wider (leb t 18) _ _ (and-wider (allows v).twenty (eqb t 20)) h

pub format-wider : (v : Version) (f : ℕ) → between 1 (allows v).format f ≡ true → between 1 (allows Version.V300).format f ≡ true
unfolding between allows
format-wider v f h = let k = and-true (leb 1 f) _ h in and_both (leb 1 f) _ k.0 (le-leb f 4 (omega (arith, leb-true f (allows v).format k.1, four-formats v)))

-- steps that every walk has

-- what stands as it is, from k bytes that are free
pub as_is : {A : Type 0} (k : ℕ) {w : Walk A} → Orders k w w k
as_is k {w} = ordered-itself w k k (omega arith)

pub spent : {A : Type 0} {k : ℕ} {w : Walk A} → Orders k w w 0
spent {k} {w} = ordered-itself w k 0 (omega arith)

from-any : {A : Type 0} {k e : ℕ} {w v : Walk A} → Orders 0 w v e → Orders k w v e
from-any {k} {e} i =
    let y : 0 ≤ k = omega arith in
    let z : e ≤ e = omega arith in
    ordered-weaken y z i

-- a test of the last four bytes
last-four : 0 < 4
last-four = omega arith

ordered-pick : {A : Type 0} {k e : ℕ} (c : Bool) {x y x' y' : Walk A} → Orders k x x' e → Orders k y y' e → Orders k (pick c x y) (pick c x' y') e
ordered-pick true i j = i
ordered-pick false i j = j

ordered-if : {A : Type 0} {k e : ℕ} (c : Bool) {x y x' y' : Walk A} → Orders k x x' e → Orders k y y' e → Orders {A = A} k (elim c [ true ↦ x | false ↦ y ]) (elim c [ true ↦ x' | false ↦ y' ]) e
ordered-if true i j = i
ordered-if false i j = j

-- a test that the other walk passes too
ordered-require : {A : Type 0} {k e : ℕ} (c d : Bool) (n p : ℕ) {w v : Walk A} → (c ≡ true → d ≡ true) → 0 < p → p ≤ k → Orders (p - 1) w v e → Orders k (require c n p >> w) (require d n p >> v) e
unfolding ◌>>=◌ ◌>>◌
ordered-require c d n p f z l i = tighter f z l i

pub ordered-series : {A : Type 0} (w v : ℕ → ℕ → Walk A) → ((room i : ℕ) → Orders 0 (w room i) (v room i) 0) → (n i step room : ℕ) → Orders 0 (series n i step room w) (series n i step room v) 0
unfolding series
ordered-series w v f zero i step room = as_is 0
ordered-series w v f (suc n) i step room = ordered-bind (f room i) (λ a. ordered-bind (ordered-series w v f n (suc i) step (room - step)) (λ _. as_is 0))

-- behind a head its 16 bytes are free
pub ordered-head : (k room : ℕ) → Orders k (head room) (head room) 16
unfolding head ◌>>=◌ ◌>>◌
ordered-head k room = let z : 16 ≤ k + 4 + 4 + 4 + 4 = omega arith in kept (counts λ _. counts λ _. counts λ _. counts λ _. gave z)

-- 120 with 125, 320 with 325

-- a sub with these tests of its type and its format
abbrev pub tested : Sub → (ℕ → Bool) → (ℕ → Bool) → Sub
tested k type format = record { code = k.code; number = k.number; type = type; format = format; rate = k.rate; calibrated = k.calibrated; wired = k.wired; input = k.input }

ordered-body : (k : Sub) (type type' format format' : ℕ → Bool) → ((t : ℕ) → type t ≡ true → type' t ≡ true) → ((f : ℕ) → format f ≡ true → format' f ≡ true) →
    Orders 0 (channel_body (tested k type format)) (channel_body (tested k type' format')) 0
unfolding channel_body ◌>>=◌ ◌>>◌
ordered-body k type type' format format' g h =
    let y : 4 ≤ 12 = omega arith in
    let z : 4 ≤ 7 = omega arith in
    counts λ n. kept (counts λ flags. counts λ t. tighter (g t) last-four y (counts λ f. tighter (h f) last-four z spent))

ordered-fixed : {A : Type 0} (r : Rule) (w v : Walk A) (room : ℕ) → Orders 0 w v 0 → Orders 0 (fixed r w room) (fixed r v room) 0
unfolding fixed
ordered-fixed r w v room f = ordered-bind (ordered-head 0 room) λ h. ordered-then (as_is 16) (ordered-then spent f)

pub ordered-channel : (v : Version) (room i : ℕ) → Orders 0 (channel (channel_sub v) room i) (channel (channel_sub Version.V300) room i) 0
ordered-channel v room i = ordered-fixed _ _ _ room (ordered-body (channel_sub v) _ _ _ _ (type-wider v) (format-wider v))

or-keeps : (a b c : Bool) → (a ≡ true → b ≡ true) → a || c ≡ true → b || c ≡ true
or-keeps true true c f h = refl
or-keeps true false c f h = false-true (f refl)
or-keeps false true c f h = refl
or-keeps false false c f h = h

pub ordered-electrode : (v : Version) (room i : ℕ) → Orders 0 (channel (electrode_sub v) room i) (channel (electrode_sub Version.V300) room i) 0
ordered-electrode v room i = ordered-fixed _ _ _ room (ordered-body (electrode_sub v) _ _ _ _ (λ t. or-keeps (is_type v t) (is_type Version.V300 t) (eqb t 101) (type-wider v t)) (format-wider v))

-- a record that holds subs
module _ (code : ℕ) (count : ℕ → Bool) (k k' : Sub) (f : (room i : ℕ) → Orders 0 (channel k room i) (channel k' room i) 0) where
  ordered-channels_body : (n : ℕ) → Orders 0 (channels_body (record { code = code; counts = count; sub = k }) n) (channels_body (record { code = code; counts = count; sub = k' }) n) 0
  unfolding channels_body ◌>>=◌ ◌>>◌
  ordered-channels_body n = counts λ m. kept (kept (kept (counts λ _. kept (steps (from-any (ordered-series (channel k) (channel k') f m 1 256 (n - 32)))))))

  pub ordered-channels : (free room : ℕ) (h : Head) → Orders free (channels (record { code = code; counts = count; sub = k }) room h) (channels (record { code = code; counts = count; sub = k' }) room h) 0
  unfolding channels
  ordered-channels free room h = ordered-then spent (ordered-channels_body (span h))

module _ (label : Label) where
  pub ordered-admit : (k room : ℕ) (fits serial : ℕ → Bool) (h : Head) → 4 ≤ k → Orders k (admit room (most_of label) fits serial h) (admit room (most_of (newest label)) fits serial h) 0
  unfolding admit ◌>>=◌ ◌>>◌
  ordered-admit k room fits serial h l = tighter (most-wider label h.multiplier) last-four l spent

  -- 140 and 145

  pub ordered-frame : (size t : ℕ) (cs : List Channel) (room i : ℕ) → Orders 0 (frame label size t cs room i) (frame (newest label) size t cs room i) 0
  unfolding frame
  ordered-frame size t cs room i = ordered-bind (ordered-head 0 room) λ h. ordered-then (as_is 16) (ordered-then (ordered-admit 16 room _ _ h (omega arith)) spent)

  pub ordered-frames_body : (b : Basic) (cs : List Channel) (h : Head) → Orders 0 (frames_body label b cs h) (frames_body (newest label) b cs h) 0
  unfolding frames_body ◌>>=◌ ◌>>◌
  ordered-frames_body b cs h =
      counts λ t. kept (kept (counts λ size. kept (counts λ n. kept (kept (steps (ordered-bind (from-any (ordered-series (frame label size t cs) (frame (newest label) size t cs) (ordered-frame size t cs) n 1 size _)) λ _. as_is 0))))))

  pub ordered-frames : (b : Basic) (own : Bool) (cs : List Channel) (back k room : ℕ) (h : Head) → 4 ≤ k → Orders k (frames label b own cs back room h) (frames (newest label) b own cs back room h) 0
  unfolding frames
  ordered-frames b own cs back k room h l = ordered-then (ordered-admit k room _ _ h l) (ordered-then (as_is 0) (ordered-frames_body b cs h))

  -- makers' records, and parts

  pub ordered-next : (k fuel room : ℕ) → Orders k (next label fuel room) (next (newest label) fuel room) 16
  unfolding next
  ordered-next k zero room = halt
  ordered-next k (suc fuel) room =
      ordered-bind (ordered-head k room) λ h.
      ordered-pick (maker_code h.code) (ordered-then (ordered-admit 16 room _ _ h (omega arith)) (ordered-bind spent λ _. ordered-bind (ordered-next 0 fuel (room - span h)) λ _. as_is 16)) (as_is 16)

  -- from k bytes behind a head that are free, and so many behind the next
  pub ordered-part : {A : Type 0} (k fuel code : ℕ) (w v : ℕ → Head → Walk A) (held : Option A) (n : Next) → k ≤ 16 → ((room : ℕ) (h : Head) → Orders k (w room h) (v room h) 0) →
      Orders k (part label fuel code w held n) (part (newest label) fuel code v held n) k
  unfolding part
  ordered-part k fuel code w v held n l f =
      ordered-if (eqb n.head.code code) (ordered-bind (f n.room n.head) λ _. ordered-bind (ordered-next 0 fuel (n.room - span n.head)) λ _. gave l) (as_is k)

  pub ordered-event_table : (fuel : ℕ) (n : Next) → Orders 16 (event_table label fuel n) (event_table (newest label) fuel n) 11
  unfolding event_table allows
  ordered-event_table fuel n = ordered-require ((allowed label).eventless || eqb n.head.code 200) true 9 12 (λ _. refl) (omega arith) (omega arith) (ordered-part 11 fuel 200 (items event_code) (items event_code) (some []) n (omega arith) (λ _ _. spent))

  -- 350
  pub ordered-montage : (cs : List Channel) (k room : ℕ) (h : Head) → Orders k (montage label cs room h) (montage (newest label) cs room h) 0
  unfolding montage
  ordered-montage cs k room h = spent

-- 120 or 320
pub ordered-group : (label : Label) (count fuel : ℕ) (held : Option (List Channel)) (n : Next) →
    Orders 16 (part label fuel (channels_group label count).code (channels (channels_group label count)) held n)
    (part (newest label) fuel (channels_group (newest label) count).code (channels (channels_group (newest label) count)) held n) 16
unfolding channels_group
ordered-group label count fuel held n =
    by_form (λ (l : Label). Orders 16 (part l fuel (channels_group l count).code (channels (channels_group l count)) held n)
    (part (newest l) fuel (channels_group (newest l) count).code (channels (channels_group (newest l) count)) held n) 16) label
    (ordered-part _ 16 fuel 120 _ _ held n (omega arith) (ordered-channels 120 _ _ _ (ordered-channel label.version) 16))
    (ordered-part _ 16 fuel 320 _ _ held n (omega arith) (ordered-channels 320 _ _ _ (ordered-electrode label.version) 16))

-- a recording, and the recordings

module _ (label : Label) where
  pub ordered-descriptions : (held : Option Held) (bytes : ℕ) → Orders 0 (descriptions label held bytes) (descriptions (newest label) held bytes) 11
  unfolding descriptions
  ordered-descriptions held bytes =
      ordered-bind spent λ b.
      ordered-bind (ordered-next label 0 bytes (bytes - 144)) λ n.
      ordered-bind (ordered-group label b.channels bytes (held_channels held) n) λ c.
      ordered-bind (ordered-part label 16 bytes 130 (items patient_code) (items patient_code) (held_patient held) c.next (omega arith) (λ _ _. spent)) λ p.
      ordered-bind (ordered-event_table label bytes p.next) λ e.
      ordered-bind (ordered-part label 11 bytes 350 (montage label c.value) (montage (newest label) c.value) (some []) e.next (omega arith) (ordered-montage label c.value 11)) λ _. as_is 11

  pub ordered-signals : (t : Descriptions) (h : Head) → Orders 11 (signals label t h) (signals (newest label) t h) 0
  unfolding signals
  ordered-signals t h =
      ordered-then (as_is 11)
      (ordered-bind (ordered-frames label t.basic t.channels.own t.channels.value (count_back (span h) t.montage.next.room) 11 t.montage.next.room t.montage.next.head (omega arith)) λ f.
      ordered-bind (ordered-next label 0 (span h) (t.montage.next.room - span t.montage.next.head)) λ d. spent)

  pub ordered-recording : (held : Option Held) (room i : ℕ) → Orders 0 (recording label held room i) (recording (newest label) held room i) 0
  unfolding recording recording_body
  ordered-recording held room i =
      ordered-bind (ordered-head 0 room) λ h. ordered-then (as_is 16) (ordered-then (ordered-admit label 16 room _ _ h (omega arith)) (ordered-bind (ordered-descriptions held (span h)) λ t. ordered-signals t h))

  pub ordered-recordings : (n : ℕ) (held : Option Held) (room i : ℕ) → Orders 0 (recordings label n held room i) (recordings (newest label) n held room i) 0
  unfolding recordings
  ordered-recordings zero held room i = as_is 0
  ordered-recordings (suc n) held room i = ordered-bind (ordered-recording held room i) λ r. ordered-bind (ordered-recordings n _ _ (suc i)) λ _. as_is 0
