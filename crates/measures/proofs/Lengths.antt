-- What the walk of a recording's body came to, for what the code measures of it: where its 140 stands, and how long the canonical form is.
-- Assumes nothing.
use mathlib.Core.Path.{◌≡◌, refl, sym, ap, ◌∙◌}
use mathlib.Core.Bool.{Bool}
use mathlib.Core.List.{List, ◌++◌}
use mathlib.Core.Option.{Option}
use Prim.Native.Nat.{ℕ, ◌+◌, ◌-◌, ◌*◌, ◌≤◌, ◌<◌}
use native.Mathlib.Omega.{arith}
use borrow.Author.Tests.{leb-true, eqb-true}
use lib.Dec.{leb, eqb}
use lib.ListN.{length, drop}
use Rattle.words.specs.Numbers.{Bytes}
use Rattle.words.specs.declared.Order.{Order}
use Rattle.words.proofs.Words.{bytes_take, bytes_drop}
use Rattle.walk.specs.Walk.{Event, size, Walk, ◌>>=◌, ◌>>◌}
use Rattle.walk.specs.Plays.{Plays}
use Rattle.walk.specs.See.{goes, see, Stays}
use Rattle.walk.specs.Trace.{trace}
use Rattle.walk.proofs.Laws.{size-append, size-cleared}
use Rattle.walk.proofs.Seen.{see-bind, stays-goes, body-length}
use Rattle.walk.proofs.Tracing.{size-trace}
use Rattle.walk.proofs.Went.{gate-went, goes_same, by-onward, by_went, by-then}
use Rattle.rules.specs.Rules.{most_of, Head, head, span, pad_ok, padding, Frame, Frames, frames, Maker}
use Rattle.rules.specs.Rules.{Next, next, Held, Placed, content_limit, delimiter, recording_body, Descriptions, descriptions, signals}
use Rattle.rules.specs.declared.Label.{Label}
use Rattle.rules.specs.Canonical.{most, record_of, frames_bytes, frames_head, frames_written, maker_events, delimiter_head, delimiter_events, content}
use Rattle.rules.proofs.Room.{Behind, stays-next, stays-descriptions, stays-frames_rest}
use Rattle.rules.proofs.Renew.{FramesOk, frames-ok, frames-size, next-ok}
use Rattle.rules.proofs.Cases.{by_most}
use Rattle.rules.proofs.Sized.{longest, pad-under}
use Rattle.rules.proofs.Written.{tables_events}
use Rattle.records.proofs.Opened.{require-went}
use Rattle.children.proofs.Chained.{tables-leads}
use Rattle.children.proofs.Recordings.{Within}
use Rattle.measures.specs.Measures.{most_served}
use Rattle.measures.proofs.Chained.{trace-plays, tables-bare, content-tables}

-- a walk that went on over bytes: what holds of its answer, and that it accepts the events that it read
record Heard {A : Type 0} (w : Walk A) (Q : A → ℕ → Type 0) (a : A) (e : ℕ) : Type 0 where
  holds : Q a e
  events : List Event
  plays : Plays events w a

heard : {A : Type 0} (o : Order) (b : ℕ) (s : List ℕ) (L : ℕ) → L ≤ b + length s → Bytes s → (w : Walk A) (at : ℕ) (Q : A → ℕ → Type 0) {a : A} {e : ℕ} →
    b ≤ at → Stays L at w Q → see o b s at w ≡ goes a e → Heard w Q a e
heard o b s L fit bytes w at Q g h k = record {
  holds = stays-goes o b s L fit w at Q g h k;
  events = trace o b s at w;
  plays = trace-plays o b s L fit bytes w at Q g h k;
}

-- a walk by the room that it is given, said otherwise
moved : {A : Type 0} (o : Order) (b : ℕ) (s : List ℕ) (w : ℕ → Walk A) {a : A} (p p' r r' q q' : ℕ) → p ≡ p' → r ≡ r' → q ≡ q' → see o b s p (w r) ≡ goes a q →
    see o b s p' (w r') ≡ goes a q'
moved o b s w p p' r r' q q' i j k g = rw (i, j, k) at g

-- what they came to: how long their canonical form is, and where the head stands that follows
record Told (o : Order) (label : Label) (b : ℕ) (s : List ℕ) (n : ℕ) (t : Descriptions) (m : ℕ) : Type 0 where
  held : Option Held
  went : see o b s b (descriptions label held n) ≡ goes t m
  long : b + 16 + size (tables_events label t) ≡ m
  behind : Behind (b + (n - 16)) n t.montage.next m
  heads : see o b s (m - 16) (head t.montage.next.room) ≡ goes t.montage.next.head m

tables-told : (o : Order) (label : Label) (b : ℕ) (s : List ℕ) → Bytes s → (held : Option Held) (n : ℕ) {t : Descriptions} {m : ℕ} → n ≡ 16 + length s →
    see o b s b (descriptions label held n) ≡ goes t m → Told o label b s n t m
unfolding size
tables-told o label b s bytes held n {t} {m} l g =
    let fit : b + (n - 16) ≤ b + length s = omega arith in
    let r = tables-bare o b s bytes label held n (omega arith) g in
    let e = size-trace o b s (b + (n - 16)) fit (descriptions label held n) b _ (omega arith) (stays-descriptions label held n b) g in
    let z = sym (size-cleared (trace o b s b (descriptions label held n))) ∙ (ap size r ∙ size-append (tables_events label t) _) in
    let d = tables-leads o b s (record { label = label; basic = t.basic; own = t.channels.own; channels = t.channels.value; back = 0 }) held n l g in
    record {
      held = held;
      went = g;
      long = omega (arith, e, z);
      behind = stays-goes o b s (b + (n - 16)) fit (descriptions label held n) b _ (omega arith) (stays-descriptions label held n b) g;
      heads = moved o b s head (b + d.to) (m - 16) (length s - d.to) t.montage.next.room (b + (d.to + 16)) m (omega (arith, d.end)) (sym d.stands.room)
          (sym d.end) d.stands.heads;
    }

-- a delimiter that the walk accepted

no-head : (size code serial multiplier : ℕ) → size ≡ 0 → code ≡ 0 → serial ≡ 0 → multiplier ≡ 0 →
    ◌≡◌ {A = Head} (record { size = size; code = code; serial = serial; multiplier = multiplier }) delimiter_head
no-head size code serial multiplier p q r t = rw (p, q, r, t)

delimiter-is : (o : Order) (b : ℕ) (s : List ℕ) (at : ℕ) (h : Head) {u : Unit {0}} {e : ℕ} → see o b s at (delimiter h) ≡ goes u e → h ≡ delimiter_head
unfolding delimiter see ◌>>=◌ ◌>>◌
delimiter-is o b s at h g =
    let g₁ = gate-went _ _ _ _ g in
    let g₂ = gate-went _ _ _ _ g₁.1 in
    let g₃ = gate-went _ _ _ _ g₂.1 in
    let g₄ = gate-went _ _ _ _ g₃.1 in
    no-head h.size h.code h.serial h.multiplier (eqb-true h.size 0 g₃.0) (eqb-true h.code 0 g₁.0) (eqb-true h.serial 0 g₄.0) (eqb-true h.multiplier 0 g₂.0)

-- no version allows a larger multiplier than 128
served-most : (label : Label) → longest (most_of label) ≤ 128 * most
served-most label = by_most (λ k. longest k ≤ 128 * most) label (omega arith) (omega arith)

-- a recording's body that the walk accepted: the tables before its 140, which stands at byte `at` of the body, what follows it, and how long the canonical
-- form is
pub record Accepted (o : Order) (label : Label) (b : ℕ) (s : List ℕ) (x : Placed) : Type 0 where
  pub at : ℕ
  pub held : Option Held
  pub before : Descriptions
  pub begins : see o b s b (descriptions label held (16 + length s)) ≡ goes before (b + (at + 16))
  pub front : size (tables_events label before) ≡ at
  pub place : 16 + at ≡ x.layout.at140
  pub inside : at + 16 ≤ length s
  pub top : Head
  pub stands : see o b s (b + at) (head (length s - at)) ≡ goes top (b + (at + 16))
  pub code : top.code ≡ 140
  pub own : Bool
  pub back : ℕ
  pub value : Frames
  pub went : see o b s (b + (at + 16)) (frames label before.basic own x.recording.channels back (length s - at) top) ≡ goes value (b + (at + span top))
  pub fuel : ℕ
  pub enough : length s < at + span top + fuel
  pub after : Next
  pub end : ℕ
  pub behind : see o b s (b + (at + span top)) (next label fuel (length s - (at + span top))) ≡ goes after end
  pub closes : after.head ≡ delimiter_head
  pub seconds : x.recording.seconds ≡ value.seconds
  pub frames : x.recording.frames ≡ value.frames
  pub count : length x.recording.frames ≡ before.basic.frames
  pub framed : size (record_of (frames_head x.recording.seconds x.recording.channels x.recording.frames)
      (frames_written x.recording.seconds x.recording.channels x.recording.frames)) ≡ span
      (frames_head x.recording.seconds x.recording.channels x.recording.frames)
  pub makers : ℕ
  pub wide : size (maker_events after.makers) ≡ makers
  pub left : makers + after.room ≡ length s - (at + span top)
  pub events :
      content label x.recording ≡
      tables_events label before ++ (record_of (frames_head x.recording.seconds x.recording.channels x.recording.frames)
      (frames_written x.recording.seconds x.recording.channels x.recording.frames) ++ (maker_events after.makers ++ delimiter_events))
  pub long : size (content label x.recording) ≡ at + span (frames_head x.recording.seconds x.recording.channels x.recording.frames) + (makers + 16)
  pub few : frames_bytes x.recording.seconds x.recording.channels x.recording.frames ≤ most_served
  pub total : 16 + size (content label x.recording) ≤ most_served

-- the most_served counts no padding: the canonical form has that of its 140 alone
total-sum : (B len room at bytes pad span f k d all : ℕ) → B ≡ 16 + len → at + room ≡ len → bytes + pad ≡ span → span ≤ room → k + d ≡ room - span → 16 ≤ d →
    B - (d - 16) - pad ≤ content_limit → all ≡ at + f + (k + 16) → f < bytes + 128 → 16 + all ≤ most_served
total-sum B len room at bytes pad span f k d all h₁ h₂ h₃ h₄ h₅ h₆ h₇ h₈ h₉ =
    let i : B - (d - 16) - pad ≡ 32 + at + bytes + k = omega (arith, h₁, h₂, h₃, h₄, h₅, h₆) in
    let j : 32 + at + bytes + k ≤ content_limit = rw i at h₇ in
    omega (arith, j, h₈, h₉)

-- a recording that these tables begin
content-size : (label : Label) (t : Descriptions) (seconds : ℕ) (fs : List Frame) (ms : List Maker) →
    FramesOk label t.basic t.channels.own t.channels.value seconds fs →
    size (tables_events label t ++ (record_of (frames_head seconds t.channels.value fs)
    (frames_written seconds t.channels.value fs) ++ (maker_events ms ++ delimiter_events))) ≡ size (tables_events label t) + span
    (frames_head seconds t.channels.value fs) + (size (maker_events ms) + 16)
unfolding delimiter_events size
content-size label t seconds fs ms f =
    rw (
      size-append (tables_events label t),
      size-append (record_of (frames_head seconds t.channels.value fs) (frames_written seconds t.channels.value fs)),
      frames-size t.basic t.channels.own t.channels.value seconds fs f,
      size-append (maker_events ms),
    )
    (omega arith)

module _ (o : Order) (label : Label) (b : ℕ) (s : List ℕ) (bytes : Bytes s) (h : Head) (fills : span h ≡ 16 + length s) where
  abbrev L : ℕ
  L = b + (span h - 16)

  hears : {A : Type 0} (w : Walk A) (at : ℕ) (Q : A → ℕ → Type 0) {a : A} {e : ℕ} → b ≤ at → Stays L at w Q → see o b s at w ≡ goes a e → Heard w Q a e
  hears = heard o b s L (omega arith) bytes

  signals-told : (t : Descriptions) (m : ℕ) → Told o label b s (span h) t m → {x : Placed} {e : ℕ} → see o b s m (signals label t h) ≡ goes x e →
      Accepted o label b s x
  unfolding signals see
  signals-told t m k g =
      let last : Next = t.montage.next in
      let top : Head = last.head in
      let back : ℕ = span h - last.room - 20 in
      let v : ℕ → Walk Frames = λ r. frames label t.basic t.channels.own t.channels.value back r top in
      let a = require-went o b s m (eqb top.code 140) 9 12 _ g in
      by_went o b s m (v last.room) _ a.1 λ f m₁ f₀ g₁.
      by_went o b s m₁ (next label (span h) (last.room - span top)) _ g₁ λ d m₂ d₀ g₂.
      by-then o b s m₂ (delimiter d.head) _ g₂ λ _ m₃ c₃ g₃.
      let l = require-went o b s m₃ (leb (span h - (d.room - 16) - f.padded) content_limit) 14 _ _ g₃ in
      by-then o b s m₃ (padding (d.room - 16)) _ (require-went o b s m₃ (pad_ok h (d.room - 16)) 10 0 _ l.1).1 λ _ m₄ _ g₄.
      let q = k.behind in
      let at : ℕ = size (tables_events label t) in
      let p : at + last.room ≡ length s = omega (arith, k.long, q.2) in
      let f₁ = hears (v last.room) m _ (omega (arith, k.long)) (stays-frames_rest label t.basic t.channels.own t.channels.value back last.room top L m q.2)
      f₀ in
      let z : (16 ≤ span top) × (span top ≤ last.room) × (m₁ + (last.room - span top) ≡ L) = f₁.holds in
      let f₂ = frames-ok t.basic t.channels.own t.channels.value back last.room top f₁.plays in
      let d₁ = hears (next label (span h) (last.room - span top)) m₁ (Behind L (span h)) (omega (arith, z, q.1))
      (stays-next label (span h) (last.room - span top) (span h) L m₁ (omega (arith, q.1)) (omega (arith, q.1)) z.2) d₀ in
      let d₂ = next-ok (span h) (last.room - span top) d₁.plays in
      let n = ap size (content-tables label t f.seconds f.frames d.makers) ∙ content-size label t f.seconds f.frames d.makers f₂.0 in
      rw (← (goes_same g₄).0)
      (record {
        at = at;
        held = k.held;
        before = t;
        begins = moved o b s (descriptions label k.held) b b (span h) (16 + length s) m (b + (at + 16)) refl fills (sym k.long ∙ omega arith) k.went;
        front = refl;
        place = omega arith;
        inside = omega (arith, q.0);
        top = top;
        stands = moved o b s head (m - 16) (b + at) last.room (length s - at) m (b + (at + 16)) (omega (arith, k.long)) (omega arith) (omega (arith, k.long))
            k.heads;
        code = eqb-true top.code 140 a.0;
        own = t.channels.own;
        back = back;
        value = f;
        went = moved o b s v m (b + (at + 16)) last.room (length s - at) m₁ (b + (at + span top)) (omega (arith, k.long)) (omega arith) (omega (arith, z)) f₀;
        fuel = span h;
        enough = omega arith;
        after = d;
        end = m₂;
        behind = moved o b s (next label (span h)) m₁ (b + (at + span top)) (last.room - span top) (length s - (at + span top)) m₂ m₂ (omega (arith, z))
            (omega arith) refl d₀;
        closes = delimiter-is o b s m₂ d.head c₃;
        seconds = refl;
        frames = refl;
        count = f₂.0.count;
        framed = frames-size t.basic t.channels.own t.channels.value f.seconds f.frames f₂.0;
        makers = size (maker_events d.makers);
        wide = refl;
        left = omega (arith, d₂.left);
        events = content-tables label t f.seconds f.frames d.makers;
        long = n;
        few = omega (arith, f₂.0.total, served-most label);
        total = total-sum (span h) (length s) last.room at _ _ _ _ _ _ _ fills p f₂.1 f₂.2 d₂.left d₂.enough (leb-true _ content_limit l.0) n
            (pad-under _ 128 (omega arith) (omega (arith, f₂.0.total, served-most label)));
      })

  pub accepted : (held : Option Held) {x : Placed} {e : ℕ} → see o b s b (recording_body label held h) ≡ goes x e → Accepted o label b s x
  unfolding recording_body
  accepted held g =
      by-onward (see o b s b (descriptions label held (span h))) (λ t m. see o b s m (signals label t h))
      (sym (see-bind o b s b (descriptions label held (span h)) (λ t. signals label t h)) ∙ g) λ t m t₀ g₁.
      signals-told t m (tables-told o label b s bytes held (span h) fills t₀) g₁

-- a recording that the walk accepted: its 140 stands inside it
pub within-at : {o : Order} {label : Label} {s : List ℕ} {p q : ℕ} {held : Option Held} {i : ℕ} {x : Placed} → Bytes s → q ≤ length s →
    Within o label s p q held i x → (frames : ℕ) → frames ≡ p + x.layout.at140 → (p + 16 ≤ frames) × (frames ≤ q)
within-at {o} {label} {s} {p} {q} {held} bytes inside w frames e =
    let v = accepted o label (p + 16) _ (bytes_take (q - (p + 16)) (drop (p + 16) s) (bytes_drop (p + 16) s bytes)) w.top w.fills held w.body in
    (omega (arith, v.place), omega (arith, v.place, v.inside, w.starts, body-length p q s w.starts inside))
