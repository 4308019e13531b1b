-- One way over the recordings of an accepted file: the one at a byte, its body as a part of the file, and those that are passed and those that are left.
-- Assumes nothing.
use mathlib.Core.Path.{◌≡◌, refl, sym, ap, ◌∙◌}
use mathlib.Core.List.{List, [], ◌∷◌, ◌++◌, append_assoc, append-nil}
use mathlib.Core.Option.{Option, none}
use Prim.Native.Nat.{ℕ, suc, ◌+◌, ◌-◌, ◌≤◌, ◌<◌}
use native.Mathlib.Nat.{zero-add, sub-zero}
use native.Mathlib.Numerals.{add-one}
use native.Mathlib.Omega.{arith}
use borrow.Author.Tests.{leb-true, eqb-true}
use lib.Dec.{leb, eqb}
use lib.ListN.{length, take, drop, length-append}
use Rattle.words.specs.declared.Order.{Order}
use Rattle.walk.specs.Walk.{Walk, give, ◌>>=◌}
use Rattle.walk.specs.See.{stops, goes, see}
use Rattle.walk.specs.Tell.{tell}
use Rattle.walk.proofs.Apart.{stops-goes}
use Rattle.walk.proofs.Seen.{stays-goes, see-part, body-length}
use Rattle.walk.proofs.Went.{goes_same}
use Rattle.walk.proofs.Told.{tell-part}
use Rattle.rules.specs.declared.Head as At
use Rattle.rules.proofs.Cases.{most-low}
use Rattle.rules.specs.Rules.{most_of, Head, span, Held, Placed, recording_body, recording, recordings}
use Rattle.rules.specs.declared.Label.{Label}
use Rattle.rules.proofs.Room.{stays-recording_body}
use Rattle.records.specs.Says.{head_of}
use Rattle.records.proofs.Opened.{Opened, opened, admit-passed}
use Rattle.judge.specs.Recorded.{leaves}
use Rattle.judge.proofs.Led.{Led, led}
use Rattle.children.specs.Children.{Said, said, ◌then◌, Heads, AdmitsAny, RecordAt, NoRecord}
use Rattle.children.specs.Recordings.{all_of, ReadAs, UpTo}
use Rattle.children.proofs.Saying.{nothing, then-assoc, then-nothing, nothing_then, said-bind, said-give, said-gave}

-- a recording that the walk accepted, up to byte e of the file s
pub record Begun (o : Order) (label : Label) (s : List ℕ) (p : ℕ) (held : Option Held) (i : ℕ) (x : Placed) (e : ℕ) : Type 0 where
  pub opens : Opened o 0 s p (length s - p) 10 (most_of label) (λ _. leb 16) (eqb i) (recording_body label held) x e
  pub least : 16 ≤ span opens.top
  pub ends : e ≡ p + span opens.top
  pub inside : e ≤ length s
  pub rows : tell o 0 s p (recording label held (length s - p) i) ≡ record { start = p; size = span opens.top; code = opens.top.code; serial = opens.top.serial } ∷ tell o 0 s (p + 16) (recording_body label held opens.top)

pub begun : (o : Order) (label : Label) (s : List ℕ) (p : ℕ) (held : Option Held) (i : ℕ) {x : Placed} {e : ℕ} → see o 0 s p (recording label held (length s - p) i) ≡ goes x e → Begun o label s p held i x e
unfolding recording
begun o label s p held i g =
    let v = opened o 0 s p (length s - p) 10 (most_of label) (λ _. leb 16) (eqb i) (recording_body label held) g in
    let h = v.top in
    let l : 16 ≤ span h = leb-true 16 (span h) v.given.length in
    let z = stays-goes o 0 s (p + 16 + (span h - 16)) (omega (arith, v.given.inside, l)) (recording_body label held h) (p + 16) _ (omega arith) (stays-recording_body label held h (p + 16) l) v.given.rest in
    record { opens = v; least = l; ends = omega (arith, z.1); inside = omega (arith, z.1, v.given.inside, l); rows = v.rows }

-- the part of the file s behind the head of the record from byte p up to q
abbrev pub body_of : List ℕ → ℕ → ℕ → List ℕ
body_of s p q = take (q - (p + 16)) (drop (p + 16) s)

-- a recording that the walk accepted, up to byte q of the file s: its body is a part of the file
pub record Within (o : Order) (label : Label) (s : List ℕ) (p q : ℕ) (held : Option Held) (i : ℕ) (x : Placed) : Type 0 where
  pub top : Head
  pub heads : Heads o 0 s p top
  pub kind : top.code ≡ 10
  pub admits : AdmitsAny o 0 s p top
  pub ends : q ≡ p + span top
  pub starts : p + 16 ≤ q
  pub fills : span top ≡ 16 + length (body_of s p q)
  pub body : see o (p + 16) (body_of s p q) (p + 16) (recording_body label held top) ≡ goes x q
  pub rows : tell o 0 s p (recording label held (length s - p) i) ≡ record { start = p; size = span top; code = top.code; serial = top.serial } ∷ tell o (p + 16) (body_of s p q) (p + 16) (recording_body label held top)

pub within : (o : Order) (label : Label) (s : List ℕ) (p q : ℕ) (held : Option Held) (i : ℕ) {x : Placed} → see o 0 s p (recording label held (length s - p) i) ≡ goes x q → Within o label s p q held i x
within o label s p q held i g =
    let v = begun o label s p held i g in
    let h = v.opens.top in
    let d = v.opens.given in
    let z : p + 16 + (span h - 16) ≡ p + 16 + (q - (p + 16)) = omega (arith, v.ends, v.least) in
    let fit : p + 16 + (q - (p + 16)) ≤ length s = omega (arith, v.ends, v.least, v.inside) in
    let stays = rw z at (stays-recording_body label held h (p + 16) v.least) in
    record {
      top = h;
      heads = rw (zero-add p, zero-add (p + 16)) v.opens.first;
      kind = eqb-true h.code 10 v.opens.kind;
      admits = rw (zero-add (p + 16)) ((admit-passed o 0 s (p + 16) (length s - p) (most_of label) (leb 16) (eqb i) h d.admits).any 128 (most-low label));
      ends = v.ends;
      starts = omega (arith, v.ends, v.least);
      fills = omega (arith, v.ends, body-length p q s (omega (arith, v.ends, v.least)) v.inside);
      body = see-part o 0 (p + 16) (p + 16) (q - (p + 16)) s (omega arith) fit (recording_body label held h) (p + 16) _ (omega arith) stays ∙ d.rest;
      rows = v.rows ∙ rw (tell-part o 0 (p + 16) (p + 16) (q - (p + 16)) s (omega arith) fit (recording_body label held h) (p + 16) _ (omega arith) stays);
    }

-- what the cursor's answer at byte p says of an accepted recording there: one was found, with its head, and ends where it says
module _ {o : Order} {s : List ℕ} {p : ℕ} where
  pub recording-none : {X : Type 0} → NoRecord o 0 s p → (label : Label) (held : Option Held) (i : ℕ) {x : Placed} {e : ℕ} → see o 0 s p (recording label held (length s - p) i) ≡ goes x e → X
  recording-none v label held i {x} {e} g =
      let w = within o label s p e held i g in
      absurd (v.none w.top w.heads (λ z. omega (arith, w.kind)) w.admits)

  module _ {h : At.Head} {q : ℕ} (v : RecordAt o 0 s p h q) (label : Label) (held : Option Held) (i : ℕ) {x : Placed} where
    pub recording-ends : {e : ℕ} → see o 0 s p (recording label held (length s - p) i) ≡ goes x e → e ≡ q
    recording-ends {e} g =
        let w = within o label s p e held i g in
        let y : span w.top ≡ span (head_of h) = ap span (goes_same (sym w.heads ∙ v.heads)).0 in
        omega (arith, w.ends, v.ends)

    pub recording-head : (w : Within o label s p q held i x) → w.top ≡ head_of h
    recording-head w = (goes_same (sym w.heads ∙ v.heads)).0

-- what the recordings say: the first, and the others
module _ {o : Order} {label : Label} {s : List ℕ} {p n : ℕ} {held : Option Held} {i : ℕ} {l : List Placed} {e : ℕ} (v : Led o label s p n held i l e) where
  abbrev later : Placed → Walk (List Placed)
  later x = recordings label n (leaves x) (length s - p - x.layout.bytes) (suc i) >>= λ r. give (x ∷ r)

  abbrev others : Walk (List Placed)
  others = recordings label n (leaves v.one) (length s - v.mid) (suc i)

  led-said : said o 0 s p (recordings label (suc n) held (length s - p) i) ≡ said o 0 s p (recording label held (length s - p) i) then said o 0 s v.mid others
  unfolding recordings
  led-said =
      let r : length s - p - v.one.layout.bytes ≡ length s - v.mid = omega (arith, v.place) in
      said-bind o 0 s p (recording label held (length s - p) i) later v.is ∙ rw (r, said-give o 0 s v.mid others (λ r. v.one ∷ r))

-- the file's recordings are read as ps: i of them are passed, and the walk goes on at byte p
pub record Passed (o : Order) (label : Label) (s : List ℕ) (count : ℕ) (ps : List Placed) (p i : ℕ) : Type 0 where
  -- what holds for the next recording
  pub held : Option Held
  -- those that are passed, and those that are left
  pub done : List Placed
  pub left : List Placed
  pub all : ps ≡ done ++ left
  pub many : length done ≡ i
  -- what was said up to byte p
  pub tells : Said
  pub end : ℕ
  pub on : see o 0 s p (recordings label (count - i) held (length s - p) (i + 1)) ≡ goes left end
  pub says : said o 0 s 32 (all_of label count s) ≡ tells then said o 0 s p (recordings label (count - i) held (length s - p) (i + 1))

-- one more is passed: x, which ends at q
pub record Onward {o : Order} {label : Label} {s : List ℕ} {count : ℕ} {ps : List Placed} {p i : ℕ} (v : Passed o label s count ps p i) (x : Placed) (q : ℕ) : Type 0 where
  pub to : Passed o label s count ps q (i + 1)
  pub holds : to.held ≡ leaves x
  pub more : to.done ≡ v.done ++ (x ∷ [])
  pub adds : to.tells ≡ v.tells then said o 0 s p (recording label v.held (length s - p) (i + 1))

module _ {o : Order} {label : Label} {s : List ℕ} {count : ℕ} {ps : List Placed} where
  unfoldable passed_none : {e : ℕ} → ReadAs o label s count ps e → Passed o label s count ps 32 0
  passed_none {e} g = record { held = none; done = []; left = ps; all = refl; many = refl; tells = nothing; end = e; on = rw sub-zero g; says = sym (nothing_then _) ∙ simp sub-zero }

  module _ {p i : ℕ} (v : Passed o label s count ps p i) where
    module _ (many : i < count) (fit : p ≤ length s) where
      one : count - i ≡ suc (count - (i + 1))
      one = omega arith

      -- the next one was accepted
      pub passed-led : Led o label s p (count - (i + 1)) v.held (i + 1) v.left v.end
      passed-led = led o label s p (count - (i + 1)) v.held (i + 1) fit (rw one at v.on)

      pub passed-stop : {X : Type 0} {n q : ℕ} → see o 0 s p (recording label v.held (length s - p) (i + 1)) ≡ stops n q → X
      passed-stop g = stops-goes (sym g ∙ passed-led.is)

      -- y: how it was found
      next-led : (y : Led o label s p (count - (i + 1)) v.held (i + 1) v.left v.end) {x : Placed} {q : ℕ} → y.one ≡ x → y.mid ≡ q → Onward v x q
      next-led y {x} {q} e m = record {
        to = record {
          held = leaves x;
          done = v.done ++ (x ∷ []);
          left = y.rest;
          all = v.all ∙ rw (y.all, e, append_assoc);
          many = length-append v.done (x ∷ []) ∙ ap (λ (n : ℕ). n + 1) v.many;
          tells = v.tells then said o 0 s p (recording label v.held (length s - p) (i + 1));
          end = v.end;
          on = rw (← m, ← e, add-one (i + 1)) y.on;
          says = v.says ∙ rw (one, led-said y, e, m, add-one (i + 1), then-assoc);
        };
        holds = refl;
        more = refl;
        adds = refl;
      }

      pub passed-next : {x : Placed} {q : ℕ} → see o 0 s p (recording label v.held (length s - p) (i + 1)) ≡ goes x q → Onward v x q
      passed-next g = let e = goes_same (sym passed-led.is ∙ g) in next-led passed-led e.0 e.1

    -- none is left
    module _ (few : count ≤ i) where
      none_left : count - i ≡ 0
      none_left = omega arith

      passed-done : ps ≡ v.done
      unfolding recordings see
      passed-done =
          let l : [] ≡ v.left = (goes_same (rw none_left at v.on)).0 in
          v.all ∙ (ap (λ (r : List Placed). v.done ++ r) (sym l) ∙ append-nil v.done)

      passed-said : said o 0 s 32 (all_of label count s) ≡ v.tells
      unfolding recordings
      passed-said = v.says ∙ rw (none_left, said-gave, then-nothing)

-- what a loop says of the recordings that are passed: P, of what holds for the next one, of those passed, and of what was said on the way
pub record Sofar (o : Order) (label : Label) (s : List ℕ) (count : ℕ) (ps : List Placed) (p i : ℕ) (P : Option Held → List Placed → Said → Type 0) : Type 0 where
  pub at : Passed o label s count ps p i
  pub is : P at.held at.done at.tells

module _ {o : Order} {label : Label} {s : List ℕ} {count : ℕ} {ps : List Placed} {P : Option Held → List Placed → Said → Type 0} where
  pub sofar-start : {e : ℕ} → ReadAs o label s count ps e → P none [] nothing → Sofar o label s count ps 32 0 P
  unfolding passed_none
  sofar-start g h = record { at = passed_none g; is = h }

  module _ {p i : ℕ} (v : Sofar o label s count ps p i P) where
    -- the next one, x, ends at q, and P' holds with it
    pub sofar-next : {P' : Option Held → List Placed → Said → Type 0} {q : ℕ} → i < count → p ≤ length s →
        ((x : Placed) (e : ℕ) → see o 0 s p (recording label v.at.held (length s - p) (i + 1)) ≡ goes x e →
        UpTo e q (P' (leaves x) (v.at.done ++ (x ∷ [])) (v.at.tells then said o 0 s p (recording label v.at.held (length s - p) (i + 1))))) → Sofar o label s count ps q (i + 1) P'
    sofar-next {P'} {q} many fit step =
        let y = passed-led v.at many fit in
        let u = step y.one y.mid y.is in
        let n = passed-next v.at many fit (rw u.ends at y.is) in
        record { at = n.to; is = rw (n.holds, n.more, n.adds) u.holds }

    -- none is left
    pub sofar-end : count ≤ i → P v.at.held ps (said o 0 s 32 (all_of label count s))
    sofar-end few = rw (passed-done v.at few, passed-said v.at few) v.is
