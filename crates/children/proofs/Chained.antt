-- An accepted recording's body is a chain of its records: what it says is what they say, one after the other.
-- The walks of the rules go from record to record up to a head: those before the 140 and those behind it are such links.
-- Assumes nothing.
use mathlib.Core.Path.{◌≡◌, refl, sym, ap, ◌∙◌}
use mathlib.Core.Bool.{Bool, true, false}
use mathlib.Core.List.{List, []}
use mathlib.Core.Option.{Option, none, some}
use Prim.Native.Nat.{ℕ, zero, suc, ◌+◌, ◌-◌, ◌≤◌}
use native.Mathlib.Omega.{arith}
use borrow.Author.Tests.{leb-true, eqb-true}
use lib.Dec.{leb, eqb}
use lib.ListN.{length}
use Rattle.words.specs.declared.Order.{Order}
use Rattle.walk.specs.Walk.{Walk, give, refuse, ◌>>=◌, ◌>>◌, require, pick, text}
use Rattle.walk.specs.See.{goes, see}
use Rattle.walk.proofs.Seen.{and_left, stays-goes, stays_then, stays-weaken}
use Rattle.walk.proofs.Apart.{false-true, stops-goes}
use Rattle.walk.proofs.Went.{goes_same, went-first, by_went, by-then}
use Rattle.rules.specs.Rules.{most_of, event_table, Head, Basic, Group, channels_group, montage_group, montage, Channel, Next, Part, Held, Frames, Placed, Descriptions, head, admit, span, coded, fixed, basic, basic_body, next, more as maker, part, channels, items, patient_code, event_code, frames, maker_code, delimiter, padding, held_channels, held_patient, descriptions, signals, count_back, recording_body}
use Rattle.rules.specs.declared.Label.{Label}
use Rattle.rules.proofs.Cases.{by_form}
use Rattle.rules.proofs.Room.{Rests, stays-head, stays-admit, stays-basic_body, stays-basic, stays-channels_rest, stays-montage_rest, stays-items_rest, stays-frames_rest, stays-delimiter}
use Rattle.records.specs.Says.{is_group, CodeTells}
use Rattle.records.proofs.Groups.{told-channels, told-montage}
use Rattle.records.proofs.Opened.{require-went}
use Rattle.children.specs.Children.{Said, said, ◌then◌, Known, known_of, basic_rest, maker_rest, Reads, Heads, heading, Inner, is100, is_subs, is130, is200, is140, is_maker, Links, more, last, Chain, Closed}
use Rattle.children.proofs.Saying.{nothing, then-assoc, then-nothing, nothing_then, said-bind, said-then, said-give, said-gave, said-require, by_said}

-- a 100 and a maker's record end where their heads say
rests-basic : Rests basic_rest
rests-basic room h L at s =
    stays_then _ _ _ _ _ _ (stays-admit room 0 (eqb 128) (eqb 0) h L at)
    (λ _ x v.
    let n : 128 ≡ span h = eqb-true 128 (span h) v.1 in
    stays-weaken basic_body (x + 112) L x _ _ (omega (arith, v.0, v.2)) (λ a e q. (omega arith, v.2, omega (arith, v.0, v.2))) (stays-basic_body x (x + 112) (omega arith)))

rests-maker : (label : Label) → Rests (maker_rest label)
rests-maker label room h L at s =
    stays_then _ _ _ _ _ _ (stays-admit room (most_of label) (leb 16) (λ _. true) h L at)
    (λ _ x v.
    let n : 16 ≤ span h = leb-true 16 (span h) v.1 in
    (omega (arith, v.0, v.2), λ _ _. (n, v.2, omega (arith, v.0, v.2))))

-- links carried over: φ is what each record then comes to, and ψ what all that is left does
module _ (o : Order) (b : ℕ) (s : List ℕ) {X Y : Type 0} (join : X → X → X) (fuse : Y → Y → Y) (I : ℕ → Head → X → Type 0) (E : ℕ → X → Type 0) (J : ℕ → Head → Y → Type 0) (F : ℕ → Y → Type 0) (φ ψ : X → Y)
    (step : (x y : X) → ψ (join x y) ≡ fuse (φ x) (ψ y)) (each : (p : ℕ) (h : Head) (x : X) → I p h x → J p h (φ x)) (end : (p : ℕ) (x : X) → E p x → Links o b s fuse J F p (ψ x)) where
  carry : {p : ℕ} {x : X} → Links o b s join I E p x → Links o b s fuse J F p (ψ x)
  carry (more h own rest k i d e) = more h (φ own) (ψ rest) k (each _ h own i) (carry d) (ap ψ e ∙ step own rest)
  carry (last e) = end _ _ e

-- kn: what the 140 is read with
module _ (o : Order) (b : ℕ) (s : List ℕ) (kn : Known) where
  -- a record that is no 140
  pub record Other (p : ℕ) (h : Head) (l : Said) : Type 0 where
    pub inner : Inner o b s p kn h l
    pub other : h.code ≡ 140 → ⊥

  -- byte p is q, and nothing is said
  pub record Here (q p : ℕ) (l : Said) : Type 0 where
    pub same : p ≡ q
    pub none : l ≡ nothing

  -- such records from byte p up to q, and all that they say
  abbrev pub Upto : ℕ → ℕ → Said → Type 0
  Upto q = Links o b s ◌then◌ Other (Here q)

  -- and others behind them: what each of the first comes to, φ, stands before what the others come to
  module _ {Y : Type 0} (fuse : Y → Y → Y) (J : ℕ → Head → Y → Type 0) (F : ℕ → Y → Type 0) (φ : Said → Y) (y : Y) (assoc : (l m : Said) → fuse (φ (l then m)) y ≡ fuse (φ l) (fuse (φ m) y)) (unit : fuse (φ nothing) y ≡ y)
      (each : (p : ℕ) (h : Head) (l : Said) → Other p h l → J p h (φ l)) {q : ℕ} (later : Links o b s fuse J F q y) where
    pub onto : {p : ℕ} {l : Said} → Upto q p l → Links o b s fuse J F p (fuse (φ l) y)
    onto = carry o b s ◌then◌ fuse Other (Here q) J F φ (λ l. fuse (φ l) y) assoc each (λ p l e. rw (e.same, e.none, unit) later)

  -- the head of n stands at byte q
  pub record Stands (q : ℕ) (n : Next) : Type 0 where
    pub heads : Heads o b s q n.head
    pub room : n.room ≡ length s - q
    pub inside : q + 16 ≤ length s

  -- a walk that says l went through such records from byte p on, and came to the head of n
  pub record Leads (p : ℕ) (l : Said) (n : Next) (e : ℕ) : Type 0 where
    pub to : ℕ
    pub stands : Stands to n
    pub end : e ≡ b + (to + 16)
    pub before : Said
    pub links : Upto to p before
    pub says : l ≡ before then heading o b s to

  leads-at : {p : ℕ} {l : Said} {n m : Next} {e : ℕ} → n.head ≡ m.head → n.room ≡ m.room → Leads p l n e → Leads p l m e
  leads-at i j k = record { to = k.to; stands = record { heads = rw i at k.stands.heads; room = sym j ∙ k.stands.room; inside = k.stands.inside }; end = k.end; before = k.before; links = k.links; says = k.says }

  -- a record at p that its walk accepted ends where its head says, inside the part
  record Fills (p : ℕ) (h : Head) (e : ℕ) : Type 0 where
    least : 16 ≤ span h
    inside : p + span h ≤ length s
    ends : e ≡ b + (p + span h)

  fills : {A : Type 0} (body : ℕ → Head → Walk A) → Rests body → (p : ℕ) (h : Head) {a : A} {e : ℕ} → p + 16 ≤ length s → see o b s (b + (p + 16)) (body (length s - p) h) ≡ goes a e → Fills p h e
  fills body rests p h fit g =
      let z = stays-goes o b s (b + length s) (omega arith) (body (length s - p) h) (b + (p + 16)) _ (omega arith) (rests (length s - p) h (b + length s) (b + (p + 16)) (omega arith)) g in
      record { least = z.0; inside = omega (arith, z.1); ends = omega (arith, z.1, z.2) }

  -- a head that the walk read
  headed : (p : ℕ) {h : Head} {e : ℕ} → p ≤ length s → see o b s (b + p) (head (length s - p)) ≡ goes h e → (e ≡ b + (p + 16)) × (p + 16 ≤ length s)
  headed p fit g =
      let z = stays-goes o b s (b + p + (length s - p)) (omega arith) (head (length s - p)) (b + p) _ (omega arith) (stays-head (b + p) (length s - p)) g in
      (omega (arith, z.0), omega (arith, z.1))

  -- a record at p, and what leads on behind it
  leads-on : (p : ℕ) (h : Head) → Heads o b s p h → {own l : Said} {n : Next} {e : ℕ} → Other p h own → Leads (p + span h) l n e → Leads p (own then l) n e
  leads-on p h k {own} i d =
      record { to = d.to; stands = d.stands; end = d.end; before = own then d.before; links = more h own d.before k i d.links refl; says = ap (λ (l : Said). own then l) d.says ∙ sym (then-assoc own d.before (heading o b s d.to)) }

  -- the head of n stands at p itself
  leads-none : (p : ℕ) (n : Next) → Stands p n → Leads p (heading o b s p) n (b + (p + 16))
  leads-none p n k = record { to = p; stands = k; end = refl; before = nothing; links = last (record { same = refl; none = refl }); says = sym (nothing_then (heading o b s p)) }

  -- a walk, given the room behind a byte, leads on from there
  abbrev Leading : (ℕ → Walk Next) → Type 0
  Leading u = (q : ℕ) (n : Next) (e : ℕ) → q ≤ length s → see o b s (b + q) (u (length s - q)) ≡ goes n e → Leads q (said o b s (b + q) (u (length s - q))) n e

  -- a record whose head stands at p: what leads on from its end, and with it
  module _ {A : Type 0} (body : ℕ → Head → Walk A) (rests : Rests body) (p : ℕ) (h : Head) (fit : p + 16 ≤ length s) (u : ℕ → Walk Next) (leads : Leading u) {a : A} {m : ℕ} {n : Next} {e : ℕ}
      (g₁ : see o b s (b + (p + 16)) (body (length s - p) h) ≡ goes a m) (g₂ : see o b s m (u (length s - p - span h)) ≡ goes n e) where
    behind-leads : Leads (p + span h) (said o b s m (u (length s - p - span h))) n e
    behind-leads =
        let z = fills body rests p h fit g₁ in
        let i : m ≡ b + (p + span h) = z.ends in
        let j : length s - p - span h ≡ length s - (p + span h) = omega arith in
        rw (i, j) (leads (p + span h) _ _ z.inside (rw (i, j) at g₂))

    record-leads : Heads o b s p h → ((l : Said) → Reads o b s p (body (length s - p) h) l → Other p h l) →
        Leads p (heading o b s p then (said o b s (b + (p + 16)) (body (length s - p) h) then said o b s m (u (length s - p - span h)))) n e
    record-leads k other = rw (← then-assoc) (leads-on p h k (other _ (record { value = a; end = m; is = g₁; says = refl })) behind-leads)

  -- makers' records, up to the head of another
  module _ (f p : ℕ) (h : Head) where
    abbrev one : List ℕ → Walk Next
    one body = next kn.label f (length s - p - span h) >>= λ n. give (maker (record { head = h; body = body }) n)

    abbrev maybe : Bool → Walk Next
    maybe c = pick c (admit (length s - p) (most_of kn.label) (leb 16) (λ _. true) h >> (text (span h - 16) >>= one)) (give (record { makers = []; head = h; room = length s - p }))

    maker-split : maybe true ≡ (maker_rest kn.label (length s - p) h >>= one)
    unfolding admit ◌>>=◌ ◌>>◌
    maker-split = refl

    maker-other : maker_code h.code ≡ true → h.code ≡ 140 → ⊥
    unfolding maker_code
    maker-other q e = let n : 1024 ≤ h.code = leb-true 1024 h.code (and_left (leb 1024 h.code) _ q) in omega arith

    next-step : Heads o b s p h → p + 16 ≤ length s → Leading (next kn.label f) → (c : Bool) → maker_code h.code ≡ c → {n : Next} {e : ℕ} → see o b s (b + (p + 16)) (maybe c) ≡ goes n e → Leads p (heading o b s p then said o b s (b + (p + 16)) (maybe c)) n e
    unfolding see
    next-step k fit leads false q {n} {e} g =
        let y = goes_same g in
        rw (said-gave, then-nothing, ← y.1) (leads-none p n (record { heads = rw (← y.0) k; room = rw (← y.0); inside = fit }))
    next-step k fit leads true q {n} {e} g =
        let w = went-first o b s (b + (p + 16)) (maker_rest kn.label (length s - p) h) one (rw maker-split at g) in
        let u = went-first o b s w.end (next kn.label f (length s - p - span h)) _ w.kept in
        let y = goes_same u.kept in
        rw (maker-split, said-bind o b s (b + (p + 16)) (maker_rest kn.label (length s - p) h) one w.is, said-give o b s w.end (next kn.label f (length s - p - span h)) (maker (record { head = h; body = w.value })))
        (leads-at (ap (λ (x : Next). x.head) y.0) (ap (λ (x : Next). x.room) y.0) (rw y.1 at (record-leads (maker_rest kn.label) (rests-maker kn.label) p h fit (next kn.label f) leads w.is u.is k (λ _ r. record { inner = is_maker q r; other = maker-other q }))))

  next-zero : {X : Type 0} (at room : ℕ) {n : Next} {e : ℕ} → see o b s at (next kn.label zero room) ≡ goes n e → X
  unfolding next see
  next-zero at room g = stops-goes g

  next_more : (f : ℕ) → Leading (next kn.label f) → Leading (next kn.label (suc f))
  unfolding next
  next_more f leads p n e fit g =
      let v : Walk Head = head (length s - p) in
      let k : Head → Walk Next = λ h. maybe f p h (maker_code h.code) in
      let w = went-first o b s (b + p) v k g in
      let z = headed p fit w.is in
      rw (said-bind o b s (b + p) v k w.is, z.0) (next-step f p w.value (rw z.0 at w.is) z.1 leads (maker_code w.value.code) refl (rw z.0 at w.kept))

  pub next-leads : (fuel : ℕ) → Leading (next kn.label fuel)
  next-leads zero p n e fit g = next-zero (b + p) (length s - p) g
  next-leads (suc f) p n e fit g = next_more f (next-leads f) p n e fit g

  -- a part of the recording that may be absent; the walk stands behind the head of n at p
  module _ {A : Type 0} (body : ℕ → Head → Walk A) (rests : Rests body) (fuel code p : ℕ) (n : Next) (at : Stands p n) (kind : code ≡ 140 → ⊥)
      (inner : n.head.code ≡ code → (l : Said) → Reads o b s p (body (length s - p) n.head) l → Inner o b s p kn n.head l) where
    abbrev owned : ℕ → Walk (Part A)
    owned room = body room n.head >>= λ a. next kn.label fuel (room - span n.head) >>= λ m. give (record { own = true; value = a; next = m })

    abbrev lacked : Option A → Walk (Part A)
    lacked held = elim held [ none ↦ refuse 9 12 | some a ↦ give (record { own = false; value = a; next = record { makers = []; head = n.head; room = n.room } }) ]

    -- it says l behind that head
    abbrev Passes : Said → Part A → ℕ → Type 0
    Passes l x e = Leads p (heading o b s p then l) x.next e

    owned-leads : n.head.code ≡ code → {x : Part A} {e : ℕ} → see o b s (b + (p + 16)) (owned (length s - p)) ≡ goes x e → Passes (said o b s (b + (p + 16)) (owned (length s - p))) x e
    unfolding see
    owned-leads q {x} g =
        let v : Walk A = body (length s - p) n.head in
        let u : Walk Next = next kn.label fuel (length s - p - span n.head) in
        let k : A → Walk (Part A) = λ a. u >>= λ m. give (record { own = true; value = a; next = m }) in
        let w = went-first o b s (b + (p + 16)) v k g in
        let j : Next → Part A = λ m. record { own = true; value = w.value; next = m } in
        let y = went-first o b s w.end u (λ m. give (j m)) w.kept in
        let z = goes_same y.kept in
        let i : y.value ≡ x.next = ap (λ (t : Part A). t.next) z.0 in
        rw (said-bind o b s (b + (p + 16)) v k w.is, said-give o b s w.end u j)
        (leads-at (ap (λ (t : Next). t.head) i) (ap (λ (t : Next). t.room) i) (rw z.1 at (record-leads body rests p n.head at.inside (next kn.label fuel) (next-leads fuel) w.is y.is at.heads (λ l r. record { inner = inner q l r; other = λ e. kind (sym q ∙ e) }))))

    lacked-leads : (held : Option A) {x : Part A} {e : ℕ} → see o b s (b + (p + 16)) (lacked held) ≡ goes x e → Passes (said o b s (b + (p + 16)) (lacked held)) x e
    unfolding see
    lacked-leads none g = stops-goes g
    lacked-leads (some a) {x} g =
        let y = goes_same g in
        let i : record { makers = []; head = n.head; room = n.room } ≡ x.next = ap (λ (t : Part A). t.next) y.0 in
        rw (said-gave, then-nothing, ← y.1) (leads-at (ap (λ (t : Next). t.head) i) (ap (λ (t : Next). t.room) i) (leads-none p n at))

    part_owned : (held : Option A) → eqb n.head.code code ≡ true → part kn.label fuel code body held n ≡ owned (length s - p)
    unfolding part
    part_owned held q = rw (part, q, at.room)

    part-lacked : (held : Option A) → eqb n.head.code code ≡ false → part kn.label fuel code body held n ≡ lacked held
    unfolding part
    part-lacked held q = rw (part, q)

    part-leads : (held : Option A) (x : Part A) (e : ℕ) → see o b s (b + (p + 16)) (part kn.label fuel code body held n) ≡ goes x e → Passes (said o b s (b + (p + 16)) (part kn.label fuel code body held n)) x e
    part-leads held x e g = go (eqb n.head.code code) refl
      where
        go : (c : Bool) → eqb n.head.code code ≡ c → Passes (said o b s (b + (p + 16)) (part kn.label fuel code body held n)) x e
        go true q = rw (part_owned held q) (owned-leads (eqb-true n.head.code code q) (rw (part_owned held q) at g))
        go false q = rw (part-lacked held q) (lacked-leads held (rw (part-lacked held q) at g))

  -- a walk that leads to a head, and what the walk v says behind it
  leads-to : {B : Type 0} {p : ℕ} {l : Said} {n : Next} {m : ℕ} (d : Leads p l n m) (v : Walk B) → l then said o b s m v ≡ d.before then (heading o b s d.to then said o b s (b + (d.to + 16)) v)
  leads-to {l} d v = ap (λ (i : ℕ). l then said o b s i v) d.end ∙ (ap (λ (y : Said). y then said o b s (b + (d.to + 16)) v) d.says ∙ then-assoc d.before (heading o b s d.to) _)

  -- one that leads on
  leads-then : {B : Type 0} {p : ℕ} {l : Said} {n n' : Next} {m : ℕ} → Leads p l n m → (v : Walk B) {x : B} {e : ℕ} →
      ((q : ℕ) → Stands q n → see o b s (b + (q + 16)) v ≡ goes x e → Leads q (heading o b s q then said o b s (b + (q + 16)) v) n' e) → see o b s m v ≡ goes x e → Leads p (l then said o b s m v) n' e
  leads-then d v later g =
      let c = later d.to d.stands (rw d.end at g) in
      record {
        to = c.to;
        stands = c.stands;
        end = c.end;
        before = d.before then c.before;
        links = onto ◌then◌ Other (Here c.to) (λ l. l) c.before (λ l m. then-assoc l m c.before) (nothing_then c.before) (λ _ _ _ i. i) c.links d.links;
        says = leads-to d v ∙ (ap (λ (y : Said). d.before then y) c.says ∙ sym (then-assoc d.before c.before (heading o b s c.to)));
      }

  -- the 100 with which a body begins
  first : {c : Basic} {m : ℕ} → see o b s (b + 0) (basic (length s - 0)) ≡ goes c m →
      (m ≡ b + 128) × (128 ≤ length s) × ((l : Said) (n : Next) (e : ℕ) → Leads 128 l n e → Leads 0 (said o b s (b + 0) (basic (length s - 0)) then l) n e)
  unfolding fixed
  first {c} {m} g =
      let v : Walk Head = head (length s - 0) in
      let k : Head → Walk Basic = λ h. coded h 100 >> basic_rest (length s - 0) h in
      let w = went-first o b s (b + 0) v k g in
      let h = w.value in
      let z = headed 0 (omega arith) w.is in
      let r = said-require o b s w.end (eqb h.code 100) 9 12 (basic_rest (length s - 0) h) w.kept in
      let g₁ = rw z.0 at r.1 in
      let y = fills basic_rest rests-basic 0 h z.1 g₁ in
      let q = stays-goes o b s (b + 0 + (length s - 0)) (omega arith) (basic (length s - 0)) (b + 0) _ (omega arith) (stays-basic (b + 0) (length s - 0)) g in
      let i : 128 ≡ 0 + span h = omega (arith, y.ends, q.0) in
      let f : h.code ≡ 100 = eqb-true h.code 100 r.0 in
      let j : said o b s (b + 0) (v >>= k) ≡ heading o b s 0 then said o b s (b + (0 + 16)) (basic_rest (length s - 0) h) = said-bind o b s (b + 0) v k w.is ∙ (rw (r.2, z.0)) in
      (omega (arith, q.0), omega (arith, q.1, q.0), λ l n e d. rw j (leads-on 0 h (rw z.0 at w.is) (record { inner = is100 f (record { value = c; end = m; is = g₁; says = refl }); other = λ e. absurd (omega arith) }) (rw i at d)))

  first-at : (at room : ℕ) → at ≡ b + 0 → room ≡ length s - 0 → {c : Basic} {m : ℕ} → see o b s at (basic room) ≡ goes c m →
      (m ≡ b + 128) × (128 ≤ length s) × ((l : Said) (n : Next) (e : ℕ) → Leads 128 l n e → Leads 0 (said o b s at (basic room) then l) n e)
  first-at at room i j g = rw (i, j) (first (rw (i, j) at g))

  -- the rest of a 350 that was read, which is in form 01
  montage-reads : (label : Label) (cs : List Channel) (p room : ℕ) (h : Head) (l : Said) → Reads o b s p (montage label cs room h) l → Reads o b s p (channels (montage_group (length cs)) room h) l
  unfolding montage see
  montage-reads label cs p room h l = by_form (λ x. Reads o b s p (montage x cs room h) l → Reads o b s p (channels (montage_group (length cs)) room h) l) label (λ r. stops-goes r.is) (λ r. r)

  -- a record that holds subs is no 140
  subs-other : (g : Group) → CodeTells g → g.code ≡ 140 → ⊥
  unfolding is_group
  subs-other g t e = false-true (sym (ap is_group e) ∙ t.group)

  -- the records before the 140
  pub tables-leads : (held : Option Held) (bytes : ℕ) {t : Descriptions} {e : ℕ} → bytes ≡ 16 + length s → see o b s b (descriptions kn.label held bytes) ≡ goes t e →
      Leads 0 (said o b s b (descriptions kn.label held bytes)) t.montage.next e
  unfolding descriptions event_table see
  tables-leads held bytes n g =
      by_said o b s b (basic (bytes - 16)) _ g λ c e₁ h₁ g j₁.
      by_said o b s e₁ (next kn.label bytes (bytes - 144)) _ g λ d e₂ h₂ g j₂.
      let k : Group = channels_group kn.label c.channels in
      by_said o b s e₂ (part kn.label bytes k.code (channels k) (held_channels held) d) _ g λ p e₃ h₃ g j₃.
      by_said o b s e₃ (part kn.label bytes 130 (items patient_code) (held_patient held) p.next) _ g λ u e₄ h₄ g j₄.
      by_said o b s e₄ (event_table kn.label bytes u.next) _ g λ v e₅ h₅ g j₅.
      by_said o b s e₅ (part kn.label bytes 350 (montage kn.label p.value) (some []) v.next) _ g λ m e₆ h₆ g j₆.
      let y = goes_same g in
      let f = first-at b (bytes - 16) (omega arith) (omega arith) h₁ in
      let z : bytes - 144 ≡ length s - 128 = omega arith in
      let l₁ = next-leads bytes 128 d e₂ f.1 (rw (f.0, z) at h₂) in
      let l₂ = leads-then l₁ (part kn.label bytes k.code (channels k) (held_channels held) d)
      (λ q a. part-leads (channels k) (stays-channels_rest k) bytes k.code q d a (subs-other k (told-channels kn.label c.channels)) (λ e _ r. is_subs k (told-channels kn.label c.channels) e r) (held_channels held) p e₃) h₃ in
      let l₃ = leads-then l₂ (part kn.label bytes 130 (items patient_code) (held_patient held) p.next) (λ q k. part-leads (items patient_code) (stays-items_rest patient_code) bytes 130 q p.next k (λ e. absurd (omega arith)) (λ e _. is130 e) (held_patient held) u e₄) h₄ in
      let l₄ = leads-then l₃ (event_table kn.label bytes u.next) (λ q k g. let r = said-require o b s (b + (q + 16)) _ 9 12 _ g in rw r.2 (part-leads (items event_code) (stays-items_rest event_code) bytes 200 q u.next k (λ e. absurd (omega arith)) (λ e _. is200 e) (some []) v e₅ r.1)) h₅ in
      let l₅ = leads-then l₄ (part kn.label bytes 350 (montage kn.label p.value) (some []) v.next)
      (λ q a. part-leads (montage kn.label p.value) (stays-montage_rest kn.label p.value) bytes 350 q v.next a (λ e. absurd (omega arith))
      (λ e l r. is_subs (montage_group (length p.value)) (told-montage (length p.value)) e (montage-reads kn.label p.value q _ _ l r)) (some []) m e₆) h₆ in
      rw (← y.0, ← y.1, j₁, j₂, j₃, j₄, j₅, j₆, said-gave, then-nothing, f.0, z) (simp then-assoc at (f.2 _ _ _ l₅))

  -- the 140, whose head stands at q, up to the delimiter, of which `later` tells
  signals-chain : {B : Type 0} (c : Basic) (own : Bool) (cs : List Channel) (back fuel q : ℕ) (n : Next) → Stands q n → n.head.code ≡ 140 → kn ≡ record { label = kn.label; basic = c; own = own; channels = cs; back = back } → (f : Frames → Next → Walk B) {x : B} {e : ℕ} →
      ((a : Frames) (d : Next) (p : ℕ) → Stands p d → see o b s (b + (p + 16)) (f a d) ≡ goes x e → Closed o b s p (heading o b s p then said o b s (b + (p + 16)) (f a d))) →
      see o b s (b + (q + 16)) (frames kn.label c own cs back n.room n.head >>= λ a. next kn.label fuel (n.room - span n.head) >>= λ d. f a d) ≡ goes x e →
      Chain o b s kn q (heading o b s q then said o b s (b + (q + 16)) (frames kn.label c own cs back n.room n.head >>= λ a. next kn.label fuel (n.room - span n.head) >>= λ d. f a d))
  signals-chain c own cs back fuel q n at code same f later g =
      let v : Walk Frames = frames kn.label c own cs back (length s - q) n.head in
      by_said o b s (b + (q + 16)) v _ (rw at.room at g) λ a m h₁ g₁ j₁.
      by_said o b s m (next kn.label fuel (length s - q - span n.head)) _ g₁ λ d m₁ h₂ g₂ j₂.
      let l = behind-leads (frames kn.label c own cs back) (stays-frames_rest kn.label c own cs back) q n.head at.inside (next kn.label fuel) (next-leads fuel) h₁ h₂ in
      let e = later a d l.to l.stands (rw l.end at g₂) in
      rw (at.room, j₁, j₂, leads-to l (f a d), ← then-assoc)
      (more n.head (heading o b s q then said o b s (b + (q + 16)) v) _ at.heads (is140 code (rw same (record { value = a; end = m; is = h₁; says = refl })))
      (onto ◌then◌ (λ p. Inner o b s p kn) (Closed o b s) (λ l. l) _ (λ l m. then-assoc l m _) (nothing_then _) (λ _ _ _ i. i.inner) (last e) l.links) refl)

  -- the delimiter behind the head of n, two tests, and the padding
  ended : {B : Type 0} (p : ℕ) (n : Next) → Stands p n → (c₁ c₂ : Bool) (k₁ : ℕ) (r : B) {x : B} {e : ℕ} →
      see o b s (b + (p + 16)) (delimiter n.head >> (require c₁ 14 k₁ >> (require c₂ 10 0 >> (padding (n.room - 16) >> give r)))) ≡ goes x e →
      Closed o b s p (heading o b s p then said o b s (b + (p + 16)) (delimiter n.head >> (require c₁ 14 k₁ >> (require c₂ 10 0 >> (padding (n.room - 16) >> give r)))))
  unfolding ◌>>◌
  ended {B} p n at c₁ c₂ k₁ r g =
      let v : Walk B = padding (n.room - 16) >> give r in
      let w = went-first o b s (b + (p + 16)) (delimiter n.head) (λ _. require c₁ 14 k₁ >> (require c₂ 10 0 >> v)) g in
      let z : w.end ≡ b + (p + 16) = stays-goes o b s (b + length s) (omega arith) (delimiter n.head) (b + (p + 16)) _ (omega arith) (stays-delimiter n.head (b + length s) (b + (p + 16))) w.is in
      let q₁ = said-require o b s w.end c₁ 14 k₁ (require c₂ 10 0 >> v) w.kept in
      let q₂ = said-require o b s w.end c₂ 10 0 v q₁.1 in
      let i : said o b s (b + (p + 16)) (delimiter n.head >> (require c₁ 14 k₁ >> (require c₂ 10 0 >> v))) ≡ said o b s (b + (p + 16)) (delimiter n.head) then said o b s w.end (padding (n.room - 16)) =
      said-then o b s (b + (p + 16)) (delimiter n.head) _ w.is ∙ ap (λ (l : Said). said o b s (b + (p + 16)) (delimiter n.head) then l) (q₁.2 ∙ q₂.2 ∙ said-give o b s w.end (padding (n.room - 16)) (λ _. r)) in
      record { head = n.head; stands = at.heads; ends = rw z at w.is; is = ap (λ (l : Said). heading o b s p then l) (i ∙ rw (z, at.room)) }

-- what the 140 is read with, as the walk of the descriptions gives it
signals-known : (o : Order) (label : Label) (b : ℕ) (s : List ℕ) (at : ℕ) (t : Descriptions) (h : Head) {x : Placed} {e : ℕ} → see o b s at (signals label t h) ≡ goes x e →
    known_of label x ≡ record { label = label; basic = t.basic; own = t.channels.own; channels = t.channels.value; back = count_back (span h) t.montage.next.room }
unfolding signals see
signals-known o label b s at t h g =
    by_went o b s at (frames label t.basic t.channels.own t.channels.value _ t.montage.next.room t.montage.next.head) _ (require-went o b s at _ 9 12 _ g).1 λ f m₁ _ g.
    by_went o b s m₁ (next label (span h) (t.montage.next.room - span t.montage.next.head)) _ g λ d m₂ _ g.
    by-then o b s m₂ (delimiter d.head) _ g λ _ m₃ _ g.
    by-then o b s m₃ (padding (d.room - 16)) _ (require-went o b s m₃ _ 10 0 _ (require-went o b s m₃ _ 14 _ _ g).1).1 λ _ m₄ _ g. sym (ap (known_of label) (goes_same g).0)

-- an accepted body is a chain
pub body-chain : (o : Order) (label : Label) (b : ℕ) (s : List ℕ) (held : Option Held) (h : Head) {x : Placed} {e : ℕ} → span h ≡ 16 + length s → see o b s b (recording_body label held h) ≡ goes x e → Chain o b s (known_of label x) 0 (said o b s b (recording_body label held h))
unfolding recording_body signals
body-chain o label b s held h {x} n g =
    let kn : Known = known_of label x in
    by_said o b s b (descriptions label held (span h)) _ g λ t m h₁ g₁ j₁.
    let same = signals-known o label b s m t h g₁ in
    let d = tables-leads o b s kn held (span h) n h₁ in
    let r = said-require o b s (b + (d.to + 16)) (eqb t.montage.next.head.code 140) 9 12 _ (rw d.end at g₁) in
    let c = signals-chain o b s kn t.basic t.channels.own t.channels.value _ (span h) d.to t.montage.next d.stands (eqb-true t.montage.next.head.code 140 r.0) same _ (λ f v p k. ended o b s kn p v k _ _ _ _) r.1 in
    rw (j₁, leads-to o b s kn d (signals label t h), r.2) (onto o b s kn ◌then◌ (λ p. Inner o b s p kn) (Closed o b s) (λ l. l) _ (λ l m. then-assoc l m _) (nothing_then _) (λ _ _ _ i. i.inner) c d.links)
