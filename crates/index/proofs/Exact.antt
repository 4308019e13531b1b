-- The index of night events is exact: each entry is an event, each event is an entry, and of two entries the first stands before the second.
-- The list is cut into blocks four times, by recording, frame, channel and place: one law puts the blocks together each time.
-- Assumes nothing.
use mathlib.Core.Path.{◌≡◌, refl, sym, ap, ◌∙◌, subst}
use mathlib.Core.Bool.{Bool, true, false}
use mathlib.Core.List.{List, [], ◌∷◌, ◌++◌, append_assoc}
use Prim.Native.Nat.{ℕ, zero, suc, ◌+◌, ◌-◌, ◌≤◌, ◌<◌, suc-le-suc}
use native.Mathlib.Nat.{zero-add, suc-add}
use native.Mathlib.Omega.{arith}
use borrow.Author.Tests.{ltb-true, ltb-false, eqb-true, eqb-false, lt-ltb, le-ltb, eq-eqb, ne_eqb}
use lib.Dec.{eqb, ltb}
use lib.ListN.{length, take, drop, get_or, length-drop, get_or-append}
use Rattle.words.specs.Numbers.{Bytes}
use Rattle.walk.specs.Walk.{pick, Event, passed}
use Rattle.walk.proofs.Apart.{zero_one, false-true}
use Rattle.rules.specs.Rules as R
use Rattle.recordings.specs.Answers.{value, indexed, numbered}
use Rattle.recordings.proofs.Chosen.{refusal-value, indexed-one, numbered-one}
use Rattle.index.specs.Events.{Entry, of_events, changes, last_of, codes_in, sample_entries, entries, code_before, IsEvent, earlier, Index}
use Rattle.index.proofs.Reading.{channels_read, frames_read, recording_read, recordings_read, entries_read}
use Rattle.index.proofs.AsBefore.{entries-read}

-- Lists by their indices

module _ {A : Type 0} where
  -- an element of two lists, one after the other, is one of the first or of the second; and the other way
  data Side (xs ys : List A) (n : ℕ) (a : A) : Type 0 where
    left : n < length xs → indexed xs n ≡ value a → Side xs ys n a
    right : (m : ℕ) → n ≡ length xs + m → indexed ys m ≡ value a → Side xs ys n a

  side : (xs ys : List A) (n : ℕ) {a : A} → indexed (xs ++ ys) n ≡ value a → Side xs ys n a
  unfolding indexed
  side [] ys n h = right n (omega arith) h
  side (x ∷ xs) ys zero h = left (omega arith) h
  side (x ∷ xs) ys (suc n) h = elim (side xs ys n h) [ left l e ↦ left (omega arith) e | right m l e ↦ right m (omega arith) e ]

  of-first : (xs ys : List A) (n : ℕ) {a : A} → indexed xs n ≡ value a → indexed (xs ++ ys) n ≡ value a
  unfolding indexed
  of-first [] ys n h = refusal-value h
  of-first (x ∷ xs) ys zero h = h
  of-first (x ∷ xs) ys (suc n) h = of-first xs ys n h

  of-second : (xs ys : List A) (n : ℕ) → indexed (xs ++ ys) (length xs + n) ≡ indexed ys n
  unfolding indexed
  of-second [] ys n = rw zero-add
  of-second (x ∷ xs) ys n = rw suc-add (of-second xs ys n)

  -- the only element
  lone : (x : A) (n : ℕ) {a : A} → indexed (x ∷ []) n ≡ value a → (n ≡ 0) × (x ≡ a)
  unfolding indexed
  lone x zero h = (refl, cc)
  lone x (suc n) h = refusal-value h

  -- x stands behind i others, and then these
  record Ahead (l : List A) (i : ℕ) (x : A) (xs : List A) : Type 0 where
    here : numbered l (suc i) ≡ value x
    behind : drop (suc i) l ≡ xs
    before : take i l ++ (x ∷ []) ≡ take (suc i) l

  ahead : (l : List A) (i : ℕ) {x : A} {xs : List A} → drop i l ≡ x ∷ xs → Ahead l i x xs
  unfolding numbered indexed
  ahead [] zero h = zero_one (cc)
  ahead [] (suc i) h = zero_one (cc)
  ahead (y ∷ l) zero h = record { here = cc; behind = cc; before = cc }
  ahead (y ∷ l) (suc i) h = let a = ahead l i h in record { here = a.here; behind = a.behind; before = ap (λ (z : List A). y ∷ z) a.before }

  -- behind the last there is none
  past : {l m : List A} {i n : ℕ} {a : A} → drop i l ≡ [] → i < n → numbered m n ≡ value a → m ≡ l → ⊥
  past {l} {m} {i} {n} d h e s = let o = numbered-one m n e in omega (arith, length-drop i l, ap length d, ap length s)

-- A list of entries in order

-- each entry is of P, each of P is an entry, and of two the first stands before the second
record Lists (P : Entry → Type 0) (es : List Entry) : Type 0 where
  only : (n : ℕ) (e : Entry) → indexed es n ≡ value e → P e
  every : (e : Entry) → P e → (n : ℕ) × (indexed es n ≡ value e)
  ordered : (m n : ℕ) (a b : Entry) → m < n → indexed es m ≡ value a → indexed es n ≡ value b → earlier a b ≡ true

-- the entries of P with this number
record At (P : Entry → Type 0) (number : Entry → ℕ) (i : ℕ) (e : Entry) : Type 0 where
  one : P e
  at : number e ≡ i

-- an entry has its own number, and two have one
here : {P : Entry → Type 0} {number : Entry → ℕ} {e : Entry} → P e → At P number (number e) e
here p = record { one = p; at = refl }

alike : {P : Entry → Type 0} {number : Entry → ℕ} {i : ℕ} {a b : Entry} → At P number i a → At P number i b → number a ≡ number b
alike x y = x.at ∙ sym y.at

-- those from this number on
record From (P : Entry → Type 0) (number : Entry → ℕ) (i : ℕ) (e : Entry) : Type 0 where
  one : P e
  from : i ≤ number e

-- the number says which of them stands before
abbrev Sorts : (Entry → Type 0) → (Entry → ℕ) → Type 0
Sorts P number = (a b : Entry) → P a → P b → number a < number b → earlier a b ≡ true

module _ {P : Entry → Type 0} where
  -- P has no entry, and one
  nothing : ((e : Entry) → P e → ⊥) → Lists P []
  unfolding indexed
  nothing none = record { only = λ n e h. refusal-value h; every = λ e p. absurd (none e p); ordered = λ m n a b l h k. refusal-value h }

  single : (x : Entry) → P x → ((e : Entry) → P e → e ≡ x) → Lists P (x ∷ [])
  unfolding indexed
  single x p is = record {
    only = λ n e h. rw (← (lone x n h).1) p;
    every = λ e q. (0, ap value (sym (is e q)));
    ordered = λ m n a b l h k. let o = lone x n k in absurd (omega (arith, o.0));
  }

  -- entries that are there where a test holds
  picked : {es : List Entry} (t : Bool) → (t ≡ true → Lists P es) → ((e : Entry) → P e → t ≡ true) → Lists P (pick t es [])
  picked true x must = x refl
  picked false x must = nothing (λ e p. false-true (must e p))

  module _ {number : Entry → ℕ} {i : ℕ} where
    -- the blocks from a number on that every entry has are all
    all : {es : List Entry} → ((e : Entry) → P e → i ≤ number e) → Lists (From P number i) es → Lists P es
    all low x = record { only = λ n e h. (x.only n e h).one; every = λ e p. x.every e (record { one = p; from = low e p }); ordered = x.ordered }

    -- a block, and behind it the blocks of the later numbers: two entries, an entry, and where an entry stands
    module _ {xs ys : List Entry} (sorts : Sorts P number) (x : Lists (At P number i) xs) (y : Lists (From P number (suc i)) ys) where
      in_order : {m n : ℕ} {a b : Entry} → m < n → Side xs ys m a → Side xs ys n b → earlier a b ≡ true
      in_order l (left u h) (left w k) = x.ordered _ _ _ _ l h k
      in_order l (left u h) (right o w k) = let p = x.only _ _ h in let q = y.only _ _ k in sorts _ _ p.one q.one (omega (arith, p.at, q.from))
      in_order l (right o u h) (left w k) = absurd (omega arith)
      in_order l (right o u h) (right s w k) = y.ordered o s _ _ (omega arith) h k

      of_either : {n : ℕ} {e : Entry} → Side xs ys n e → From P number i e
      of_either (left u h) = let p = x.only _ _ h in record { one = p.one; from = omega (arith, p.at) }
      of_either (right m u h) = let q = y.only _ _ h in record { one = q.one; from = omega (arith, q.from) }

      in_either : (e : Entry) → From P number i e → (n : ℕ) × (indexed (xs ++ ys) n ≡ value e)
      in_either e p = go (eqb (number e) i) refl
        where
          go : (b : Bool) → eqb (number e) i ≡ b → (n : ℕ) × (indexed (xs ++ ys) n ≡ value e)
          go true q = let f = x.every e (record { one = p.one; at = eqb-true (number e) i q }) in (f.0, of-first xs ys f.0 f.1)
          go false q =
              let d = eqb-false (number e) i q in
              let f = y.every e (record { one = p.one; from = omega (arith, p.from, d) }) in
              (length xs + f.0, of-second xs ys f.0 ∙ f.1)

      blocks : Lists (From P number i) (xs ++ ys)
      blocks = record { only = λ n e h. of_either (side xs ys n h); every = in_either; ordered = λ m n a b l h k. in_order l (side xs ys m h) (side xs ys n k) }

-- The order

-- of two numbers that differ, and of two that do not
apart : {m n : ℕ} → m < n → (x : Bool) → pick (eqb m n) x (ltb m n) ≡ true
apart {m} {n} l x = rw (ne_eqb m n (λ e. omega arith), lt-ltb m n l)

same : {m n : ℕ} {x : Bool} → m ≡ n → x ≡ true → pick (eqb m n) x (ltb m n) ≡ true
same {m} {n} e h = rw (eq-eqb m n e) h

-- no entry stands before itself
pub never-earlier : {X : Type 0} (e : Entry) → earlier e e ≡ true → X
unfolding earlier
never-earlier e h =
    false-true (sym (le-ltb e.place e.place (omega arith)) ∙ (rw (eq-eqb e.recording _ refl, eq-eqb e.frame _ refl, eq-eqb e.channel _ refl) at h))

-- The code before

-- the one before code n of ys, where xs stand before them all and b before those
last-before : (b : ℕ) (xs ys : List ℕ) (n : ℕ) → get_or (b ∷ (xs ++ ys)) (length xs + n) 0 ≡ get_or (last_of b xs ∷ ys) n 0
unfolding last_of
last-before b [] ys n = rw zero-add
last-before b (x ∷ xs) ys n = rw suc-add (last-before x xs ys n)

-- a channel's codes in the first j frames, and in the others
codes-split : (k j : ℕ) (fs : List R.Frame) → codes_in k fs ≡ codes_in k (take j fs) ++ codes_in k (drop j fs)
unfolding codes_in
codes-split k zero fs = refl
codes-split k (suc j) [] = refl
codes-split k (suc j) (f ∷ fs) = rw append_assoc (ap (λ (z : List ℕ). get_or f.channels k [] ++ z) (codes-split k j fs))

-- the code before, by the codes of this frame and the later ones
code-before : (r : R.Recording) (j k n : ℕ) →
    code_before r (suc j) (suc k) n ≡ get_or (last_of 0 (codes_in k (take j r.frames)) ∷ codes_in k (drop j r.frames)) n 0
code-before r j k n =
    let p : suc j - 1 ≡ j = omega arith in
    let q : suc k - 1 ≡ k = omega arith in
    rw (p, q, codes-split k j r.frames) (last-before 0 (codes_in k (take j r.frames)) (codes_in k (drop j r.frames)) n)

-- The events of a file, by recording, frame, channel and place

module _ (v : R.Contents) where
  -- the events of a recording, of a frame in it, of a channel in that
  abbrev InRecording : ℕ → Entry → Type 0
  InRecording i = At (IsEvent v) (λ e. e.recording) i

  abbrev InFrame : ℕ → ℕ → Entry → Type 0
  InFrame i j = At (InRecording i) (λ e. e.frame) j

  abbrev InChannel : ℕ → ℕ → ℕ → Entry → Type 0
  InChannel i j k = At (InFrame i j) (λ e. e.channel) k

  -- the order by recording, and below by frame, channel and place
  by-recording : Sorts (IsEvent v) (λ e. e.recording)
  unfolding earlier
  by-recording a b x y l = apart l _

  module _ (i : ℕ) (r : R.Recording) (recorded : numbered v.recordings i ≡ value r) where
    by-frame : Sorts (InRecording i) (λ e. e.frame)
    unfolding earlier
    by-frame a b x y l = same (alike x y) (apart l _)

    module _ (j : ℕ) (f : R.Frame) (later : List R.Frame) (cut : drop j r.frames ≡ f ∷ later) where
      by-channel : Sorts (InFrame i (suc j)) (λ e. e.channel)
      unfolding earlier
      by-channel a b x y l = same (alike x.one y.one) (same (alike x y) (apart l _))

      -- the frame that stands there
      framed : numbered r.frames (suc j) ≡ value f
      framed = (ahead r.frames j cut).here

      module _ (k : ℕ) (c : R.Channel) (s : List ℕ) (described : numbered r.channels (suc k) ≡ value c) (sampled : numbered f.channels (suc k) ≡ value s) where
        by_place : Sorts (InChannel i (suc j) (suc k)) (λ e. e.place)
        unfolding earlier
        by_place a b x y l = same (alike x.one.one y.one.one) (same (alike x.one y.one) (same (alike x y) (lt-ltb _ _ l)))

        -- behind a sample its code is the one before
        next-before : (p x : ℕ) → indexed s p ≡ value x → x ≡ code_before r (suc j) (suc k) (suc p)
        unfolding codes_in
        next-before p x h =
            let o = indexed-one s p h in
            let e : suc k - 1 ≡ k = omega arith in
            let g : get_or f.channels k [] ≡ s = rw e at ((numbered-one f.channels (suc k) sampled).1.is []) in
            sym (code-before r j k (suc p) ∙ rw (cut, g, get_or-append s (codes_in k later) 0 p o.inside) (o.is 0))

        -- a sample's entry, which is an event where its code changes
        abbrev entry : ℕ → ℕ → Entry
        entry p x = record { recording = i; frame = suc j; channel = suc k; place = p; code = x }

        sample : of_events c ≡ true → (p x before : ℕ) → indexed s p ≡ value x → before ≡ code_before r (suc j) (suc k) p →
            Lists (At (InChannel i (suc j) (suc k)) (λ e. e.place) p) (pick (changes before x) (entry p x ∷ []) [])
        sample t p x before h b =
            picked (changes before x)
            (λ q. single (entry p x) (here (here (here (here (event q)))))
            (λ e y d. record { recording = y.one.one.one.at d; frame = y.one.one.at d; channel = y.one.at d; place = y.at d; code = code_is e y d }))
            (λ e y. cc (code_is e y))
          where
            event : changes before x ≡ true → IsEvent v (entry p x)
            event q = record {
              recording = r;
              recorded = recorded;
              frame = f;
              framed = framed;
              channel = c;
              described = described;
              events = t;
              codes = s;
              sampled = sampled;
              coded = h;
              changed = rw (← b) q;
            }

            code_is : (e : Entry) → At (InChannel i (suc j) (suc k)) (λ e. e.place) p e → e.code ≡ x
            code_is e y = cc framed

        -- the samples from p on
        samples : of_events c ≡ true → (p before : ℕ) (xs : List ℕ) → drop p s ≡ xs → before ≡ code_before r (suc j) (suc k) p →
            Lists (From (InChannel i (suc j) (suc k)) (λ e. e.place) p) (sample_entries i (suc j) (suc k) p before xs)
        unfolding sample_entries numbered
        samples t p before [] d b = nothing (λ e y. past d (suc-le-suc y.from) y.one.one.one.one.coded (cc framed))
        samples t p before (x ∷ xs) d b =
            let a = ahead s p d in
            blocks by_place (sample t p x before a.here b) (samples t (suc p) x xs a.behind (next-before p x a.here))

        -- a channel has events where it is one of events
        channel :
            Lists (InChannel i (suc j) (suc k)) (pick (of_events c) (sample_entries i (suc j) (suc k) 0 (last_of 0 (codes_in k (take j r.frames))) s) [])
        channel = picked (of_events c) (λ t. all (λ e y. omega arith) (samples t 0 _ s refl (sym (code-before r j k 0)))) (λ e y. cc)

      -- the channels from k on; a frame has them all
      channels : (k : ℕ) (cs : List R.Channel) (ss : List (List ℕ)) → drop k r.channels ≡ cs → drop k f.channels ≡ ss →
          Lists (From (InFrame i (suc j)) (λ e. e.channel) (suc k)) (channels_read i (suc j) (take j r.frames) k cs ss)
      unfolding channels_read
      channels k [] ss d t = nothing (λ e y. past d y.from y.one.one.one.described (cc))
      channels k (c ∷ cs) [] d t = nothing (λ e y. past t y.from y.one.one.one.sampled (cc framed))
      channels k (c ∷ cs) (s ∷ ss) d t =
          let a = ahead r.channels k d in
          let b = ahead f.channels k t in
          blocks by-channel (channel k c s a.here b.here) (channels (suc k) cs ss a.behind b.behind)

      frame : Lists (InFrame i (suc j)) (channels_read i (suc j) (take j r.frames) 0 r.channels f.channels)
      frame = all (λ e y. (numbered-one _ _ y.one.one.described).0) (channels 0 r.channels f.channels refl refl)

    -- the frames from j on; a recording has them all
    frames : (j : ℕ) (before fs : List R.Frame) → drop j r.frames ≡ fs → before ≡ take j r.frames →
        Lists (From (InRecording i) (λ e. e.frame) (suc j)) (frames_read i (suc j) r.channels before fs)
    unfolding frames_read
    frames j before [] d b = nothing (λ e y. past d y.from y.one.one.framed (cc))
    frames j before (f ∷ fs) d b =
        let a = ahead r.frames j d in
        blocks by-frame (rw (← b) at (frame j f fs d)) (frames (suc j) (before ++ (f ∷ [])) fs a.behind (rw b a.before))

    recording : Lists (InRecording i) (recording_read i r)
    recording = all (λ e y. (numbered-one _ _ y.one.framed).0) (frames 0 [] r.frames refl refl)

  -- the recordings from i on
  recordings : (i : ℕ) (rs : List R.Recording) → drop i v.recordings ≡ rs → Lists (From (IsEvent v) (λ e. e.recording) (suc i)) (recordings_read (suc i) rs)
  unfolding recordings_read
  recordings i [] d = nothing (λ e y. past d y.from y.one.recorded refl)
  recordings i (r ∷ rs) d =
      let a = ahead v.recordings i d in
      blocks by-recording (recording (suc i) r a.here) (recordings (suc i) rs a.behind)

  -- the list over the reading is exact
  exact_read : Index v (entries_read v)
  exact_read =
      let x = all (λ e y. (numbered-one _ _ y.recorded).0) (recordings 0 v.recordings refl) in
      record { only = x.only; every = x.every; ordered = x.ordered }

-- and so is the index of an accepted file
pub exact : (s : List ℕ) → Bytes s → {v : R.File} {r : List ℕ} {t : List Event} → R.judge s ≡ passed v r t → Index (R.contents v) (entries s (R.contents v))
exact s b {v} h = subst (λ (es : List Entry). Index (R.contents v) es) (sym (entries-read s b h)) (exact_read (R.contents v))

-- each event stands at one index only
pub once : {v : R.Contents} {es : List Entry} → Index v es → (m n : ℕ) {e : Entry} → indexed es m ≡ value e → indexed es n ≡ value e → m ≡ n
once x m n {e} h k = go (ltb m n) (ltb n m) refl refl
  where
    go : (y z : Bool) → ltb m n ≡ y → ltb n m ≡ z → m ≡ n
    go true z p q = never-earlier e (x.ordered m n e e (ltb-true m n p) h k)
    go false true p q = never-earlier e (x.ordered n m e e (ltb-true n m q) k h)
    go false false p q = omega (arith, ltb-false m n p, ltb-false n m q)
