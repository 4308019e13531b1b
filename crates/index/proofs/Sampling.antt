-- The loop over the samples of a channel in a frame: it goes from one change of the code to the next.
-- Assumes nothing.
use mathlib.Core.Path.{◌≡◌, refl, sym, ap, ◌∙◌}
use mathlib.Core.Bool.{Bool, true, false, ◌&&◌, not}
use mathlib.Core.List.{List, [], ◌∷◌, ◌++◌, append-nil, append_assoc}
use Prim.Native.Nat.{ℕ, zero, suc, ◌+◌, ◌-◌, ◌*◌, ◌≤◌, ◌<◌}
use native.Mathlib.Nat.{add-zero, zero-add}
use native.Mathlib.Omega.{arith}
use borrow.Author.Tests.{ne_eqb, eq-eqb}
use lib.Dec.{eqb}
use lib.IntN.{ℤ, pos}
use lib.ListN.{length, set}
use Rattle.words.specs.Lent.{Wrote}
use Rattle.words.specs.Numbers.{number_at}
use Rattle.words.specs.declared.Order.{Order}
use Rattle.words.proofs.Lent.{wrote_one, wrote_nothing, wrote-join}
use Rattle.walk.specs.Walk.{pick}
use Rattle.index.specs.Events.{Entry, changes, last_of, sample_entries}
use Rattle.index.specs.Index.{numbers}
use Rattle.index.specs.Listing.{of_change, words_at, samples_of, Ahead, Repeated}
use Rattle.index.specs.declared.Spot.{Spot}
use Rattle.index.proofs.Words.{length-words, words-add}

-- an entry's five numbers, stored one after the other
pub wrote-entry : (w : Bool) (out : List ℤ) (k : ℕ) (x : Entry) (a b c d e : ℤ) → w ≡ true → k + 5 ≤ length out → a ≡ pos x.recording → b ≡ pos x.frame →
    c ≡ pos x.channel → d ≡ pos x.place → e ≡ pos x.code →
    Wrote numbers 5 w out (set (set (set (set (set out k a) (k + 1) b) (k + 2) c) (k + 3) d) (k + 4) e) k (k + 5) (x ∷ [])
wrote-entry w out k x a b c d e h l e₁ e₂ e₃ e₄ e₅ =
    let i₁ : k + 1 ≡ suc k = omega arith in
    let i₂ : k + 2 ≡ suc (suc k) = omega arith in
    let i₃ : k + 3 ≡ suc (suc (suc k)) = omega arith in
    let i₄ : k + 4 ≡ suc (suc (suc (suc k))) = omega arith in
    rw (i₁, i₂, i₃, i₄, e₁, e₂, e₃, e₄, e₅) (wrote_one numbers 5 (λ _. refl) w out k x h l)

pub last-append : (b : ℕ) (xs ys : List ℕ) → last_of b (xs ++ ys) ≡ last_of (last_of b xs) ys
unfolding last_of
last-append b [] ys = refl
last-append b (x ∷ xs) ys = last-append x xs ys

module _ (i j c : ℕ) where
  pub entries-append : (p b : ℕ) (xs ys : List ℕ) →
      sample_entries i j c p b (xs ++ ys) ≡ sample_entries i j c p b xs ++ sample_entries i j c (p + length xs) (last_of b xs) ys
  unfolding sample_entries last_of
  entries-append p b [] ys = rw (add-zero p)
  entries-append p b (x ∷ xs) ys =
      let d : suc p + length xs ≡ p + suc (length xs) = omega arith in
      rw (entries-append (suc p) x xs ys, d, append_assoc)

  -- no more than there are samples
  pub entries-few : (p b : ℕ) (xs : List ℕ) → length (sample_entries i j c p b xs) ≤ length xs
  unfolding sample_entries
  entries-few p b [] = omega arith
  entries-few p b (x ∷ xs) = go (changes b x) (sample_entries i j c (suc p) x xs) (entries-few (suc p) x xs)
    where
      go : (t : Bool) (l : List Entry) → length l ≤ length xs →
          length (pick t (record { recording = i; frame = j; channel = c; place = p; code = x } ∷ []) [] ++ l) ≤ suc (length xs)
      go true l h = omega (arith, h)
      go false l h = omega (arith, h)

  -- one sample, whose code is not the one before it
  one-changed : (p b x : ℕ) → (x ≡ b → ⊥) →
      sample_entries i j c p b (x ∷ []) ≡ pick (eqb x 0) [] (record { recording = i; frame = j; channel = c; place = p; code = x } ∷ [])
  unfolding sample_entries
  one-changed p b x h = rw (ne_eqb x b h) (go (eqb x 0))
    where
      go : (z : Bool) → let e : Entry = record { recording = i; frame = j; channel = c; place = p; code = x } in
          ◌++◌ {A = Entry} (pick (not z && true) (e ∷ []) []) [] ≡ pick z [] (e ∷ [])
      go true = refl
      go false = refl

  -- samples that repeat the code
  module _ (o : Order) (s : List ℕ) where
    entries-same : (p code at m : ℕ) → ((q : ℕ) → q < m → number_at o 2 s (at + 2 * q) ≡ code) →
        (sample_entries i j c p code (words_at o s at m) ≡ []) × (last_of code (words_at o s at m) ≡ code)
    unfolding sample_entries last_of
    entries-same p code at zero h = (refl, refl)
    entries-same p code at (suc m) h =
        let e : number_at o 2 s at ≡ code = ap (number_at o 2 s) (sym (add-zero at)) ∙ h 0 (omega arith) in
        let r = entries-same (suc p) code (at + 2) m (λ q l. ap (number_at o 2 s) (omega arith) ∙ h (suc q) (omega arith)) in
        let n : not (eqb code code) ≡ false = rw (eq-eqb code code refl) in
        (rw (e, r.0, n, and-false (not (eqb code 0))), rw e r.1)
      where
        and-false : (x : Bool) → x && false ≡ false
        and-false true = refl
        and-false false = refl

-- the entries of the samples up to p
abbrev entries_up_to : Order → List ℕ → ℕ → Spot → ℕ → List Entry
entries_up_to o s before x p = sample_entries x.recording x.frame x.channel 0 before (words_at o s 0 p)

-- the samples up to p are listed, and this is the code of the last of them; the one at p is another
pub record Sampled (o : Order) (s : List ℕ) (before : ℕ) (x : Spot) (w : Bool) (out out₁ : List ℤ) (k k₁ p code : ℕ) : Type 0 where
  pub inside : p ≤ samples_of s
  pub small : code < 65536
  pub last : last_of before (words_at o s 0 p) ≡ code
  pub other : p < samples_of s → number_at o 2 s (2 * p) ≡ code → ⊥
  pub wrote : Wrote numbers 5 w out out₁ k k₁ (sample_entries x.recording x.frame x.channel 0 before (words_at o s 0 p))

-- behind sample p, over samples that repeat the code there
past : (o : Order) (s : List ℕ) (before : ℕ) (x : Spot) (p code r : ℕ) → last_of before (words_at o s 0 p) ≡ code → Repeated o s p code r →
    (entries_up_to o s before x r ≡ entries_up_to o s before x p) × (last_of before (words_at o s 0 r) ≡ code)
past o s before x p code r e h =
    let m : r ≡ p + (r - p) = omega (arith, h.same.on) in
    let a : words_at o s 0 r ≡ words_at o s 0 p ++ words_at o s (0 + 2 * p) (r - p) = ap (words_at o s 0) m ∙ words-add o s 0 p (r - p) in
    let same = entries-same x.recording x.frame x.channel o s (0 + length (words_at o s 0 p)) code (0 + 2 * p) (r - p)
    (λ q l. ap (number_at o 2 s) (omega arith) ∙ h.same.all (p + q) (omega arith) (omega arith)) in (
      rw (a, entries-append x.recording x.frame x.channel 0 before (words_at o s 0 p) (words_at o s (0 + 2 * p) (r - p)), e, same.0)
          (append-nil (entries_up_to o s before x p)),
      rw (a, last-append before (words_at o s 0 p) (words_at o s (0 + 2 * p) (r - p)), e) same.1,
    )

module _ {o : Order} {s : List ℕ} {before : ℕ} {x : Spot} {w : Bool} {out : List ℤ} {k : ℕ} where
  pub sampled-start : before < 65536 → (r : ℕ) → Repeated o s 0 before r → Sampled o s before x w out out k k r before
  unfolding last_of sample_entries
  sampled-start small r h =
      let y = past o s before x 0 before r refl h in
      record { inside = h.same.inside; small = small; last = y.1; other = h.other; wrote = rw y.0 (wrote_nothing numbers 5 (λ _. refl) w out k) }

  module _ {out₁ : List ℤ} {k₁ p code : ℕ} (t : Sampled o s before x w out out₁ k k₁ p code) where
    -- there is one more entry at most
    pub sampled-room : p < samples_of s → Ahead k (samples_of s) (samples_of s) → Ahead k₁ 1 p
    sampled-room l a =
        let few = entries-few x.recording x.frame x.channel 0 before (words_at o s 0 p) in
        record { room = omega (arith, a.room, t.wrote.next, few, length-words o s 0 p); short = omega (arith, a.short) }

    -- the next sample, of another code
    module _ (next : ℕ) (is : next ≡ number_at o 2 s (2 * p)) (many : p < samples_of s) where
      one_more : words_at o s 0 (p + 1) ≡ words_at o s 0 p ++ (next ∷ [])
      one_more = words-add o s 0 p 1 ∙ rw (zero-add (2 * p), is)

      entries-more : entries_up_to o s before x (p + 1) ≡ entries_up_to o s before x p ++ sample_entries x.recording x.frame x.channel p code (next ∷ [])
      entries-more =
          ap (sample_entries x.recording x.frame x.channel 0 before) one_more ∙
          (entries-append x.recording x.frame x.channel 0 before (words_at o s 0 p) (next ∷ []) ∙ rw (length-words o s 0 p, zero-add p, t.last))

      last_more : last_of before (words_at o s 0 (p + 1)) ≡ next
      unfolding last_of
      last_more = ap (last_of before) one_more ∙ last-append before (words_at o s 0 p) (next ∷ [])

      -- by what is written of it
      pub sampled-more : {out₂ : List ℤ} {k₂ : ℕ} → next < 65536 → Wrote numbers 5 w out₁ out₂ k₁ k₂ (of_change x p next) → (r : ℕ) →
          Repeated o s (p + 1) next r → Sampled o s before x w out out₂ k k₂ r next
      sampled-more {out₂} {k₂} small y r h =
          let z = past o s before x (p + 1) next r last_more h in
          let e = one-changed x.recording x.frame x.channel p code next (λ e. t.other many (sym is ∙ e)) in
          record {
            inside = h.same.inside;
            small = small;
            last = z.1;
            other = h.other;
            wrote = rw (z.0, entries-more, e)
                (wrote-join numbers 5 (λ _. refl) w out out₁ out₂ k k₁ k₂ (entries_up_to o s before x p) (of_change x p next) t.wrote y);
          }
