-- The items of a 130 or a 200 that a walk passed: how many there are, where each stands, and what its bytes say.
-- Assumes nothing.
use mathlib.Core.Path.{◌≡◌, refl, sym, ap, ◌∙◌}
use mathlib.Core.Bool.{Bool, true, false}
use mathlib.Core.List.{List, [], ◌∷◌}
use Prim.Native.Nat.{ℕ, zero, suc, ◌+◌, ◌-◌, ◌≤◌, ◌<◌}
use native.Mathlib.Nat.{add-zero, add_assoc}
use native.Mathlib.Numerals.{add-one}
use native.Mathlib.Omega.{arith}
use borrow.Author.Tests.{leb-true}
use lib.ListN.{length, take, get_or}
use Rattle.words.specs.Numbers.{number_at, bytes_at}
use Rattle.words.specs.Values.{signed}
use Rattle.words.specs.declared.Order.{Order}
use Rattle.walk.specs.Walk.{Text, laid, Walk, give, refuse, check, number, read, skip, list, ◌>>=◌, ◌>>◌}
use Rattle.walk.specs.See.{goes, gate, see, Yields}
use Rattle.walk.proofs.Apart.{false-true}
use Rattle.walk.proofs.Laid.{laid-text}
use Rattle.walk.proofs.Seen.{and_left, yields, yields-bind, places, length-bytes_at}
use Rattle.rules.specs.Rules.{between, Head, span, admit, Item, item, item_size, item_bytes, item_list, items_body, items}
use Rattle.records.proofs.Facts.{between_in}
use Rattle.recordings.specs.Answers.{value, refusal, numbered}
use Rattle.recordings.proofs.Chosen.{numbered-in, numbered-out, numbered-one}
use Rattle.questions.specs.Holding.{ReachesTo}
use Rattle.questions.specs.Questions.{item_in}

-- what a walk gives, and where it ends, is what `see` comes to
yields-self : {A : Type 0} (o : Order) (b : ℕ) (s : List ℕ) (w : Walk A) (at : ℕ) → Yields o b s at w (λ a e. see o b s at w ≡ goes a e)
unfolding see gate
yields-self o b s (give x) at = refl
yields-self o b s (refuse n p) at = tt
yields-self o b s (check true n p w) at = λ e. yields-self o b s w at
yields-self o b s (check false n p w) at = false-true
yields-self o b s (number n f) at = yields-self o b s (f (number_at o n s (at - b))) (at + n)
yields-self o b s (read k n f) at = yields-self o b s (f (laid o k (bytes_at n s (at - b)))) (at + n)
yields-self o b s (skip n w) at = yields-self o b s w (at + n)
yields-self o b s (list p l c m w) at = yields-self o b s w at

-- the item x stands at byte p of s
pub record ItemAt (o : Order) (s : List ℕ) (p : ℕ) (x : Item) : Type 0 where
  pub size : item_size x ≡ number_at o 4 s p
  pub code : x.code ≡ number_at o 4 s (p + 4)
  pub text : x.content ≡ bytes_at (length x.content) s (p + 8)
  pub fits : p + item_size x ≤ length s

-- the next item stands behind it
pub item-next : (d : Item) (is : List Item) (j : ℕ) → j < length is → item_bytes (take (suc j) is) ≡ item_bytes (take j is) + item_size (get_or is j d)
unfolding item_bytes
item-next d [] j h = absurd (omega arith)
item-next d (x ∷ is) zero h = omega arith
item-next d (x ∷ is) (suc j) h = let i = item-next d is j (omega arith) in omega (arith, i)

module _ (o : Order) (s : List ℕ) (ok : ℕ → Bool) where
  -- an item that the walk read, if its text ends in the file
  abbrev ReadAt : ℕ → Item → ℕ → Type 0
  ReadAt p x e = (x.code ≡ number_at o 4 s (p + 4)) × (e ≡ p + number_at o 4 s p) × (e ≤ length s → item_size x ≡ number_at o 4 s p) × (x.content ≡ laid o Text (bytes_at (number_at o 4 s p - 8) s (p + 8)))

  item-size : (n m at : ℕ) → n ≡ m → 8 ≤ m → at + (n - 8) ≤ length s → 8 + length (laid o Text (bytes_at (n - 8) s (at - 0))) ≡ m
  unfolding bytes_at
  item-size n m at e l h = omega (arith, length-bytes_at o 0 s Text (n - 8) at (omega arith) (omega arith))

  yields-item : (room p : ℕ) → Yields o 0 s p (item ok room) (ReadAt p)
  unfolding item ◌>>=◌ ◌>>◌
  yields-item room p _ c _ =
      let l : 8 ≤ number_at o 4 s p = leb-true 8 (number_at o 4 s p) (and_left _ _ (simp places at c)) in
      (simp places, simp places (omega arith), λ h. item-size (number_at o 4 s (p - 0)) (number_at o 4 s p) (p + 4 + 4) (simp places) l h, simp places)

  -- n items, one after the other
  abbrev Lines : ℕ → ℕ → List Item → ℕ → Type 0
  Lines n p is e = (length is ≡ n) × (e ≤ length s → (e ≡ p + item_bytes is) × ((d : Item) (j : ℕ) → j < n → ItemAt o s (p + item_bytes (take j is)) (get_or is j d)))

  lines_more : (n p q : ℕ) (x : Item) (is : List Item) (e : ℕ) → ReadAt p x q → Lines n q is e → Lines (suc n) p (x ∷ is) e
  unfolding item_bytes
  lines_more n p q x is e r t = (ap suc t.0, λ h. go (t.1 h) h)
    where
      go : (e ≡ q + item_bytes is) × ((d : Item) (j : ℕ) → j < n → ItemAt o s (q + item_bytes (take j is)) (get_or is j d)) → e ≤ length s →
          (e ≡ p + (item_size x + item_bytes is)) × ((d : Item) (j : ℕ) → j < suc n → ItemAt o s (p + item_bytes (take j (x ∷ is))) (get_or (x ∷ is) j d))
      go u h = (omega (arith, u.0, r.1, z), each)
        where
          z : item_size x ≡ number_at o 4 s p
          z = r.2 (omega (arith, u.0))

          each : (d : Item) (j : ℕ) → j < suc n → ItemAt o s (p + item_bytes (take j (x ∷ is))) (get_or (x ∷ is) j d)
          each d zero l =
              let n : number_at o 4 s p - 8 ≡ length x.content = omega (arith, z) in
              rw add-zero (record { size = z; code = r.0; text = rw n at (r.3 ∙ laid-text o _); fits = omega (arith, u.0, r.1, z) })
          each d (suc j) l =
              let m : q + item_bytes (take j is) ≡ p + (item_size x + item_bytes (take j is)) = omega (arith, r.1, z) in
              rw m at (u.1 d j (omega arith))

  yields-list : (n room p : ℕ) → Yields o 0 s p (item_list ok n room) (Lines n p)
  unfolding item_list item_bytes
  yields-list zero room p = (refl, λ h. (omega arith, λ d j l. absurd (omega arith)))
  yields-list (suc n) room p =
      yields-bind o 0 s (item ok room) _ p (ReadAt p) _ (yields-item room p)
      (λ x q r. yields-bind o 0 s (item_list ok n (room - item_size x)) _ q (Lines n q) _ (yields-list n (room - item_size x) q)
      (λ is e t. lines_more n p q x is e r t))

-- a list of items that ends in the file
module _ (o : Order) (s : List ℕ) (ok : ℕ → Bool) (n room p : ℕ) {is : List Item} {e : ℕ} (seen : see o 0 s p (item_list ok n room) ≡ goes is e) where
  abbrev lines : Lines o s ok n p is e
  lines = yields o 0 s (item_list ok n room) p (Lines o s ok n p) (yields-list o s ok n room p) seen

  pub list_count : length is ≡ n
  list_count = lines.0

  module _ (ends : e ≤ length s) where
    pub list-ends : e ≡ p + item_bytes is
    list-ends = (lines.1 ends).0

    pub list-item : (d : Item) (j : ℕ) → j < n → ItemAt o s (p + item_bytes (take j is)) (get_or is j d)
    list-item = (lines.1 ends).1

-- for the loop over items

pub reaches-none : (o : Order) (s : List ℕ) (first n : ℕ) → ReachesTo o s first n 0 first
unfolding item_bytes
reaches-none o s first n ok count room is e m g k = omega arith

abbrev empty : Item
empty = record { code = 0; content = [] }

module _ (o : Order) (s : List ℕ) (first n i p : ℕ) (reached : ReachesTo o s first n i p) (less : i < n) where
  -- so an item stands there
  pub reaches-item : (ok : ℕ → Bool) (count room : ℕ) (is : List Item) (e : ℕ) → n ≤ count → e ≤ length s → see o 0 s first (item_list ok count room) ≡ goes is e → ItemAt o s p (get_or is i empty)
  reaches-item ok count room is e m g k = rw (reached ok count room is e m g k) (list-item o s ok count room first k g empty i (omega arith))

  pub reaches_more : (size : ℕ) → size ≡ number_at o 4 s p → ReachesTo o s first n (i + 1) (p + size)
  reaches_more size q ok count room is e m g k =
      let x = reaches-item ok count room is e m g k in
      let l : i < length is = omega (arith, list_count o s ok count room first k) in
      rw add-one (omega (arith, item-next empty is i l, x.size, reached ok count room is e m g k))

-- the list in a 130 or a 200 that stands at `at`
yields-items : (o : Order) (s : List ℕ) (ok : ℕ → Bool) (room : ℕ) (h : Head) (at : ℕ) →
    Yields o 0 s (at + 16) (items ok room h) (λ is e. see o 0 s (at + 24) (item_list ok (number_at o 4 s (at + 16)) (span h - 24)) ≡ goes is e)
unfolding items items_body admit ◌>>=◌ ◌>>◌
yields-items o s ok room h at = λ _ _ _ _.
    simp places (yields-bind o 0 s (item_list ok (number_at o 4 s (at + 16)) (span h - 24)) _ (at + 24) _ _ (yields-self o 0 s (item_list ok (number_at o 4 s (at + 16)) (span h - 24)) (at + 24)) (λ is e q _. q))

module _ (o : Order) (s : List ℕ) (at : ℕ) (ok : ℕ → Bool) (room : ℕ) (h : Head) {is : List Item} {e : ℕ} (ends : e ≤ length s) (seen : see o 0 s (at + 16) (items ok room h) ≡ goes is e) where
  opened : see o 0 s (at + 24) (item_list ok (number_at o 4 s (at + 16)) (span h - 24)) ≡ goes is e
  opened = yields o 0 s (items ok room h) (at + 16) _ (yields-items o s ok room h at) seen

  pub items-inside : at + 24 ≤ length s
  items-inside = omega (arith, list-ends o s ok (number_at o 4 s (at + 16)) (span h - 24) (at + 24) opened ends)

  -- one of its items
  pub item-there : (j : ℕ) {x : Item} → numbered is j ≡ value x → ItemAt o s (at + (24 + item_bytes (take (j - 1) is))) x
  item-there j {x} nth =
      let n = (numbered-one is j nth).1 in
      let i = list-item o s ok (number_at o 4 s (at + 16)) (span h - 24) (at + 24) opened ends x (j - 1) (omega (arith, n.inside, list_count o s ok (number_at o 4 s (at + 16)) (span h - 24) (at + 24) opened)) in
      rw (n.is x, add_assoc) at i

  -- an item asked for of as many as the record says
  module _ (count : ℕ) (says : count ≡ number_at o 4 s (at + 16)) (j : ℕ) where
    many : count ≡ length is
    many = says ∙ sym (list_count o s ok (number_at o 4 s (at + 16)) (span h - 24) (at + 24) opened)

    pub entry-outside : between 1 count j ≡ false → refusal 19 0 ≡ item_in is at j
    unfolding item_in
    entry-outside x = rw (item_in, numbered-out is j (rw many at x))

    module _ (within : between 1 count j ≡ true) (p : ℕ) (reached : ReachesTo o s (at + 24) (j - 1) (j - 1) p) where
      place : p ≡ at + 24 + item_bytes (take (j - 1) is)
      place = let x = between_in 1 count j within in reached ok (number_at o 4 s (at + 16)) (span h - 24) is e (omega (arith, x.1)) ends opened

      stands : ItemAt o s p (get_or is (j - 1) empty)
      stands = let x = between_in 1 count j within in rw place (list-item o s ok (number_at o 4 s (at + 16)) (span h - 24) (at + 24) opened ends empty (j - 1) (omega (arith, x.0, x.1)))

      pub entry-inside : p + 8 ≤ length s
      entry-inside = omega (arith, stands.fits)

      pub entry-is : value (record { code = signed 4 (number_at o 4 s (p + 4)); text = record { at = p + 8; length = number_at o 4 s p - 8 } }) ≡ item_in is at j
      unfolding item_in
      entry-is =
          let x : Item = get_or is (j - 1) empty in
          let l : number_at o 4 s p - 8 ≡ length x.content = omega (arith, stands.size) in
          let q : p ≡ at + (24 + item_bytes (take (j - 1) is)) = place ∙ add_assoc at 24 (item_bytes (take (j - 1) is)) in
          rw (item_in, numbered-in empty is j (rw many at within), l, ← stands.code, ← q)
