-- Tests that make no sum and no product, which could be too large; the part of a file that a place names; and the samples in its bytes.
-- Assumes nothing.
use mathlib.Core.Path.{◌≡◌, refl, sym, ap, ◌∙◌}
use mathlib.Core.Bool.{Bool, true, false}
use mathlib.Core.List.{List, [], ◌∷◌}
use Prim.Native.Nat.{ℕ, zero, suc, ◌+◌, ◌-◌, ◌*◌, ◌/◌, ◌≤◌, ◌<◌}
use native.Mathlib.Nat.{zero-add, mul_comm, mul-add, mul-le-mul_left, le-div_iff_mul-le}
use native.Mathlib.Omega.{arith}
use borrow.Author.Tests.{le-leb, lt-leb, leb-true, leb-false}
use borrow.Rule.Slice.PartAt.{sl_partˢ}
use denote.Ref.{Bor}
use lib.Dec.{leb}
use lib.ListN.{length, get_or, take, drop, length-drop}
use lib.Seq.{length-take-le, take_all}
use Rattle.words.specs.Numbers.{Bytes, bytes_at, number_at}
use Rattle.words.specs.declared.Order.{Order}
use Rattle.walk.proofs.Seen.{part-number}
use Rattle.rules.specs.Rules.{order_of, width}
use Rattle.rules.specs.Reading.{Value, value_of}
use Rattle.descriptions.specs.declared.Places.{Places}
use Rattle.recordings.specs.Answers.{value, indexed}
use Rattle.recordings.proofs.Chosen.{answered}
use Rattle.samples.specs.Asked.{RunIn}
use Rattle.samples.specs.Frames.{Samples, samples_of}
use Rattle.samples.specs.Placed.{place_in, place_of, part_in, bytes_of, PartAnswer, values_at, values_of}
use Rattle.samples.specs.declared.Cut.{Cut}
use Rattle.samples.specs.declared.Place.{Place}
use Rattle.samples.specs.declared.Run.{Run}
use Rattle.samples.proofs.Sampling.{SamplesIn, samples-from}

-- two tests, each of which passes where the other does
same_test : (a b c d : ℕ) → (a ≤ b → c ≤ d) → (c ≤ d → a ≤ b) → leb a b ≡ leb c d
same_test a b c d f g = go (leb a b) refl
  where
    other : leb a b ≡ false → (x : Bool) → leb c d ≡ x → false ≡ leb c d
    other e true h = absurd (omega (arith, leb-false a b e, g (leb-true c d h)))
    other e false h = sym h

    go : (x : Bool) → leb a b ≡ x → leb a b ≡ leb c d
    go true e = e ∙ sym (le-leb c d (f (leb-true a b e)))
    go false e = e ∙ other e (leb c d) refl

pub fits-behind : (n before room : ℕ) → before ≤ room → leb n (room - before) ≡ leb (before + n) room
fits-behind n before room h = same_test n (room - before) (before + n) room (λ l. omega arith) (λ l. omega arith)

pub fits-times : (room w count : ℕ) → 0 < w → leb count (room / w) ≡ leb (w * count) room
fits-times room w count h =
    same_test count (room / w) (w * count) room (λ l. omega (arith, (le-div_iff_mul-le h).0 l, mul_comm w count)) (λ l. (le-div_iff_mul-le h).1 (omega (arith, l, mul_comm w count)))

-- what a test says that the code made, and went on from its outcome
pub tested-out : (a b : ℕ) {r : Bool} → r ≡ leb a b → r ≡ false → b < a
tested-out a b {r} e h = leb-false a b (sym e ∙ h)

pub tested-in : (a b : ℕ) {r : Bool} → r ≡ leb a b → r ≡ true → a ≤ b
tested-in a b {r} e h = leb-true a b (sym e ∙ h)

-- The part of a file of n bytes

abbrev pub all_of : Place → Cut
all_of p = record { start = p.position; length = p.width * p.count }

abbrev pub none_of : ℕ → Cut
none_of n = record { start = n; length = 0 }

module _ (n : ℕ) (p : Place) where
  pub part-inside : p.position + p.width * p.count ≤ n → part_in n p ≡ all_of p
  unfolding part_in
  part-inside l = rw (le-leb (p.position + p.width * p.count) n l)

  pub part-outside : n < p.position + p.width * p.count → part_in n p ≡ none_of n
  unfolding part_in
  part-outside l = rw (lt-leb (p.position + p.width * p.count) n l)

  -- whatever the place is, the part lies in the file
  pub part-within : (part_in n p).start + (part_in n p).length ≤ n
  part-within = go (leb (p.position + p.width * p.count) n) refl
    where
      go : (c : Bool) → leb (p.position + p.width * p.count) n ≡ c → (part_in n p).start + (part_in n p).length ≤ n
      go true e = let l = leb-true (p.position + p.width * p.count) n e in rw (part-inside l) l
      go false e = rw (part-outside (leb-false (p.position + p.width * p.count) n e)) (omega arith)

-- a part of the file, as the code makes it
pub cut : (file : Bor (List ℕ)) (a e : ℕ) (p : Place) → part_in (length file.now) p ≡ record { start = a; length = e - a } → PartAnswer file p (sl_partˢ file (a + file.ref_ptr.1) a e)
unfolding bytes_at
cut file a e p h = record { bytes = ap (λ (q : Cut). bytes_at q.length file.now q.start) (sym h); block = refl; offset = omega (arith, ap (λ (q : Cut). q.start) h) }

-- as many bytes as the part is long
pub bytes-many : (s : List ℕ) (p : Place) → length (bytes_of s p) ≡ (part_in (length s) p).length
unfolding bytes_at
bytes-many s p = let q : Cut = part_in (length s) p in length-take-le q.length (drop q.start s) (rw length-drop (omega (arith, part-within (length s) p)))

-- only one part of a file is answered: its bytes, and where it lies in memory
pub part-unique : (file : Bor (List ℕ)) (p : Place) (r u : Bor (List ℕ)) → PartAnswer file p r → PartAnswer file p u → (r.now ≡ u.now) × (r.ref_ptr ≡ u.ref_ptr)
part-unique file p r u x y = (x.bytes ∙ sym y.bytes, λ n. ((x.block ∙ sym y.block) n, (x.offset ∙ sym y.offset) n))

-- The place that the code found

module _ {s : List ℕ} {i j k : ℕ} {o : Order} {q : Places} {run : Run} {x : Samples} (h : RunIn s i j k o q run x) where
  pub placed : place_of s i j k ≡ value run.place
  placed = rw h.is (ap (λ (r : Run). value r.place) (sym h.same))

  pub run-wide : run.place.width ≡ width run.format
  run-wide = ap (λ (r : Run). r.place.width) h.same ∙ sym (ap (λ (r : Run). width r.format) h.same)

-- Samples in bytes

module _ (o : Order) (format : ℕ) (s : List ℕ) where
  abbrev value_at : ℕ → Value
  value_at k = value_of format (width format) (number_at o (width format) s k)

  pub values-many : (n k : ℕ) → length (values_at o format n s k) ≡ n
  unfolding values_at
  values-many zero k = refl
  values-many (suc n) k = ap suc (values-many n (k + width format))

  pub values-each : (n k m : ℕ) (d : Value) → m < n → get_or (values_at o format n s k) m d ≡ value_at (k + width format * m)
  unfolding values_at
  values-each zero k m d l = absurd (omega arith)
  values-each (suc n) k zero d l = let z : k ≡ k + width format * 0 = omega arith in ap value_at z
  values-each (suc n) k (suc m) d l =
      let q : k + width format + width format * m ≡ k + width format * suc m = omega arith in
      values-each n (k + width format) m d (omega arith) ∙ ap value_at q

  -- samples that are each known by their number
  pub values-known : (n k : ℕ) (vs : List Value) → length vs ≡ n → ((m : ℕ) → m < n → indexed vs m ≡ value (value_at (k + width format * m))) → values_at o format n s k ≡ vs
  unfolding values_at indexed
  values-known zero k [] l each = refl
  values-known zero k (x ∷ vs) l each = absurd (omega arith)
  values-known (suc n) k [] l each = absurd (omega arith)
  values-known (suc n) k (x ∷ vs) l each =
      let z : k + width format * 0 ≡ k = omega arith in
      let a : x ≡ value_at k = cc (rw z at (each 0 (omega arith))) in
      let next : (m : ℕ) → m < n → indexed vs m ≡ value (value_at (k + width format + width format * m)) =
      λ m p. let q : k + width format + width format * m ≡ k + width format * suc m = omega arith in rw q (each (suc m) (omega arith)) in
      λ i. sym a i ∷ values-known n (k + width format) vs (omega arith) next i

-- a number in a part of the file
number-part : (o : Order) (w n m : ℕ) (s : List ℕ) (a : ℕ) → m < n → number_at o w s (a + w * m) ≡ number_at o w (bytes_at (w * n) s a) (0 + w * m)
unfolding bytes_at
number-part o w n m s a l = rw zero-add (sym (part-number o s a (w * n) w (w * m) (omega (arith, mul-le-mul_left w l))))

-- some of a list's elements, from the first on
indexed-drop : {A : Type 0} (l : List A) (first m : ℕ) → indexed (drop first l) m ≡ indexed l (first + m)
unfolding indexed
indexed-drop l zero m = ap (indexed l) (sym (zero-add m))
indexed-drop [] (suc first) m = refl
indexed-drop (x ∷ l) (suc first) m =
    let e : suc (first + m) ≡ suc first + m = omega arith in
    indexed-drop l first m ∙ ap (indexed (x ∷ l)) e

indexed-take : {A : Type 0} (l : List A) (n m : ℕ) → m < n → indexed (take n l) m ≡ indexed l m
unfolding indexed
indexed-take l zero m h = absurd (omega arith)
indexed-take [] (suc n) m h = refl
indexed-take (x ∷ l) (suc n) zero h = refl
indexed-take (x ∷ l) (suc n) (suc m) h = indexed-take l n m (omega arith)

module _ (s : List ℕ) (x : Samples) (k : SamplesIn s x) (first n : ℕ) (l : first + n ≤ length x.values) where
  abbrev w : ℕ
  w = width x.format

  -- n of the samples from the first on, and their place
  abbrev some : Place
  some = record { position = x.at + w * first; width = w; count = n }

  pub some-inside : x.at + w * first + w * n ≤ length s
  some-inside = omega (arith, k.inside, mul-le-mul_left w l, mul-add w first n)

  -- the bytes of their place are these samples
  pub some-shown : values_of s x.format some ≡ take n (drop first x.values)
  some-shown =
      rw (part-inside (length s) some some-inside)
      (values-known (order_of s) x.format _ n 0 (take n (drop first x.values))
      (length-take-le n (drop first x.values) (rw length-drop (omega arith)))
      (λ m h.
      let d : x.at + w * (first + m) ≡ x.at + w * first + w * m = omega (arith, mul-add w first m) in
      indexed-take (drop first x.values) n m h ∙ (indexed-drop x.values first m ∙ (k.each (first + m) (omega arith) ∙
      ap (λ (q : ℕ). value (value_of x.format w q)) (ap (number_at (order_of s) w s) d ∙ number-part (order_of s) w n m s (x.at + w * first) h)))))

-- and those of the place of all are all
pub all_shown : (s : List ℕ) (x : Samples) → SamplesIn s x → values_of s x.format (place_in x) ≡ x.values
all_shown s x k =
    let w : ℕ = width x.format in
    let n : ℕ = length x.values in
    let z : x.at ≡ x.at + w * 0 = omega arith in
    ap (λ (q : ℕ). values_of s x.format (record { position = q; width = w; count = n })) z ∙ (some-shown s x k 0 n (omega arith) ∙ take_all n x.values (omega arith))

-- a place that is answered, by the rules' value alone: whose samples, and in the file
pub record PlacedFrom (s : List ℕ) (i j k : ℕ) (p : Place) : Type 0 where
  pub samples : Samples
  pub asked : samples_of s i j k ≡ value samples
  pub same : place_in samples ≡ p
  pub inside : p.position + p.width * p.count ≤ length s

pub placed-from : (s : List ℕ) → Bytes s → (i j k : ℕ) {p : Place} → place_of s i j k ≡ value p → PlacedFrom s i j k p
placed-from s b i j k {p} h =
    let a = answered (samples_of s i j k) (λ x. value (place_in x)) h in
    let e : place_in a.0 ≡ p = cc a.2 in
    record { samples = a.0; asked = a.1; same = e; inside = rw (← e) (samples-from s b i j k a.1).located.inside }
