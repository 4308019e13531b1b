-- The first maker's record among rows, and among a recording's records, one after the other.
-- Assumes nothing.
use mathlib.Core.Path.{◌≡◌, refl, sym, ap, ◌∙◌}
use mathlib.Core.Bool.{Bool, true, false}
use mathlib.Core.List.{List, [], ◌∷◌, ◌++◌}
use mathlib.Core.Option.{Option, none, some}
use Prim.Native.Nat.{ℕ, zero, suc, ◌+◌, ◌≤◌}
use lib.Dec.{eqb}
use lib.ListN.{length}
use Rattle.words.specs.declared.Order.{Order}
use Rattle.walk.specs.Walk.{pick, Row}
use Rattle.rules.specs.declared.Head as At
use Rattle.rules.specs.Rules.{Head, maker_code, recording_body}
use Rattle.records.specs.Says.{is_group, sub_code}
use Rattle.children.specs.Children.{Said, said, ◌then◌, Known, known_of, Inner, Chain, Closed, RecordAt, NoRecord}
use Rattle.children.specs.Recordings.{OfBody}
use Rattle.children.proofs.Chained.{body-chain}
use Rattle.children.proofs.Visiting.{chain-parted, chain-closed}
use Rattle.rows.specs.Listing.{series_rows, channel_rows, frame_rows, held_rows}
use Rattle.rows.proofs.Body.{inner-rows, closed-rows}
use Rattle.makers.specs.Makers.{first_maker}

-- a place, or else another
abbrev pub else : Option ℕ → Option ℕ → Option ℕ
else none y = y
else (some p) y = some p

pub first_some : (x y : Option ℕ) {p : ℕ} → x ≡ some p → else x y ≡ x
first_some x y e = rw e

pub first-append : (xs ys : List Row) → first_maker (xs ++ ys) ≡ else (first_maker xs) (first_maker ys)
unfolding first_maker
first-append [] ys = refl
first-append (x ∷ xs) ys = go (maker_code x.code) (first-append xs ys)
  where
    go : (c : Bool) → first_maker (xs ++ ys) ≡ else (first_maker xs) (first_maker ys) → pick c (some (x.start + 4)) (first_maker (xs ++ ys)) ≡ else (pick c (some (x.start + 4)) (first_maker xs)) (first_maker ys)
    go true k = refl
    go false k = k

-- a record of another code is passed over, and so are records of one such code
pub first-row : (r : Row) (rs : List Row) → maker_code r.code ≡ false → first_maker (r ∷ rs) ≡ first_maker rs
unfolding first_maker
first-row r rs m = rw m

pub first-series : (n i start step code : ℕ) → maker_code code ≡ false → first_maker (series_rows n i start step code) ≡ none
unfolding first_maker series_rows
first-series zero i start step code m = refl
first-series (suc n) i start step code m = rw m (first-series n (suc i) (start + step) step code m)

-- a sub's code is no maker's
sub-coded : (code : ℕ) → maker_code (sub_code code) ≡ false
unfolding sub_code maker_code
sub-coded code = go (eqb code 120) (eqb code 320)
  where
    go : (x y : Bool) → maker_code (pick x 125 (pick y 325 355)) ≡ false
    go true y = refl
    go false true = refl
    go false false = refl

module _ (o : Order) (b : ℕ) (s : List ℕ) (p : ℕ) where
  -- no record that another holds is a maker's
  held_first : (code : ℕ) → first_maker (held_rows o b s p code) ≡ none
  unfolding held_rows first_maker maker_code
  held_first code = go (is_group code) (eqb code 140)
    where
      go : (x y : Bool) → first_maker (pick x (channel_rows o b s p code) (pick y (frame_rows o b s p) [])) ≡ none
      go true y = first-series _ 1 _ 256 (sub_code code) (sub-coded code)
      go false true = first-series _ 1 _ _ 145 refl
      go false false = refl

  parted-first : {k : Known} {h : Head} {own l : Said} (rest : Said) → p ≤ length s → Inner o b s p k h own → l ≡ own then rest → first_maker l.rows ≡ else (pick (maker_code h.code) (some (b + p + 4)) none) (first_maker rest.rows)
  unfolding first_maker ◌then◌
  parted-first {h} {own} rest fit k e =
      let i : first_maker own.rows ≡ pick (maker_code h.code) (some (b + p + 4)) none = ap first_maker (inner-rows o b s p fit k).rows ∙ rw (held_first h.code) in
      ap (λ (l : Said). first_maker l.rows) e ∙ rw (first-append, i)

  closed-first : {l : Said} → p ≤ length s → Closed o b s p l → first_maker l.rows ≡ none
  unfolding first_maker maker_code
  closed-first fit c = ap first_maker (closed-rows o b s p fit c)

-- the first of all, m, is the first from byte p on
pub record Sought (o : Order) (b : ℕ) (s : List ℕ) (p : ℕ) (m : Option ℕ) : Type 0 where
  pub left : Said
  pub known : Known
  pub chain : Chain o b s known p left
  pub first : m ≡ first_maker left.rows

module _ {o : Order} {b : ℕ} {s : List ℕ} where
  pub sought-all : OfBody o b s (λ rs. Sought o b s 0 (first_maker rs))
  unfolding said
  sought-all label held h x e n g = record { left = said o b s b (recording_body label held h); known = known_of label x; chain = body-chain o label b s held h n g; first = refl }

  module _ {p : ℕ} {m : Option ℕ} (g : Sought o b s p m) where
    pub sought-none : p ≤ length s → NoRecord o b s p → none ≡ m
    sought-none fit v = sym (g.first ∙ closed-first o b s p fit (chain-closed o b s v g.chain))

    module _ {h : At.Head} {q : ℕ} (fit : p ≤ length s) (v : RecordAt o b s p h q) where
      pub sought-found : maker_code h.code ≡ true → some (b + p + 4) ≡ m
      sought-found i = let c = chain-parted o b s v g.chain in sym (g.first ∙ parted-first o b s p c.rest fit c.inner c.is ∙ rw i)

      pub sought-next : maker_code h.code ≡ false → Sought o b s q m
      sought-next i = let c = chain-parted o b s v g.chain in record { left = c.rest; known = g.known; chain = c.on; first = g.first ∙ parted-first o b s p c.rest fit c.inner c.is ∙ rw i }
