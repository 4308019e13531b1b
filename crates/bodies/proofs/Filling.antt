-- Items, and samples channel by channel, written anew into a buffer that they fill.
-- Assumes nothing.
use Rattle.std.proofs.Common.{Some, None}
use mathlib.Core.Path.{◌≡◌, refl, sym, ap, ◌∙◌}
use mathlib.Core.Bool.{Bool, true, false}
use mathlib.Core.List.{List, [], ◌∷◌, ◌++◌, append_assoc, append-nil}
use Prim.Native.Nat.{ℕ, zero, suc, ◌+◌, ◌-◌, ◌*◌, ◌/◌, ◌≤◌}
use native.Mathlib.Nat.{add-sub_cancel_left, sub_self, zero-add, zero-mul, add-zero, suc-add, suc-mul, add-mul, div-eq_of_eq-mul_left}
use native.Mathlib.Omega.{arith}
use borrow.Author.Tests.{leb-true, eqb-true, eq-eqb, ne_eqb}
use lib.Dec.{leb, ltb, eqb}
use lib.ListN.{length, take, drop, length-drop}
use lib.Seq.{length-take-le, take-add, take_all, drop-drop}
use Rattle.words.specs.Numbers.{Bytes, bytes_at, number_at}
use Rattle.words.specs.Runs.{pasted, turned}
use Rattle.words.specs.declared.Order.{Order}
use Rattle.words.proofs.Fronts.{put}
use Rattle.words.proofs.Words.{bytes_take, bytes_drop}
use Rattle.words.proofs.Runs.{pasted-pasted, part-pasted, take-pasted, length-pasted}
use Rattle.walk.specs.See.{goes, see, Goes}
use Rattle.walk.specs.Trace.{trace, written}
use Rattle.walk.specs.Walk.{Event, numeral, blank, Walk, give, num, text, ◌>>=◌, ◌>>◌, reserve, pick}
use Rattle.walk.proofs.Apart.{zero_one}
use Rattle.walk.proofs.Seen.{stays-goes, yields, and_left, and_right}
use Rattle.walk.proofs.Went.{gate-went, went-first, goes_same}
use Rattle.walk.proofs.Tracing.{trace-bind, trace-give, written_none}
use Rattle.rules.specs.Rules.{Item, item, item_size, item_list, items_body, limit, number_list, Channel, width, samples_of, samples_in, sample_bytes, samples}
use Rattle.rules.proofs.Room.{stays-item, stays-items_body}
use Rattle.records.specs.Says.{Kept}
use Rattle.bodies.specs.Copy.{copy, filling, all_wide, widths_in}
use Rattle.bodies.specs.Orders.{same_order}
use Rattle.bodies.specs.declared.Way.{Way}
use Rattle.bodies.proofs.Copying.{copy-bind, copy-give, length-copy}
use Rattle.bodies.proofs.Pieces.{Takes, reaches-bind, Left, left-whole, left-numbers, left-reserve, left-nothing, left_end, numbers-stand, numbers-turned}
use Rattle.bodies.proofs.Pieces.{copy_within, length-within, copy-next, copy-follows, takes-numbers, takes-text, text-whole}

-- a piece of m bytes that a call wrote, which was lent k
piece-pasted : {A : Type 0} (w : Way) (b : ℕ) (s d ys : List ℕ) (v : Walk A) (n m k : ℕ) → Takes m v → k ≡ m → n + m ≤ length s →
    ((c : ℕ) → ys ≡ copy w c (take k (drop n s)) c v) → put n k d ys ≡ pasted d n (copy w b s (b + n) v)
piece-pasted w b s d ys v n m k takes e f h =
    let g : ys ≡ copy w b s (b + n) v = h (b + n) ∙ rw e (copy_within w b s m v takes n) in
    part-pasted d ys n k (ap length g ∙ (length-within w b s m v takes (b + n) (omega arith) (omega arith) ∙ sym e)) ∙ ap (pasted d n) g

-- bytes that were pasted behind what is written
left-pasted : {A B D : Type 0} (w : Way) (b : ℕ) (s d d' ys : List ℕ) (u : Walk A) (x : Walk B) (y : Walk D) (n q : ℕ) →
    copy w b s (b + n) x ≡ ys ++ copy w b s (b + q) y → d' ≡ pasted d n ys → q ≡ n + length ys → q ≤ length s → Left w b s d n u x → Left w b s d' q u y
left-pasted w b s d d' ys u x y n q e h i f l =
    let j = l.long in
    record {
      long = ap length h ∙ (length-pasted d n ys (omega arith) ∙ j);
      is = l.is ∙ rw (e, h, i, take-pasted d n ys (omega arith)) (sym (append_assoc (take n d) ys _));
    }

-- the item at byte p: two numbers, of which the first is its size, and a text
module _ (b : ℕ) (s : List ℕ) (p : ℕ) (ok : ℕ → Bool) (room : ℕ) where
  copy-item : (w : Way) (n : ℕ) → n ≡ number_at w.from 4 s p → copy w b s (b + p) (item ok room) ≡ copy w b s (b + p) (number_list 4 2 >> text (n - 8))
  unfolding item number_list trace ◌>>=◌ ◌>>◌
  copy-item w n is =
      let e : n ≡ number_at w.from 4 s (b + p - b) = rw (add-sub_cancel_left b p) is in
      rw e

  pub item-says : (o : Order) {x : Item} {e : ℕ} → see o b s (b + p) (item ok room) ≡ goes x e →
      (8 ≤ number_at o 4 s p) × (number_at o 4 s p ≤ room) × (e ≡ b + (p + number_at o 4 s p))
  unfolding item ◌>>=◌ ◌>>◌
  item-says o g =
      let n : ℕ = number_at o 4 s (b + p - b) in
      rw (add-sub_cancel_left b p) at
      (yields o b s (item ok room) (b + p) (λ _ e. (8 ≤ n) × (n ≤ room) × (e ≡ b + (p + n)))
      (λ _ k _.
      let l : 8 ≤ n = leb-true 8 n (and_left (leb 8 n) _ k) in
      (l, leb-true n room (and_right (ltb n limit) (leb n room) (and_right (leb 8 n) _ k)), omega arith))
      g)

-- as the code writes it: the numbers, ys, in j bytes, and the text, zs, in k
module _ (w : Way) (s d : List ℕ) (p n j k : ℕ) (long : length d ≡ length s) (is : n ≡ number_at w.from 4 s p) (least : 8 ≤ n) (inside : p + n ≤ length s)
    (front : j ≡ 8) (rest : k ≡ n - 8) (ys zs : List ℕ)
    (numbers : (c : ℕ) → ys ≡ copy w c (take j (drop p s)) c (number_list 4 2)) (content : zs ≡ take k (drop (p + 8) s)) where
  item-pasted : (b : ℕ) (ok : ℕ → Bool) → put (p + 8) k (put p j d ys) zs ≡ pasted d p (copy w b s (b + p) (item ok (length s - p)))
  item-pasted b ok =
      let xs : List ℕ = copy w b s (b + p) (number_list 4 2) in
      let ts : List ℕ = copy w b s (b + (p + 8)) (text (n - 8)) in
      let l : length xs ≡ 8 = length-within w b s 8 (number_list 4 2) (takes-numbers 4 2) (b + p) (omega arith) (omega arith) in
      let i : p + 8 ≡ p + length xs = omega arith in
      let h : b + (p + 8) ≡ b + p + 8 = omega arith in
      piece-pasted w b s (put p j d ys) zs (text (n - 8)) (p + 8) (n - 8) k (takes-text (n - 8)) rest (omega arith)
      (λ c. content ∙ text-whole w c (take k (drop (p + 8) s)) (n - 8) (length-take-le k (drop (p + 8) s) (rw length-drop (omega arith)) ∙ rest))
      ∙ (ap (λ (x : List ℕ). pasted x (p + 8) ts) (piece-pasted w b s d ys (number_list 4 2) p 8 j (takes-numbers 4 2) front (omega arith) numbers)
      ∙ (ap (λ (x : ℕ). pasted (pasted d p xs) x ts) i
      ∙ (pasted-pasted d p xs ts (omega arith)
      ∙ ap (pasted d p) (sym (copy-item b s p ok (length s - p) w n
      is ∙ (copy-next w b s 8 (number_list 4 2) (takes-numbers 4 2) (b + p) (text (n - 8)) ∙ rw h))))))

  pub item-copied : (b : ℕ) (ok : ℕ → Bool) (x : Item) (e : ℕ) → see w.from b s (b + p) (item ok (length s - p)) ≡ goes x e →
      (e ≡ b + (p + n)) × (p + n ≡ p + item_size x) × (put (p + 8) k (put p j d ys) zs ≡ pasted d p (copy w b s (b + p) (item ok (length s - p))))
  item-copied b ok x e g =
      let z = (item-says b s p ok (length s - p) w.from g).2 in
      let y = (stays-goes w.from b s (b + p + (length s - p)) (omega arith) (item ok (length s - p)) (b + p) _ (omega arith)
      (stays-item ok (length s - p) (b + p)) g).0 in
      (omega (arith, z, is), omega (arith, z, y, is), item-pasted b ok)

-- items still to write, from byte p on
pub record Items (w : Way) (b : ℕ) (s : List ℕ) (ok : ℕ → Bool) (n p : ℕ) (d : List ℕ) : Type 0 where
  pub rest : List Item
  pub accepted : see w.from b s (b + p) (item_list ok n (length s - p)) ≡ goes rest (b + length s)
  pub left : Left w b s d p (items_body ok (16 + length s)) (item_list ok n (length s - p))

-- the body of a 130 or a 200: the count, n, a reserve area, and the items, the first of them at `at` with this room
module _ (b : ℕ) (s : List ℕ) (ok : ℕ → Bool) (o : Order) (n at room : ℕ) (count : n ≡ number_at o 4 s (b - b)) (first : at ≡ b + 4 + 4)
    (left : room ≡ 16 + length s - 24) {l : List Item} {e : ℕ} where
  items-list : see o b s b (items_body ok (16 + length s)) ≡ goes l e → see o b s at (item_list ok n room) ≡ goes l e
  unfolding items_body see ◌>>=◌ ◌>>◌
  items-list g =
      let f = went-first o b s (b + 4 + 4) (item_list ok (number_at o 4 s (b - b)) (16 + length s - 24)) _ (gate-went _ _ _ _ g).1 in
      rw (count, first, left) (f.is ∙ (gate-went _ _ _ _ f.kept).1)

  trace-items : see o b s at (item_list ok n room) ≡ goes l e →
      trace o b s b (items_body ok (16 + length s)) ≡ trace o b s b (number_list 4 1 >> (reserve 4 >> item_list ok n room))
  unfolding items_body number_list trace ◌>>=◌ ◌>>◌
  trace-items g =
      let h = rw (count, first, left) at g in
      rw (count, left)
      (ap (λ (t : List Event). numeral 4 (number_at o 4 s (b - b)) ∷ blank (bytes_at 4 s (b + 4 - b)) ∷ t)
      (trace-bind o b s (b + 4 + 4) (item_list ok (number_at o 4 s (b - b)) (16 + length s - 24)) _ h ∙ append-nil _))

module _ (w : Way) (s : List ℕ) where
  -- the code has written the count, ys, and the reserve area, zs
  pub items-begun : (n : ℕ) (d ys zs : List ℕ) → n ≡ number_at w.from 4 s 0 → 8 ≤ length s → length d ≡ length s →
      ((c : ℕ) → ys ≡ copy w c (take 4 s) c (number_list 4 1)) → ((c : ℕ) → zs ≡ copy w c (take 4 (drop 4 s)) c (reserve (length (take 4 (drop 4 s))))) →
      (b : ℕ) (ok : ℕ → Bool) (l : List Item) (e : ℕ) → see w.from b s b (items_body ok (16 + length s)) ≡ goes l e →
      Items w b s ok n 8 (put 4 4 (put 0 4 d ys) zs)
  items-begun n d ys zs is fit long numbers area b ok l e g =
      let c : n ≡ number_at w.from 4 s (b - b) = rw (sub_self b) is in
      let v = items-list b s ok w.from n (b + 8) (length s - 8) c (omega arith) (omega arith) g in
      let z = stays-goes w.from b s (b + (16 + length s - 16)) (omega arith) (items_body ok (16 + length s)) b _ (omega arith)
      (stays-items_body ok (16 + length s) b (omega arith)) g in
      record {
        rest = l;
        accepted = v ∙ ap (λ (x : ℕ). goes l x) (omega (arith, z));
        left =
            left-reserve w b s (put 0 4 d ys) (items_body ok (16 + length s)) (item_list ok n (length s - 8)) 4 zs 4 fit area
            (left-numbers w b s d (items_body ok (16 + length s)) (reserve 4 >> item_list ok n (length s - 8)) 0 ys 4 1 (omega arith) numbers
            (left-whole w b s d (items_body ok (16 + length s)) _ long
            (ap (written w.keep w.to) (trace-items b s ok w.from n (b + 8) (length s - 8) c (omega arith) (omega arith) v))));
      }

  module _ {b : ℕ} {ok : ℕ → Bool} {n p : ℕ} {d : List ℕ} (x : Items w b s ok n p d) where
    -- the next item, and the items behind it
    items-step : (m r : ℕ) (d' : List ℕ) → n ≡ suc m → r ≤ length s →
        (u : Goes (see w.from b s (b + p) (item ok (length s - p)))
        (λ i e. see w.from b s e (item_list ok m (length s - p - item_size i) >>= λ l. give (i ∷ l)) ≡ goes x.rest (b + length s))) →
        Goes (see w.from b s u.end (item_list ok m (length s - p - item_size u.value)))
        (λ l e. see w.from b s e (give (u.value ∷ l)) ≡ goes x.rest (b + length s)) →
        u.end ≡ b + r → r ≡ p + item_size u.value → d' ≡ pasted d p (copy w b s (b + p) (item ok (length s - p))) → Items w b s ok m r d'
    unfolding item_list see
    items-step m r d' h f u v j k y =
        let z : length s - p - item_size u.value ≡ length s - r = omega (arith, k) in
        let g = length-copy w b s (b + p + (length s - p)) (omega (arith, k)) (item ok (length s - p)) (b + p) _ (omega arith)
        (stays-item ok (length s - p) (b + p)) u.is in
        record {
          rest = v.value;
          accepted = rw (← z, ← j) (v.is ∙ ap (λ (e : ℕ). goes v.value e) (goes_same v.kept).1);
          left =
              left-pasted w b s d d' (copy w b s (b + p) (item ok (length s - p))) (items_body ok (16 + length s)) (item_list ok n (length s - p))
              (item_list ok m (length s - r)) p r
              (rw (h, ← z, ← j) (copy-bind w b s (b + p) (item ok (length s - p)) _ u.is ∙ ap
              (λ (l : List ℕ). copy w b s (b + p) (item ok (length s - p)) ++ l)
              (copy-give w b s u.end (item_list ok m (length s - p - item_size u.value)) (λ l. u.value ∷ l))))
              y (omega (arith, g, j)) f x.left;
        }

    -- what the code has written is the next item
    pub items_more : (m r : ℕ) (d' : List ℕ) → n ≡ suc m → r ≤ length s →
        ((i : Item) (e : ℕ) → see w.from b s (b + p) (item ok (length s - p)) ≡ goes i e →
        (e ≡ b + r) × (r ≡ p + item_size i) × (d' ≡ pasted d p (copy w b s (b + p) (item ok (length s - p))))) →
        Items w b s ok m r d'
    unfolding item_list
    items_more m r d' h f says =
        let u = went-first w.from b s (b + p) (item ok (length s - p)) (λ i. item_list ok m (length s - p - item_size i) >>= λ l. give (i ∷ l))
        (rw h at x.accepted) in
        let y = says u.value u.end u.is in
        items-step m r d' h f u (went-first w.from b s u.end (item_list ok m (length s - p - item_size u.value)) (λ l. give (u.value ∷ l)) u.kept) y.0 y.1 y.2

    pub items-all : n ≡ 0 → d ≡ copy w b s b (items_body ok (16 + length s))
    unfolding item_list see
    items-all h = left-nothing w b s d (items_body ok (16 + length s)) p [] (omega (arith, (goes_same (rw h at x.accepted)).1)) (rw h at x.left)

-- a part that holds n numbers of k bytes, turned by a call
pub part-turned : (w : Way) (s : List ℕ) (p m k n : ℕ) (ys : List ℕ) → Bytes s → same_order w.from w.to ≡ false → m ≡ n * k → p + n * k ≤ length s →
    ys ≡ turned k n (take m (drop p s)) → (x : ℕ) → ys ≡ copy w x (take m (drop p s)) x (number_list k n)
part-turned w s p m k n ys are turns e l h x =
    let long : length (take m (drop p s)) ≡ n * k = length-take-le m (drop p s) (rw length-drop (omega arith)) ∙ e in
    h ∙ numbers-turned w x (take m (drop p s)) k (bytes_take m (drop p s) (bytes_drop p s are)) n long turns

-- a sample has two bytes at least, and four at most
pub sample-wide : (format : ℕ) → (2 ≤ width format) × (width format ≤ 4)
unfolding width
sample-wide format = go (eqb format 1) (eqb format 2)
  where
    go : (x y : Bool) → (2 ≤ pick x 2 (pick y 3 4)) × (pick x 2 (pick y 3 4) ≤ 4)
    go true y = (omega arith, omega arith)
    go false true = (omega arith, omega arith)
    go false false = (omega arith, omega arith)

-- an answer with a width has this one
one_width : (u v : ℕ) → Some u ≡ Some v → u ≡ v
one_width u v h = cc

one-several : {X : Type 0} {v : ℕ} → Some v ≡ None → X
one-several h = zero_one (cc)

-- the samples of the channel whose sub stands at byte q of the file, as the code reads it
module _ (w : Way) (file : List ℕ) (q t : ℕ) (flags format rate wide n : ℕ) (at20 : flags ≡ number_at w.from 4 file (q + 20))
    (at28 : format ≡ number_at w.from 4 file (q + 28)) (at32 : rate ≡ number_at w.from 4 file (q + 32))
    (is_wide : wide ≡ width format) (is_many : n ≡ samples_of t flags rate) (s d : List ℕ) (p : ℕ) (c : Channel) (cs : List Channel)
    (kept : Kept w.from file q (c ∷ cs)) where
  read_wide : wide ≡ width c.format
  read_wide = is_wide ∙ ap width (at28 ∙ sym kept.0.format)

  read-many : n ≡ samples_in t c
  read-many = is_many ∙ rw (at20, at32, kept.0.flags, kept.0.rate)

  pub samples-copied : (k : ℕ) (ys : List ℕ) → k ≡ n * wide → p + n * wide ≤ length s → ((x : ℕ) → ys ≡ copy w x (take k (drop p s)) x (number_list wide n)) →
      (b : ℕ) →
      (p + n * wide ≡ p + samples_in t c * width c.format) × (put p k d ys ≡ pasted d p (copy w b s (b + p) (number_list (width c.format) (samples_in t c))))
  samples-copied k ys e f numbers b = rw (← read-many, ← read_wide)
      (refl, piece-pasted w b s d ys (number_list wide n) p (n * wide) k (takes-numbers wide n) e f numbers)

-- channels whose samples are still to write, from byte p on; their subs stand in the file from byte q on
pub record Samples (w : Way) (file : List ℕ) (t b : ℕ) (s : List ℕ) (cs : List Channel) (n q p : ℕ) (d : List ℕ) : Type 0 where
  pub rest : List Channel
  pub count : length rest ≡ n
  pub kept : Kept w.from file q rest
  pub room : p + sample_bytes t rest ≡ length s
  pub left : Left w b s d p (filling t cs) (samples t rest)

module _ (w : Way) (file : List ℕ) (t : ℕ) (s : List ℕ) where
  -- the code has written the clock, ys, and the reserve area, zs
  pub samples-begun : (q : ℕ) (d ys zs : List ℕ) → length d ≡ length s →
      ((c : ℕ) → ys ≡ copy w c (take 6 s) c (number_list 2 3)) → ((c : ℕ) → zs ≡ copy w c (take 2 (drop 6 s)) c (reserve (length (take 2 (drop 6 s))))) →
      (b : ℕ) (cs : List Channel) (n : ℕ) → length cs ≡ n → Kept w.from file q cs → length s ≡ 8 + sample_bytes t cs →
      Samples w file t b s cs n q 8 (put 6 2 (put 0 6 d ys) zs)
  unfolding filling
  samples-begun q d ys zs long numbers area b cs n e k l = record {
    rest = cs;
    count = e;
    kept = k;
    room = sym l;
    left =
        left-reserve w b s (put 0 6 d ys) (filling t cs) (samples t cs) 6 zs 2 (omega arith) area
        (left-numbers w b s d (filling t cs) (reserve 2 >> samples t cs) 0 ys 2 3 (omega arith) numbers
        (left-whole w b s d (filling t cs) (filling t cs) long refl));
  }

  module _ {b n q p : ℕ} {cs : List Channel} {d : List ℕ} (x : Samples w file t b s cs n q p d) where
    -- what the code has written are the samples of the next channel
    pub samples-more : (m r : ℕ) (d' : List ℕ) → n ≡ suc m →
        ((c : Channel) (l : List Channel) → Kept w.from file q (c ∷ l) → p + samples_in t c * width c.format ≤ length s →
        (r ≡ p + samples_in t c * width c.format) × (d' ≡ pasted d p (copy w b s (b + p) (number_list (width c.format) (samples_in t c))))) →
        Samples w file t b s cs m (q + 256) r d'
    unfolding samples sample_bytes
    samples-more m r d' h says = go x.rest x.count x.kept x.room x.left
      where
        go : (l : List Channel) → length l ≡ n → Kept w.from file q l → p + sample_bytes t l ≡ length s → Left w b s d p (filling t cs) (samples t l) →
            Samples w file t b s cs m (q + 256) r d'
        go [] e k f y = absurd (omega (arith, e))
        go (c ∷ l) e k f y =
            let wide : ℕ = width c.format in
            let many : ℕ = samples_in t c in
            let i = says c l k (omega arith) in
            let j : b + p + many * wide ≡ b + r = omega (arith, i.0) in
            record {
              rest = l;
              count = omega (arith, e);
              kept = k.1;
              room = omega (arith, i.0);
              left =
                  left-pasted w b s d d' (copy w b s (b + p) (number_list wide many)) (filling t cs) (samples t (c ∷ l)) (samples t l) p r
                  (copy-follows w b s (many * wide) (number_list wide many) (takes-numbers wide many) (b + p) _ (samples t l)
                  (λ v. trace-give w.from b s (b + p + many * wide) (samples t l) (λ a. v ∷ a)) ∙ rw j)
                  i.1 (omega (
                    arith,
                    i.0,
                    length-within w b s (many * wide) (number_list wide many) (takes-numbers wide many) (b + p) (omega arith)
                        (omega arith),
                  )) (omega (arith, i.0)) y;
            }

    pub samples-all : n ≡ 0 → d ≡ copy w b s b (filling t cs)
    unfolding samples sample_bytes
    samples-all h = go x.rest x.count x.room x.left
      where
        go : (l : List Channel) → length l ≡ n → p + sample_bytes t l ≡ length s → Left w b s d p (filling t cs) (samples t l) → d ≡ copy w b s b (filling t cs)
        go [] e f y = left-nothing w b s d (filling t cs) p [] (omega arith) y
        go (c ∷ l) e f y = absurd (omega (arith, e))

-- Samples of one width: they are one run

module _ (w : Way) (b : ℕ) (s : List ℕ) (k : ℕ) where
  first-number : (n at : ℕ) → copy w b s at (number_list k (suc n)) ≡ copy w b s at (num k) ++ copy w b s (at + k) (number_list k n)
  unfolding number_list
  first-number n at = copy-follows w b s k (num k) (λ at v. refl) at _ (number_list k n) (λ v. trace-give w.from b s (at + k) (number_list k n) (λ l. v ∷ l))

  -- two runs, one behind the other
  numbers-both : (n m at : ℕ) → copy w b s at (number_list k (n + m)) ≡ copy w b s at (number_list k n) ++ copy w b s (at + n * k) (number_list k m)
  unfolding number_list trace
  numbers-both zero m at = rw (zero-add, zero-mul, add-zero, written_none)
  numbers-both (suc n) m at =
      let e : at + k + n * k ≡ at + suc n * k = omega (arith, suc-mul n k) in
      rw (suc-add n m, first-number (n + m) at, numbers-both n m (at + k), first-number n at, e) (sym (append_assoc (copy w b s at (num k)) _ _))

-- how many samples the channels have, each of whose samples is v bytes wide
abbrev total : ℕ → List Channel → ℕ
total t [] = 0
total t (c ∷ cs) = samples_in t c + total t cs

abbrev Wide : ℕ → List Channel → Type 0
Wide v [] = Unit {0}
Wide v (c ∷ cs) = (width c.format ≡ v) × Wide v cs

module _ (t v : ℕ) where
  wide-bytes : (cs : List Channel) → Wide v cs → sample_bytes t cs ≡ total t cs * v
  unfolding sample_bytes
  wide-bytes [] h = sym (zero-mul v)
  wide-bytes (c ∷ cs) h = rw (h.0, wide-bytes cs h.1) (sym (add-mul (samples_in t c) (total t cs) v))

  wide-run : (w : Way) (b : ℕ) (s : List ℕ) (cs : List Channel) (at : ℕ) → Wide v cs → copy w b s at (samples t cs) ≡ copy w b s at (number_list v (total t cs))
  unfolding samples number_list trace
  wide-run w b s [] at h = refl
  wide-run w b s (c ∷ cs) at h =
      copy-follows w b s (samples_in t c * width c.format) (number_list (width c.format) (samples_in t c))
      (takes-numbers (width c.format) (samples_in t c)) at _ (samples t cs)
      (λ n. trace-give w.from b s (at + samples_in t c * width c.format) (samples t cs) (λ l. n ∷ l))
      ∙ rw (h.0, wide-run w b s cs (at + samples_in t c * v) h.1) (sym (numbers-both w b s v (samples_in t c) (total t cs) at))

-- the widths that the code read
module _ (o : Order) (file : List ℕ) where
  wide-kept : (v q : ℕ) (cs : List Channel) → Kept o file q cs → all_wide o file q (length cs) v ≡ true → Wide v cs
  unfolding all_wide
  wide-kept v q [] k h = tt
  wide-kept v q (c ∷ cs) k h = (
    rw k.0.format (eqb-true (width (number_at o 4 file (q + 28))) v (and_left _ _ h)),
    wide-kept v (q + 256) cs k.1 (and_right (eqb (width (number_at o 4 file (q + 28))) v) _ h),
  )

  -- no channel is left; the next has the width, or another
  pub wide-none : (v q n : ℕ) → n ≡ 0 → all_wide o file q n v ≡ true
  unfolding all_wide
  wide-none v q n e = rw (e, all_wide)

  pub wide-more : (v q n m : ℕ) → n ≡ suc m → width (number_at o 4 file (q + 28)) ≡ v → all_wide o file q n v ≡ all_wide o file (q + 256) m v
  unfolding all_wide
  wide-more v q n m e h = rw (e, all_wide, eq-eqb (width (number_at o 4 file (q + 28))) v h)

  pub wide-other : (v q n m : ℕ) → n ≡ suc m → (width (number_at o 4 file (q + 28)) ≡ v → ⊥) → all_wide o file q n v ≡ false
  unfolding all_wide
  wide-other v q n m e h = rw (e, all_wide, ne_eqb (width (number_at o 4 file (q + 28))) v h)

  -- what is answered, of n channels the first of which has the width v
  pub widths-none : (q n : ℕ) → n ≡ 0 → None ≡ widths_in o file q n
  unfolding widths_in
  widths-none q n e = rw e

  pub widths-several : (v q n m : ℕ) → n ≡ suc m → v ≡ width (number_at o 4 file (q + 28)) → all_wide o file q n v ≡ false → None ≡ widths_in o file q n
  unfolding widths_in
  widths-several v q n m e i h = let k = rw (e, i) at h in rw (e, widths_in, k)

  pub widths-one : (v q n m : ℕ) → n ≡ suc m → v ≡ width (number_at o 4 file (q + 28)) → all_wide o file q n v ≡ true → Some v ≡ widths_in o file q n
  unfolding widths_in
  widths-one v q n m e i h = let k = rw (e, i) at h in rw (e, i, widths_in, k)

  -- what the answer says
  pub widths-told : (v q n : ℕ) → Some v ≡ widths_in o file q n → (2 ≤ v) × (v ≤ 4) × (all_wide o file q n v ≡ true)
  unfolding widths_in
  widths-told v q zero h = one-several h
  widths-told v q (suc n) h = go (all_wide o file q (suc n) (width (number_at o 4 file (q + 28)))) refl
    where
      go : (x : Bool) → all_wide o file q (suc n) (width (number_at o 4 file (q + 28))) ≡ x → (2 ≤ v) × (v ≤ 4) × (all_wide o file q (suc n) v ≡ true)
      go true e =
          let wide = sample-wide (number_at o 4 file (q + 28)) in
          let i : v ≡ width (number_at o 4 file (q + 28)) = one_width v _ (h ∙ rw (widths_in, e)) in
          rw i (wide.0, wide.1, e)
      go false e = one-several (h ∙ rw (widths_in, e))

-- a run that the code wrote from byte 8 on, to the end
pub run-copied : (w : Way) (s d : List ℕ) (v n k : ℕ) (ys : List ℕ) → 2 ≤ v → n ≡ (length s - 8) / v → k ≡ n * v → 8 ≤ length s →
    ((x : ℕ) → ys ≡ copy w x (take k (drop 8 s)) x (number_list v n)) →
    (b m : ℕ) → length s ≡ 8 + m * v → put 8 k d ys ≡ pasted d 8 (copy w b s (b + 8) (number_list v m))
run-copied w s d v n k ys two is e f numbers b m l =
    let j : n ≡ m = is ∙ div-eq_of_eq-mul_left {k = m} (omega arith) (omega arith) in
    let g : 8 + n * v ≤ length s = rw j (omega arith) in
    rw (← j) (piece-pasted w b s d ys (number_list v n) 8 (n * v) k (takes-numbers v n) e g numbers)

module _ {w : Way} {file : List ℕ} {t b : ℕ} {s : List ℕ} {cs : List Channel} {n q : ℕ} {d : List ℕ} (x : Samples w file t b s cs n q 8 d) where
  -- what the code has written behind the clock is one run of samples, all v bytes wide
  pub samples-once : (v : ℕ) (d' : List ℕ) → all_wide w.from file q n v ≡ true →
      ((m : ℕ) → length s ≡ 8 + m * v → d' ≡ pasted d 8 (copy w b s (b + 8) (number_list v m))) → d' ≡ copy w b s b (filling t cs)
  unfolding trace
  samples-once v d' wide says =
      let m : ℕ = total t x.rest in
      let ys : List ℕ = copy w b s (b + 8) (number_list v m) in
      let k = wide-kept w.from file v q x.rest x.kept (rw x.count wide) in
      let r : length s ≡ 8 + m * v = sym x.room ∙ ap (λ (y : ℕ). 8 + y) (wide-bytes t v x.rest k) in
      let l : length ys ≡ m * v = length-within w b s (m * v) (number_list v m) (takes-numbers v m) (b + 8) (omega arith) (omega arith) in
      left-nothing w b s d' (filling t cs) {B = List ℕ} (length s) [] refl
      (left-pasted {D = List ℕ} w b s d d' ys (filling t cs) (samples t x.rest) (give []) 8 (length s)
      (wide-run t v w b s x.rest (b + 8) k ∙ rw written_none (sym (append-nil ys))) (says m r) (omega arith) (omega arith) x.left)

-- Samples that are not turned: they stand as they are, whatever their widths

takes-samples : (t : ℕ) (cs : List Channel) → Takes (sample_bytes t cs) (samples t cs)
unfolding samples sample_bytes
takes-samples t [] at = omega arith
takes-samples t (c ∷ cs) at =
    let m = samples_in t c * width c.format in
    reaches-bind (number_list (width c.format) (samples_in t c)) (λ n. samples t cs >>= λ l. give (n ∷ l)) at (at + m) (at + (m + sample_bytes t cs))
    (takes-numbers (width c.format) (samples_in t c) at)
    (λ n. reaches-bind (samples t cs) (λ l. give (n ∷ l)) (at + m) (at + m + sample_bytes t cs) (at + (m + sample_bytes t cs)) (takes-samples t cs (at + m))
    (λ l. omega arith))

module _ (w : Way) (b : ℕ) (s : List ℕ) (are : Bytes s) (same : same_order w.from w.to ≡ true) (t : ℕ) where
  samples-stand : (cs : List Channel) (at : ℕ) → b ≤ at → at + sample_bytes t cs ≤ b + length s →
      copy w b s at (samples t cs) ≡ take (sample_bytes t cs) (drop (at - b) s)
  unfolding samples sample_bytes trace
  samples-stand [] at g l = written_none w.keep w.to
  samples-stand (c ∷ cs) at g l =
      let k = width c.format in
      let n = samples_in t c in
      let i : at - b + n * k ≡ at + n * k - b = omega arith in
      copy-follows w b s (n * k) (number_list k n) (takes-numbers k n) at _ (samples t cs)
      (λ n. trace-give w.from b s (at + samples_in t c * width c.format) (samples t cs) (λ l. n ∷ l))
      ∙ rw (numbers-stand w b s k are n at g (omega arith) same, samples-stand cs (at + n * k) (omega arith) (omega arith), take-add, drop-drop, i) refl

  samples-same : (cs : List Channel) → length s ≡ sample_bytes t cs → s ≡ copy w b s b (samples t cs)
  samples-same cs l = sym (samples-stand cs b (omega arith) (omega arith) ∙ rw sub_self (take_all (sample_bytes t cs) s (omega arith)))

-- the code has copied what stands behind the clock
module _ {w : Way} {file : List ℕ} {t b : ℕ} {s : List ℕ} {cs : List Channel} {n q : ℕ} {d : List ℕ} (x : Samples w file t b s cs n q 8 d) where
  pub samples-unturned : (xs : List ℕ) → Bytes s → same_order w.from w.to ≡ true → xs ≡ take (length s - 8) (drop 8 s) →
      put 8 (length d - 8) d xs ≡ copy w b s b (filling t cs)
  samples-unturned xs are same is =
      let u = take (length s - 8) (drop 8 s) in
      let long : length u ≡ sample_bytes t x.rest = length-take-le (length s - 8) (drop 8 s) (rw length-drop (omega arith)) ∙ omega (arith, x.room) in
      left_end w b s d (filling t cs) 8 xs (sample_bytes t x.rest) (samples t x.rest) (takes-samples t x.rest) (sym x.room)
      (λ c. is ∙ samples-same w c u (bytes_take (length s - 8) (drop 8 s) (bytes_drop 8 s are)) same t x.rest long) x.left

-- the code has written the clock, ys, the reserve area, zs, and the samples in one run
pub body-once : (w : Way) (file : List ℕ) (t : ℕ) (s : List ℕ) (q n v : ℕ) (d ys zs d' : List ℕ) → length d ≡ length s →
    ((c : ℕ) → ys ≡ copy w c (take 6 s) c (number_list 2 3)) → ((c : ℕ) → zs ≡ copy w c (take 2 (drop 6 s)) c (reserve (length (take 2 (drop 6 s))))) →
    all_wide w.from file q n v ≡ true →
    ((b m : ℕ) → length s ≡ 8 + m * v → d' ≡ pasted (put 6 2 (put 0 6 d ys) zs) 8 (copy w b s (b + 8) (number_list v m))) →
    (b : ℕ) (cs : List Channel) → length cs ≡ n → Kept w.from file q cs → length s ≡ 8 + sample_bytes t cs → d' ≡ copy w b s b (filling t cs)
body-once w file t s q n v d ys zs d' long numbers area wide says b cs e k l =
    samples-once (samples-begun w file t s q d ys zs long numbers area b cs n e k l) v d' wide (says b)
