-- Words made of bytes: masks of whole bytes pick bytes, once over their list.
-- Assumes nothing.
use mathlib.Core.Path.{◌≡◌, refl, ap, ap₂, ◌∙◌}
use mathlib.Core.List.{List, [], ◌∷◌, ◌++◌}
use Prim.Native.Nat.{ℕ, zero, suc, ◌+◌, ◌*◌, ◌^◌, ◌<◌}
use native.Mathlib.Nat.{mod-eq_of_lt}
use native.Mathlib.Omega.{arith}
use lib.Bits.{bit_and, bit_or, and_block, or_block, and_mask, and_zero_r, or_zero_r, and_lt, or_lt}
use lib.ListN.{length, get_or, take, drop}
use Rattle.words.specs.Numbers.{word, bytes_of, Bytes}
use Rattle.words.specs.Runs.{turned}
use Rattle.words.proofs.Words.{bytes_take, bytes_drop, bytes_of-word}
use Rattle.bulk.specs.Masks.{masked, woven_word}
use Rattle.words.proofs.Fours.{written_out}

-- one of three numbers, and one of three bytes at each place of three lists
abbrev pub pick : ℕ → ℕ → ℕ → ℕ → ℕ
pick zero a b c = a
pick (suc zero) a b c = b
pick (suc (suc k)) a b c = c

abbrev pub picks : List ℕ → List ℕ → List ℕ → List ℕ → List ℕ
picks [] xs ys zs = []
picks (k ∷ ks) xs ys zs = pick k (get_or xs 0 0) (get_or ys 0 0) (get_or zs 0 0) ∷ picks ks (drop 1 xs) (drop 1 ys) (drop 1 zs)

-- the mask of the places at which one of the three is picked: all ones there, and 0 elsewhere
abbrev pub mask : ℕ → ℕ → ℕ → List ℕ → List ℕ
mask a b c [] = []
mask a b c (k ∷ ks) = pick k a b c ∷ mask a b c ks

-- an operation that works on each run of bits apart works on the lowest byte and on the rest apart
op-byte :
    (op : ℕ → ℕ → ℕ) → ((k a b r s : ℕ) → r < 2 ^ k → s < 2 ^ k → op (a * 2 ^ k + r) (b * 2 ^ k + s) ≡ op a b * 2 ^ k + op r s) →
    (a x m y : ℕ) → a < 256 → m < 256 → op (a + 256 * x) (m + 256 * y) ≡ op a m + 256 * op x y
op-byte op block a x m y h l =
    let e : a + 256 * x ≡ x * 256 + a = omega arith in
    let f : m + 256 * y ≡ y * 256 + m = omega arith in
    let g : op x y * 256 + op a m ≡ op a m + 256 * op x y = omega arith in
    ap₂ op e f ∙ (block 8 x y a m h l ∙ g)

pick-lt : (k a b c n : ℕ) → a < n → b < n → c < n → pick k a b c < n
pick-lt zero a b c n ha hb hc = ha
pick-lt (suc zero) a b c n ha hb hc = hb
pick-lt (suc (suc k)) a b c n ha hb hc = hc

-- one byte
masked-byte : (k a b c : ℕ) → a < 256 → b < 256 → c < 256 → masked a b c (pick k 255 0 0) (pick k 0 255 0) (pick k 0 0 255) ≡ pick k a b c
masked-byte zero a b c ha hb hc = rw (and_mask a 8, mod-eq_of_lt ha, and_zero_r b, and_zero_r c, or_zero_r a, or_zero_r a)
masked-byte (suc zero) a b c ha hb hc = rw (and_mask b 8, mod-eq_of_lt hb, and_zero_r a, and_zero_r c, or_zero_r b)
masked-byte (suc (suc k)) a b c ha hb hc = rw (and_mask c 8, mod-eq_of_lt hc, and_zero_r a, and_zero_r b)

-- a list's first byte and its rest, where there is none too
word_first : (s : List ℕ) → word s ≡ get_or s 0 0 + 256 * word (drop 1 s)
unfolding word
word_first [] = refl
word_first (b ∷ s) = refl

first-lt : (s : List ℕ) → Bytes s → get_or s 0 0 < 256
first-lt [] h = omega arith
first-lt (b ∷ s) h = h.0

-- three bytes and three masks' bytes, each with its rest
masked-step :
    (a b c x y z l m n p q r : ℕ) → a < 256 → b < 256 → c < 256 → l < 256 → m < 256 → n < 256 →
    masked (a + 256 * x) (b + 256 * y) (c + 256 * z) (l + 256 * p) (m + 256 * q) (n + 256 * r) ≡ masked a b c l m n + 256 * masked x y z p q r
masked-step a b c x y z l m n p q r ha hb hc hl hm hn =
    let u = and_lt 8 a l ha hl in
    let v = and_lt 8 b m hb hm in
    rw (op-byte bit_and and_block a x l p ha hl, op-byte bit_and and_block b y m q hb hm, op-byte bit_and and_block c z n r hc hn)
    (rw (op-byte bit_or or_block (bit_and a l) (bit_and x p) (bit_and b m) (bit_and y q) u v)
    (op-byte bit_or or_block _ _ (bit_and c n) (bit_and z r) (or_lt 8 _ _ u v) (and_lt 8 c n hc hn)))

-- three lists' words under the masks of the places at which each is picked
abbrev by_masks : List ℕ → ℕ → ℕ → ℕ → ℕ
by_masks ks x y z = masked x y z (word (mask 255 0 0 ks)) (word (mask 0 255 0 ks)) (word (mask 0 0 255 ks))

-- three words by masks: at each place the byte that is picked there
pub masked-word :
    (ks xs ys zs : List ℕ) → Bytes xs → Bytes ys → Bytes zs → by_masks ks (word xs) (word ys) (word zs) ≡ word (picks ks xs ys zs)
unfolding word
masked-word [] xs ys zs ha hb hc = rw (and_zero_r (word xs), and_zero_r (word ys), and_zero_r (word zs))
masked-word (k ∷ ks) xs ys zs ha hb hc =
    let f : 255 < 256 = omega arith in
    let o : 0 < 256 = omega arith in
    let rest = masked-word ks (drop 1 xs) (drop 1 ys) (drop 1 zs) (bytes_drop 1 xs ha) (bytes_drop 1 ys hb) (bytes_drop 1 zs hc) in
    rw (word_first xs, word_first ys, word_first zs)
    (masked-step _ _ _ (word (drop 1 xs)) (word (drop 1 ys)) (word (drop 1 zs)) _ _ _ (word (mask 255 0 0 ks)) (word (mask 0 255 0 ks)) (word (mask 0 0 255 ks))
    (first-lt xs ha) (first-lt ys hb) (first-lt zs hc) (pick-lt k _ _ _ _ f o o) (pick-lt k _ _ _ _ o f o) (pick-lt k _ _ _ _ o o f)
    ∙ ap₂ (λ (u v : ℕ). u + 256 * v) (masked-byte k _ _ _ (first-lt xs ha) (first-lt ys hb) (first-lt zs hc)) rest)

bytes-picks : (ks xs ys zs : List ℕ) → Bytes xs → Bytes ys → Bytes zs → Bytes (picks ks xs ys zs)
bytes-picks [] xs ys zs ha hb hc = tt
bytes-picks (k ∷ ks) xs ys zs ha hb hc =
    let rest = bytes-picks ks (drop 1 xs) (drop 1 ys) (drop 1 zs) (bytes_drop 1 xs ha) (bytes_drop 1 ys hb) (bytes_drop 1 zs hc) in
    (pick-lt k _ _ _ _ (first-lt xs ha) (first-lt ys hb) (first-lt zs hc), rest)

length-picks : (ks xs ys zs : List ℕ) → length (picks ks xs ys zs) ≡ length ks
length-picks [] xs ys zs = refl
length-picks (k ∷ ks) xs ys zs = ap suc (length-picks ks (drop 1 xs) (drop 1 ys) (drop 1 zs))

-- what twelve bytes give, each byte from two places behind, from its own place or from two places before
abbrev pub wovens : List ℕ → List ℕ → List ℕ
wovens ks t = picks ks (take 8 (drop 4 t)) (take 8 (drop 2 t)) (take 8 t)

pub woven-bytes :
    (ks t : List ℕ) (r : ℕ) → Bytes t → r ≡ woven_word t (word (mask 255 0 0 ks)) (word (mask 0 255 0 ks)) (word (mask 0 0 255 ks)) →
    bytes_of (length ks) r ≡ wovens ks t
woven-bytes ks t r h e =
    let x = bytes_take 8 (drop 4 t) (bytes_drop 4 t h) in
    let y = bytes_take 8 (drop 2 t) (bytes_drop 2 t h) in
    let z = bytes_take 8 t h in
    rw (e, masked-word ks _ _ _ x y z, ← length-picks ks (take 8 (drop 4 t)) (take 8 (drop 2 t)) (take 8 t)) (bytes_of-word (wovens ks t) (bytes-picks ks _ _ _ x y z))

-- where a turned number of three bytes begins at the first byte of a word, at its second and at its third
abbrev pub first : List ℕ
first = 0 ∷ 1 ∷ 2 ∷ 0 ∷ 1 ∷ 2 ∷ 0 ∷ 1 ∷ []

abbrev pub second : List ℕ
second = 2 ∷ 0 ∷ 1 ∷ 2 ∷ 0 ∷ 1 ∷ 2 ∷ 0 ∷ []

abbrev pub third : List ℕ
third = 1 ∷ 2 ∷ 0 ∷ 1 ∷ 2 ∷ 0 ∷ 1 ∷ 2 ∷ []

-- the three words' bytes, of the eight numbers that stand behind the first two bytes of s
abbrev three_words : List ℕ → List ℕ
three_words s = (wovens first (take 12 s) ++ wovens second (take 12 (drop 8 s))) ++ wovens third (take 12 (drop 16 s))

pub eight-turned : (s : List ℕ) → length s ≡ 28 → three_words s ≡ turned 3 8 (drop 2 s)
unfolding turned
eight-turned s h = written_out 28 s (λ (t : List ℕ). three_words t ≡ turned 3 8 (drop 2 t)) h refl

abbrev two_blocks : List ℕ → List ℕ
two_blocks s = turned 3 8 (drop 2 (take 28 s)) ++ turned 3 8 (drop 2 (take 28 (drop 24 s)))

pub sixteen-turned : (s : List ℕ) → length s ≡ 52 → two_blocks s ≡ turned 3 16 (drop 2 s)
unfolding turned
sixteen-turned s h = written_out 52 s (λ (t : List ℕ). two_blocks t ≡ turned 3 16 (drop 2 t)) h refl
