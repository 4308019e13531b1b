-- Document 01's worked values, and the smallest file with samples.
-- Assumes nothing.
use Rattle.std.specs.Prelude.{◌≡◌, List, [], ◌∷◌, ◌++◌, ℕ, ◌+◌, pos, negsuc, length, take, drop, replicate}
use Rattle.words.specs.declared.Order.{Order}
use Rattle.words.specs.declared.Order.TheVariants.{Little, Big}
use Rattle.words.specs.Numbers.{letter_of, word_in, bytes_in}
use Rattle.words.specs.Values.{signed}
use Rattle.walk.specs.Walk.{Row, Outcome, refused}
use Rattle.rules.specs.declared.Version.TheVariants as Version
use Rattle.rules.specs.Rules.{File, length_of, samples_of, spelled, versioned, formed}
use Rattle.rules.specs.declared.Form.{Form}
use Rattle.rules.specs.declared.Form.TheVariants as Form
use Rattle.rules.specs.declared.Spelling.TheVariants as Spelling
use Rattle.rules.specs.Canonical.{multiplier_for, size_for}

-- the twelve that form the proved table, each by its number in document 01
pub record WorkedValues : Type 0 where
  pub one : signed 2 (word_in Little (255 ∷ 127 ∷ [])) ≡ pos 32_767
  pub two : signed 2 (word_in Little (0 ∷ 128 ∷ [])) ≡ negsuc 32_767
  pub three : signed 3 (word_in Little (0 ∷ 0 ∷ 128 ∷ [])) ≡ negsuc 8_388_607
  pub four : signed 3 (word_in Big (128 ∷ 0 ∷ 0 ∷ [])) ≡ negsuc 8_388_607
  pub five : (o : Order) → signed 3 (word_in o (255 ∷ 255 ∷ 255 ∷ [])) ≡ negsuc 0
  pub six : length_of 20_000_000 128 ≡ 2_560_000_000
  pub seven : length_of 16 1 ≡ 16
  pub eight : samples_of 10 0 200 ≡ 2_000
  pub nine : samples_of 10 1 5_000 ≡ 2_000
  pub ten : multiplier_for 2_147_483_647 ≡ 0
  pub eleven : (multiplier_for 2_147_483_648 ≡ 2) × (size_for 2_147_483_648 ≡ 1_073_741_824)
  pub twelve : (multiplier_for 4_294_967_295 ≡ 3) × (size_for 4_294_967_295 ≡ 1_431_655_765)

-- periods that do not divide: 3906 microseconds in 1 second and in 30; 3 in 1; and one for which it matters that all T seconds are divided
pub record WorkedPeriods : Type 0 where
  pub second : samples_of 1 1 3_906 ≡ 256
  pub thirty : samples_of 30 1 3_906 ≡ 7_680
  pub three : samples_of 1 1 3 ≡ 333_333
  pub seconds : samples_of 30 1 700_000 ≡ 42
  -- none where the period is longer than T
  pub none : samples_of 1 1 1_000_001 ≡ 0

-- The smallest file with samples, 562 bytes, in an order: one 1 Hz 16-bit channel, no patient items, T 1, one frame.
-- And the smallest one of electrodes, with a montage: one electrode of type 101, and one channel of it against earth

abbrev zeros : ℕ → List ℕ
zeros n = replicate n 0

abbrev head : Order → ℕ → ℕ → ℕ → List ℕ
head o size code serial = bytes_in o 4 size ++ (bytes_in o 4 code ++ (bytes_in o 4 serial ++ zeros 4))

-- the head of a record with one sub, and the sub's
abbrev group : Order → ℕ → ℕ → List ℕ
group o code sub = head o 288 code 0 ++ (bytes_in o 4 1 ++ (bytes_in o 4 256 ++ zeros 8)) ++ head o 256 sub 1

-- of this form: so many bytes in the recording, the codes of its channels, their type, and what stands behind the patient items
unfoldable pub smallest_of : Form → ℕ → ℕ → ℕ → ℕ → (Order → List ℕ) → Order → List ℕ
smallest_of f bytes code sub type montage o =
    spelled Spelling.Spg ++ (versioned Version.V300 ++ (formed f ++ (letter_of o ∷ 83 ∷ 49 ∷ 32 ∷ 32 ∷ 32 ∷ replicate 10 32))) ++
    (head o bytes 10 1 ++
    (head o 128 100 0 ++ (bytes_in o 4 1 ++ (bytes_in o 4 1 ++ (bytes_in o 4 1 ++ zeros 100))) ++
    (group o code sub ++ (bytes_in o 4 1 ++ (zeros 4 ++ (bytes_in o 4 type ++ (bytes_in o 4 1 ++ (bytes_in o 4 1 ++ zeros 220))))) ++
    (head o 24 130 0 ++ zeros 8 ++
    (montage o ++
    (head o 58 140 0 ++ (bytes_in o 4 1 ++ (bytes_in o 4 26 ++ (bytes_in o 4 1 ++ zeros 4))) ++
    (head o 26 145 1 ++ (zeros 8 ++ bytes_in o 2 32_767) ++
    zeros 16)))))))

-- a 350 whose channel has the electrode 1 as G1, and earth as G2
abbrev pub montage_in : Order → List ℕ
montage_in o = group o 350 355 ++ (zeros 88 ++ (bytes_in o 4 1 ++ zeros 148))

abbrev pub smallest_in : Order → List ℕ
smallest_in = smallest_of Form.Channels 530 120 125 4 (λ _. [])

abbrev pub electrodes_in : Order → List ℕ
electrodes_in = smallest_of Form.Electrodes 818 320 325 101 montage_in

unfoldable pub smallest : List ℕ
smallest = smallest_in Little

unfoldable pub electrodes : List ℕ
electrodes = electrodes_in Little

-- and their records, in either order
unfoldable pub row : ℕ → ℕ → ℕ → ℕ → Row
row start size code serial = record { start = start; size = size; code = code; serial = serial }

unfoldable pub listing : List Row
listing =
    row 32 530 10 1 ∷
    row 48 128 100 0 ∷
    row 176 288 120 0 ∷
    row 208 256 125 1 ∷
    row 464 24 130 0 ∷
    row 488 58 140 0 ∷
    row 520 26 145 1 ∷
    row 546 16 0 0 ∷ []

unfoldable pub electrodes_listing : List Row
electrodes_listing =
    row 32 818 10 1 ∷
    row 48 128 100 0 ∷
    row 176 288 320 0 ∷
    row 208 256 325 1 ∷
    row 464 24 130 0 ∷
    row 488 288 350 0 ∷
    row 520 256 355 1 ∷
    row 776 58 140 0 ∷
    row 808 26 145 1 ∷
    row 834 16 0 0 ∷ []

-- Files that are refused: the smallest file cut, with bytes written over it, or with bytes behind it. One for each number from 1 to 16

abbrev written : List ℕ → ℕ → List ℕ → List ℕ
written s at bs = take at s ++ (bs ++ drop (at + length bs) s)

abbrev pub with : ℕ → List ℕ → List ℕ
with = written smallest

abbrev pub with_electrodes : ℕ → List ℕ → List ℕ
with_electrodes = written electrodes

-- in the other spelling
abbrev pub respelled : List ℕ
respelled = with 5 (80 ∷ 83 ∷ [])

-- its channel has a period, these bytes of microseconds
abbrev pub with_period : List ℕ → List ℕ
with_period period = with 228 ((1 ∷ 0 ∷ 0 ∷ 0 ∷ 4 ∷ 0 ∷ 0 ∷ 0 ∷ 1 ∷ 0 ∷ 0 ∷ 0 ∷ []) ++ period)

pub record WorkedRefusals (judge : List ℕ → Outcome File) : Type 0 where
  pub one : judge (take 31 smallest) ≡ refused 1 0
  pub two : judge (with 7 (70 ∷ [])) ≡ refused 2 0
  -- JSSR-SSG: of neither spelling
  pub spelling : judge (with 6 (83 ∷ [])) ≡ refused 2 0
  pub three : judge (with 13 (49 ∷ [])) ≡ refused 3 8
  pub four : judge (with 15 (50 ∷ [])) ≡ refused 4 14
  pub five : judge (with 16 (77 ∷ [])) ≡ refused 5 16
  pub six : judge (with 17 (65 ∷ [])) ≡ refused 6 17
  pub seven : judge (with 18 (54 ∷ 53 ∷ [])) ≡ refused 7 18
  pub eight : judge (with 31 (0 ∷ [])) ≡ refused 8 22
  pub nine : judge (with 52 (101 ∷ [])) ≡ refused 9 52
  pub ten : judge (with 32 (19 ∷ [])) ≡ refused 10 32
  pub eleven : judge (with 44 (129 ∷ [])) ≡ refused 11 44
  pub twelve : judge (with 40 (2 ∷ [])) ≡ refused 12 40
  pub thirteen : judge (with 68 (129 ∷ [])) ≡ refused 13 68
  pub fourteen : judge (with 192 (2 ∷ [])) ≡ refused 14 192
  pub fifteen : judge (with 32 (177 ∷ 0 ∷ 0 ∷ 0 ∷ 10 ∷ 0 ∷ 0 ∷ 0 ∷ 1 ∷ 0 ∷ 0 ∷ 0 ∷ 3 ∷ []) ++ (5 ∷ [])) ≡ refused 15 562
  pub sixteen : judge (smallest ++ (0 ∷ [])) ≡ refused 16 562
  -- a period of 1,000,001 microseconds leaves T 1 without a sample; 29 February 1900
  pub period : judge (with_period (65 ∷ 66 ∷ 15 ∷ [])) ≡ refused 14 504
  pub leap : judge (with 80 (108 ∷ 7 ∷ 0 ∷ 0 ∷ 2 ∷ 0 ∷ 0 ∷ 0 ∷ 29 ∷ [])) ≡ refused 13 88
  -- type 101 is an electrode's
  pub type : judge (with 232 (101 ∷ [])) ≡ refused 13 232
  -- a negative electrode code; the montage's count, above 128 or not the size's; G1's high 16 bits 4, and G2 an electrode that there is not
  pub code : judge (with_electrodes 227 (128 ∷ [])) ≡ refused 13 224
  pub montage : judge (with_electrodes 504 (129 ∷ [])) ≡ refused 13 504
  pub size : judge (with_electrodes 504 (2 ∷ [])) ≡ refused 14 504
  pub g1 : judge (with_electrodes 624 (0 ∷ 0 ∷ 4 ∷ [])) ≡ refused 13 624
  pub g2 : judge (with_electrodes 628 (2 ∷ [])) ≡ refused 13 628
  -- records of the other form: a 120 in form 01, a 320 in form 00, and a 350 there
  pub channels : judge (with 15 (49 ∷ [])) ≡ refused 9 180
  pub electrodes : judge (with_electrodes 15 (48 ∷ [])) ≡ refused 9 180
  pub form : judge (smallest_of Form.Channels 818 120 125 4 montage_in Little) ≡ refused 9 492
