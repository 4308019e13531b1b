-- Bytes that name one of several things: each text is told from the others, and no other bytes name one. The spellings, the versions and the forms.
-- Assumes nothing.
use mathlib.Core.Path.{◌≡◌, refl}
use mathlib.Core.Bool.{Bool, true, false, ◌&&◌, ◌||◌}
use mathlib.Core.List.{List, [], ◌∷◌}
use Prim.Native.Nat.{ℕ}
use native.Mathlib.Omega.{arith}
use borrow.Author.Tests.{eqb-true, eq-eqb}
use lib.Dec.{eqb}
use lib.ListN.{length}
use Rattle.words.specs.Numbers.{Bytes}
use Rattle.walk.proofs.Apart.{false-true}
use Rattle.rules.specs.Rules.{same_bytes, is_one_of, one_of, spelled, is_spelling, spelling_of, versioned, is_version, version_of, allows, formed, is_form, form_of}
use Rattle.rules.specs.declared.Form.{Form}
use Rattle.rules.specs.declared.Form.TheVariants as Form
use Rattle.rules.specs.declared.Spelling.{Spelling}
use Rattle.rules.specs.declared.Spelling.TheVariants as Spelling
use Rattle.rules.specs.declared.Version.{Version}
use Rattle.rules.specs.declared.Version.TheVariants as Version
use Rattle.rules.proofs.Renew.{and-true, and_both}

pub same-is : (a b : List ℕ) → same_bytes a b ≡ true → a ≡ b
unfolding same_bytes
same-is [] [] h = refl
same-is [] (y ∷ b) h = false-true h
same-is (x ∷ a) [] h = false-true h
same-is (x ∷ a) (y ∷ b) h = let k = and-true (eqb x y) (same_bytes a b) h in λ i. eqb-true x y k.0 i ∷ same-is a b k.1 i

same_self : (a : List ℕ) → same_bytes a a ≡ true
unfolding same_bytes
same_self [] = refl
same_self (x ∷ a) = and_both (eqb x x) (same_bytes a a) (eq-eqb x x refl) (same_self a)

-- what one of several is written with, n bytes
pub record Named {A : Type 0} (text : A → List ℕ) (a : A) (others : List A) (n : ℕ) (x : A) : Type 0 where
  pub long : length (text x) ≡ n
  pub bytes : Bytes (text x)
  pub one : is_one_of text a others (text x) ≡ true
  pub same : one_of text a others (text x) ≡ x

-- bytes that name one are the text of the one that they are read as
named-as : {A : Type 0} (text : A → List ℕ) (a : A) (others : List A) (bs : List ℕ) → is_one_of text a others bs ≡ true → bs ≡ text (one_of text a others bs)
unfolding is_one_of one_of
named-as text a [] bs h = same-is bs (text a) h
named-as text a (b ∷ others) bs h = go (named-as text b others bs) (same_bytes bs (text a)) refl
  where
    go : (is_one_of text b others bs ≡ true → bs ≡ text (one_of text b others bs)) → (c : Bool) → same_bytes bs (text a) ≡ c → bs ≡ text (one_of text a (b ∷ others) bs)
    go f true e = rw (one_of, e) (same-is bs (text a) e)
    go f false e = rw (one_of, e) (f (rw (is_one_of, e) at h))

-- a spelling
pub spells : (x : Spelling) → Named spelled Spelling.Spg (Spelling.Psg ∷ []) 8 x
unfolding spelled same_bytes is_one_of one_of
spells Spelling.Spg = record { long = refl; bytes = omega arith; one = refl; same = refl }
spells Spelling.Psg = record { long = refl; bytes = omega arith; one = refl; same = refl }

pub spelled_as : (bs : List ℕ) → is_spelling bs ≡ true → bs ≡ spelled (spelling_of bs)
spelled_as = named-as spelled Spelling.Spg (Spelling.Psg ∷ [])

-- a version
pub versions : (x : Version) → Named versioned Version.V100 (Version.V110 ∷ Version.V200 ∷ Version.V300 ∷ []) 6 x
unfolding versioned same_bytes is_one_of one_of
versions Version.V100 = record { long = refl; bytes = omega arith; one = refl; same = refl }
versions Version.V110 = record { long = refl; bytes = omega arith; one = refl; same = refl }
versions Version.V200 = record { long = refl; bytes = omega arith; one = refl; same = refl }
versions Version.V300 = record { long = refl; bytes = omega arith; one = refl; same = refl }

pub versioned-as : (bs : List ℕ) → is_version bs ≡ true → bs ≡ versioned (version_of bs)
versioned-as = named-as versioned Version.V100 (Version.V110 ∷ Version.V200 ∷ Version.V300 ∷ [])

-- a form
pub forms : (x : Form) → Named formed Form.Channels (Form.Electrodes ∷ []) 2 x
unfolding formed same_bytes is_one_of one_of
forms Form.Channels = record { long = refl; bytes = omega arith; one = refl; same = refl }
forms Form.Electrodes = record { long = refl; bytes = omega arith; one = refl; same = refl }

-- one that a version allows is one of the two
pub formed-as : (v : Version) (bs : List ℕ) → is_form v bs ≡ true → bs ≡ formed (form_of bs)
unfolding is_one_of
formed-as v bs h = named-as formed Form.Channels (Form.Electrodes ∷ []) bs (wider (same_bytes bs (formed Form.Channels)) (allows v).electrodes (same_bytes bs (formed Form.Electrodes)) h)
  where
    wider : (a e b : Bool) → a || (e && b) ≡ true → a || b ≡ true
    wider true e b h = refl
    wider false true b h = h
    wider false false b h = false-true h
