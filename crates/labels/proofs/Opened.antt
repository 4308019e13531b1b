-- A file is its name, its version and the rest; the rest under one version's rules is stricter than under those of 000300.
-- Assumes nothing.
use mathlib.Core.Path.{◌≡◌, ap, ◌∙◌}
use mathlib.Core.Bool.{true, ◌||◌}
use mathlib.Core.List.{List, ◌∷◌}
use mathlib.Core.Option.{none}
use Prim.Native.Nat.{ℕ, ◌-◌, ◌≤◌, ◌<◌}
use native.Mathlib.Omega.{arith}
use lib.Dec.{leb, eqb}
use lib.ListN.{length, get_or}
use Rattle.words.specs.Numbers.{Bytes, letter_of}
use Rattle.words.specs.declared.Order.TheVariants.{Little}
use Rattle.walk.specs.Plays.{Plays, gives}
use Rattle.walk.specs.Walk.{Letter, Text, Event, piece, Walk, give, read, ◌>>=◌, ◌>>◌, require, text}
use Rattle.walk.proofs.Laws.{by_parts, plays-gave, plays-bind, checked, taken}
use Rattle.walk.proofs.Ordered.{Orders, kept, tighter, takes, ordered-bind}
use Rattle.rules.specs.Rules.{same_bytes, is_spelling, spelling_of, version_of, allows, formed, is_form, form_of, all_spaces, count_of, count_fits, count_is, is_script, file_header, Placed, recordings, File, file}
use Rattle.rules.specs.declared.Form.{Form}
use Rattle.rules.specs.declared.Form.TheVariants as Form
use Rattle.rules.specs.declared.Spelling.{Spelling}
use Rattle.rules.specs.declared.Version.{Version}
use Rattle.rules.specs.declared.Version.TheVariants as Version
use Rattle.labels.specs.Relabelled.{with_version}
use Rattle.labels.proofs.Ordered.{or-wider, and-wider, ordered-recordings, spent}

-- what the header says behind the version
pub record Others : Type 0 where
  pub form : Form
  pub script : ℕ
  pub count : ℕ

unfoldable pub others : Version → Walk Others
others w = do
  f ← text 2
  require (is_form w f) 4 2
  letter ← read Letter 1 give
  require (eqb (get_or letter 0 0) (letter_of Little)) 5 1
  script ← text 1
  require (is_script w (get_or script 0 0)) 6 1
  digits ← text 4
  require (count_fits (count_of digits)) 7 4
  spaces ← text 10
  require (all_spaces spaces) 8 10
  give (record { form = form_of f; script = get_or script 0 0; count = count_is (count_of digits) })

abbrev pub made : Spelling → Version → Others → List Placed → File
made name x f rs = record { heading = record { spelling = name; label = record { version = x; form = f.form }; script = f.script }; recordings = rs }

-- the rest of a file of n bytes by the rules of w, said to be of x
unfoldable pub rest : ℕ → Spelling → Version → Version → Walk File
rest n name w x = others w >>= λ f. recordings (record { version = w; form = f.form }) f.count none (n - 32) 1 >>= λ rs. give (made name x f rs)

-- what is said of the version is all that changes
pub renamed : (n : ℕ) (name : Spelling) (w x y : Version) {t : List Event} {v : File} → Plays t (rest n name w x) v → Plays t (rest n name w y) (with_version y v)
unfolding rest
renamed n name w x y p =
    by_parts (others w) _ p λ f t u j p₁ p.
    by_parts (recordings (record { version = w; form = f.form }) f.count none (n - 32) 1) _ p λ rs t' u' j' p₂ p.
    rw (← j) (plays-bind _ p₁ (rw (← j') (plays-bind _ p₂ (last f rs p))))
  where
    last : (f : Others) (rs : List Placed) {u : List Event} {v : File} → Plays u (give (made name x f rs)) v → Plays u (give (made name y f rs)) (with_version y v)
    last f rs gives = gives

-- the version in the value is the one that is said
pub said : (n : ℕ) (name : Spelling) (w x : Version) {t : List Event} {v : File} → Plays t (rest n name w x) v → v.heading.label.version ≡ x
unfolding rest
said n name w x p =
    by_parts (others w) _ p λ f _ _ _ _ p.
    by_parts (recordings (record { version = w; form = f.form }) f.count none (n - 32) 1) _ p λ rs _ _ _ _ p.
    ap (λ (v : File). v.heading.label.version) (plays-gave p)

-- a version is stricter than 000300

form-wider : (w : Version) (f : List ℕ) → is_form w f ≡ true → is_form Version.V300 f ≡ true
unfolding allows
form-wider w f h = or-wider (same_bytes f (formed Form.Channels)) _ _ (and-wider (allows w).electrodes (same_bytes f (formed Form.Electrodes))) h

script-wider : (w : Version) (b : ℕ) → is_script w b ≡ true → is_script Version.V300 b ≡ true
unfolding allows
script-wider w b h = or-wider (eqb b 83 || eqb b 74 || eqb b 69) _ _ (and-wider (allows w).unicode (eqb b 85)) h

-- no place behind byte 14 is tested before
pub ordered-others : (w : Version) → Orders 0 (others w) (others Version.V300) 0
unfolding others ◌>>=◌ ◌>>◌
ordered-others w =
    let y : 0 < 2 = omega arith in
    let z : 0 < 1 = omega arith in
    let a : 2 ≤ 2 = omega arith in
    let b : 1 ≤ 3 = omega arith in
    takes λ f. tighter (form-wider w f) y a (takes λ _. kept (takes λ script. tighter (script-wider w (get_or script 0 0)) z b spent))

pub ordered-rest : (n : ℕ) (name : Spelling) (w x : Version) → Orders 0 (rest n name w x) (rest n name Version.V300 x) 0
unfolding rest
ordered-rest n name w x = ordered-bind (ordered-others w) λ f. ordered-bind (ordered-recordings (record { version = w; form = f.form }) f.count none (n - 32) 1) λ _. spent

-- events that are accepted, and the same with another version
pub record Opened (n : ℕ) (t : List Event) (v : File) : Type 0 where
  pub id : List ℕ
  pub label : List ℕ
  pub others : List Event
  pub events : t ≡ piece Text id ∷ piece Text label ∷ others
  pub long : length id ≡ 8
  pub wide : length label ≡ 6
  pub plays : Plays others (rest n (spelling_of id) (version_of label) (version_of label)) v
  pub enough : leb 32 n ≡ true
  pub spelling : is_spelling id ≡ true
  pub bytes : Bytes id

pub opened : (n : ℕ) {t : List Event} {v : File} → Plays t (file n) v → Opened n t v
unfolding file file_header rest others ◌>>=◌ ◌>>◌
opened n p =
    let c = checked p in
    let i = taken c.then in
    let d = checked i.then in
    let j = taken d.then in
    let e = checked j.then in
    record {
      id = i.bytes;
      label = j.bytes;
      others = j.others;
      events = i.split ∙ ap (λ (u : List Event). piece Text i.bytes ∷ u) j.split;
      long = i.width;
      wide = j.width;
      plays = e.then;
      enough = c.holds;
      spelling = d.holds;
      bytes = i.small;
    }
