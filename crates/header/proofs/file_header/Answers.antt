-- `header::file_header` meets its contract: each return is where the walk's tests stop, or hold, one after the other.
-- Assumes nothing.
use Rattle.rules.proofs.Handed.{lacked}
use Rattle.std.proofs.Common.{Option, Some}
use mathlib.Core.Path.{◌≡◌, sym, ap, ◌∙◌}
use mathlib.Core.List.{List}
use Prim.Native.Nat.{ℕ}
use borrow.Author.Tests.{le-leb, lt-leb}
use lib.ListN.{get_or}
use Rattle.words.specs.Numbers.{bytes_at}
use Rattle.words.specs.declared.Order.{Order}
use Rattle.walk.specs.See.{goes}
use Rattle.rules.specs.Rules.{is_one_of, spelled, version_of, is_form, is_script}
use Rattle.rules.specs.declared.Version.{Version}
use Rattle.records.proofs.Facts.{between_in}
use Rattle.header.specs.Letters.{lettered}
use Rattle.header.specs.Opened.{names}
use Rattle.header.proofs.Opening.{letter-order, header-open, passing, stopping, walk, from_spelling, from_version, from_form, from_letter, from_script, from_count, from_spaces}
use Rattle.header.proofs.file_header.Goals as goal
use Rattle.header.proofs.file_header.Goals.{After-between, After-form_ok, After-is_one_of, After-is_version, After-order_of, After-script_ok, After-spaces}

-- the file, as it is known behind each test
abbrev file-length : After-is_one_of → List ℕ
file-length c = c.args.s.now

abbrev file-spelling : After-is_version → List ℕ
file-spelling c = file-length (goal.at.After-is_version c).After-is_one_of

abbrev file-version : After-form_ok → List ℕ
file-version c = file-spelling (goal.at.After-form_ok c).After-is_version

abbrev file-form : After-order_of → List ℕ
file-form c = file-version (goal.at.After-order_of c).After-form_ok

abbrev file-letter : After-script_ok → List ℕ
file-letter c = file-form (goal.at.After-script_ok c).After-order_of

abbrev file-script : After-between → List ℕ
file-script c = file-letter (goal.at.After-between c).After-script_ok

abbrev file-count : After-spaces → List ℕ
file-count c = file-script (goal.at.After-spaces c).After-between

-- what the letter names, by the answer of `order_of`
letter-is : (c : After-order_of) {a : Option Order} → c.order_of.result ≡ a → lettered (get_or (file-form c) 16 0) ≡ a
letter-is c e = sym (ap lettered c.byte.ensures.0) ∙ (sym c.order_of.ensures ∙ e)

-- what `ok_or` makes of it
names-order : (c : After-script_ok) → c.order_of.result ≡ Some c.in_ok-order.order
names-order c = c.in_ok-order.ensures.ok_part

-- the walk, behind each test that is passed
past-length : (c : After-is_one_of) → walk (file-length c) ≡ from_spelling (file-length c)
past-length c = passing _ _ _ _ (header-open (file-length c)) (le-leb 32 _ c.if-s-lt-LENGTH.false)

past-spelling : (c : After-is_version) → walk (file-spelling c) ≡ from_version (file-spelling c)
unfolding bytes_at is_one_of spelled
past-spelling c = passing _ _ _ _ (past-length (goal.at.After-is_version c).After-is_one_of) (sym c.is_one_of.ensures ∙ c.if-not-is_one_of.false)

past-version : (c : After-form_ok) → walk (file-version c) ≡ from_form (file-version c)
unfolding bytes_at
past-version c = passing _ _ _ _ (past-spelling (goal.at.After-form_ok c).After-is_version) (sym c.is_version.ensures ∙ c.if-not-is_version.false)

-- the version, by the answer of `version_of`
version-is : (c : After-form_ok) → c.version_of-version.result ≡ version_of (bytes_at 6 (file-version c) 8)
unfolding bytes_at
version-is c = c.version_of-version.ensures

-- whether the version has the form, by the answer of `form_ok`
form-is : (c : After-form_ok) → c.form_ok.result ≡ is_form (version_of (bytes_at 6 (file-version c) 8)) (bytes_at 2 (file-version c) 14)
unfolding bytes_at
form-is c = c.form_ok.ensures ∙ ap (λ (v : Version). is_form v (bytes_at 2 (file-version c) 14)) (version-is c)

past-form : (c : After-order_of) → walk (file-form c) ≡ from_letter (file-form c)
past-form c = passing _ _ _ _ (past-version (goal.at.After-order_of c).After-form_ok) (sym (form-is (goal.at.After-order_of c).After-form_ok) ∙ c.if-not-form_ok.false)

past-letter : (c : After-script_ok) → walk (file-letter c) ≡ from_script (file-letter c)
past-letter c = passing _ _ _ _ (past-form (goal.at.After-script_ok c).After-order_of) (ap names (letter-is (goal.at.After-script_ok c).After-order_of (names-order c)))

-- whether the version has the script, by the answer of `script_ok`
script-is : (c : After-script_ok) → c.script_ok.result ≡ is_script (version_of (bytes_at 6 (file-letter c) 8)) (get_or (file-letter c) 17 0)
script-is c =
    let v = version-is (goal.at.After-script_ok c).After-form_ok in
    c.script_ok.ensures ∙ (λ i. is_script (v i) (c.byte-script.ensures.0 i))

past-script : (c : After-between) → walk (file-script c) ≡ from_count (file-script c)
past-script c = passing _ _ _ _ (past-letter (goal.at.After-between c).After-script_ok) (sym (script-is (goal.at.After-between c).After-script_ok) ∙ c.if-not-script_ok.false)

past-count : (c : After-spaces) → walk (file-count c) ≡ from_spaces (file-count c)
unfolding bytes_at
past-count c = passing _ _ _ _ (past-script (goal.at.After-spaces c).After-between) (rw c.count_of-count.ensures at (sym c.between.ensures ∙ c.if-not-between.false))

pub returns-then-s-lt-LENGTH : goal.returns-then-s-lt-LENGTH
returns-then-s-lt-LENGTH c = record { walk = stopping _ _ _ _ (header-open _) (lt-leb 32 _ c.if-s-lt-LENGTH.true); named = tt }

pub returns-then-not-is_one_of : goal.returns-then-not-is_one_of
unfolding bytes_at is_one_of spelled
returns-then-not-is_one_of c = record { walk = stopping _ _ _ _ (past-length (goal.at.returns-then-not-is_one_of c).After-is_one_of) (sym c.is_one_of.ensures ∙ c.if-not-is_one_of.true); named = tt }

pub returns-then-not-is_version : goal.returns-then-not-is_version
unfolding bytes_at
returns-then-not-is_version c = record { walk = stopping _ _ _ _ (past-spelling (goal.at.returns-then-not-is_version c).After-is_version) (sym c.is_version.ensures ∙ c.if-not-is_version.true); named = tt }

pub returns-then-not-form_ok : goal.returns-then-not-form_ok
returns-then-not-form_ok c = record { walk = stopping _ _ _ _ (past-version (goal.at.returns-then-not-form_ok c).After-form_ok) (sym (form-is (goal.at.returns-then-not-form_ok c).After-form_ok) ∙ c.if-not-form_ok.true); named = tt }

pub returns-in_err-order : goal.returns-in_err-order
returns-in_err-order c =
    let none = c.in_err-order.ensures.ok_part in
    rw (lacked _ none c.in_err-order.ensures.value c.from_residual.ensures)
    (record { walk = stopping _ _ _ _ (past-form (goal.at.returns-in_err-order c).After-order_of) (ap names (letter-is (goal.at.returns-in_err-order c).After-order_of none)); named = tt })

pub returns-then-not-script_ok : goal.returns-then-not-script_ok
returns-then-not-script_ok c = record {
  walk = stopping _ _ _ _ (past-letter (goal.at.returns-then-not-script_ok c).After-script_ok) (sym (script-is (goal.at.returns-then-not-script_ok c).After-script_ok) ∙ c.if-not-script_ok.true);
  named = tt;
}

pub returns-then-not-between : goal.returns-then-not-between
unfolding bytes_at
returns-then-not-between c = record {
  walk = stopping _ _ _ _ (past-script (goal.at.returns-then-not-between c).After-between) (rw c.count_of-count.ensures at (sym c.between.ensures ∙ c.if-not-between.true));
  named = tt;
}

pub returns-then-not-spaces : goal.returns-then-not-spaces
unfolding bytes_at
returns-then-not-spaces c = record { walk = stopping _ _ _ _ (past-count (goal.at.returns-then-not-spaces c).After-spaces) (sym c.spaces.ensures ∙ c.if-not-spaces.true); named = tt }

pub returns : goal.returns
unfolding bytes_at
returns c =
    let k = between_in 1 64 c.count_of-count.result (sym c.between.ensures ∙ c.if-not-between.false) in
    let sp = sym c.spelling_of.ensures in
    let v = sym (version-is (goal.at.returns c).After-form_ok) in
    let f = sym c.form_of.ensures in
    let b = sym c.byte-script.ensures.0 in
    let n = sym c.count_of-count.ensures in
    record {
      walk = passing _ _ _ _ (past-count (goal.at.returns c).After-spaces) (sym c.spaces.ensures ∙ c.if-not-spaces.false) ∙
          (λ i. goes (record { heading = record { spelling = sp i; label = record { version = v i; form = f i }; script = b i }; count = n i }) 32);
      named = record { order = sym (letter-order _ _ (letter-is (goal.at.returns c).After-order_of (names-order (goal.at.returns c).After-script_ok))); one = k.0; few = k.1; long = c.if-s-lt-LENGTH.false };
    }
