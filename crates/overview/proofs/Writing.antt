-- The numbers of epochs in a lent buffer, one epoch behind the other.
-- Assumes nothing.
use Rattle.std.proofs.Common.{Option, Some, None, Ok, Err}
use Rattle.std.specs.Option.{unwrap_or}
use Rattle.rules.specs.declared.Reason.TheVariants as Reason
use mathlib.Core.Path.{◌≡◌, refl, sym, ap, ◌∙◌}
use mathlib.Core.List.{List, [], ◌++◌, append_assoc, append-nil}
use Prim.Native.Nat.{ℕ, suc, ◌+◌, ◌-◌, ◌*◌, ◌≤◌, ◌<◌}
use native.Mathlib.Omega.{arith}
use borrow.Author.Tests.{le-leb, lt-leb}
use lib.IntN.{ℤ, pos}
use lib.ListN.{length, take, drop, length-append, length-drop}
use lib.Seq.{sets, sets-eq, take_at, drop-append-add, drop-drop}
use Rattle.words.specs.Lent.{flat}
use Rattle.recordings.specs.Answers.{value}
use Rattle.samples.specs.declared.Track.{Track}
use Rattle.overview.specs.Overview.{envelope_of, numbers, range_of, RangeAnswer}
use Rattle.overview.specs.Steps.{epoch_numbers, shown, numbers_of, epochs_numbers}
use Rattle.overview.specs.declared.Envelope.{Envelope}

-- an envelope, or the empty one
pub or_empty : (r : Option Envelope) → unwrap_or r (record { smallest = pos 0; largest = pos 0; count = 0 }) ≡ shown r
or_empty None = refl
or_empty (Some x) = refl

-- q epochs are written in front, and with those that are left they are all that is asked for
pub record Writing (s : List ℕ) (t : Track) (first n : ℕ) (out₀ out : List ℤ) (q : ℕ) : Type 0 where
  pub front : List ℤ
  pub long : length front ≡ 3 * q
  pub within : q ≤ n
  pub room : 3 * n ≤ length out₀
  pub holds : out ≡ front ++ drop (3 * q) out₀
  pub same : front ++ epochs_numbers s t (first + q) (n - q) ≡ epochs_numbers s t first n

module _ (s : List ℕ) (t : Track) (first n : ℕ) (out₀ : List ℤ) where
  module _ {out : List ℤ} {q : ℕ} (w : Writing s t first n out₀ out q) where
    pub writing-long : length out ≡ length out₀
    writing-long = ap length w.holds ∙ rw (length-append, length-drop) (omega (arith, w.long, w.within, w.room))

    pub writing-room : q < n → 3 * q + 3 ≤ length out
    writing-room l = omega (arith, writing-long, w.room)

    -- what the code's three stores leave
    stored : (x : Envelope) → q < n → sets out (3 * q) (numbers_of x) ≡ (w.front ++ numbers_of x) ++ drop (3 * (q + 1)) out₀
    stored x l =
        let f : take (3 * q) out ≡ w.front = ap (take (3 * q)) w.holds ∙ take_at w.front (drop (3 * q) out₀) (3 * q) w.long in
        let d : drop (3 * q + 3) out ≡ drop (3 * q + 3) out₀ =
        ap (drop (3 * q + 3)) w.holds
        ∙ (ap (λ (k : ℕ). drop (k + 3) (w.front ++ drop (3 * q) out₀)) (sym w.long)
        ∙ (drop-append-add w.front (drop (3 * q) out₀) 3 ∙ drop-drop 3 (3 * q) out₀)) in
        let z : 3 * (q + 1) ≡ 3 * q + 3 = omega arith in
        sets-eq (numbers_of x) out (3 * q) (writing-room l) ∙ rw (f, d, z)

    pub writing_more : q < n → (x : Envelope) → x ≡ shown (envelope_of (epoch_numbers s t (first + q))) →
        (out₁ : List ℤ) → out₁ ≡ sets out (3 * q) (numbers_of x) →
        Writing s t first n out₀ out₁ (q + 1)
    unfolding epochs_numbers
    writing_more l x h out₁ e =
        let m : n - q ≡ suc (n - (q + 1)) = omega arith in
        let k : suc (first + q) ≡ first + (q + 1) = omega arith in
        record {
          front = w.front ++ numbers_of x;
          long = rw (length-append, w.long) (omega arith);
          within = omega arith;
          room = w.room;
          holds = e ∙ stored x l;
          same =
              let last = numbers_of (shown (envelope_of (epoch_numbers s t (first + q)))) in
              let g : w.front ++ (last ++ epochs_numbers s t (suc (first + q)) (n - (q + 1))) ≡ epochs_numbers s t first n = rw m at w.same in
              append_assoc w.front (numbers_of x) (epochs_numbers s t (first + (q + 1)) (n - (q + 1))) ∙ rw (h, ← k) g;
        }

    pub writing-all : n ≤ q → out ≡ epochs_numbers s t first n ++ drop (3 * n) out₀
    unfolding epochs_numbers
    writing-all l =
        let e : q ≡ n = omega (arith, w.within) in
        let z : n - q ≡ 0 = omega arith in
        let g : w.front ++ [] ≡ epochs_numbers s t first n = rw z at w.same in
        let f : w.front ≡ epochs_numbers s t first n = sym (append-nil w.front) ∙ g in
        w.holds ∙ rw (f, e)

-- The answer and the buffer of a range, by what the reading has of it

module _ (s : List ℕ) (i k first n : ℕ) (out : List ℤ) where
  module _ {xs : List (Option Envelope)} (h : range_of s i k first n ≡ value xs) where
    pub range-short : length out < 3 * n → RangeAnswer s i k first n out out (Err (record { 0 = Reason.Room; 1 = 3 * n }))
    range-short l = record { answer = rw (h, lt-leb (3 * n) (length out) l); buffer = rw (h, lt-leb (3 * n) (length out) l) }

    pub range-written : (t : Track) → flat numbers xs ≡ epochs_numbers s t first n → 3 * n ≤ length out →
        (out' : List ℤ) → out' ≡ epochs_numbers s t first n ++ drop (3 * n) out → RangeAnswer s i k first n out out' (Ok n)
    range-written t e l out' g = record { answer = rw (h, le-leb (3 * n) (length out) l); buffer = rw (h, le-leb (3 * n) (length out) l, e) g }
