-- The night events as a list over the reading alone, without the file's bytes: the form in which the list is exact.
-- Assumes nothing.
use mathlib.Core.Path.{◌≡◌, refl, sym, ap, ◌∙◌}
use mathlib.Core.List.{List, [], ◌∷◌, ◌++◌, append-nil, append_assoc}
use Prim.Native.Nat.{ℕ, suc, ◌+◌}
use native.Mathlib.Nat.{add-zero}
use native.Mathlib.Omega.{arith}
use lib.ListN.{length, take, get_or}
use lib.Seq.{take-suc, length-take-le}
use Rattle.walk.specs.Walk.{pick}
use Rattle.rules.specs.Rules as R
use Rattle.recordings.proofs.Chosen.{One}
use Rattle.index.specs.Events.{Entry, of_events, last_of, codes_in, sample_entries}
use Rattle.index.proofs.Sampling.{last-append}

-- of a recording and a frame
module _ (i j : ℕ) where
  -- channel c, from 0, and its samples; these frames of the recording stand before
  abbrev pub one_channel : List R.Frame → ℕ → R.Channel → List ℕ → List Entry
  one_channel before c y l = pick (of_events y) (sample_entries i j (suc c) 0 (last_of 0 (codes_in c before)) l) []

  -- the channels from k on, from 0, each with its samples
  unfoldable pub channels_read : List R.Frame → ℕ → List R.Channel → List (List ℕ) → List Entry
  channels_read before k [] ss = []
  channels_read before k (c ∷ cs) [] = []
  channels_read before k (c ∷ cs) (s ∷ ss) = one_channel before k c s ++ channels_read before (suc k) cs ss

-- the frames from this one on, of a recording with these channels
unfoldable pub frames_read : (recording frame : ℕ) → List R.Channel → List R.Frame → List R.Frame → List Entry
frames_read recording frame cs before [] = []
frames_read recording frame cs before (f ∷ fs) =
    channels_read recording frame before 0 cs f.channels ++ frames_read recording (suc frame) cs (before ++ (f ∷ [])) fs

abbrev pub recording_read : ℕ → R.Recording → List Entry
recording_read recording r = frames_read recording 1 r.channels [] r.frames

unfoldable pub recordings_read : ℕ → List R.Recording → List Entry
recordings_read recording [] = []
recordings_read recording (r ∷ rs) = recording_read recording r ++ recordings_read (suc recording) rs

abbrev pub entries_read : R.Contents → List Entry
entries_read v = recordings_read 1 v.recordings

-- One frame more

codes-append : (k : ℕ) (fs gs : List R.Frame) → codes_in k (fs ++ gs) ≡ codes_in k fs ++ codes_in k gs
unfolding codes_in
codes-append k [] gs = refl
codes-append k (f ∷ fs) gs = rw (codes-append k fs gs, append_assoc)

-- the last code of a channel behind it
pub last_frame : (k : ℕ) (fs : List R.Frame) (f : R.Frame) →
    last_of 0 (codes_in k (fs ++ (f ∷ []))) ≡ last_of (last_of 0 (codes_in k fs)) (get_or f.channels k [])
unfolding codes_in
last_frame k fs f = rw (codes-append k fs (f ∷ []), append-nil (get_or f.channels k [])) (last-append 0 (codes_in k fs) (get_or f.channels k []))

module _ (i : ℕ) (cs : List R.Channel) where
  frames-append : (j : ℕ) (before fs : List R.Frame) (f : R.Frame) →
      frames_read i j cs before (fs ++ (f ∷ [])) ≡ frames_read i j cs before fs ++ channels_read i (j + length fs) (before ++ fs) 0 cs f.channels
  unfolding frames_read
  frames-append j before [] f = rw (add-zero j, append-nil before) (append-nil _)
  frames-append j before (g ∷ fs) f =
      let d : suc j + length fs ≡ j + suc (length fs) = omega arith in
      rw (frames-append (suc j) (before ++ (g ∷ [])) fs f, d, append_assoc before (g ∷ []) fs)
      (sym (append_assoc (channels_read i j before 0 cs g.channels) (frames_read i (suc j) cs (before ++ (g ∷ [])) fs)
      (channels_read i (j + suc (length fs)) (before ++ (g ∷ fs)) 0 cs f.channels)))

  -- of a recording
  pub frames-more : (j : ℕ) (fs : List R.Frame) (f : R.Frame) → One fs j f →
      frames_read i 1 cs [] (take (suc j) fs) ≡ frames_read i 1 cs [] (take j fs) ++ channels_read i (suc j) (take j fs) 0 cs f.channels
  frames-more j fs f o =
      let d : 1 + j ≡ suc j = omega arith in
      let l : length (take j fs) ≡ j = length-take-le j fs (omega (arith, o.inside)) in
      ap (frames_read i 1 cs []) (take-suc fs j f o.inside ∙ rw (o.is f)) ∙ (frames-append 1 [] (take j fs) f ∙ rw (l, d))
