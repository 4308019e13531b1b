-- A file with only its version changed: the bytes, the events and the reading.
-- Assumes nothing.
use Rattle.std.specs.Prelude.{List, [], ◌∷◌, ◌++◌, ℕ, take, drop}
use Rattle.walk.specs.Walk.{Text, Event, piece}
use Rattle.rules.specs.Rules.{versioned, Heading, File}
use Rattle.rules.specs.Reading.{Reading}
use Rattle.rules.specs.declared.Version.{Version}

-- this version in the place of bytes 8 to 13
unfoldable pub relabelled : Version → List ℕ → List ℕ
relabelled w s = take 8 s ++ (versioned w ++ drop 14 s)

-- the same in the events: the version is the second that is read
unfoldable pub relabelled_events : Version → List Event → List Event
relabelled_events w [] = []
relabelled_events w (id ∷ []) = id ∷ []
relabelled_events w (id ∷ version ∷ t) = id ∷ piece Text (versioned w) ∷ t

-- the header's values with this version
abbrev pub heading_with : Version → Heading → Heading
heading_with w h = record { spelling = h.spelling; label = record { version = w; form = h.label.form }; script = h.script }

-- what a file holds, with this version
abbrev pub with_version : Version → File → File
with_version w v = record { heading = heading_with w v.heading; recordings = v.recordings }

-- its reading, with this version
abbrev pub reading_with : Version → Reading → Reading
reading_with w r = record { heading = heading_with w r.heading; recordings = r.recordings }
