-- How a path is written, segment by segment.
use Rattle.std.specs.Prelude.{ℕ, Bool, true, false, if◌then◌else◌, List, [], ◌∷◌, ◌++◌, codes, fold}
use Rattle.scan_model.specs.Paths.{is_slash, segments}

-- nothing or `/`: the next segment needs no `/` before it
abbrev pub is_bare : List ℕ → Bool
is_bare [] = true
is_bare (c ∷ []) = is_slash c
is_bare (c ∷ d ∷ cs) = false

-- the path with one more segment
abbrev pub with_segment : List ℕ → List ℕ → List ℕ
with_segment path segment = if is_bare path then path ++ segment else path ++ 47 ∷ segment

-- the path with the segments of the text that stay
abbrev pub with_segments : List ℕ → List ℕ → List ℕ
with_segments path text = fold with_segment path (segments text)

-- the path, and `.` where it is empty
abbrev pub or_here : List ℕ → List ℕ
or_here [] = codes "."
or_here (c ∷ cs) = c ∷ cs
