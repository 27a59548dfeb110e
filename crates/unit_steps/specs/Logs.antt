-- The answers of a unit as a log: a file on its stack is a place in it.
use Rattle.std.specs.Prelude.{ℕ, List, [], slice_get}
use Rattle.std.specs.Option.{option_map_or}
use Rattle.scan_model.specs.declared.token.Line.{Line}
use Rattle.scan_model.specs.Files.{Present}
use Rattle.unit_laws.specs.Reduction.{Given}

-- the kept lines of an answer, none where it has no text
abbrev pub lines_in : List ℕ × Given → List Line
lines_in (path, Present ls) = ls
lines_in (path, content) = []

-- those of the answer at this place, and its path
abbrev pub lines_at : List (List ℕ × Given) → ℕ → List Line
lines_at answers k = option_map_or lines_in (slice_get answers k) []

abbrev pub path_at : List (List ℕ × Given) → ℕ → List ℕ
path_at answers k = option_map_or (λ a. a.0) (slice_get answers k) []
