-- Where no `>` closes a header name.
use Rattle.std.specs.Prelude.{◌≡◌, ℕ, ◌<◌, List, drop, length}
use Rattle.scan_model.specs.Spliced.{Spot, place_at}
use Rattle.lexeme_reader.specs.Fronts.{line}
use Rattle.lexeme_reader.specs.Headers.{len_before}

-- no `>` shows on the rest of the line
abbrev pub HasNoClosing : List Spot → Type 0
HasNoClosing s = len_before 62 (line s) ≡ length (line s)

-- nor on what is left of it from any spot that stands before the place
abbrev pub IsBare : ℕ → List ℕ → List Spot → Type 0
IsBare end text s = (n : ℕ) → place_at text (drop n s) < end → HasNoClosing (drop n s)
