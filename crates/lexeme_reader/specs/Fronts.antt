-- What stands before a cursor on its logical line.
use Rattle.std.specs.Prelude.{◌≡◌, ℕ, ◌≤◌, nat_lt, if◌then◌else◌, List, drop, length}
use Rattle.scan_model.specs.Spliced.{Spot}
use Rattle.scan_model.specs.Spelling.{longest}
use Rattle.scan_model.specs.Tokens.{bytes, is_character, rest_of_line}

-- the bytes that are left of the logical line
abbrev pub line : List Spot → List ℕ
line spots = rest_of_line (bytes spots)

-- how many bytes the character takes that begins the line, or 1 where none does
abbrev pub character_len : List ℕ → ℕ
character_len s = if nat_lt 0 (longest is_character s) then longest is_character s else 1

-- the cursor has passed a part of its line
pub record Along (old new : List Spot) : Type 0 where
  pub len : ℕ
  pub within : len ≤ length (line old)
  pub left : new ≡ drop len old
