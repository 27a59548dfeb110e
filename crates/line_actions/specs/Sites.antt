-- A byte inside a string that `__FILE__` gives ([cpp.predefined]).
use Rattle.std.specs.Prelude.{ℕ, Bool, ◌||◌, ◌==◌, if◌then◌else◌, List, [], ◌∷◌}

-- `"` or a backslash
abbrev pub is_escaped : ℕ → Bool
is_escaped c = c == 34 || c == 92

abbrev pub escaped_byte : ℕ → List ℕ
escaped_byte c = if is_escaped c then 92 ∷ c ∷ [] else c ∷ []
