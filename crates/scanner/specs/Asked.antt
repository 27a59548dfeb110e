-- What the database's source was asked for.
use Rattle.std.specs.Prelude.{◌≡◌, ◌⊎◌, ℕ, List, [], ◌∷◌, Option, Some, None}

-- at most the database's path, and once; what was given for it has that path
abbrev pub AsksDatabase : Option (List ℕ) → List (List ℕ) → Option (List ℕ) → Type 0
AsksDatabase None asked given_path = (asked ≡ []) × (given_path ≡ None)
AsksDatabase (Some path) asked (Some given_path) = (asked ≡ path ∷ []) × (given_path ≡ path)
AsksDatabase (Some path) asked None = (asked ≡ []) ⊎ (asked ≡ path ∷ [])
