-- What a table of hide sets means.
use Rattle.std.specs.Prelude.{◌≡◌, ℕ, zero, suc, ◌≤◌, Bool, false, ◌||◌, List, [], ◌∷◌, ◌++◌, length, slice_index_or}
use Rattle.scan_model.specs.TokenTests.{same}

-- the names of each set that has one: number 1 first, then 2, and so on
abbrev pub Sets : Type 0
Sets = List (List (List ℕ))

-- the table has a set of this number
abbrev pub IsSet : Sets → ℕ → Type 0
IsSet sets set = set ≤ length sets

-- the names of the set, the latest first
abbrev pub names_of : Sets → ℕ → List (List ℕ)
names_of sets zero = []
names_of sets (suc k) = slice_index_or sets k []

-- the latest name of a set that isn't empty
abbrev pub latest_of : Sets → ℕ → List ℕ
latest_of sets set = slice_index_or (names_of sets set) 0 []

-- the name is one of these
abbrev pub has_name : List (List ℕ) → List ℕ → Bool
has_name [] other = false
has_name (name ∷ names) other = has_name names other || same name other

-- whether the set has the name
abbrev pub hides_of : Sets → ℕ → List ℕ → Bool
hides_of sets set = has_name (names_of sets set)

-- every number of before means what it meant
pub record Extends (old new : Sets) : Type 0 where
  pub since : Sets
  pub grown : new ≡ old ++ since

-- the number means this set of names, and every number of before what it meant
pub record Makes (old new : Sets) (hides : List ℕ → Bool) (set : ℕ) : Type 0 where
  pub extended : Extends old new
  pub is_set : IsSet new set
  pub meant : hides_of new set ≡ hides
