-- An index of the names in a list.
use Rattle.std.specs.Prelude.{◌≡◌, ℕ, List}
use Rattle.scan_model.specs.TokenTests.{is_among}

-- just the names of the list are known
abbrev pub AreKnown : List (List ℕ) → List (List ℕ) → Type 0
AreKnown names known = (name : List ℕ) → is_among known name ≡ is_among names name
