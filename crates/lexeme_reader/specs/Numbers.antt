-- Characters of a number that a cursor passes.
use Rattle.std.specs.Prelude.{◌≡◌, ℕ, ◌<◌, true, false, List, [], ◌∷◌, ◌++◌, length}
use Rattle.std.specs.Char.{encode_utf8}
use Rattle.std.specs.Str.{encode_utf8_all, all_scalars}
use Rattle.scan_model.specs.Spliced.{Spot}
use Rattle.scan_model.specs.Spelling.{are_number, go_on}
use Rattle.lexeme_reader.specs.Passes.{Passes}

-- the last of some characters
abbrev pub last : ℕ → List ℕ → ℕ
last c [] = c
last c (d ∷ ds) = last d ds

-- a number that ends in the character `before`
pub record PassesNumber (before : ℕ) (old new : List Spot) : Type 0 where
  pub head : ℕ
  pub cs : List ℕ
  pub number : are_number (head ∷ cs) ≡ true
  pub passes : Passes (head ∷ cs) old new
  pub last_is : last head cs ≡ before

-- characters that go on with a number after the character `before`, up to the character `after`
pub record GoesOn (before after : ℕ) (old new : List Spot) : Type 0 where
  pub cs : List ℕ
  pub some : 0 < length cs
  pub goes : go_on before cs ≡ true
  pub passes : Passes cs old new
  pub last_is : last before cs ≡ after

-- no characters that stand here go on with a number after the character `before`
abbrev pub StopsNumber : ℕ → List ℕ → Type 0
StopsNumber before t = (e : ℕ) (es v : List ℕ) → all_scalars (e ∷ es) ≡ true → t ≡ encode_utf8 e ++ (encode_utf8_all es ++ v) → go_on before (e ∷ es) ≡ false
