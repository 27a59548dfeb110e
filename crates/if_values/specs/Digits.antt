-- How digits go on, and numbers that fit in 64 bits.
use Rattle.std.specs.Prelude.{ℕ, ◌^◌, Bool, false, ◌&&◌, ◌||◌, ◌==◌, nat_lt, if◌then◌else◌, List, [], ◌∷◌, Option, Some, None}
use Rattle.scan_model.specs.Spelling.{first}
use Rattle.scan_model.specs.Literals.{is_digit}

-- a digit begins the text, or a `'` with a digit after it
abbrev pub goes_on : ℕ → List ℕ → Bool
goes_on base [] = false
goes_on base (c ∷ s) = is_digit base c || (c == 39 && is_digit base (first s))

-- the number, where it fits
abbrev pub fitting : ℕ → Option ℕ
fitting n = if nat_lt n (2 ^ 64) then Some n else None
