-- What a cursor passes, as characters.
use Rattle.std.specs.Prelude.{◌≡◌, ◌≤◌, ℕ, Bool, true, not, ◌||◌, ◌==◌, List, ◌++◌, take, drop, length}
use Rattle.std.specs.List.{list_all}
use Rattle.std.specs.Str.{encode_utf8_all, all_scalars}
use Rattle.scan_model.specs.Spliced.{Spot}
use Rattle.scan_model.specs.Tokens.{bytes}

-- these characters, none of which is a newline
pub record Passes (cs : List ℕ) (old new : List Spot) : Type 0 where
  pub scalars : all_scalars cs ≡ true
  pub one_line : list_all (λ c. not (c == 10)) cs ≡ true
  pub spelt : bytes old ≡ encode_utf8_all cs ++ bytes new
  pub left : new ≡ drop (length (encode_utf8_all cs)) old

-- the byte shows as it is written, and is another one than `stop`
abbrev pub goes_past : ℕ → ℕ → Bool
goes_past stop c = not (c == stop || c == 92 || c == 13 || c == 10)

-- the byte shows as it is written, or ends a line, and is another one than `stop`
abbrev pub goes_over : ℕ → ℕ → Bool
goes_over stop c = not (c == stop || c == 92 || c == 13)

-- some bytes that pass the test have been passed
pub record PassesRun (p : ℕ → Bool) (old new : List Spot) : Type 0 where
  pub count : ℕ
  pub within : count ≤ length old
  pub all : list_all p (bytes (take count old)) ≡ true
  pub left : new ≡ drop count old
