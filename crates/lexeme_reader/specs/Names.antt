-- Characters of a name that a cursor passes.
use Rattle.std.specs.Prelude.{◌≡◌, ◌<◌, ℕ, Bool, true, false, ◌&&◌, nat_lt, List, length}
use Rattle.std.specs.List.{list_all}
use Rattle.scan_model.specs.Spliced.{Spot}
use Rattle.scan_model.specs.Spelling.{is_continue}
use Rattle.scan_model.specs.Tokens.{bytes}
use Rattle.lexeme_reader.specs.Character.{BeginsWith}
use Rattle.lexeme_reader.specs.Passes.{Passes}

-- all that may go on with a name
pub record PassesName (old new : List Spot) : Type 0 where
  pub cs : List ℕ
  pub goes : list_all is_continue cs ≡ true
  pub passes : Passes cs old new
  pub ends : (c : ℕ) → BeginsWith c (bytes new) → is_continue c ≡ false

-- a name may go on with the byte, which is a character by itself
abbrev pub is_word_byte : ℕ → Bool
is_word_byte c = nat_lt c 128 && is_continue c

-- some characters that may go on with a name
pub record PassesWord (old new : List Spot) : Type 0 where
  pub cs : List ℕ
  pub some : 0 < length cs
  pub goes : list_all is_continue cs ≡ true
  pub passes : Passes cs old new
