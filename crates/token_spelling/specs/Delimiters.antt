-- A raw string's delimiter, and the text between its parentheses and on.
use Rattle.std.specs.Prelude.{◌≡◌, ℕ, ◌+◌, true, List, length, drop}
use Rattle.scan_model.specs.Spelling.{encoding_len, opens_raw, delimiter, is_delimited}

-- a prefix, or none, and `R"` begin the spelling, and this stands behind
pub record IsOpened (s behind : List ℕ) : Type 0 where
  pub opens : opens_raw s ≡ true
  pub is_behind : behind ≡ drop (encoding_len s + 2) s

-- a good delimiter begins the text, and this stands behind its `(`
pub record Divides (text d inside : List ℕ) : Type 0 where
  pub good : is_delimited text ≡ true
  pub is_delimiter : d ≡ delimiter text
  pub is_inside : inside ≡ drop (length d + 1) text
