-- How a raw string's spelling is put together ([lex.string]).
use Rattle.std.specs.Prelude.{◌≡◌, ℕ, ◌-◌, ◌<◌, ◌≤◌, Bool, true, not, ◌||◌, ◌==◌, if◌then◌else◌, List, ◌++◌, take, drop, length}
use Rattle.line_splice.specs.Cursor.{text_of, rest}
use Rattle.scan_model.specs.declared.token.Kind.TheVariants.{Str, Stray}
use Rattle.scan_model.specs.Spliced.{Spot}
use Rattle.scan_model.specs.Spelling.{is_blank, is_name, is_delimited, delimiter, after_raw, longest}
use Rattle.scan_model.specs.Tokens.{Lexeme, bytes, cut, raw_closed}
use Rattle.lexeme_reader.specs.declared.raw.RawParts.{RawParts}
use Rattle.lexeme_reader.specs.declared.raw.RawSpelling.{RawSpelling}
use Rattle.lexeme_reader.specs.declared.raw.RawSpelling.TheVariants.{Shown, Written}
use Rattle.lexeme_reader.specs.Fronts.{line}

-- the byte may stand in a delimiter
abbrev pub in_delimiter : ℕ → Bool
in_delimiter c = not (is_blank c || c == 10 || c == 41 || c == 92)

-- the text begins with a good delimiter of this length and `(`
pub record IsDelimiter (len : ℕ) (s : List ℕ) : Type 0 where
  pub within : len < length s
  pub good : is_delimited s ≡ true
  pub bytes_are : delimiter s ≡ take len s

-- how many bytes show of the suffix: of a closed raw string the name that follows, of another none
abbrev pub suffix_len : RawParts → ℕ
suffix_len parts = if parts.closed then longest is_name (line (rest parts.suffix)) else 0

-- the spelling: the first `intro` bytes that show, what is written from `start` to `end`, and the suffix as it shows
abbrev pub spelling_of : RawParts → List ℕ → List Spot → List ℕ
spelling_of parts text spots =
    bytes (take parts.intro spots) ++ take (parts.end - parts.start) (drop parts.start text) ++ bytes (take (suffix_len parts) (rest parts.suffix))

-- the token and what is left after it
abbrev pub read_raw : RawSpelling → List ℕ → List Spot → Lexeme
read_raw Shown text spots = cut Stray (length (line spots)) spots
read_raw (Written parts) text spots =
    record { kind = if parts.closed then Str else Stray; text = spelling_of parts text spots; left = drop (suffix_len parts) (rest parts.suffix) }

-- the parts lie in the text
pub record Fits (parts : RawParts) (text : List ℕ) (spots : List Spot) : Type 0 where
  pub intro : parts.intro ≤ length spots
  pub start : parts.start ≤ parts.end
  pub «end» : parts.end ≤ length text
  pub suffix : text_of parts.suffix ≡ text

abbrev pub FitsText : RawSpelling → List ℕ → List Spot → Type 0
FitsText Shown text spots = Unit {0}
FitsText (Written parts) text spots = Fits parts text spots

-- From the cursor after the opening quote on, whatever stands in front, a raw string whose text is written from
-- `start` on has these parts.
pub record ContinuesRaw (parts : RawParts) (start : ℕ) (text : List ℕ) (old new : List Spot) : Type 0 where
  pub begins : parts.start ≡ start
  pub fits : (parts.start ≤ parts.end) × (parts.end ≤ length text) × (text_of parts.suffix ≡ text)
  pub left : new ≡ drop (suffix_len parts) (rest parts.suffix)
  pub lexeme : (front : List ℕ) → raw_closed text front (drop start text) (after_raw (drop start text)) old
      ≡ record { kind = if parts.closed then Str else Stray; text = front ++ take (parts.end - parts.start) (drop parts.start text) ++ bytes (take (suffix_len parts) (rest parts.suffix)); left = new }
