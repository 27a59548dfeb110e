-- The lexeme that a cursor has passed, by what the code answers.
use Rattle.std.specs.Prelude.{◌≡◌, ℕ, Bool, true, false, List, drop, Option, Some, None}
use Rattle.scan_model.specs.declared.token.Kind.{Kind}
use Rattle.scan_model.specs.declared.token.Kind.TheVariants.{Char, Str, Stray}
use Rattle.scan_model.specs.Spliced.{Spot}
use Rattle.scan_model.specs.Spelling.{opens}
use Rattle.scan_model.specs.Tokens.{Lexeme, bytes}
use Rattle.lexeme_reader.specs.declared.quoted.Quote.{Quote}
use Rattle.lexeme_reader.specs.declared.quoted.Quote.TheVariants.{Single, Double}
use Rattle.lexeme_reader.specs.declared.quoted.Opening.{Opening}
use Rattle.lexeme_reader.specs.declared.quoted.Opening.TheVariants.{Quoted, Raw as OpensRaw}
use Rattle.lexeme_reader.specs.Quotes.{quote_byte, other_quote}
use Rattle.pp_lexer.specs.declared.lexeme.Found.{Found}
use Rattle.pp_lexer.specs.declared.lexeme.Spelling.{Spelling}
use Rattle.pp_lexer.specs.declared.lexeme.Spelling.TheVariants.{Shown, Raw}
use Rattle.line_splice.specs.Cursor.{rest}
use Rattle.lexeme_reader.specs.declared.raw.RawParts.{RawParts}
use Rattle.lexeme_reader.specs.Raws as raws
use Rattle.lexeme_reader.specs.Raws.{Fits, suffix_len}
use Rattle.pp_lexer.specs.Reads.{passed, IsAhead}

abbrev pub literal_kind : Quote → Bool → Kind
literal_kind Single true = Char
literal_kind Double true = Str
literal_kind quote false = Stray

abbrev pub is_raw : Option Opening → Bool
is_raw None = false
is_raw (Some OpensRaw) = true
is_raw (Some (Quoted quote)) = false

abbrev pub quote_of : Option Opening → Option Quote
quote_of None = None
quote_of (Some OpensRaw) = None
quote_of (Some (Quoted quote)) = Some quote

-- a literal in these quotes, or none, opens at the front of a line
abbrev pub IsQuoteAt : Option Quote → List ℕ → Type 0
IsQuoteAt None s = (opens 39 s ≡ false) × (opens 34 s ≡ false)
IsQuoteAt (Some quote) s = (opens (quote_byte quote) s ≡ true) × (opens (quote_byte (other_quote quote)) s ≡ false)

-- the spelling of what has been passed between two cursors
abbrev pub spelling_of : List ℕ → Spelling → List Spot → List Spot → List ℕ
spelling_of text Shown before after = bytes (passed before after)
spelling_of text (Raw parts) before after = raws.spelling_of parts text before

-- a raw string's parts lie in the text, and the second cursor stands after its suffix
abbrev pub FitsBetween : RawParts → List ℕ → List Spot → List Spot → Type 0
FitsBetween parts text before after = Fits parts text before × (after ≡ drop (suffix_len parts) (rest parts.suffix))

-- the two cursors stand as the spelling says
abbrev pub CanSpell : List ℕ → Spelling → List Spot → List Spot → Type 0
CanSpell text Shown before after = IsAhead before after
CanSpell text (Raw parts) before after = FitsBetween parts text before after

abbrev pub IsSpelled : List ℕ → Found → List Spot → List Spot → Type 0
IsSpelled text found before after = CanSpell text found.spelling before after

-- the lexeme is what has been found between the two cursors, and leaves what the second one shows
abbrev pub GivesLexeme : List ℕ → Lexeme → Found → List Spot → List Spot → Type 0
GivesLexeme text l found before after = l ≡ record { kind = found.kind; text = spelling_of text found.spelling before after; left = after }
