-- How what the lexer's functions return stands to the definitions.
use lib.Pointwise.{pointwise}
use Rattle.std.specs.Prelude.{◌≡◌, nat_eq, if◌then◌else◌, nat_lt, ◌-◌, take, drop, length, ℕ, Bool, true, false, ◌&&◌, ◌||◌, ◌==◌, List, [], ◌∷◌, Option, Some, None}
use Rattle.scan_model.specs.declared.token.Kind.{Kind}
use Rattle.scan_model.specs.declared.token.Kind.TheVariants.{Punct, Stray}
use Rattle.scan_model.specs.declared.token.Tok.{Tok}
use Rattle.scan_model.specs.Spelling.{is_one_of, is_header, punctuators, longest}
use Rattle.scan_model.specs.Spliced.{Spot}
use Rattle.scan_model.specs.Tokens.{Lexeme, bytes, cut, after_blanks, is_token, kind_of, is_open, is_lone_less, next_token, wants_header}
use Rattle.scan_model.specs.Lines.{tok}
use Rattle.lexeme_reader.specs.Fronts.{line, character_len}
pub use Rattle.line_splice.specs.Plain.{shows_itself}

-- the token after `before` where the spots stand, and what is left after it
abbrev pub GivesToken : List ℕ → List Tok → List Spot → Option Tok → List Spot → Type 0
GivesToken text before spots None left = (next_token text before spots ≡ None) × (left ≡ after_blanks spots)
GivesToken text before spots (Some t) left = (l : Lexeme) × (next_token text before spots ≡ Some l) × (t ≡ tok text before spots l) × (left ≡ l.left)

-- the token of a line on which no header name is tried is passed; where none is, a newline or the end comes first
abbrev pub PassesToken : List ℕ → List Spot → Bool → List Spot → Type 0
PassesToken text spots false left = ((before : List Tok) → next_token text before spots ≡ None) × (left ≡ after_blanks spots)
PassesToken text spots true left = (l : Lexeme) × ((before : List Tok) → wants_header before ≡ false → next_token text before spots ≡ Some l) × (left ≡ l.left)

abbrev pub is_nil : List Tok → Bool
is_nil [] = true
is_nil (t ∷ ts) = false

-- the line of the tokens, or the given one where there are none
abbrev pub line_here : List Tok → ℕ → ℕ
line_here [] line = line
line_here (t ∷ ts) line = t.line

-- `are`, with the spellings as bytes
abbrev pub are_bytes : List (List ℕ) → List Tok → Bool
are_bytes [] [] = true
are_bytes [] (t ∷ ts) = false
are_bytes (word ∷ words) [] = false
are_bytes (word ∷ words) (t ∷ ts) = pointwise nat_eq word t.text && are_bytes words ts

-- how many bytes the punctuator takes that begins the line, or 0
abbrev pub mark_len : List ℕ → ℕ
mark_len s = if is_lone_less s then 1 else longest (is_one_of punctuators) s

-- what shows from one cursor to the other
abbrev pub passed : List Spot → List Spot → List Spot
passed before after = take (length before - length after) before

-- the second cursor stands further on, but not past the last byte, or at the same place
abbrev pub IsAhead : List Spot → List Spot → Type 0
IsAhead before after = (after ≡ [] → before ≡ []) × (after ≡ drop (length before - length after) before)

-- the lexeme has the kind, is spelled by all that shows between the two cursors, and leaves what the second one shows
abbrev pub GivesShown : Lexeme → Kind → List Spot → List Spot → Type 0
GivesShown l kind before after = l ≡ record { kind = kind; text = bytes (passed before after); left = after }

-- after these tokens no header name is read here
abbrev pub NoHeader : List Tok → List Spot → Type 0
NoHeader before spots = (wants_header before && nat_lt 0 (longest is_header (line spots))) ≡ false

-- the token that stands here where no header name is wanted and no quote opens
abbrev pub unquoted : List Spot → Lexeme
unquoted spots =
    let s = line spots in
    let n = longest is_token s in
    let token = cut (kind_of (take n s)) n spots in
    let stray = cut Stray (character_len s) spots in
    if is_lone_less s then cut Punct 1 spots else if nat_lt 0 n then token else stray

-- the token that stands here where neither a header name is wanted nor a raw string opens
abbrev pub not_raw : List Spot → Lexeme
not_raw spots = if is_open (line spots) then cut Stray (length (line spots)) spots else unquoted spots

-- a space or a tab, which most white space is
abbrev pub is_space : ℕ → Bool
is_space c = c == 32 || c == 9
