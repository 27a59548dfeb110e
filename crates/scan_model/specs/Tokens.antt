-- The next token of what is left of a text ([lex.pptoken]).
use Rattle.std.specs.Prelude.{ℕ, zero, suc, ◌+◌, ◌-◌, Bool, true, false, not, ◌&&◌, ◌||◌, ◌==◌, nat_eq, nat_lt, if◌then◌else◌, List, [], ◌∷◌, ◌++◌, map, slice_index, take, drop, length, Option, Some, None, is_none, codes}
use Rattle.std.specs.Option.{option_map_or}
use Rattle.std.specs.List.{starts_with}
use Rattle.std.specs.Str.{is_utf8, chars}
use Prim.Native.String.{String}
use Rattle.scan_model.specs.declared.token.Kind.{Kind}
use Rattle.scan_model.specs.declared.token.Kind.TheVariants.{Ident, Number, Char, Str, Header, Punct, Stray}
use Rattle.scan_model.specs.declared.token.Tok.{Tok}
use Rattle.scan_model.specs.Spliced.{Spot}
use Rattle.scan_model.specs.Spelling.{spells, is_blank, is_name, is_ident, is_number, is_char, is_quoted, is_punct, is_header, is_suffix, opens, opens_raw, encoding_len, after_quoted, is_delimited, after_raw, longest}

abbrev pub bytes : List Spot → List ℕ
bytes spots = map (λ spot. spot.byte) spots

-- ## White space and comments

-- the word stands here
abbrev pub begins : List ℕ → List Spot → Bool
begins [] spots = true
begins (c ∷ word) [] = false
begins (c ∷ word) (spot ∷ spots) = spot.byte == c && begins word spots

-- from the next newline on
abbrev pub from_newline : List Spot → List Spot
from_newline [] = []
from_newline (spot ∷ spots) = let next = from_newline spots in
    if spot.byte == 10 then spot ∷ spots else next

-- what follows the next `*/`
abbrev pub after_comment : List Spot → List Spot
after_comment [] = []
after_comment (spot ∷ spots) = let next = after_comment spots in
    if begins (codes "*/") (spot ∷ spots) then drop 1 spots else next

abbrev pub first_is_blank : List Spot → Bool
first_is_blank [] = false
first_is_blank (spot ∷ spots) = is_blank spot.byte

-- what follows the blank or the comment that stands here, if one does
unfoldable pub next_blank : List Spot → Option (List Spot)
next_blank spots =
    if first_is_blank spots then Some (drop 1 spots)
    else if begins (codes "//") spots then Some (from_newline spots)
    else if begins (codes "/*") spots then Some (after_comment (drop 2 spots))
    else None

-- what follows at most n of them
abbrev pub after_blanks_up_to : ℕ → List Spot → List Spot
after_blanks_up_to zero spots = spots
after_blanks_up_to (suc n) spots = option_map_or (after_blanks_up_to n) (next_blank spots) spots

-- what follows the white space, other than newlines, and the comments that stand here
unfoldable pub after_blanks : List Spot → List Spot
after_blanks spots = after_blanks_up_to (length spots) spots

-- ## Tokens

-- a token without its place, and what is left after it
pub record Lexeme : Type 0 where
  pub kind : Kind
  pub text : List ℕ
  pub left : List Spot

-- the next n bytes that show
abbrev pub cut : Kind → ℕ → List Spot → Lexeme
cut kind n spots = record { kind = kind; text = bytes (take n spots); left = drop n spots }

-- the tokens have these spellings, one each
abbrev pub are : List String → List Tok → Bool
are [] [] = true
are [] (t ∷ ts) = false
are (word ∷ words) [] = false
are (word ∷ words) (t ∷ ts) = spells word t.text && are words ts

-- the tokens so far are `#` or `%:`, and then these
abbrev pub are_directive : List String → List Tok → Bool
are_directive words ts = are ("#" ∷ words) ts || are ("%:" ∷ words) ts

-- after the tokens so far a header is tried first
unfoldable pub wants_header : List Tok → Bool
wants_header ts =
    let opening = take 2 ts in
    are_directive ("include" ∷ []) ts || are_directive ("include_next" ∷ []) ts || are ("import" ∷ []) ts || are ("export" ∷ "import" ∷ []) ts
    || ((are_directive ("if" ∷ []) opening || are_directive ("elif" ∷ []) opening) && (are ("__has_include" ∷ "(" ∷ []) (drop (length ts - 2) ts) || are ("__has_include_next" ∷ "(" ∷ []) (drop (length ts - 2) ts)))

abbrev pub is_token : List ℕ → Bool
is_token s = is_name s || is_number s || is_char s || is_quoted 34 s || is_punct s

-- the kind of a spelling that makes a token
abbrev pub kind_of : List ℕ → Kind
kind_of s =
    if is_punct s then Punct else if is_ident s then Ident else if is_number s then Number else if is_char s then Char else Str

-- the bytes of one character
abbrev pub is_character : List ℕ → Bool
is_character s = is_utf8 s && length (chars s) == 1

-- the rest of the logical line
unfoldable pub rest_of_line : List ℕ → List ℕ
rest_of_line [] = []
rest_of_line (c ∷ s) = let more = rest_of_line s in if c == 10 then [] else c ∷ more

-- a quote opens here and isn't closed on this line
unfoldable pub is_open : List ℕ → Bool
is_open s = (opens 39 s && is_none (after_quoted 39 s)) || (opens 34 s && is_none (after_quoted 34 s))

-- `<::` stands here, with neither `:` nor `>` after it
unfoldable pub is_lone_less : List ℕ → Bool
is_lone_less s = starts_with nat_eq s (codes "<::") && not (slice_index s 3 == 58 || slice_index s 3 == 62)

-- the spots from a place in the text on
abbrev pub from_place : ℕ → List Spot → List Spot
from_place place [] = []
from_place place (spot ∷ spots) = let next = from_place place spots in
    if nat_lt spot.place place then next else spot ∷ spots

-- the text as written after the first spot
abbrev pub written_after : List ℕ → List Spot → List ℕ
written_after text [] = []
written_after text (spot ∷ spots) = drop (spot.place + 1) text

-- A raw string whose prefix and `R"` are the bytes `intro`, whose inside and closing quote are written as `inside`,
-- and which the spots follow.
abbrev pub raw : List ℕ → List ℕ → List Spot → Lexeme
raw intro inside spots = let n = longest is_suffix (bytes spots) in
    record { kind = Str; text = intro ++ inside ++ bytes (take n spots); left = drop n spots }

abbrev pub raw_closed : List ℕ → List ℕ → List ℕ → Option (List ℕ) → List Spot → Lexeme
raw_closed text intro written None spots =
    record { kind = Stray; text = intro ++ written; left = from_place (length text) spots }
raw_closed text intro written (Some after) spots =
    raw intro (take (length written - length after) written) (from_place (length text - length after) spots)

unfoldable pub raw_lexeme : List ℕ → List Spot → Lexeme
raw_lexeme text spots =
    let quote = encoding_len (bytes spots) + 1 in
    let written = written_after text (drop quote spots) in
    let line = cut Stray (length (rest_of_line (bytes spots))) spots in
    let closed = raw_closed text (bytes (take (quote + 1) spots)) written (after_raw written) (drop (quote + 1) spots) in
    if is_delimited written then closed else line

-- the token that stands here, after the tokens `before` of its line
unfoldable pub lexeme : List ℕ → List Tok → List Spot → Lexeme
lexeme text before spots =
    let s = rest_of_line (bytes spots) in
    let header = longest is_header s in
    let n = longest is_token s in
    let raw_string = raw_lexeme text spots in
    let unclosed = cut Stray (length s) spots in
    let token = cut (kind_of (take n s)) n spots in
    let character = longest is_character s in
    let stray = cut Stray (if nat_lt 0 character then character else 1) spots in
    if wants_header before && nat_lt 0 header then cut Header header spots
    else if opens_raw s then raw_string
    else if is_open s then unclosed
    else if is_lone_less s then cut Punct 1 spots
    else if nat_lt 0 n then token
    else stray

-- the next token and what is left after it, or none where a newline or the end comes first
abbrev pub token_at : List ℕ → List Tok → List Spot → Option Lexeme
token_at text before [] = None
token_at text before (spot ∷ spots) = let found = lexeme text before (spot ∷ spots) in
    if spot.byte == 10 then None else Some found

unfoldable pub next_token : List ℕ → List Tok → List Spot → Option Lexeme
next_token text before spots = token_at text before (after_blanks spots)
