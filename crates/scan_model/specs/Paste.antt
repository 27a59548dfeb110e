-- Two tokens joined to one ([cpp.concat]).
use Rattle.std.specs.Prelude.{Bool, ◌||◌, if◌then◌else◌, List, ℕ, ◌++◌, Option, Some, None}
use Rattle.scan_model.specs.declared.token.Tok.{Tok}
use Rattle.scan_model.specs.Spelling.{is_ident, is_number, is_char, is_str, is_punct}
use Rattle.scan_model.specs.Tokens.{kind_of}

-- the spelling is one token, raw strings included, but not a header
abbrev pub is_one_token : List ℕ → Bool
is_one_token s = is_ident s || is_number s || is_char s || is_str s || is_punct s

-- the token whose spelling is both spellings joined, if they make one; it has the left one's line and space
unfoldable pub paste : Tok → Tok → Option Tok
paste left right = let s = left.text ++ right.text in
    if is_one_token s then Some (record left { kind = kind_of s; text = s }) else None
