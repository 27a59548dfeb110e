-- Strings by `#`, byte by byte.
use Rattle.std.specs.Prelude.{ℕ, Bool, ◌&&◌, ◌||◌, ◌==◌, if◌then◌else◌, List, [], ◌∷◌, ◌++◌, map, Option, Some, None}
use Rattle.scan_model.specs.declared.token.Kind.TheVariants.{Str}
use Rattle.scan_model.specs.declared.token.Tok.{Tok}
use Rattle.scan_model.specs.Spliced.{at_newline}
use Rattle.scan_model.specs.Spelling.{is_str}
use Rattle.scan_model.specs.Substitution.{shown_token, shown_tokens}
use Rattle.substitution.specs.declared.marked.Marked.{Marked}

-- the tokens without their hide sets
abbrev pub toks_of : List Marked → List Tok
toks_of ms = map (λ m. m.tok) ms

-- what the first byte gives
abbrev pub shown_first : Bool → List ℕ → List ℕ
shown_first quoted [] = []
shown_first quoted (c ∷ s) =
    if c == 13 && at_newline (c ∷ s) then []
    else if c == 10 then 92 ∷ 110 ∷ []
    else if quoted && (c == 34 || c == 92) then 92 ∷ c ∷ []
    else c ∷ []

-- a token that isn't the first
abbrev pub shown_further : Tok → List ℕ
shown_further t = if t.space then 32 ∷ shown_token t else shown_token t

-- the string that `#`, the token t, makes of the tokens on this line, if that is one string
abbrev pub string_token : ℕ → Tok → List Tok → Option Tok
string_token line t toks = let text = 34 ∷ shown_tokens toks ++ 34 ∷ [] in
    if is_str text then Some (record t { line = line; kind = Str; text = text }) else None
