-- The tokens of a text by logical lines, and the lines that are directives ([cpp.pre]).
use Rattle.std.specs.Prelude.{ℕ, zero, suc, ◌+◌, Bool, true, false, ◌&&◌, ◌||◌, nat_lt, List, [], ◌∷◌, ◌++◌, length, drop}
use Rattle.std.specs.Option.{option_map_or}
use Rattle.std.specs.List.{filter}
use Rattle.scan_model.specs.declared.token.Kind.{Kind}
use Rattle.scan_model.specs.declared.token.Kind.TheVariants.{Ident, Str, Header}
use Rattle.scan_model.specs.declared.token.Tok.{Tok}
use Rattle.scan_model.specs.declared.token.Line.{Line}
use Rattle.scan_model.specs.Spliced.{Spot, spliced, line_at}
use Rattle.scan_model.specs.Spelling.{spells, is_one_of}
use Rattle.scan_model.specs.Tokens.{Lexeme, after_blanks, next_token}

-- the line of the tokens so far, or of the first one, which stands here
abbrev pub line_of : List ℕ → List Tok → List Spot → ℕ
line_of text [] spots = line_at text (after_blanks spots)
line_of text (t ∷ ts) spots = t.line

abbrev pub has_space : List Tok → List Spot → Bool
has_space [] spots = true
has_space (t ∷ ts) spots = nat_lt (length (after_blanks spots)) (length spots)

-- the lexeme as the token after `before`, read where the spots stand
unfoldable pub tok : List ℕ → List Tok → List Spot → Lexeme → Tok
tok text before spots l =
    record { kind = l.kind; text = l.text; space = has_space before spots; line = line_of text before spots }

-- the line of these tokens, which the physical line `last` ends; none where there are no tokens
abbrev pub closed : List Tok → ℕ → List Line
closed [] last = []
closed (t ∷ ts) last = record { toks = t ∷ ts; line = t.line; next = last + 1 } ∷ []

-- the lines of what is left, after the tokens `before` of the first one, in at most n steps
abbrev pub lines_up_to : ℕ → List ℕ → List Tok → List Spot → List Line
lines_up_to zero text before spots = closed before (line_at text spots)
lines_up_to (suc n) text before spots =
    let newline = after_blanks spots in
    let later = closed before (line_at text newline) ++ lines_up_to n text [] (drop 1 newline) in
    option_map_or (λ l. lines_up_to n text (before ++ tok text before spots l ∷ []) l.left) (next_token text before spots) later

unfoldable pub lines_from : List ℕ → List Tok → List Spot → List Line
lines_from text before spots = lines_up_to (length spots) text before spots

-- all tokens of the text by logical lines; lines without tokens are dropped
unfoldable pub lines : List ℕ → List Line
lines text = lines_from text [] (spliced text)

-- ## Directives

abbrev pub is_kind : Kind → Kind → Bool
is_kind Ident Ident = true
is_kind Str Str = true
is_kind Header Header = true
is_kind k _ = false

-- `import`, and what makes it a directive
abbrev pub is_import : List Tok → Bool
is_import (t ∷ u ∷ ts) = spells "import" t.text && (is_kind u.kind Header || is_kind u.kind Ident || is_kind u.kind Str || is_one_of ("<" ∷ ":" ∷ []) u.text)
is_import ts = false

abbrev pub is_module : List Tok → Bool
is_module (t ∷ u ∷ ts) = spells "module" t.text && (is_kind u.kind Ident || is_one_of (":" ∷ ";" ∷ []) u.text)
is_module ts = false

abbrev pub is_module_line : List Tok → Bool
is_module_line ts = is_import ts || is_module ts

abbrev pub begins_directive : List Tok → Bool
begins_directive [] = false
begins_directive (t ∷ ts) = is_one_of ("#" ∷ "%:" ∷ []) t.text || is_module_line (t ∷ ts) || (spells "export" t.text && is_module_line ts)

unfoldable pub is_directive : Line → Bool
is_directive line = begins_directive line.toks

-- the lines that are directives: all that a scan keeps of a file
unfoldable pub kept : List ℕ → List Line
kept text = filter is_directive (lines text)
