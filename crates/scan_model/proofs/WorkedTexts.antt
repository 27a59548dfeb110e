-- Worked texts: the definitions compute to the tokens that a person reads.
use Rattle.std.proofs.Common.{◌≡◌, ℕ, List, [], ◌∷◌, refl, true, false, codes}
use Prim.Native.String.{String}
use Rattle.scan_model.specs.declared.token.Kind.{Kind}
use Rattle.scan_model.specs.declared.token.Kind.TheVariants.{Ident, Number, Char, Str, Header, Punct, Stray}
use Rattle.scan_model.specs.declared.token.Tok.{Tok}
use Rattle.scan_model.specs.declared.token.Line.{Line}
use Rattle.scan_model.specs.Lines.{lines, kept}
use Rattle.scan_model.proofs.Computing.{reading}

-- a token directly after the one before it
abbrev joined : Kind → String → ℕ → Tok
joined kind text line = record { kind = kind; text = codes text; space = false; line = line }

-- a token that begins its line, or that white space or a comment stands before
abbrev spaced : Kind → String → ℕ → Tok
spaced kind text line = record { kind = kind; text = codes text; space = true; line = line }

abbrev row : ℕ → ℕ → (ℕ → List Tok) → Line
row line next toks = record { toks = toks line; line = line; next = next }

-- `<:::` is the digraph `<:` and then `::`
digraph_before_colons : lines (codes "x<:::y") ≡
    row 1 2 (λ n. spaced Ident "x" n ∷ joined Punct "<:" n ∷ joined Punct "::" n ∷ joined Ident "y" n ∷ []) ∷ []
unfolding reading
digraph_before_colons = refl

-- a separator and a digit, a letter or a dot go on with a number
number_with_separators : lines (codes "1'000'a.b'c") ≡
    row 1 2 (λ n. spaced Number "1'000'a.b'c" n ∷ []) ∷ []
unfolding reading
number_with_separators = refl

-- a quote that is not closed on its line takes the rest of it, a comment's opening included
open_quote_takes_its_line : lines (codes "don't /*\nb") ≡
    row 1 2 (λ n. spaced Ident "don" n ∷ joined Stray "'t /*" n ∷ [])
    ∷ row 2 3 (λ n. spaced Ident "b" n ∷ []) ∷ []
unfolding reading
open_quote_takes_its_line = refl

-- a raw string with a prefix and a suffix, and a character with a prefix
raw_string_with_prefix_and_suffix : lines (codes "u8R\"(x)\"_s+L'a'") ≡
    row 1 2 (λ n. spaced Str "u8R\"(x)\"_s" n ∷ joined Punct "+" n ∷ joined Char "L'a'" n ∷ []) ∷ []
unfolding reading
raw_string_with_prefix_and_suffix = refl

-- what looks like a directive inside a raw string is none
directive_inside_a_raw_string : kept (codes "auto s = R\"x(\n#define import x\n)x\";\nimport a;\n") ≡
    row 4 5 (λ n. spaced Ident "import" n ∷ spaced Ident "a" n ∷ joined Punct ";" n ∷ []) ∷ []
unfolding reading
directive_inside_a_raw_string = refl

-- `R` at the end of an identifier begins no raw string
identifier_that_ends_in_R : lines (codes "FOOR\"(\"\nimport a;\nx = \")\";\n") ≡
    row 1 2 (λ n. spaced Ident "FOOR" n ∷ joined Str "\"(\"" n ∷ [])
    ∷ row 2 3 (λ n. spaced Ident "import" n ∷ spaced Ident "a" n ∷ joined Punct ";" n ∷ [])
    ∷ row 3 4 (λ n. spaced Ident "x" n ∷ spaced Punct "=" n ∷ spaced Str "\")\"" n ∷ joined Punct ";" n ∷ []) ∷ []
unfolding reading
identifier_that_ends_in_R = refl

-- an open quote hides the opening of a comment, so the next directive stays
open_quote_in_a_skipped_group : kept (codes "#if 0\ndon't /*\n#endif\nimport a;\n") ≡
    row 1 2 (λ n. spaced Punct "#" n ∷ joined Ident "if" n ∷ spaced Number "0" n ∷ [])
    ∷ row 3 4 (λ n. spaced Punct "#" n ∷ joined Ident "endif" n ∷ [])
    ∷ row 4 5 (λ n. spaced Ident "import" n ∷ spaced Ident "a" n ∷ joined Punct ";" n ∷ []) ∷ []
unfolding reading
open_quote_in_a_skipped_group = refl

-- a directive may follow a comment that holds a newline
directive_after_a_comment : kept (codes "/* a\nb */ #define X\n") ≡
    row 2 3 (λ n. spaced Punct "#" n ∷ joined Ident "define" n ∷ spaced Ident "X" n ∷ []) ∷ []
unfolding reading
directive_after_a_comment = refl

-- a header is read after `include` and after `import`
headers_after_their_words : kept (codes "#include <v.h> // x\nimport \"k\"\n") ≡
    row 1 2 (λ n. spaced Punct "#" n ∷ joined Ident "include" n ∷ spaced Header "<v.h>" n ∷ [])
    ∷ row 2 3 (λ n. spaced Ident "import" n ∷ spaced Header "\"k\"" n ∷ []) ∷ []
unfolding reading
headers_after_their_words = refl

-- a raw string without its end reaches the end of the text, and the newline that phase 2 adds ends the line
open_raw_string : lines (codes "a R\"x(b\\\nc\n") ≡
    row 1 3 (λ n. spaced Ident "a" n ∷ spaced Stray "R\"x(b\\\nc\n" n ∷ []) ∷ []
unfolding reading
open_raw_string = refl

-- a comment without its end reaches the end of the text
open_comment : lines (codes "a /* b\nc\n") ≡
    row 1 3 (λ n. spaced Ident "a" n ∷ []) ∷ []
unfolding reading
open_comment = refl

-- without a good delimiter the rest of the line is one stray token
raw_string_with_a_bad_delimiter : lines (codes "R\"x y(b)\"\nc") ≡
    row 1 2 (λ n. spaced Stray "R\"x y(b)\"" n ∷ []) ∷ row 2 3 (λ n. spaced Ident "c" n ∷ []) ∷ []
unfolding reading
raw_string_with_a_bad_delimiter = refl

-- CR LF is one newline, a lone CR is white space, and a splice joins a word
newlines_and_splices : lines (codes "a\r\n\rb\\\r\nc") ≡
    row 1 2 (λ n. spaced Ident "a" n ∷ []) ∷ row 2 4 (λ n. spaced Ident "bc" n ∷ []) ∷ []
unfolding reading
newlines_and_splices = refl

-- lines are counted through splices and comments
lines_after_splices_and_comments : kept (codes "int a\\\n;\n/* one\ntwo\nthree */\nx\n#if __LINE__ == 7\nimport seven;\n#endif\n") ≡
    row 7 8 (λ n. spaced Punct "#" n ∷ joined Ident "if" n ∷ spaced Ident "__LINE__" n ∷ spaced Punct "==" n ∷ spaced Number "7" n ∷ [])
    ∷ row 8 9 (λ n. spaced Ident "import" n ∷ spaced Ident "seven" n ∷ joined Punct ";" n ∷ [])
    ∷ row 9 10 (λ n. spaced Punct "#" n ∷ joined Ident "endif" n ∷ []) ∷ []
unfolding reading
lines_after_splices_and_comments = refl

-- a header is read after `__has_include` and its parenthesis, on a line that begins with `%:`
header_after_has_include : kept (codes "%:if __has_include(\"x.h\")\n") ≡
    row 1 2 (λ n. spaced Punct "%:" n ∷ joined Ident "if" n ∷ spaced Ident "__has_include" n ∷ joined Punct "(" n ∷ joined Header "\"x.h\"" n ∷ joined Punct ")" n ∷ []) ∷ []
unfolding reading
header_after_has_include = refl
