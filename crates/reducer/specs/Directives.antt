-- What the first tokens of a line tell of it ([cpp.pre]).
use Rattle.std.specs.Prelude.{◌≡◌, ℕ, ◌-◌, Bool, true, false, not, ◌&&◌, ◌||◌, ◌⊎◌, ◌==◌, List, [], ◌∷◌, take, drop, length, codes}
use Rattle.std.specs.List.{filter, list_any}
use Rattle.scan_model.specs.declared.token.Kind.TheVariants.{Ident, Str, Header}
use Rattle.scan_model.specs.declared.token.Tok.{Tok}
use Rattle.scan_model.specs.declared.token.Line.{Line}
use Rattle.scan_model.specs.Spliced.{Spot}
use Rattle.scan_model.specs.Spelling.{spells, is_one_of}
use Rattle.scan_model.specs.Tokens.{begins, after_blanks, are, are_directive}
use Rattle.reducer.specs.TokenTests.{at_tok}
use Rattle.scan_model.specs.Lines.{is_kind, begins_directive, is_directive, lines_from}

-- what makes a directive of an `import` before it: a header, a name or a partition
abbrev pub makes_import : Tok → Bool
makes_import t = is_kind t.kind Header || is_kind t.kind Ident || is_kind t.kind Str || is_one_of ("<" ∷ ":" ∷ []) t.text

-- what makes a directive of a `module` before it: a name, a partition or the end of the statement
abbrev pub makes_module : Tok → Bool
makes_module t = is_kind t.kind Ident || is_one_of (":" ∷ ";" ∷ []) t.text

-- `#` or `%:` is the first token
abbrev pub begins_with_sharp : List Tok → Bool
begins_with_sharp ts = at_tok (λ t. spells "#" t.text) ts 0 || at_tok (λ t. spells "%:" t.text) ts 0

-- these tokens, and no further ones, are followed by a header name
abbrev pub are_before_header : List Tok → Bool
are_before_header ts = are_directive ("include" ∷ []) ts || are_directive ("include_next" ∷ []) ts || are ("import" ∷ []) ts || are ("export" ∷ "import" ∷ []) ts

-- the tokens are those of a condition
abbrev pub begins_condition : List Tok → Bool
begins_condition ts = let opening = take 2 ts in are_directive ("if" ∷ []) opening || are_directive ("elif" ∷ []) opening

-- `__has_include (` or `__has_include_next (` are the last two tokens
abbrev pub ends_in_test : List Tok → Bool
ends_in_test ts = are ("__has_include" ∷ "(" ∷ []) (drop (length ts - 2) ts) || are ("__has_include_next" ∷ "(" ∷ []) (drop (length ts - 2) ts)

-- these tokens are too few to tell: with further ones they may begin a directive
abbrev pub may_begin : List Tok → Bool
may_begin [] = true
may_begin (t ∷ []) = is_one_of ("import" ∷ "module" ∷ "export" ∷ []) t.text
may_begin (t ∷ u ∷ []) = spells "export" t.text && is_one_of ("import" ∷ "module" ∷ []) u.text
may_begin (t ∷ u ∷ v ∷ ts) = false

-- a line with these first tokens is no directive, whatever follows
abbrev pub is_text : List Tok → Bool
is_text ts = not (begins_directive ts) && not (may_begin ts)

-- the lines of what is left that are directives, after the tokens `before` of the first one
abbrev pub kept_from : List ℕ → List Tok → List Spot → List Line
kept_from text before spots = filter is_directive (lines_from text before spots)

-- a token with which a directive may begin stands here, or a longer one that begins with it
abbrev pub may_begin_directive : List Spot → Bool
may_begin_directive s = list_any (λ word. begins (codes word) s) ("#" ∷ "%:" ∷ "import" ∷ "module" ∷ "export" ∷ [])

-- one of those tokens begins with the byte: `#`, `%`, `i`, `m` or `e`
abbrev pub may_lead : ℕ → Bool
may_lead c = c == 35 || c == 37 || c == 105 || c == 109 || c == 101

-- a token stands here that tells at a line's front that the line is no directive
abbrev pub begins_text : List Spot → Bool
begins_text [] = false
begins_text (spot ∷ spots) = not (spot.byte == 10) && not (may_begin_directive (spot ∷ spots))

-- the line of which `s` is left is no directive: the tokens before tell it, or at its front the token that stands here
abbrev pub IsDropped : List Tok → List Spot → Type 0
IsDropped before s = (is_text before ≡ true) ⊎ ((before ≡ []) × (begins_text s ≡ true) × (after_blanks s ≡ s))

-- The line of which `s` is left is passed, and `left` follows it: where it is no directive, nothing of it is kept.
abbrev pub IsPassed : List ℕ → List Spot → List Spot → Type 0
IsPassed text s left = (before : List Tok) → IsDropped before s → kept_from text before s ≡ kept_from text [] left
