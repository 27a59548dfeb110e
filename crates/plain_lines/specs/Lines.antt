-- The line that the code looks at, as the definitions see it.
use Rattle.std.specs.Prelude.{◌≡◌, ◌<◌, true, List, [], ◌∷◌, drop, length}
use Rattle.scan_model.specs.declared.token.Tok.{Tok}
use Rattle.scan_model.specs.declared.token.Line.{Line}
use Rattle.scan_model.specs.Spelling.{is_one_of}
use Rattle.scan_model.specs.TokenTests.{begins_with}
use Rattle.scan_model.specs.Skips.{directive_in, begins_group}
use Rattle.reducer.specs.ReducedLines.{toks_of}
use Rattle.plain_lines.specs.declared.kept_line.KeptLine.{KeptLine}

-- it is one of the kept lines
abbrev pub IsThere : KeptLine → Type 0
IsThere at = at.place < length at.lines.now

abbrev pub toks_at : KeptLine → List Tok
toks_at at = toks_of at.lines.now at.place

-- with the numbers that it counts as having
abbrev pub line_of : KeptLine → Line
line_of at = record { toks = toks_at at; line = at.head.line; next = at.head.next }

-- what follows the directive's word
abbrev pub after_word : KeptLine → List Tok
after_word at = drop 2 (toks_at at)

-- it begins a group of a conditional
abbrev pub BeginsGroup : KeptLine → Type 0
BeginsGroup at = begins_group (directive_in at.dialect (toks_at at)) ≡ true

-- `#` or `%:` is its first token
abbrev pub BeginsHash : KeptLine → Type 0
BeginsHash at = begins_with (λ t. is_one_of ("#" ∷ "%:" ∷ []) t.text) (toks_at at) ≡ true
