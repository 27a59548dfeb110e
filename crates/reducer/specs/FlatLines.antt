-- Lines and tokens as records, which say where their parts lie in the lists of all tokens and of all spellings.
use Rattle.std.specs.Prelude.{◌≡◌, ℕ, ◌+◌, ◌≤◌, List, All, map, take, drop, length}
use Rattle.scan_model.specs.declared.command.Dialect.{Dialect}
use Rattle.scan_model.specs.declared.command.Dialect.TheVariants.{Cxx23}
use Rattle.scan_model.specs.declared.directive.Directive.{Directive}
use Rattle.scan_model.specs.declared.token.Tok.{Tok}
use Rattle.scan_model.specs.declared.token.Line.{Line}
use Rattle.reducer.specs.declared.flat.TokRecord.{TokRecord}
use Rattle.reducer.specs.declared.flat.LineRecord.{LineRecord}
use Rattle.scan_model.specs.Skips.{directive_in}
use Rattle.reducer.specs.DirectiveWords.{in_dialect}
use Rattle.reducer.specs.ReducedLines.{AreReduced}

-- the token of a record, its spelling cut out of all spellings
abbrev pub tok_of : List ℕ → ℕ → TokRecord → Tok
tok_of spelled line r = record { kind = r.kind; text = take r.len (drop r.start spelled); space = r.space; line = line }

-- the line of a record, its tokens cut out of all tokens
abbrev pub line_of : List ℕ → List TokRecord → LineRecord → Line
line_of spelled toks l =
    record { toks = map (tok_of spelled l.line) (take l.count (drop l.start toks)); line = l.line; next = l.next }

-- the lines of the records
abbrev pub lines_of : List ℕ → List TokRecord → List LineRecord → List Line
lines_of spelled toks lines = map (line_of spelled toks) lines

-- the token's spelling lies in the list
abbrev pub IsCut : List ℕ → TokRecord → Type 0
IsCut spelled r = r.start + r.len ≤ length spelled

-- the line's tokens lie in the list
abbrev pub HasToks : List TokRecord → LineRecord → Type 0
HasToks toks l = l.start + l.count ≤ length toks

-- the record has its line's directive, as C++23 has it
abbrev pub HasDirective : List ℕ → List TokRecord → LineRecord → Type 0
HasDirective spelled toks l = l.directive ≡ directive_in Cxx23 (line_of spelled toks l).toks

-- the lines' directives, as the dialect has them
abbrev pub directives : Dialect → List LineRecord → List Directive
directives dialect lines = map (λ l. in_dialect dialect l.directive) lines

-- all records lie in the lists, and those of lines have their directives
pub record AreWithin (spelled : List ℕ) (toks : List TokRecord) (lines : List LineRecord) : Type 0 where
  pub cut : All (IsCut spelled) toks
  pub held : All (HasToks toks) lines
  pub named : All (HasDirective spelled toks) lines

-- and the lines are such as a reduced text keeps
pub record AreKept (spelled : List ℕ) (toks : List TokRecord) (lines : List LineRecord) : Type 0 where
  pub within : AreWithin spelled toks lines
  pub reduced : AreReduced (lines_of spelled toks lines)
