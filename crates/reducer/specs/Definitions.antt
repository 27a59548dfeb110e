-- What the `#define` lines of a reduced text define.
use Rattle.std.specs.Prelude.{◌≡◌, ℕ, List, Option, None, map, drop}
use Rattle.std.specs.Option.{option_map}
use Rattle.std.specs.declared.alloc.Global.{Global}
use Rattle.std.specs.declared.sync.Arc.{Arc}
use Rattle.scan_model.specs.declared.directive.Directive.{Directive}
use Rattle.scan_model.specs.declared.directive.Directive.TheVariants.{Define}
use Rattle.scan_model.specs.declared.macros.Def.{Def}
use Rattle.scan_model.specs.declared.token.Tok.{Tok}
use Rattle.scan_model.specs.MacroDefinition.{read_define}
use Rattle.reducer.specs.declared.flat.TokRecord.{TokRecord}
use Rattle.reducer.specs.declared.flat.LineRecord.{LineRecord}
use Rattle.reducer.specs.FlatLines.{line_of}

-- what the tokens of a line define: nothing where it is no `#define` line, or a bad one
abbrev pub definition_of : Directive → List Tok → Option Def
definition_of Define ts = option_map (λ d. d.1) (read_define (drop 2 ts))
definition_of other ts = None

-- a definition, whoever else has it
abbrev pub shared : Option (Arc Def Global) → Option Def
shared def = option_map (λ d. d.value) def

-- the entries are what the lines define, one each
abbrev pub AreDefinitions : List ℕ → List TokRecord → List LineRecord → List (Option (Arc Def Global)) → Type 0
AreDefinitions spelled toks lines defs = map shared defs ≡ map (λ l. definition_of l.directive (line_of spelled toks l).toks) lines
