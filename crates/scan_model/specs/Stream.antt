-- The record that the module and import lines of a unit make ([module]).
use Rattle.std.specs.Prelude.{ℕ, Bool, true, false, if◌then◌else◌, List, [], ◌∷◌, ◌++◌, map, Option, Some}
use Rattle.std.specs.Option.{option_map_or}
use Rattle.std.specs.declared.result.Result.{Result}
use Rattle.std.specs.declared.result.Result.TheVariants.{Ok, Err}
use Rattle.scan_model.specs.declared.token.Kind.{Kind}
use Rattle.scan_model.specs.declared.token.Kind.TheVariants.{ModuleKw, ImportKw, ExportKw, LineEnd}
use Rattle.scan_model.specs.declared.token.Tok.{Tok}
use Rattle.scan_model.specs.declared.command.Command.{Command}
use Rattle.scan_model.specs.declared.module_line.Keyword.{Keyword}
use Rattle.scan_model.specs.declared.module_line.Keyword.TheVariants.{Module, Import}
use Rattle.scan_model.specs.declared.module_line.ModuleFault.{ModuleFault}
use Rattle.scan_model.specs.declared.module_line.ModuleFault.TheVariants.{BadModuleLine, SecondModule, PartitionOutsideModule, HeaderUnit}
use Rattle.scan_model.specs.declared.unit_end.Place.{Place}
use Rattle.scan_model.specs.declared.unit_end.FaultKind.{FaultKind}
use Rattle.scan_model.specs.declared.unit_end.FaultKind.TheVariants as FaultIs
use Rattle.scan_model.specs.declared.unit_end.Fault.{Fault}
use Rattle.scan_model.specs.TokenTests.{is_of}
use Rattle.scan_model.specs.ModuleLines.{Builder, take, new}

-- ## The stream: what phase 4 leaves of a unit's files

-- a module or import line: the words before its other tokens, those tokens replaced, and the paths that were looked
-- at before it
pub record ModuleLine : Type 0 where
  pub path : List ℕ
  pub line : ℕ
  pub exported : Bool
  pub keyword : Keyword
  pub words : List Tok
  pub toks : List Tok
  pub looked : List (List ℕ)

-- a piece of the stream: a run of text in a file, or one such line
pub data Piece : Type 0 where
  Run : List ℕ → List Tok → Piece
  Sent : ModuleLine → Piece

abbrev pub fault_kind : ModuleFault → FaultKind
fault_kind BadModuleLine = FaultIs.BadModuleLine
fault_kind SecondModule = FaultIs.SecondModule
fault_kind PartitionOutsideModule = FaultIs.PartitionOutsideModule
fault_kind HeaderUnit = FaultIs.HeaderUnit

-- the first module fault, and the paths that were looked at before its line
pub record ModuleStop : Type 0 where
  pub fault : Fault
  pub looked : List (List ℕ)

abbrev pub module_stop : ModuleLine → ModuleFault → ModuleStop
module_stop l fault = record { fault = record { kind = fault_kind fault; place = record { path = l.path; line = l.line } }; looked = l.looked }

abbrev pub module_lines : List Piece → List ModuleLine
module_lines [] = []
module_lines (Run path toks ∷ pieces) = module_lines pieces
module_lines (Sent l ∷ pieces) = l ∷ module_lines pieces

abbrev pub after_take : (Builder → Result Builder ModuleStop) → ModuleLine → Result Builder ModuleFault → Result Builder ModuleStop
after_take further l (Ok b) = further b
after_take further l (Err fault) = Err (module_stop l fault)

abbrev pub take_lines : List ModuleLine → Builder → Result Builder ModuleStop
take_lines [] b = Ok b
take_lines (l ∷ ls) b = after_take (take_lines ls) l (take b l.exported l.keyword l.toks)

-- the lines of the stream, read in order
unfoldable pub read_stream : Command → List Piece → Result Builder ModuleStop
read_stream command pieces = take_lines (module_lines pieces) (new command.output command.source)

-- ## The stream as tokens, each with its file's path

abbrev pub at_path : List ℕ → List Tok → List (List ℕ × Tok)
at_path path toks = map (λ t. (path, t)) toks

abbrev pub piece_tokens : Piece → List (List ℕ × Tok)
piece_tokens (Run path toks) = at_path path toks
piece_tokens (Sent l) = at_path l.path (l.words ++ l.toks ++ record { kind = LineEnd; text = []; space = false; line = l.line } ∷ [])

abbrev pub stream_tokens : List Piece → List (List ℕ × Tok)
stream_tokens [] = []
stream_tokens (p ∷ pieces) = piece_tokens p ++ stream_tokens pieces

-- ## The record read from these tokens: from a keyword, with `export` before it or none, to the line's end

abbrev pub is_keyword : Kind → Bool
is_keyword ModuleKw = true
is_keyword ImportKw = true
is_keyword kind = false

abbrev pub keyword_of_kind : Kind → Keyword
keyword_of_kind ImportKw = Import
keyword_of_kind kind = Module

abbrev pub to_line_end : List (List ℕ × Tok) → List Tok
to_line_end [] = []
to_line_end (p ∷ ps) = let further = p.1 ∷ to_line_end ps in if is_of LineEnd p.1 then [] else further

abbrev pub place_at : List ℕ × Tok → Place
place_at p = record { path = p.0; line = p.1.line }

abbrev pub after_tokens : (Builder → Result Builder Fault) → Place → Result Builder ModuleFault → Result Builder Fault
after_tokens further place (Ok b) = further b
after_tokens further place (Err fault) = Err (record { kind = fault_kind fault; place = place })

-- the token before is q, if it is in the stream
abbrev pub read_tokens : Option (List ℕ × Tok) → List (List ℕ × Tok) → Builder → Result Builder Fault
read_tokens q [] b = Ok b
read_tokens q (p ∷ ps) b =
    let exported = option_map_or (λ before. is_of ExportKw before.1) q false in
    let place = if exported then option_map_or place_at q (place_at p) else place_at p in
    let line = after_tokens (read_tokens (Some p) ps) place (take b exported (keyword_of_kind p.1.kind) (to_line_end ps)) in
    let further = read_tokens (Some p) ps b in
    if is_keyword p.1.kind then line else further
