-- The stream read token by token.
use Rattle.std.specs.Prelude.{◌≡◌, ℕ, ◌||◌, ◌==◌, Bool, true, false, List, [], ◌∷◌, map, None}
use Rattle.std.specs.List.{list_any, AllByRecursion}
use Rattle.scan_model.specs.declared.command.Command.{Command}
use Rattle.scan_model.specs.Stream.{Piece, Run, Sent, ModuleStop, is_keyword, read_tokens, stream_tokens, read_stream}
use Rattle.scan_model.specs.declared.unit_end.Fault.{Fault}
use Rattle.scan_model.specs.declared.token.Kind.{Kind}
use Rattle.scan_model.specs.declared.token.Kind.TheVariants.{ExportKw, LineEnd}
use Rattle.scan_model.specs.declared.module_line.Keyword.{Keyword}
use Rattle.scan_model.specs.KeywordLines.{keyword_kind}
use Rattle.std.specs.declared.result.Result.{Result}
use Rattle.std.specs.declared.result.Result.TheVariants.{Ok, Err}
use Rattle.scan_model.specs.TokenTests.{kind_number}
use Rattle.scan_model.specs.ModuleLines.{Builder, new}
use Rattle.scan_model.specs.Lines.{lines}
use Rattle.scan_model.specs.Files.{FileMap}
use Rattle.scan_model.specs.State.{Setup, Reached, Going, Stopped}
use Rattle.scan_model.specs.WholeUnit.{full}

-- the kinds of the words before a module line's other tokens
abbrev pub word_kinds : Bool → Keyword → List Kind
word_kinds true keyword = ExportKw ∷ keyword_kind keyword ∷ []
word_kinds false keyword = keyword_kind keyword ∷ []

-- a kind that tokens have in the stream alone: a keyword, the `export` before one, or a line's end
abbrev pub is_stream_kind : Kind → Bool
is_stream_kind kind = is_keyword kind || kind_number kind == kind_number ExportKw || kind_number kind == kind_number LineEnd

-- a run has none of these kinds, and a module line has them in its words alone, which stand on its line
abbrev pub KeywordsInPlace : Piece → Type 0
KeywordsInPlace (Run path toks) = list_any (λ t. is_stream_kind t.kind) toks ≡ false
KeywordsInPlace (Sent l) =
    (list_any (λ t. is_stream_kind t.kind) l.toks ≡ false)
    × (map (λ t. t.kind) l.words ≡ word_kinds l.exported l.keyword) × (map (λ t. t.line) l.words ≡ map (λ t. l.line) l.words)

abbrev pub without_looked : Result Builder ModuleStop → Result Builder Fault
without_looked (Ok b) = Ok b
without_looked (Err stop) = Err stop.fault

-- read by its tokens such a stream gives the same
abbrev pub ReadByTokens : Type 0
ReadByTokens = (command : Command) (pieces : List Piece) → AllByRecursion KeywordsInPlace pieces →
    read_tokens None (stream_tokens pieces) (new command.output command.source) ≡ without_looked (read_stream command pieces)

-- ## Units

-- what a unit leaves, up to its end or its stop
abbrev pub stream_of : Reached → List Piece
stream_of (Going s) = s.stream
stream_of (Stopped stop) = stop.stream

-- it has keywords in its module and import lines alone
abbrev pub UnitsHaveKeywordsInPlace : Type 0
UnitsHaveKeywordsInPlace = (files : FileMap (List ℕ)) (setup : Setup) → AllByRecursion KeywordsInPlace (stream_of (full lines files setup))

-- so read token by token it gives what its module and import lines give
abbrev pub UnitsReadByTokens : Type 0
UnitsReadByTokens = (files : FileMap (List ℕ)) (setup : Setup) →
    let pieces = stream_of (full lines files setup) in
    read_tokens None (stream_tokens pieces) (new setup.command.output setup.command.source) ≡ without_looked (read_stream setup.command pieces)
