-- What a module or import line does ([cpp.module], [cpp.import]).
use Rattle.std.specs.Prelude.{Bool, true, false, if◌then◌else◌, List, [], ◌∷◌, ◌++◌, Option, Some}
use Rattle.scan_model.specs.declared.token.Kind.TheVariants.{ModuleKw, ImportKw, ExportKw}
use Rattle.scan_model.specs.declared.token.Kind.{Kind}
use Rattle.scan_model.specs.declared.token.Tok.{Tok}
use Rattle.scan_model.specs.declared.token.Line.{Line}
use Rattle.scan_model.specs.declared.macros.Def.{Def}
use Rattle.scan_model.specs.declared.module_line.Keyword.{Keyword}
use Rattle.scan_model.specs.Spelling.{spells}
use Rattle.scan_model.specs.State.{Core}
use Rattle.scan_model.specs.Effect.{Effect, Now, Sends, stop}
use Rattle.scan_model.specs.Replacing.{with_replaced}
use Rattle.scan_model.specs.declared.macros.Def.TheVariants as DefIs
use Rattle.scan_model.specs.declared.expansion.Mode.TheVariants as ModeIs
use Rattle.scan_model.specs.declared.unit_end.FaultKind.TheVariants as FaultIs
use Rattle.scan_model.specs.declared.module_line.Keyword.TheVariants as KeywordIs

abbrev pub is_object_like : Option Def → Bool
is_object_like (Some (DefIs.Object body)) = true
is_object_like def = false

-- the keyword's token in the stream
abbrev pub as_keyword : Kind → Tok → Tok
as_keyword kind t = record t { kind = kind }

abbrev pub keyword_of : Tok → Keyword
keyword_of t = if spells "import" t.text then KeywordIs.Import else KeywordIs.Module

abbrev pub keyword_kind : Keyword → Kind
keyword_kind KeywordIs.Module = ModuleKw
keyword_kind KeywordIs.Import = ImportKw

abbrev pub sent : {X : Type 0} → Core → Line → Bool → List Tok → Tok → List Tok → Effect X
sent c l exported before t toks = let keyword = keyword_of t in
    Sends (record {
      path = c.path;
      line = l.line;
      exported = exported;
      keyword = keyword;
      words = before ++ as_keyword (keyword_kind keyword) t ∷ [];
      toks = toks;
      looked = c.looked;
    }) c

abbrev pub keyword_line : {X : Type 0} → Core → Line → Bool → List Tok → List Tok → Effect X
keyword_line c l exported before [] = Now c
keyword_line c l exported before (t ∷ ts) =
    let replaced = with_replaced ModeIs.Line c l ts (sent c l exported before t) in
    if is_object_like (c.macros.defs t.text) then stop FaultIs.KeywordIsMacro c l else replaced

abbrev pub export_line : {X : Type 0} → Core → Line → Tok → List Tok → Effect X
export_line c l t ts = let further = keyword_line c l true (as_keyword ExportKw t ∷ []) ts in
    if is_object_like (c.macros.defs t.text) then stop FaultIs.KeywordIsMacro c l else further

abbrev pub module_line : {X : Type 0} → Core → Line → List Tok → Effect X
module_line c l [] = Now c
module_line c l (t ∷ ts) =
    let exported = export_line c l t ts in
    let plain = keyword_line c l false [] (t ∷ ts) in
    if spells "export" t.text then exported else plain
