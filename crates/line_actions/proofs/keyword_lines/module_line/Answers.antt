use Rattle.std.proofs.Common.{true, false, sym, List, [], ◌∷◌, drop}
use Rattle.scan_model.specs.declared.token.Kind.TheVariants.{ExportKw}
use Rattle.scan_model.specs.declared.token.Tok.{Tok}
use Rattle.scan_model.specs.KeywordLines.{as_keyword, keyword_line, module_line}
use Rattle.reducer.specs.Views.{view}
use Rattle.plain_lines.specs.States.{core_of}
use Rattle.plain_lines.specs.Lines.{toks_at, line_of}
use Rattle.plain_lines.proofs.ActLemmas.{if_ok, acts_as}
use Rattle.line_actions.proofs.KeywordLemmas.{module_plain, module_exported}
use Rattle.line_actions.proofs.keyword_lines.module_line.Goals as goal

pub returns-then-not-is_export-clause-ok : goal.returns-then-not-is_export-clause-ok
returns-then-not-is_export-clause-ok c = let at = c.args.at.now in let file = c.args.file.now in let unit = c.args.unit.now in
    let t : Tok = view c.in-Some.first in
    let before : List Tok = [] in
    if_ok _ _ c.keyword_line.result
    (λ action h. acts_as at (λ files setup c'. module_line c' (line_of at) (toks_at at)) (λ files setup c'. keyword_line c' (line_of at) false before (toks_at at)) file unit c.keyword_line.new.file c.keyword_line.new.unit action
    (λ files setup d entered looked. module_plain (core_of at.path.now entered looked file unit) (line_of at) t (toks_at at) (drop 1 (toks_at at)) c.in-Some.ensures (sym c.if-not-is_export.ensures))
    (h before))
    c.keyword_line.ensures.ok

pub returns-clause-ok : goal.returns-clause-ok
returns-clause-ok c = let at = c.args.at.now in let file = c.args.file.now in let unit = c.args.unit.now in
    let t : Tok = view c.in-Some.first in
    let before : List Tok = as_keyword ExportKw t ∷ [] in
    if_ok _ _ c.keyword_line-2.result
    (λ action h. acts_as at (λ files setup c'. module_line c' (line_of at) (toks_at at)) (λ files setup c'. keyword_line c' (line_of at) true before (drop 1 (toks_at at))) file unit c.keyword_line-2.new.file c.keyword_line-2.new.unit action
    (λ files setup d entered looked. module_exported (core_of at.path.now entered looked file unit) (line_of at) t (toks_at at) (drop 1 (toks_at at)) c.in-Some.ensures (sym c.if-not-is_export.ensures) (sym c.if-is_object_like.ensures))
    (h before))
    c.keyword_line-2.ensures.ok
