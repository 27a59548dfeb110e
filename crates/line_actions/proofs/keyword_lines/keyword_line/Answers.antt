use Rattle.std.proofs.Common.{sym, ◌∙◌, ◌+◌, ap, List, subst, drop, refl}
use Rattle.scan_model.specs.declared.token.Tok.{Tok}
use Rattle.scan_model.specs.declared.module_line.Keyword.{Keyword}
use Rattle.scan_model.specs.declared.expansion.Mode.TheVariants as ModeIs
use Rattle.scan_model.specs.KeywordLines.{sent}
use Rattle.scan_model.specs.Expansion.{expand}
use Rattle.reducer.specs.Views.{view}
use Rattle.macro_table.specs.Table.{macros_of}
use Rattle.scan_model.specs.Utf8Names.{HaveUtf8Names}
use Rattle.plain_lines.specs.declared.state.FileState.{FileState}
use Rattle.plain_lines.specs.declared.state.UnitState.{UnitState}
use Rattle.plain_lines.specs.States.{site_of}
use Rattle.plain_lines.specs.Lines.{toks_at, line_of}
use Rattle.plain_lines.proofs.ActLemmas.{if_ok}
use Rattle.line_actions.specs.Replaced.{outcome}
use Rattle.line_actions.specs.Sent.{IsSent}
use Rattle.line_actions.proofs.OutcomeLemmas.{replaced_acts}
use Rattle.line_actions.proofs.KeywordLemmas.{sent_names, sent_acts, keyword_acts}
use Rattle.line_actions.proofs.keyword_lines.keyword_line.Goals as goal

pub send-requires : goal.send-requires
send-requires c = let file = c.args.file.now in let unit = c.args.unit.now in
    subst HaveUtf8Names (sym c.as_slice.ensures)
    (sent_names (macros_of unit.macros) (site_of c.args.at.now.path.now file.site) c.deref.result.now c.in-Ok.toks unit.utf8 (subst HaveUtf8Names (sym c.deref.ensures.value) c.in_ok-toks.ensures.utf8) (sym c.in-Ok.is ∙ c.in_ok-toks-2.ensures.value))

pub returns-in-Ok-clause-ok : goal.returns-in-Ok-clause-ok
returns-in-Ok-clause-ok c = let at = c.args.at.now in let file = c.args.file.now in let unit = c.args.unit.now in
    let exported = c.args.exported in
    let t : Tok = view c.in-Some.keyword in
    let ts = drop (c.args.k + 1) (toks_at at) in
    let given = ap (λ (ts : List Tok). outcome (expand (macros_of unit.macros).defs (site_of at.path.now file.site) ModeIs.Line ts)) (c.deref.ensures.value ∙ c.in_ok-toks.ensures.toks) in
    let unit_sent : UnitState = record unit { builder = c.send.new.builder } in
    let sited : FileState = record file { site = c.replaced.new.site } in
    if_ok _ _ c.send.result
    (λ action h before. keyword_acts at exported before t (drop c.args.k (toks_at at)) ts c.in-Some.ensures file unit sited unit_sent action (sym c.if-is_object_like.ensures)
    (replaced_acts at ModeIs.Line ts (λ files setup c' out. sent c' (line_of at) exported before t out) file unit c.replaced.new.site c.replaced.ensures.site c.in-Ok.toks sited unit_sent action ((sym c.in-Ok.is ∙ c.in_ok-toks-2.ensures.value) ∙ given)
    (sent_acts at exported before t c.in-Ok.toks sited unit unit_sent action (λ entered looked. refl)
    (subst (λ (keyword : Keyword). IsSent exported keyword c.in-Ok.toks unit.builder c.send.new.builder action) c.keyword_of.ensures
    (subst (λ (ts : List Tok). IsSent exported c.keyword_of.result ts unit.builder c.send.new.builder action) c.as_slice.ensures h)))))
    c.send.ensures.ok
