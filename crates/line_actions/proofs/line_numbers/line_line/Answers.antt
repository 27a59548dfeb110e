use Rattle.std.proofs.Common.{sym, ◌∙◌, ap, List, subst}
use Rattle.scan_model.specs.declared.token.Tok.{Tok}
use Rattle.scan_model.specs.declared.expansion.Mode.TheVariants as ModeIs
use Rattle.scan_model.specs.Directives.{line_set}
use Rattle.scan_model.specs.Expansion.{expand}
use Rattle.macro_table.specs.Table.{macros_of}
use Rattle.plain_lines.specs.declared.state.FileState.{FileState}
use Rattle.plain_lines.specs.States.{site_of}
use Rattle.plain_lines.specs.Lines.{line_of, after_word}
use Rattle.plain_lines.specs.Actions.{Acts}
use Rattle.plain_lines.proofs.ActLemmas.{if_ok}
use Rattle.line_actions.specs.Replaced.{outcome}
use Rattle.line_actions.proofs.OutcomeLemmas.{replaced_acts}
use Rattle.line_actions.proofs.line_numbers.line_line.Goals as goal

pub returns-in-Ok-clause-ok : goal.returns-in-Ok-clause-ok
returns-in-Ok-clause-ok c = let at = c.args.at.now in let file = c.args.file.now in let unit = c.args.unit.now in
    let given = ap (λ (ts : List Tok). outcome (expand (macros_of unit.macros).defs (site_of at.path.now file.site) ModeIs.Line ts)) (c.deref.ensures.value ∙ c.in_ok-toks.ensures.toks) in
    let sited : FileState = record file { site = c.replaced.new.site } in
    if_ok _ _ c.renumber.result
    (λ action h. replaced_acts at ModeIs.Line (after_word at) (λ files setup c' out. line_set c' (line_of at) out)
    file unit c.replaced.new.site c.replaced.ensures.site c.in-Ok.toks c.renumber.new.file unit action ((sym c.in-Ok.is ∙ c.in_ok-toks-2.ensures.value) ∙ given)
    (subst (λ (ts : List Tok). Acts at (λ files setup c'. line_set c' (line_of at) ts) sited unit c.renumber.new.file unit action) c.as_slice.ensures (h unit)))
    c.renumber.ensures.ok
