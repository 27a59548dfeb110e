use Rattle.std.proofs.Common.{sym, ◌∙◌, ap, List}
use Rattle.scan_model.specs.declared.token.Tok.{Tok}
use Rattle.scan_model.specs.declared.expansion.Mode.TheVariants as ModeIs
use Rattle.scan_model.specs.HeaderName.{terms}
use Rattle.scan_model.specs.Conditionals.{on_terms, on_chosen, opening_of}
use Rattle.scan_model.specs.Expansion.{expand}
use Rattle.macro_table.specs.Table.{macros_of}
use Rattle.plain_lines.specs.States.{site_of}
use Rattle.plain_lines.specs.Lines.{line_of, after_word}
use Rattle.plain_lines.proofs.ActLemmas.{if_ok}
use Rattle.line_actions.specs.Replaced.{outcome}
use Rattle.line_actions.proofs.OutcomeLemmas.{replaced_acts, replaced_stops, same_after, on_err}
use Rattle.line_actions.proofs.conditions.if_line.Goals as goal

pub returns-in-Ok-clause-ok : goal.returns-in-Ok-clause-ok
returns-in-Ok-clause-ok c = let at = c.args.at.now in let file = c.args.file.now in let unit = c.args.unit.now in
    let given = ap (λ (ts : List Tok). outcome (expand (macros_of unit.macros).defs (site_of at.path.now file.site) ModeIs.Condition ts)) (c.deref.ensures.value ∙ c.in_ok-toks.ensures.toks) in
    if_ok _ _ c.tested.result
    (λ action h. replaced_acts at ModeIs.Condition (after_word at) (λ files setup c' out. on_terms files setup c' (line_of at) out (on_chosen (line_of at) (opening_of c.args.is_elif c'.stack)) (terms out))
    file unit c.replaced.new.site c.replaced.ensures.site c.in-Ok.toks c.tested.new.file unit action ((sym c.in-Ok.is ∙ c.in_ok-toks-2.ensures.value) ∙ given) (h unit))
    c.tested.ensures.ok

pub returns-in-Ok-clause-err : goal.returns-in-Ok-clause-err
returns-in-Ok-clause-err c = let at = c.args.at.now in let file = c.args.file.now in let unit = c.args.unit.now in
    on_err _ _ c.tested.result
    (λ h. same_after at ModeIs.Condition (after_word at) (λ files setup c' out. on_terms files setup c' (line_of at) out (on_chosen (line_of at) (opening_of c.args.is_elif c'.stack)) (terms out))
    file unit c.replaced.new.site c.replaced.ensures.site c.tested.new.file unit (h unit))
    c.tested.ensures.err

pub returns-clause-ok : goal.returns-clause-ok
returns-clause-ok c = let at = c.args.at.now in let file = c.args.file.now in let unit = c.args.unit.now in
    let given = ap (λ (ts : List Tok). outcome (expand (macros_of unit.macros).defs (site_of at.path.now file.site) ModeIs.Condition ts)) (c.deref.ensures.value ∙ c.in_ok-toks.ensures.toks) in
    replaced_stops at ModeIs.Condition (after_word at) (λ files setup c' out. on_terms files setup c' (line_of at) out (on_chosen (line_of at) (opening_of c.args.is_elif c'.stack)) (terms out))
    file unit c.replaced.new.site c.replaced.ensures.site c.in-Err.fault ((sym c.in-Err.is ∙ c.in_ok-toks-2.ensures.value) ∙ given)
