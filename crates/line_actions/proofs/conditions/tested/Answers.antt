use Rattle.std.proofs.Common.{ap, sym, ◌∙◌, ℕ, List, Some}
use Rattle.std.specs.Option.{option_map}
use Rattle.scan_model.specs.declared.token.Tok.{Tok}
use Rattle.scan_model.specs.HeaderName.{terms}
use Rattle.if_values.specs.Known.{has_count}
use Rattle.plain_lines.proofs.ActLemmas.{if_ok}
use Rattle.line_actions.proofs.ValueLemmas.{concluded}
use Rattle.line_actions.proofs.conditions.tested.Goals as goal

pub returns-in-Some-eq0-clause-ok : goal.returns-in-Some-eq0-clause-ok
returns-in-Some-eq0-clause-ok c =
    let none = ap (λ (n : ℕ). Some n) (sym c.in-Some-eq0.field-0-test) ∙ c.in-Some-eq0.ensures ∙ ap (λ (ts : List Tok). option_map has_count (terms ts)) c.as_slice.ensures in
    if_ok _ _ c.conclude.result
    (λ action h unit. concluded c.args.at.now c.args.toks c.args.is_elif c.args.file.now unit c.as_slice-in-Some-eq0.result.now c.conclude.new.file unit action c.as_slice-in-Some-eq0.ensures none (h unit))
    c.conclude.ensures.ok
