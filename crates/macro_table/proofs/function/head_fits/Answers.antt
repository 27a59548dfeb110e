use Rattle.std.proofs.Common.{sym, ap, ◌∙◌}
use Rattle.std.specs.Prelude.{is_some}
use Rattle.scan_model.specs.MacroDefinition.{all_params}
use Rattle.macro_table.specs.Heads.{texts, text}
use Rattle.macro_table.specs.Names.{has_name, fits_by}
use Rattle.macro_table.proofs.Defines.{is_function-by_set, is_function-no_operands, is_some-text}
use Rattle.macro_table.proofs.function.head_fits.Goals as goal

pub returns-then-not-has_operands : goal.returns-then-not-has_operands
returns-then-not-has_operands c =
    rw (← c.head.view_is) (is_function-no_operands (texts c.head.inside.params.items) (text c.head.inside.variadic) c.head.inside.body.now c.if-not-has_operands.ensures)

pub returns-in-Some : goal.returns-in-Some
returns-in-Some c =
    let all = ap texts c.as_slice.ensures.value ∙ c.in_ok-names.ensures ∙ sym (ap (λ h. all_params h.params h.variadic) c.head.view_is) in
    let distinct = sym (ap is_some c.in-Some.is) ∙ c.in_ok-set.ensures.distinct in
    let same = rw c.in-Some.is at c.in_ok-set.ensures.names in
    let v = c.is_some.ensures ∙ is_some-text c.head.inside.variadic in
    rw (← c.head.view_is) (c.fits.ensures ∙ ap (λ b. fits_by (has_name c.in-Some.set.keys) b c.head.inside.body.now) v
    ∙ is_function-by_set c.in-Some.set.keys (texts c.as_slice.result.now) (texts c.head.inside.params.items) (text c.head.inside.variadic) c.head.inside.body.now all distinct same c.if-not-has_operands.ensures)
