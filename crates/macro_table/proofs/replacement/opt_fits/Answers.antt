use Rattle.std.proofs.Common.{◌∙◌, ap}
use Rattle.std.specs.Prelude.{not, ◌&&◌}
use Rattle.std.specs.List.{list_any}
use Rattle.scan_model.specs.MacroDefinition.{is_opt}
use Rattle.macro_table.proofs.Ends.{opt_fits-inside}
use Rattle.macro_table.proofs.replacement.opt_fits.Goals as goal

pub returns-then-has_operands : goal.returns-then-has_operands
returns-then-has_operands c =
    ap not c.has_opt.ensures ∙ ap (λ b. b && not (list_any is_opt c.in-Some.content.now)) c.if-has_operands.ensures
    ∙ opt_fits-inside c.args.toks.now c.in-Some.content.now c.in-Some.ensures

pub returns-else-has_operands : goal.returns-else-has_operands
returns-else-has_operands c =
    c.if-has_operands.false ∙ ap (λ b. b && not (list_any is_opt c.in-Some.content.now)) c.if-has_operands.ensures
    ∙ opt_fits-inside c.args.toks.now c.in-Some.content.now c.in-Some.ensures
