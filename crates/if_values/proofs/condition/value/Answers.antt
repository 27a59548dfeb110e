use Rattle.std.proofs.Common.{sym, ◌∙◌, refl, true, false}
use Rattle.std.specs.Prelude.{None}
use Rattle.scan_model.specs.Condition.{is_too_deep}
use Rattle.if_values.proofs.ValueLemmas.{value-by}
use Rattle.if_values.proofs.condition.value.Goals as goal

pub returns-then-has_bad_literal : goal.returns-then-has_bad_literal
returns-then-has_bad_literal c = sym (value-by c.args.toks.now c.args.has.now true (is_too_deep 0 0 0 None c.args.toks.now) c.requires c.if-has_bad_literal.ensures refl)

pub returns-then-is_too_deep : goal.returns-then-is_too_deep
returns-then-is_too_deep c = sym (value-by c.args.toks.now c.args.has.now false true c.requires c.if-has_bad_literal.ensures c.if-is_too_deep.ensures)

pub returns : goal.returns
returns c = c.whole.ensures ∙ sym (value-by c.args.toks.now c.args.has.now false false c.requires c.if-has_bad_literal.ensures c.if-is_too_deep.ensures)
