use Rattle.std.proofs.Common.{◌∙◌, ap, arith}
use Rattle.std.specs.Prelude.{Option}
use Rattle.std.specs.Option.{option_map_or}
use Rattle.scan_model.specs.ConditionTree.{Unary}
use Rattle.if_values.specs.Operands.{prefix_operand}
use Rattle.if_values.proofs.ClimbLemmas.{row-step}
use Rattle.if_values.proofs.climb.with_row.Goals as goal

pub row-preserved-in-Some : goal.row-preserved-in-Some
row-preserved-in-Some c = record {
  within = omega arith;
  same = row-step c.args.row.now c.row.left c.index-row-left.result c.row.operand c.prefixed-operand.result _ (omega arith) c.row.invariant.within c.index-row-left.is c.row.invariant.same
      (c.prefixed-operand.ensures ∙ ap (λ (o : Option Unary). option_map_or (λ op. prefix_operand op c.row.operand) o c.row.operand) c.in-Some.ensures);
}

pub row-preserved : goal.row-preserved
row-preserved c = record {
  within = omega arith;
  same = row-step c.args.row.now c.row.left c.index-row-left.result c.row.operand c.row.operand _ (omega arith) c.row.invariant.within c.index-row-left.is c.row.invariant.same
      (ap (λ (o : Option Unary). option_map_or (λ op. prefix_operand op c.row.operand) o c.row.operand) c.in_default.ensures);
}
