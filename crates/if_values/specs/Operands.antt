-- What is known of a part of a condition, in place of its tree.
use Rattle.std.specs.Prelude.{◌||◌, if◌then◌else◌}
use Rattle.std.specs.declared.result.Result.{Result}
use Rattle.std.specs.declared.result.Result.TheVariants.{Ok}
use Rattle.scan_model.specs.declared.condition.CondValue.{CondValue}
use Rattle.scan_model.specs.declared.condition.CondFault.{CondFault}
use Rattle.scan_model.specs.ConditionTree.{Tree, Binary, Unary}
use Rattle.scan_model.specs.ConditionValue.{is_nonzero, at_type, prefix_value, infix_unsigned, prefix_unsigned, is_unsigned, then_value, infix_of, evaluate}
use Rattle.if_values.specs.declared.operand.Operand.{Operand}

abbrev pub operand_of : Tree → Operand
operand_of tree = record { value = evaluate tree; unsigned = is_unsigned tree }

abbrev pub literal_operand : CondValue → Operand
literal_operand v = record { value = Ok v; unsigned = v.unsigned }

abbrev pub prefix_operand : Unary → Operand → Operand
prefix_operand op o = record { value = then_value (λ v. Ok (prefix_value op v)) o.value; unsigned = prefix_unsigned op o.unsigned }

abbrev pub infix_operand : Binary → Operand → Operand → Operand
infix_operand op o p = record { value = then_value (infix_of op p.value) o.value; unsigned = infix_unsigned op o.unsigned p.unsigned }

-- the one of two values that the condition's asks for
abbrev pub selected : Result CondValue CondFault → Result CondValue CondFault → CondValue → Result CondValue CondFault
selected a b v = if is_nonzero v then a else b

abbrev pub choice_operand : Operand → Operand → Operand → Operand
choice_operand c o p = record {
  value = then_value (λ v. then_value (λ w. Ok (at_type (o.unsigned || p.unsigned) w)) (selected o.value p.value v)) c.value;
  unsigned = o.unsigned || p.unsigned;
}
