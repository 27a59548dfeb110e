-- Unary operators in a row.
use Rattle.std.specs.Prelude.{Bool, is_some, List, [], ◌∷◌}
use Rattle.std.specs.Option.{option_map_or}
use Rattle.scan_model.specs.declared.token.Tok.{Tok}
use Rattle.scan_model.specs.ConditionTree.{operator_of, unary_operators}
use Rattle.if_values.specs.declared.operand.Operand.{Operand}
use Rattle.if_values.specs.Operands.{prefix_operand}

abbrev pub is_unary_operator : Tok → Bool
is_unary_operator t = is_some (operator_of unary_operators t)

-- the row's operators before an operand, the last one first
abbrev pub prefixed_by : List Tok → Operand → Operand
prefixed_by [] o = o
prefixed_by (t ∷ ts) o = option_map_or (λ op. prefix_operand op (prefixed_by ts o)) (operator_of unary_operators t) (prefixed_by ts o)
