use Rattle.std.proofs.Common.{◌≡◌, drop}
use Rattle.scan_model.specs.MacroDefinition.{hashes_fit}
use Rattle.macro_table.specs.Names.{has_name, is_operand_by}
use Rattle.macro_table.proofs.replacement.hashes_fit.Given as goal

abbrev pub invariant-loop-i : goal.invariant-loop-i
invariant-loop-i l = let is_operand = is_operand_by (has_name l.names.keys) l.is_variadic in hashes_fit is_operand (drop l.i l.toks) ≡ hashes_fit is_operand l.toks
