use Rattle.std.proofs.Common.{◌≡◌, drop}
use Rattle.scan_model.specs.MacroDefinition.{opts_fit}
use Rattle.macro_table.proofs.replacement.opts_fit.Given as goal

abbrev pub invariant-loop-i : goal.invariant-loop-i
invariant-loop-i l = opts_fit (drop l.i l.toks) ≡ opts_fit l.toks
