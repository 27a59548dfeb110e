use Rattle.std.proofs.Common.{◌≡◌, ◌++◌, ◌-◌, map}
use Rattle.std.specs.List.{range_with_len}
use Rattle.big_gen.specs.MadeTexts.{made_unit}
use Rattle.big_gen.proofs.files.push_units.Given as goal

abbrev pub invariant-loop-unit : goal.invariant-loop-unit
invariant-loop-unit l = l.files.items ≡ l.initial.files.items ++ map made_unit (range_with_len 1 (l.unit - 1))
