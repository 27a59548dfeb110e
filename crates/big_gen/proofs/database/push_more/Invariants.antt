use Rattle.std.proofs.Common.{◌≡◌, ◌++◌, ◌-◌, map}
use Rattle.std.specs.List.{range_with_len, concat}
use Rattle.big_gen.specs.MadeTexts.{entry_line}
use Rattle.big_gen.proofs.database.push_more.Given as goal

abbrev pub invariant-loop-unit : goal.invariant-loop-unit
invariant-loop-unit l = l.text.items ≡ l.initial.text.items ++ concat (map entry_line (range_with_len 2 (l.unit - 2)))
