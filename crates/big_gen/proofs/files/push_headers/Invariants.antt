use Rattle.std.proofs.Common.{◌≡◌, ◌++◌, ◌-◌, map}
use Rattle.std.specs.List.{range_with_len}
use Rattle.big_gen.specs.MadeTexts.{made_header}
use Rattle.big_gen.proofs.files.push_headers.Given as goal

abbrev pub invariant-loop-header : goal.invariant-loop-header
invariant-loop-header l = l.files.items ≡ l.initial.files.items ++ map made_header (range_with_len 1 (l.header - 1))
