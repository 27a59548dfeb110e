use Rattle.std.proofs.Common.{◌≡◌, length}
use Rattle.std.specs.List.{list_any}
use Rattle.scan_model.specs.Condition.{is_bad_literal}
use Rattle.if_values.specs.Known.{known}
use Rattle.if_values.proofs.faults.has_bad_literal.Given as goal

abbrev pub invariant-literals : goal.invariant-literals
invariant-literals l = list_any is_bad_literal l.left ≡ list_any is_bad_literal (known l.toks l.has)

abbrev pub decreases-literals : goal.decreases-literals
decreases-literals l = length l.left
