use Rattle.std.proofs.Common.{◌≡◌, ◌+◌, drop}
use Rattle.std.specs.List.{prefix_len}
use Rattle.scan_model.specs.Literals.{is_digit}
use Rattle.if_values.proofs.digits.plain_digits_len.Given as goal

abbrev pub invariant-loop-i : goal.invariant-loop-i
invariant-loop-i l = l.i + prefix_len (is_digit l.base) (drop l.i l.text) ≡ prefix_len (is_digit l.base) l.text
