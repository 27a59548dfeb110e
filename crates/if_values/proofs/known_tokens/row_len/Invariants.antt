use Rattle.std.proofs.Common.{◌≡◌, ◌+◌, drop}
use Rattle.std.specs.List.{prefix_len}
use Rattle.if_values.specs.UnaryRows.{is_unary_operator}
use Rattle.if_values.proofs.known_tokens.row_len.Given as goal

abbrev pub invariant-loop-i : goal.invariant-loop-i
invariant-loop-i l = l.i + prefix_len is_unary_operator (drop l.i l.toks) ≡ prefix_len is_unary_operator l.toks
