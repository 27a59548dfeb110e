use Rattle.std.proofs.Common.{◌≡◌, false, take}
use Rattle.std.specs.List.{list_any}
use Rattle.module_lines.proofs.Statements.{ends}
use Rattle.module_lines.proofs.subject.statement.Given as goal

-- no token so far is a `;`
abbrev pub invariant-loop-i : goal.invariant-loop-i
invariant-loop-i l = list_any ends (take l.i l.toks) ≡ false
