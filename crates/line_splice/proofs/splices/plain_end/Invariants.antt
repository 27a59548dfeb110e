use Rattle.std.proofs.Common.{◌≤◌, length}
use Rattle.line_splice.proofs.splices.plain_end.Given as goal

abbrev pub invariant-loop-end : goal.invariant-loop-end
invariant-loop-end l = l.end ≤ length l.written

abbrev pub decreases-loop-end : goal.decreases-loop-end
decreases-loop-end l = l.end
