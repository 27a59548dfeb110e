use Rattle.std.proofs.Common.{◌+◌, ◌*◌, length}
use Rattle.if_values.proofs.ClimbLemmas.{Climbs}
use Rattle.if_values.proofs.climb.+climb.Given as goal

-- Each call has fewer tokens left, or is nearer to the next one.
abbrev pub decreases-in_parens : goal.decreases-in_parens
decreases-in_parens l = 5 * length l.at.now + 4

abbrev pub decreases-conditional : goal.decreases-conditional
decreases-conditional l = 5 * length l.at.now + 3

abbrev pub decreases-binary : goal.decreases-binary
decreases-binary l = 5 * length l.at.now + 2

abbrev pub decreases-unary : goal.decreases-unary
decreases-unary l = 5 * length l.at.now + 1

abbrev pub decreases-primary : goal.decreases-primary
decreases-primary l = 5 * length l.at.now

abbrev pub invariant-binary-operands : goal.invariant-binary-operands
invariant-binary-operands l = Climbs l.level l.fn.at l.at l.left

abbrev pub decreases-binary-operands : goal.decreases-binary-operands
decreases-binary-operands l = length l.at
