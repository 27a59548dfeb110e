use Rattle.std.proofs.Common.{length}
use Rattle.expansion.specs.States.{scope_of}
use Rattle.expansion.specs.Straight.{Settled}
use Rattle.expansion.proofs.straight.straight.Given as goal

abbrev pub invariant-steps : goal.invariant-steps
invariant-steps l = Settled (scope_of l.scope) l.toks l.list.items l.left

abbrev pub decreases-steps : goal.decreases-steps
decreases-steps l = length l.left
