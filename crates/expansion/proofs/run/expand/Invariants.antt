use Rattle.std.proofs.Common.{◌≡◌}
use Rattle.expansion.specs.States.{IsMachine, ran_of, scope_of, weight}
use Rattle.expansion.proofs.run.expand.Given as goal

abbrev pub invariant-turns : goal.invariant-turns
invariant-turns l = record {
  valid : IsMachine l.machine;
  same : ran_of (scope_of l.scope) l.machine ≡ ran_of (scope_of l.scope) l.initial.machine;
}

abbrev pub decreases-turns : goal.decreases-turns
decreases-turns l = weight l.machine
