use Rattle.std.proofs.Common.{◌≡◌, ◌≤◌, length}
use Rattle.scan_model.specs.Expansion as expansion
use Rattle.expansion.specs.States.{IsCall, IsMachineBeside, called_on, weight}
use Rattle.expansion.proofs.machine.Machine.next_arg.Given as goal

abbrev pub invariant-further : goal.invariant-further
invariant-further l = record {
  valid : IsMachineBeside l.self l.call.further;
  known : IsCall l.self.sets l.call (length l.call.args.items);
  same : (e : expansion.Scope) → called_on e l.self l.call ≡ called_on e l.initial.self l.initial.call;
  less : weight l.self ≤ weight l.initial.self;
}

abbrev pub decreases-further : goal.decreases-further
decreases-further l = l.call.further
