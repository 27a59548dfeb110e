use Rattle.std.proofs.Common.{◌≡◌}
use Rattle.shared_cache.specs.Callers.{number_of, seen_by, IsHandOf}
use Rattle.worker.specs.Claims.{GoesOn}
use Rattle.worker.proofs.asking.look_until_done.Given as goal

abbrev pub invariant-loop : goal.invariant-loop
invariant-loop g l = record {
  can_go_on : (goal.iterator-loop g).can_next l.iterator' × (goal.iterator-loop g).is_finite l.iterator';
  own : IsHandOf l.cache l.passes;
  number : number_of l.passes ≡ number_of l.fn.passes;
  goes : GoesOn (number_of l.fn.passes) (λ other. other ≡ l.path) (seen_by l.fn.passes) (seen_by l.passes);
}
