use Rattle.std.proofs.Common.{◌≡◌}
use Rattle.unit_steps.specs.UnitView.{IsReady}
use Rattle.unit_steps.specs.Work.{rank}
use Rattle.shared_cache.specs.Callers.{number_of, seen_by, IsHandOf}
use Rattle.worker.specs.Seen.{IsMemoOf}
use Rattle.worker.proofs.Running.{IsRunning}
use Rattle.worker.proofs.units.run_unit.Given as goal

abbrev pub invariant-turns : goal.invariant-turns
invariant-turns g l = record {
  own : IsHandOf l.cache l.passes;
  number : number_of l.passes ≡ number_of l.fn.passes;
  memo : IsMemoOf (seen_by l.passes) l.memo;
  running : IsRunning l.fn.settings l.fn.command (number_of l.fn.passes) l.unit (seen_by l.fn.passes) (seen_by l.passes);
  ready : IsReady l.unit.phase;
}

abbrev pub decreases-turns : goal.decreases-turns
decreases-turns g l = rank l.unit.work
