use Rattle.std.proofs.Common.{◌≡◌, ◌≤◌}
use Rattle.unit_steps.specs.Work.{rank}
use Rattle.unit_scan.specs.Parts.{setup_of, work_of}
use Rattle.unit_scan.specs.Standing.{Holds, IsMoving, stage_order, steps_from}
use Rattle.unit_scan.proofs.running.run_on.Given as goal

abbrev pub invariant-steps : goal.invariant-steps
invariant-steps l = record {
  holds : Holds (setup_of l.scan) l.run l.stage;
  moves : IsMoving l.stage;
  same : l.run.log.items ≡ l.initial.run.log.items;
  less : rank (work_of (setup_of l.scan) l.run) ≤ rank (work_of (setup_of l.scan) l.initial.run);
}

abbrev pub decreases-steps : goal.decreases-steps
decreases-steps l = steps_from (setup_of l.scan) l.run (stage_order l.stage)
