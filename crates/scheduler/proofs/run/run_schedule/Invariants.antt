use Rattle.std.proofs.Common.{◌≡◌, ◌<◌, ◌≤◌, ◌^◌, length}
use Rattle.std.specs.Vec.{vec_capacity}
use Rattle.scan_core.specs.Events.{IsReachedCore}
use Rattle.scheduler.proofs.Scheduled.{IsScheduled}
use Rattle.scheduler.proofs.run.run_schedule.Given as goal

abbrev pub invariant-steps : goal.invariant-steps
invariant-steps g l =
    let S = g.S.Source in
    record {
      reached : IsReachedCore l.core;
      jobs : l.core.jobs ≡ l.fn.jobs;
      settings : l.core.settings ≡ l.fn.settings;
      workers : length l.core.machine.workers ≡ l.fn.workers;
      places : length l.held.items ≡ l.fn.workers;
      room : l.fn.workers ≤ vec_capacity l.movers;
      number : l.number < 2 ^ 31;
      scheduled : IsScheduled S.given_path S.given_origin S.given_outcome S.given_bytes l.fn.jobs l.fn.settings l.fn.workers l.fn.number l.fn.store l.number (record { machine = l.core.machine; held = l.held.items; store = l.store });
    }

abbrev pub decreases-steps : goal.decreases-steps
decreases-steps g l = l.core.left
