use Rattle.std.proofs.Common.{◌≡◌, ◌≤◌, ◌-◌, vec_len}
use Rattle.std.specs.Vec.{vec_capacity}
use Rattle.scheduler.specs.Schedule.{movers_below}
use Rattle.scheduler.proofs.movers.list_movers.Given as goal

abbrev pub invariant-workers : goal.invariant-workers
invariant-workers g l = record {
  listed : l.list.items ≡ movers_below l.fn.core.jobs l.fn.core.settings l.fn.core.machine l.worker;
  few : vec_len l.list ≤ l.worker;
  inside : l.worker ≤ l.workers;
  room : l.workers ≤ vec_capacity l.list;
}

abbrev pub decreases-workers : goal.decreases-workers
decreases-workers g l = l.workers - l.worker
