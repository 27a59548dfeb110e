use Rattle.std.proofs.Common.{◌≡◌, ◌≤◌, ◌-◌, vec_len}
use Rattle.std.specs.Vec.{vec_capacity}
use Rattle.scheduler.proofs.run.no_rows.Given as goal

abbrev pub invariant-places : goal.invariant-places
invariant-places g l = record {
  count : vec_len l.places ≡ l.number;
  inside : l.number ≤ l.workers;
  room : l.workers ≤ vec_capacity l.places;
}

abbrev pub decreases-places : goal.decreases-places
decreases-places g l = l.workers - l.number
