use Rattle.std.proofs.Common.{◌≡◌, ◌≤◌, ◌-◌, None, vec_len}
use Rattle.std.specs.Prelude.{replicate}
use Rattle.std.specs.Vec.{vec_capacity}
use Rattle.scan_core.proofs.job_core.no_ends.Given as goal

abbrev pub invariant-ends : goal.invariant-ends
invariant-ends l = record {
  items : l.ends.items ≡ replicate l.number None;
  count : vec_len l.ends ≡ l.number;
  most : l.number ≤ l.fn.jobs;
  room : l.fn.jobs ≤ vec_capacity l.ends;
}

abbrev pub decreases-ends : goal.decreases-ends
decreases-ends l = l.fn.jobs - l.number
