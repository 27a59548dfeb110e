use Rattle.std.proofs.Common.{◌≡◌, ◌≤◌, ◌-◌, true, take, length}
use Rattle.std.specs.List.{list_all}
use Rattle.calm_runs.specs.Runs.{is_calm}
use Rattle.calm_runs.proofs.calm.calm_len.Given as goal

abbrev pub invariant-lanes : goal.invariant-lanes
invariant-lanes l = record {
  within : l.len ≤ length l.written;
  all : list_all is_calm (take l.len l.written) ≡ true;
}

abbrev pub decreases-lanes : goal.decreases-lanes
decreases-lanes l = length l.written - l.len
