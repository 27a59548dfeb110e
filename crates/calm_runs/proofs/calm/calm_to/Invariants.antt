use Rattle.std.proofs.Common.{◌≡◌, true, take}
use Rattle.std.specs.List.{list_all}
use Rattle.calm_runs.specs.Runs.{is_calm}
use Rattle.calm_runs.proofs.calm.calm_to.Given as goal

abbrev pub invariant-loop-i : goal.invariant-loop-i
invariant-loop-i l = list_all is_calm (take l.i l.written) ≡ true
