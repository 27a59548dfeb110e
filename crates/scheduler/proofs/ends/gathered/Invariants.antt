use Rattle.std.proofs.Common.{◌≡◌, ◌≤◌, ◌+◌, ◌++◌, Some, map, reverse, vec_len}
use Rattle.std.specs.Vec.{vec_capacity}
use Rattle.scheduler.proofs.ends.gathered.Given as goal

abbrev pub invariant-places : goal.invariant-places
invariant-places l = record {
  made : map Some l.gathered.items ++ reverse l.left.items ≡ l.fn.ends.items;
  count : vec_len l.gathered + vec_len l.left ≡ vec_len l.fn.ends;
  room : vec_len l.fn.ends ≤ vec_capacity l.gathered;
}

abbrev pub decreases-places : goal.decreases-places
decreases-places l = vec_len l.left
