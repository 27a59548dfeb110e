use Rattle.std.proofs.Common.{◌≡◌, ◌≤◌, ◌+◌, ◌++◌, Some, map, reverse, vec_len}
use Rattle.std.specs.Vec.{vec_capacity}
use Rattle.workers.proofs.gathering.in_order.Given as goal

abbrev pub invariant-places : goal.invariant-places
invariant-places l = record {
  made : map Some l.ends.items ++ reverse l.left.items ≡ l.fn.places.items;
  count : vec_len l.ends + vec_len l.left ≡ vec_len l.fn.places;
  room : vec_len l.fn.places ≤ vec_capacity l.ends;
}

abbrev pub decreases-places : goal.decreases-places
decreases-places l = vec_len l.left
