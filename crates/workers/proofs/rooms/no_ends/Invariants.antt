use Rattle.std.proofs.Common.{◌≡◌, ◌≤◌, None, All, length}
use Rattle.std.specs.Prelude.{vec_capacity}
use Rattle.workers.proofs.rooms.no_ends.Given as goal

abbrev pub invariant-jobs : goal.invariant-jobs
invariant-jobs l = record {
  count : length l.places.items ≡ l._number;
  most : l._number ≤ l.fn.jobs;
  room : l.fn.jobs ≤ vec_capacity l.places;
  none : All (λ place. place ≡ None) l.places.items;
}
