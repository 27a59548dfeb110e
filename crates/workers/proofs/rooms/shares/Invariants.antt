use Rattle.std.proofs.Common.{◌≡◌, ◌≤◌, All, length}
use Rattle.std.specs.Prelude.{[], vec_capacity}
use Rattle.worker.specs.Shares.{ends_in, room_of}
use Rattle.workers.proofs.rooms.shares.Given as goal

abbrev pub invariant-workers : goal.invariant-workers
invariant-workers l = record {
  count : length l.shares.items ≡ l._number;
  most : l._number ≤ l.fn.workers;
  room : l.fn.workers ≤ vec_capacity l.shares;
  ready : All (λ share. (ends_in share ≡ []) × (l.fn.jobs ≤ room_of share)) l.shares.items;
}
