use Rattle.std.proofs.Common.{◌≡◌, ◌≤◌, ◌-◌, vec_len}
use Rattle.std.specs.Prelude.{replicate}
use Rattle.std.specs.Vec.{vec_capacity}
use Rattle.scan_core.specs.declared.seat.Seat.TheVariants as SeatIs
use Rattle.scan_core.proofs.seat.idle_seats.Given as goal

abbrev pub invariant-seats : goal.invariant-seats
invariant-seats g l = record {
  items : l.seats.items ≡ replicate l.number SeatIs.Idle;
  count : vec_len l.seats ≡ l.number;
  most : l.number ≤ l.fn.workers;
  room : l.fn.workers ≤ vec_capacity l.seats;
}

abbrev pub decreases-seats : goal.decreases-seats
decreases-seats g l = l.fn.workers - l.number
