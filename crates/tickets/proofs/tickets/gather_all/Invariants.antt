use Rattle.std.proofs.Common.{◌≡◌, ◌+◌, ℕ, [], length, All}
use Rattle.tickets.specs.Tickets.{total, times}
use Rattle.tickets.proofs.tickets.gather_all.Given as goal

abbrev pub invariant-loop-next : goal.invariant-loop-next
invariant-loop-next l = record {
  table : l.seat.table_id ≡ l.fn.shared.table_id;
  bare : l.seat.me.1 ≡ [];
  places : l.seat.me.0.places + length l.seats.items ≡ length l.fn.seats.items;
  drawn : (x : ℕ) → total (λ s. times x s.seat.me.0.drawn) l.seats.items + times x l.seat.me.0.drawn ≡ total (λ s. times x s.seat.me.0.drawn) l.fn.seats.items;
  own : All (λ s. s.seat.table_id ≡ l.fn.shared.table_id) l.seats.items;
}

abbrev pub decreases-loop-next : goal.decreases-loop-next
decreases-loop-next l = length l.seats.items
