use Rattle.std.proofs.Common.{◌≡◌, ◌-◌, ◌≤◌, [], length, All}
use Rattle.std.specs.Prelude.{vec_capacity}
use Rattle.tickets.specs.Tickets.{hand}
use Rattle.tickets.proofs.tickets.deal.Given as goal

abbrev pub invariant-loop-number : goal.invariant-loop-number
invariant-loop-number l =
    (l.seat.table_id ≡ l.fn.seat.table_id)
    × (l.seat.me ≡ (hand (l.fn.workers - l.number) [], []))
    × (length l.row.items ≡ l.number) × (l.fn.workers ≤ vec_capacity l.row)
    × All (λ s. (s.seat.table_id ≡ l.fn.seat.table_id) × (s.seat.me ≡ (hand 1 [], []))) l.row.items
