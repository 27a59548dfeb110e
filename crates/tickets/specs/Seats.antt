-- What callers know of a seat.
use Rattle.std.specs.Prelude.{◌≡◌, ℕ, List}
use Rattle.tickets.specs.declared.tickets.Tickets.{Tickets}
use Rattle.tickets.specs.declared.tickets.TicketSeat.{TicketSeat}

-- the numbers that the seat drew, in order
abbrev pub drawn_by : TicketSeat → List ℕ
drawn_by s = s.seat.me.0.drawn

-- the seat is one of these tickets'
abbrev pub IsSeatOf : Tickets → TicketSeat → Type 0
IsSeatOf t s = s.seat.table_id ≡ t.table.shared.table_id
