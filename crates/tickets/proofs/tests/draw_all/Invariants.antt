use Rattle.std.proofs.Common.{◌≡◌, length}
use Rattle.tickets.specs.Seats.{IsSeatOf, drawn_by}
use Rattle.tickets.proofs.tests.draw_all.Given as goal

abbrev pub invariant-loop-turn : goal.invariant-loop-turn
invariant-loop-turn l = record {
  own : IsSeatOf l.tickets l.seat;
  drawn : length (drawn_by l.seat) ≡ l._turn;
}
