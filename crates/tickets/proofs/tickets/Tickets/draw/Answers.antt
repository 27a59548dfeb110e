use Rattle.std.proofs.Common.{ap, arith}
use Rattle.tickets.proofs.TicketLemmas.{draws}
use Rattle.tickets.proofs.tickets.Tickets.draw.Goals as goal

pub fetch_add-requires : goal.fetch_add-requires
fetch_add-requires c = (
  c.requires.own,
  (let s = c.args.self.now.sized.0 in omega arith),
  draws _ _ _ c.args.seat.now.seat.me (ap (λ m. m.0.places) c.args.seat.now.at_rest) c.requires.few,
)
