use Rattle.std.proofs.Common.{◌≡◌, ◌≤◌, ◌+◌, ◌-◌, length}
use Rattle.tickets.specs.Seats.{drawn_by, IsSeatOf}
use Rattle.shared_cache.specs.Callers.{number_of, seen_by, IsHandOf}
use Rattle.worker.specs.Seen.{IsMemoOf, SeesFurther}
use Rattle.worker.specs.Shares.{ends_in, room_of}
use Rattle.worker.proofs.Working.{IsWorking}
use Rattle.worker.proofs.drawing.work.Given as goal

abbrev pub invariant-numbers : goal.invariant-numbers
invariant-numbers g l = record {
  own : IsHandOf l.cache l.hand.passes;
  number : number_of l.hand.passes ≡ number_of l.fn.hand.passes;
  seat : IsSeatOf l.tickets l.hand.seat;
  memo : IsMemoOf (seen_by l.hand.passes) l.memo;
  further : SeesFurther (seen_by l.fn.hand.passes) (seen_by l.hand.passes);
  room : length l.jobs ≤ room_of l.hand.share;
  working : IsWorking l.settings l.jobs (number_of l.fn.hand.passes) (drawn_by l.hand.seat) (seen_by l.hand.passes) (ends_in l.hand.share);
}

abbrev pub decreases-numbers : goal.decreases-numbers
decreases-numbers g l = length l.jobs + 1 - length (drawn_by l.hand.seat)
