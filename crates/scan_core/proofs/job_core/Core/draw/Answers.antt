use Rattle.std.proofs.Common.{ap, sym, subst, arith}
use Rattle.cache_machine.specs.Steps.{Draw}
use Rattle.scan_core.specs.Inside.{state_of, HoldsAt}
use Rattle.scan_core.proofs.WantingSeats.{idle_seat}
use Rattle.scan_core.proofs.Changing.{steps_told, spent_told}
use Rattle.scan_core.proofs.DrawLemmas.{next_fits, drew, holds_drawn, steps_drawn}
use Rattle.scan_core.proofs.job_core.Core.draw.Goals as goal

pub overflow_add-self : goal.overflow_add-self
overflow_add-self g c = omega (arith, next_fits g.R.Reading.content (state_of c.self.inside) c.self.invariant c.args.self.now c.self.view_is c.args.worker c.requires)

pub take_seat-requires : goal.take_seat-requires
take_seat-requires g c = idle_seat g.R.Reading.content (state_of c.self.inside) c.self.invariant c.args.self.now c.self.view_is c.args.worker c.requires

pub invariant_of-self : goal.invariant_of-self
invariant_of-self g c =
    let t = drew g.R.Reading.content (state_of c.self.inside) c.self.invariant c.args.self.now c.self.view_is c.args.worker c.requires c.first_seat-next.result c.first_seat-next.ensures.first c.first_seat-next.ensures.job in
    subst (λ z. HoldsAt g.R.Reading.content (record t { seats = z })) (sym c.take_seat.ensures.seats) (holds_drawn g.R.Reading.content (state_of c.self.inside) c.self.invariant c.args.self.now c.self.view_is c.args.worker c.requires c.first_seat-next.result c.first_seat-next.ensures.first c.first_seat-next.ensures.job)

pub returns-clause-steps : goal.returns-clause-steps
returns-clause-steps g c =
    let t = drew g.R.Reading.content (state_of c.self.inside) c.self.invariant c.args.self.now c.self.view_is c.args.worker c.requires c.first_seat-next.result c.first_seat-next.ensures.first c.first_seat-next.ensures.job in
    steps_told g.R.Reading.content (state_of c.self.inside) t _ c.args.self.now c.take_seat.result c.first_seat-next.result (Draw c.args.worker) c.self.view_is c.take_seat.ensures.same (ap (λ z. record t { seats = z }) c.take_seat.ensures.seats) (steps_drawn g.R.Reading.content (state_of c.self.inside) c.self.invariant c.args.self.now c.self.view_is c.args.worker c.requires c.first_seat-next.result c.first_seat-next.ensures.first c.first_seat-next.ensures.job)

pub returns-clause-spent : goal.returns-clause-spent
returns-clause-spent g c =
    spent_told g.R.Reading.content (state_of c.self.inside).seats c.take_seat.new.seats.items c.args.worker (state_of c.self.inside).next _ c.take_seat.result c.first_seat-next.result (idle_seat g.R.Reading.content (state_of c.self.inside) c.self.invariant c.args.self.now c.self.view_is c.args.worker c.requires) c.take_seat.ensures.same c.take_seat.ensures.seats
