use Rattle.std.proofs.Common.{ap, sym, ◌∙◌, subst}
use Rattle.unit_laws.specs.Reduction.{reduced_content}
use Rattle.cache_machine.specs.Steps.{Publish}
use Rattle.cache_machine.specs.Wants.{Publish_wanted}
use Rattle.scan_core.specs.Seats.{seat_or_spent}
use Rattle.scan_core.specs.Inside.{state_of, HoldsAt}
use Rattle.scan_core.proofs.ListLemmas.{set_twice}
use Rattle.scan_core.proofs.WantingSeats.{publishing_seat, found_seat, emptied}
use Rattle.scan_core.proofs.Changing.{steps_told, spent_told}
use Rattle.scan_core.proofs.PublishLemmas.{holds_asking, place_within, publishes, holds_published, steps_published}
use Rattle.scan_core.proofs.job_core.Core.publish.Goals as goal

pub unreachable-requires : goal.unreachable-requires
unreachable-requires g c = publishing_seat g.R.Reading.content (state_of c.self.inside) c.self.invariant c.args.self.now c.self.view_is c.args.worker c.index_mut.result.now c.index_mut.ensures.value c.requires (λ n u i r is. c.in_default.not-Holds n u i r (c.replace-seat.ensures.value ∙ is))

pub go_on-next-requires : goal.go_on-next-requires
go_on-next-requires g c =
    let at = found_seat g.R.Reading.content (state_of c.self.inside) c.self.invariant c.args.self.now c.self.view_is c.args.worker c.index_mut.result.now c.index_mut.ensures.value Publish_wanted c.requires (λ e. cc) c.replace-seat.result _ c.replace-seat.ensures.value c.in-Holds.is in
    holds_asking g.R.Reading.content (state_of c.self.inside) c.self.invariant c.args.worker c.in-Holds.number c.in-Holds.unit c.in-Holds.row c.in-Holds.reading at

pub set_done-requires : goal.set_done-requires
set_done-requires g c =
    let at = found_seat g.R.Reading.content (state_of c.self.inside) c.self.invariant c.args.self.now c.self.view_is c.args.worker c.index_mut.result.now c.index_mut.ensures.value Publish_wanted c.requires (λ e. cc) c.replace-seat.result _ c.replace-seat.ensures.value c.in-Holds.is in
    place_within g.R.Reading.content (state_of c.self.inside) c.self.invariant c.args.worker c.in-Holds.number c.in-Holds.unit c.in-Holds.row c.in-Holds.reading at

pub take_seat-requires : goal.take_seat-requires
take_seat-requires g c =
    let at = found_seat g.R.Reading.content (state_of c.self.inside) c.self.invariant c.args.self.now c.self.view_is c.args.worker c.index_mut.result.now c.index_mut.ensures.value Publish_wanted c.requires (λ e. cc) c.replace-seat.result _ c.replace-seat.ensures.value c.in-Holds.is in
    emptied (state_of c.self.inside).seats c.args.worker _ c.replace-seat.new.dest at c.replace-seat.ensures.after

pub invariant_of-self : goal.invariant_of-self
invariant_of-self g c =
    let at = found_seat g.R.Reading.content (state_of c.self.inside) c.self.invariant c.args.self.now c.self.view_is c.args.worker c.index_mut.result.now c.index_mut.ensures.value Publish_wanted c.requires (λ e. cc) c.replace-seat.result _ c.replace-seat.ensures.value c.in-Holds.is in
    let told = c.go_on-next.ensures (reduced_content (g.R.Reading.content c.in-Holds.reading)) c.answer.ensures in
    let t = publishes g.R.Reading.content (state_of c.self.inside) c.self.invariant c.args.worker c.in-Holds.number c.in-Holds.unit c.in-Holds.row c.in-Holds.reading at c.go_on-next.result told in
    subst (λ z. HoldsAt g.R.Reading.content z) (sym (ap (λ z. record t { entries = z; seats = c.take_seat.new.seats.items }) c.set_done.ensures ∙ ap (λ z. record t { seats = z }) (c.take_seat.ensures.seats ∙ set_twice (state_of c.self.inside).seats c.args.worker c.replace-seat.new.dest (seat_or_spent c.in-Holds.number c.go_on-next.result)))) (holds_published g.R.Reading.content (state_of c.self.inside) c.self.invariant c.args.worker c.in-Holds.number c.in-Holds.unit c.in-Holds.row c.in-Holds.reading at c.go_on-next.result told)

pub returns-clause-steps : goal.returns-clause-steps
returns-clause-steps g c =
    let at = found_seat g.R.Reading.content (state_of c.self.inside) c.self.invariant c.args.self.now c.self.view_is c.args.worker c.index_mut.result.now c.index_mut.ensures.value Publish_wanted c.requires (λ e. cc) c.replace-seat.result _ c.replace-seat.ensures.value c.in-Holds.is in
    let told = c.go_on-next.ensures (reduced_content (g.R.Reading.content c.in-Holds.reading)) c.answer.ensures in
    let t = publishes g.R.Reading.content (state_of c.self.inside) c.self.invariant c.args.worker c.in-Holds.number c.in-Holds.unit c.in-Holds.row c.in-Holds.reading at c.go_on-next.result told in
    steps_told g.R.Reading.content (state_of c.self.inside) t _ c.args.self.now c.take_seat.result c.go_on-next.result (Publish c.args.worker) c.self.view_is c.take_seat.ensures.same (ap (λ z. record t { entries = z; seats = c.take_seat.new.seats.items }) c.set_done.ensures ∙ ap (λ z. record t { seats = z }) (c.take_seat.ensures.seats ∙ set_twice (state_of c.self.inside).seats c.args.worker c.replace-seat.new.dest (seat_or_spent c.in-Holds.number c.go_on-next.result))) (steps_published g.R.Reading.content (state_of c.self.inside) c.self.invariant c.args.worker c.in-Holds.number c.in-Holds.unit c.in-Holds.row c.in-Holds.reading at c.go_on-next.result told)

pub returns-clause-spent : goal.returns-clause-spent
returns-clause-spent g c =
    let at = found_seat g.R.Reading.content (state_of c.self.inside) c.self.invariant c.args.self.now c.self.view_is c.args.worker c.index_mut.result.now c.index_mut.ensures.value Publish_wanted c.requires (λ e. cc) c.replace-seat.result _ c.replace-seat.ensures.value c.in-Holds.is in
    spent_told g.R.Reading.content (state_of c.self.inside).seats c.take_seat.new.seats.items c.args.worker c.in-Holds.number _ c.take_seat.result c.go_on-next.result at c.take_seat.ensures.same (c.take_seat.ensures.seats ∙ set_twice (state_of c.self.inside).seats c.args.worker c.replace-seat.new.dest (seat_or_spent c.in-Holds.number c.go_on-next.result))
