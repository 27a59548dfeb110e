use Rattle.std.proofs.Common.{ap, sym, ◌∙◌, subst, Some, [], ◌∷◌}
use Rattle.std.specs.Option.{option_copied}
use Rattle.unit_laws.specs.Reduction.{reduced_content}
use Rattle.cache_machine.specs.Steps.{Look}
use Rattle.cache_machine.specs.Wants.{Look_wanted}
use Rattle.scan_core.specs.Seats.{seat_or_spent}
use Rattle.scan_core.specs.Inside.{state_of, HoldsAt}
use Rattle.scan_core.proofs.ListLemmas.{set_twice}
use Rattle.scan_core.proofs.WantingSeats.{looking_seat, found_seat, emptied}
use Rattle.scan_core.proofs.Changing.{steps_told, spent_told}
use Rattle.scan_core.proofs.LookLemmas.{looks_asking, not_claimed, answered, holds_answered, steps_answered, lacks_asked, claim_of, claimed, holds_claimed, steps_claimed}
use Rattle.scan_core.proofs.job_core.Core.look.Goals as goal

pub unreachable-requires : goal.unreachable-requires
unreachable-requires g c = looking_seat g.R.Reading.content (state_of c.self.inside) c.self.invariant c.args.self.now c.self.view_is c.args.worker c.index_mut.result.now c.index_mut.ensures.value c.requires (λ n u is. c.in_default.not-Looks n u (c.replace-seat.ensures.value ∙ is))

pub asked-requires : goal.asked-requires
asked-requires g c =
    let at = found_seat g.R.Reading.content (state_of c.self.inside) c.self.invariant c.args.self.now c.self.view_is c.args.worker c.index_mut.result.now c.index_mut.ensures.value Look_wanted c.requires (λ e. cc) c.replace-seat.result _ c.replace-seat.ensures.value c.in-Looks.is in
    looks_asking g.R.Reading.content (state_of c.self.inside) c.self.invariant c.args.worker c.in-Looks.number c.in-Looks.unit at

pub go_on-next-requires : goal.go_on-next-requires
go_on-next-requires g c =
    let at = found_seat g.R.Reading.content (state_of c.self.inside) c.self.invariant c.args.self.now c.self.view_is c.args.worker c.index_mut.result.now c.index_mut.ensures.value Look_wanted c.requires (λ e. cc) c.replace-seat.result _ c.replace-seat.ensures.value c.in-Looks.is in
    looks_asking g.R.Reading.content (state_of c.self.inside) c.self.invariant c.args.worker c.in-Looks.number c.in-Looks.unit at

pub take_seat-requires : goal.take_seat-requires
take_seat-requires g c =
    let at = found_seat g.R.Reading.content (state_of c.self.inside) c.self.invariant c.args.self.now c.self.view_is c.args.worker c.index_mut.result.now c.index_mut.ensures.value Look_wanted c.requires (λ e. cc) c.replace-seat.result _ c.replace-seat.ensures.value c.in-Looks.is in
    emptied (state_of c.self.inside).seats c.args.worker _ c.replace-seat.new.dest at c.replace-seat.ensures.after

pub invariant_of-self : goal.invariant_of-self
invariant_of-self g c =
    let at = found_seat g.R.Reading.content (state_of c.self.inside) c.self.invariant c.args.self.now c.self.view_is c.args.worker c.index_mut.result.now c.index_mut.ensures.value Look_wanted c.requires (λ e. cc) c.replace-seat.result _ c.replace-seat.ensures.value c.in-Looks.is in
    let one = c.asked.ensures ∙ ap (λ z. z ∷ []) (sym c.as_slice.ensures.value) in
    let found = sym (ap option_copied c.in-Some-Done.is ∙ ap (λ z. Some z) c.in-Some-Done.field-0-is) ∙ c.get.ensures.value in
    let told = c.go_on-next.ensures (reduced_content (g.R.Reading.content _)) c.answer-answer.ensures in
    let t = answered g.R.Reading.content (state_of c.self.inside) c.self.invariant c.args.worker c.in-Looks.number c.in-Looks.unit at c.as_slice.result.now one _ found c.go_on-next.result told in
    subst (λ z. HoldsAt g.R.Reading.content z) (sym (ap (λ z. record t { seats = z }) (c.take_seat.ensures.seats ∙ set_twice (state_of c.self.inside).seats c.args.worker c.replace-seat.new.dest (seat_or_spent c.in-Looks.number c.go_on-next.result)))) (holds_answered g.R.Reading.content (state_of c.self.inside) c.self.invariant c.args.worker c.in-Looks.number c.in-Looks.unit at c.as_slice.result.now one _ found c.go_on-next.result told)

pub returns-in-Some-Done-clause-steps : goal.returns-in-Some-Done-clause-steps
returns-in-Some-Done-clause-steps g c =
    let at = found_seat g.R.Reading.content (state_of c.self.inside) c.self.invariant c.args.self.now c.self.view_is c.args.worker c.index_mut.result.now c.index_mut.ensures.value Look_wanted c.requires (λ e. cc) c.replace-seat.result _ c.replace-seat.ensures.value c.in-Looks.is in
    let one = c.asked.ensures ∙ ap (λ z. z ∷ []) (sym c.as_slice.ensures.value) in
    let found = sym (ap option_copied c.in-Some-Done.is ∙ ap (λ z. Some z) c.in-Some-Done.field-0-is) ∙ c.get.ensures.value in
    let told = c.go_on-next.ensures (reduced_content (g.R.Reading.content _)) c.answer-answer.ensures in
    let t = answered g.R.Reading.content (state_of c.self.inside) c.self.invariant c.args.worker c.in-Looks.number c.in-Looks.unit at c.as_slice.result.now one _ found c.go_on-next.result told in
    steps_told g.R.Reading.content (state_of c.self.inside) t _ c.args.self.now c.take_seat.result c.go_on-next.result (Look c.args.worker) c.self.view_is c.take_seat.ensures.same (ap (λ z. record t { seats = z }) (c.take_seat.ensures.seats ∙ set_twice (state_of c.self.inside).seats c.args.worker c.replace-seat.new.dest (seat_or_spent c.in-Looks.number c.go_on-next.result))) (steps_answered g.R.Reading.content (state_of c.self.inside) c.self.invariant c.args.worker c.in-Looks.number c.in-Looks.unit at c.as_slice.result.now one _ found c.go_on-next.result told)

pub returns-in-Some-Done-clause-spent : goal.returns-in-Some-Done-clause-spent
returns-in-Some-Done-clause-spent g c =
    let at = found_seat g.R.Reading.content (state_of c.self.inside) c.self.invariant c.args.self.now c.self.view_is c.args.worker c.index_mut.result.now c.index_mut.ensures.value Look_wanted c.requires (λ e. cc) c.replace-seat.result _ c.replace-seat.ensures.value c.in-Looks.is in
    spent_told g.R.Reading.content (state_of c.self.inside).seats c.take_seat.new.seats.items c.args.worker c.in-Looks.number _ c.take_seat.result c.go_on-next.result at c.take_seat.ensures.same (c.take_seat.ensures.seats ∙ set_twice (state_of c.self.inside).seats c.args.worker c.replace-seat.new.dest (seat_or_spent c.in-Looks.number c.go_on-next.result))

pub unreachable-requires-in-Some-Claimed : goal.unreachable-requires-in-Some-Claimed
unreachable-requires-in-Some-Claimed g c =
    let at = found_seat g.R.Reading.content (state_of c.self.inside) c.self.invariant c.args.self.now c.self.view_is c.args.worker c.index_mut.result.now c.index_mut.ensures.value Look_wanted c.requires (λ e. cc) c.replace-seat.result _ c.replace-seat.ensures.value c.in-Looks.is in
    let one = c.asked.ensures ∙ ap (λ z. z ∷ []) (sym c.as_slice.ensures.value) in
    not_claimed g.R.Reading.content (state_of c.self.inside) c.self.invariant c.args.worker c.in-Looks.number c.in-Looks.unit at c.as_slice.result.now one c.args.self.now _ c.self.view_is c.requires (sym (ap option_copied c.in-Some-Claimed.is ∙ ap (λ z. Some z) c.in-Some-Claimed.field-0-is) ∙ c.get.ensures.value)

pub claimed-next-requires : goal.claimed-next-requires
claimed-next-requires g c =
    let at = found_seat g.R.Reading.content (state_of c.self.inside) c.self.invariant c.args.self.now c.self.view_is c.args.worker c.index_mut.result.now c.index_mut.ensures.value Look_wanted c.requires (λ e. cc) c.replace-seat.result _ c.replace-seat.ensures.value c.in-Looks.is in
    let one = c.asked.ensures ∙ ap (λ z. z ∷ []) (sym c.as_slice.ensures.value) in
    let lacks = sym c.get.ensures.value ∙ ap option_copied c.in-None.is in
    record {
      asks = looks_asking g.R.Reading.content (state_of c.self.inside) c.self.invariant c.args.worker c.in-Looks.number c.in-Looks.unit at;
      lacks = lacks_asked g.R.Reading.content (state_of c.self.inside) c.self.invariant c.args.worker c.in-Looks.number c.in-Looks.unit at c.as_slice.result.now one lacks;
    }

pub take_seat-requires-in-None : goal.take_seat-requires-in-None
take_seat-requires-in-None g c =
    let at = found_seat g.R.Reading.content (state_of c.self.inside) c.self.invariant c.args.self.now c.self.view_is c.args.worker c.index_mut.result.now c.index_mut.ensures.value Look_wanted c.requires (λ e. cc) c.replace-seat.result _ c.replace-seat.ensures.value c.in-Looks.is in
    emptied (state_of c.self.inside).seats c.args.worker _ c.replace-seat.new.dest at c.replace-seat.ensures.after

pub invariant_of-self-in-None : goal.invariant_of-self-in-None
invariant_of-self-in-None g c =
    let at = found_seat g.R.Reading.content (state_of c.self.inside) c.self.invariant c.args.self.now c.self.view_is c.args.worker c.index_mut.result.now c.index_mut.ensures.value Look_wanted c.requires (λ e. cc) c.replace-seat.result _ c.replace-seat.ensures.value c.in-Looks.is in
    let one = c.asked.ensures ∙ ap (λ z. z ∷ []) (sym c.as_slice.ensures.value) in
    let lacks = sym c.get.ensures.value ∙ ap option_copied c.in-None.is in
    let ok = claim_of g.R.Reading.content (state_of c.self.inside) c.self.invariant c.args.worker c.in-Looks.number c.in-Looks.unit at c.as_slice.result.now one c.claimed-next.new.rows.entries c.claimed-next.result c.claimed-next.ensures.ok in
    let t = claimed g.R.Reading.content (state_of c.self.inside) c.self.invariant c.args.worker c.in-Looks.number c.in-Looks.unit at c.as_slice.result.now one lacks c.claimed-next.new.rows.entries c.claimed-next.result ok c.claimed-next.ensures.err in
    subst (λ z. HoldsAt g.R.Reading.content z) (sym (ap (λ z. record t { seats = z }) (c.take_seat-in-None.ensures.seats ∙ set_twice (state_of c.self.inside).seats c.args.worker c.replace-seat.new.dest (seat_or_spent c.in-Looks.number c.claimed-next.result)))) (holds_claimed g.R.Reading.content (state_of c.self.inside) c.self.invariant c.args.worker c.in-Looks.number c.in-Looks.unit at c.as_slice.result.now one lacks c.claimed-next.new.rows.entries c.claimed-next.result ok c.claimed-next.ensures.err)

pub returns-in-None-clause-steps : goal.returns-in-None-clause-steps
returns-in-None-clause-steps g c =
    let at = found_seat g.R.Reading.content (state_of c.self.inside) c.self.invariant c.args.self.now c.self.view_is c.args.worker c.index_mut.result.now c.index_mut.ensures.value Look_wanted c.requires (λ e. cc) c.replace-seat.result _ c.replace-seat.ensures.value c.in-Looks.is in
    let one = c.asked.ensures ∙ ap (λ z. z ∷ []) (sym c.as_slice.ensures.value) in
    let lacks = sym c.get.ensures.value ∙ ap option_copied c.in-None.is in
    let ok = claim_of g.R.Reading.content (state_of c.self.inside) c.self.invariant c.args.worker c.in-Looks.number c.in-Looks.unit at c.as_slice.result.now one c.claimed-next.new.rows.entries c.claimed-next.result c.claimed-next.ensures.ok in
    let t = claimed g.R.Reading.content (state_of c.self.inside) c.self.invariant c.args.worker c.in-Looks.number c.in-Looks.unit at c.as_slice.result.now one lacks c.claimed-next.new.rows.entries c.claimed-next.result ok c.claimed-next.ensures.err in
    steps_told g.R.Reading.content (state_of c.self.inside) t _ c.args.self.now c.take_seat-in-None.result c.claimed-next.result (Look c.args.worker) c.self.view_is c.take_seat-in-None.ensures.same (ap (λ z. record t { seats = z }) (c.take_seat-in-None.ensures.seats ∙ set_twice (state_of c.self.inside).seats c.args.worker c.replace-seat.new.dest (seat_or_spent c.in-Looks.number c.claimed-next.result))) (steps_claimed g.R.Reading.content (state_of c.self.inside) c.self.invariant c.args.worker c.in-Looks.number c.in-Looks.unit at c.as_slice.result.now one lacks c.claimed-next.new.rows.entries c.claimed-next.result ok c.claimed-next.ensures.err)

pub returns-in-None-clause-spent : goal.returns-in-None-clause-spent
returns-in-None-clause-spent g c =
    let at = found_seat g.R.Reading.content (state_of c.self.inside) c.self.invariant c.args.self.now c.self.view_is c.args.worker c.index_mut.result.now c.index_mut.ensures.value Look_wanted c.requires (λ e. cc) c.replace-seat.result _ c.replace-seat.ensures.value c.in-Looks.is in
    spent_told g.R.Reading.content (state_of c.self.inside).seats c.take_seat-in-None.new.seats.items c.args.worker c.in-Looks.number _ c.take_seat-in-None.result c.claimed-next.result at c.take_seat-in-None.ensures.same (c.take_seat-in-None.ensures.seats ∙ set_twice (state_of c.self.inside).seats c.args.worker c.replace-seat.new.dest (seat_or_spent c.in-Looks.number c.claimed-next.result))
