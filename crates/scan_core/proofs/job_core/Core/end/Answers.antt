use Rattle.std.proofs.Common.{ap, sym, ◌∙◌, subst, refl, Some, ◌<◌}
use Rattle.std.specs.Prelude.{slice_set, length}
use Rattle.cache_machine.specs.Steps.{End}
use Rattle.cache_machine.specs.Wants.{End_wanted}
use Rattle.scan_core.specs.Seats.{seat_number}
use Rattle.scan_core.specs.Inside.{state_of, HoldsAt}
use Rattle.scan_core.proofs.WantingSeats.{found_seat, ending_found}
use Rattle.scan_core.proofs.Changing.{went_told}
use Rattle.scan_core.proofs.EndLemmas.{end_place, ended, holds_ended, steps_ended}
use Rattle.scan_core.proofs.job_core.Core.end.Goals as goal

pub end_of-number-requires : goal.end_of-number-requires
end_of-number-requires g c = ending_found g.R.Reading.content (state_of c.self.inside) c.self.invariant c.args.self.now c.self.view_is c.args.worker c.index_mut.result.now c.index_mut.ensures.value c.requires c.replace-seat.result c.replace-seat.ensures.value

pub index_mut-requires-2 : goal.index_mut-requires-2
index_mut-requires-2 g c =
    let at = found_seat g.R.Reading.content (state_of c.self.inside) c.self.invariant c.args.self.now c.self.view_is c.args.worker c.index_mut.result.now c.index_mut.ensures.value End_wanted c.requires (λ e. cc) c.replace-seat.result _ c.replace-seat.ensures.value refl in
    let has = ending_found g.R.Reading.content (state_of c.self.inside) c.self.invariant c.args.self.now c.self.view_is c.args.worker c.index_mut.result.now c.index_mut.ensures.value c.requires c.replace-seat.result c.replace-seat.ensures.value in
    subst (λ k. c.end_of-number.result.0 < k) (sym c.self.inside.ends.ok.0) (subst (λ k. k < length (state_of c.self.inside).ends) (sym c.end_of-number.ensures.number) (end_place g.R.Reading.content (state_of c.self.inside) c.self.invariant c.args.worker c.replace-seat.result at has))

pub invariant_of-self : goal.invariant_of-self
invariant_of-self g c =
    let at = found_seat g.R.Reading.content (state_of c.self.inside) c.self.invariant c.args.self.now c.self.view_is c.args.worker c.index_mut.result.now c.index_mut.ensures.value End_wanted c.requires (λ e. cc) c.replace-seat.result _ c.replace-seat.ensures.value refl in
    let has = ending_found g.R.Reading.content (state_of c.self.inside) c.self.invariant c.args.self.now c.self.view_is c.args.worker c.index_mut.result.now c.index_mut.ensures.value c.requires c.replace-seat.result c.replace-seat.ensures.value in
    let t = ended g.R.Reading.content (state_of c.self.inside) c.self.invariant c.args.worker c.replace-seat.result at has in
    subst (λ z. HoldsAt g.R.Reading.content z) (sym (ap (λ z. record t { seats = slice_set (state_of c.self.inside).seats c.args.worker z; ends = slice_set (state_of c.self.inside).ends c.end_of-number.result.0 c.replace.new.dest }) c.replace-seat.ensures.after
    ∙ ap (λ z. record t { ends = slice_set (state_of c.self.inside).ends z c.replace.new.dest }) c.end_of-number.ensures.number
    ∙ ap (λ z. record t { ends = slice_set (state_of c.self.inside).ends (seat_number c.replace-seat.result) z }) (c.replace.ensures.after ∙ ap (λ z. Some z) c.end_of-number.ensures.end))) (holds_ended g.R.Reading.content (state_of c.self.inside) c.self.invariant c.args.worker c.replace-seat.result at has)

pub returns : goal.returns
returns g c =
    let at = found_seat g.R.Reading.content (state_of c.self.inside) c.self.invariant c.args.self.now c.self.view_is c.args.worker c.index_mut.result.now c.index_mut.ensures.value End_wanted c.requires (λ e. cc) c.replace-seat.result _ c.replace-seat.ensures.value refl in
    let has = ending_found g.R.Reading.content (state_of c.self.inside) c.self.invariant c.args.self.now c.self.view_is c.args.worker c.index_mut.result.now c.index_mut.ensures.value c.requires c.replace-seat.result c.replace-seat.ensures.value in
    let t = ended g.R.Reading.content (state_of c.self.inside) c.self.invariant c.args.worker c.replace-seat.result at has in
    went_told g.R.Reading.content (state_of c.self.inside) t _ c.args.self.now (End c.args.worker) c.self.view_is (ap (λ z. record t { seats = slice_set (state_of c.self.inside).seats c.args.worker z; ends = slice_set (state_of c.self.inside).ends c.end_of-number.result.0 c.replace.new.dest }) c.replace-seat.ensures.after
    ∙ ap (λ z. record t { ends = slice_set (state_of c.self.inside).ends z c.replace.new.dest }) c.end_of-number.ensures.number
    ∙ ap (λ z. record t { ends = slice_set (state_of c.self.inside).ends (seat_number c.replace-seat.result) z }) (c.replace.ensures.after ∙ ap (λ z. Some z) c.end_of-number.ensures.end)) (steps_ended g.R.Reading.content (state_of c.self.inside) c.self.invariant c.args.worker c.replace-seat.result at has)
